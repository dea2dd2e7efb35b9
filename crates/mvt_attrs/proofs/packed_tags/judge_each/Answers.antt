use Rattle.std.proofs.Common.{◌≡◌, ◌+◌, ◌<◌, ◌&&◌, length, sym, subst, ◌∙◌, arith}
use Rattle.std.proofs.lemmas.Bool.{eqb-true}
use Rattle.std.proofs.lemmas.List.{nil_from_length}
use Rattle.mvt_attrs.specs.FirstUses.{lent}
use Rattle.mvt_attrs.specs.Inner.Marking.{AreBelow}
use Rattle.mvt_attrs.proofs.MarkingLemmas.{below_set}
use Rattle.mvt_attrs.proofs.PackedTagsLemmas.{PackedSoFar, packed_begins, packed_more, packed_ends}
use Rattle.mvt_attrs.proofs.packed_tags.judge_each.Goals as goal

pub loop-rest-init : goal.loop-rest-init
loop-rest-init g c = record {
  so_far = packed_begins g.V.TagVisitor.has_tags c.args.visitor.now c.args.bytes.now (lent c.args.texts.now) c.args.first_indices.now
      c.args.named_by.now c.args.feature c.args.values (g.met.V.TagVisitor.begins c.args.visitor.now) c.requires.fresh;
  room = c.requires.room;
  below = λ i. let lt = c.requires.fresh i in omega arith;
}

pub loop-rest-preserved : goal.loop-rest-preserved
loop-rest-preserved g c =
    let pair = c.in-Some.pair in
    let so_far = c.loop-rest.invariant.so_far in
    let room : length c.loop-rest.named_by ≡ length (lent c.args.texts.now) = c.loop-rest.invariant.room in
    let named : pair.key < length (lent c.args.texts.now) = omega (arith, c.count_of-count.ensures, c.if-pair-count.false) in
    let within = c.requires.grouped.within pair.key named in
    record {
      so_far =
          subst
          (λ ms. PackedSoFar g.V.TagVisitor.has_tags c.args.visitor.now c.visit_pair.new.self c.args.bytes.now pair.after.now
          (lent c.args.texts.now) c.args.first_indices.now ms c.args.feature c.args.values (c.loop-rest.is_short && pair.is_short))
          (sym c.mark.ensures.marked)
          (packed_more g.V.TagVisitor.has_tags c.args.visitor.now c.loop-rest.visitor c.visit_pair.new.self c.args.bytes.now
          c.loop-rest.rest.now (lent c.args.texts.now) c.args.first_indices.now c.loop-rest.named_by c.args.feature c.args.values
          c.loop-rest.is_short c.mark.result pair so_far c.in-Some.ensures named c.if-pair-values.false c.mark.ensures.new
          c.if-not-mark.false c.requires.grouped room
          (c.in_ok-visit_pair.ensures.told c.args.visitor.now so_far.tags so_far.told c.if-not-branch.false));
      room = omega (arith, room, c.mark.auto.named_by);
      below =
          subst (λ ms. AreBelow ms (c.args.feature + 1)) (sym c.mark.ensures.marked)
          (below_set c.loop-rest.named_by _ c.args.feature (omega (arith, within, room)) c.loop-rest.invariant.below);
    }

pub returns-clause-found : goal.returns-clause-found
returns-clause-found g c =
    packed_ends g.V.TagVisitor.has_tags c.args.visitor.now c.loop-rest.visitor c.args.bytes.now c.loop-rest.rest.now (lent c.args.texts.now)
    c.args.first_indices.now c.loop-rest.named_by c.args.feature c.args.values c.loop-rest.is_short c.loop-rest.invariant.so_far
    (nil_from_length c.loop-rest.rest.now (eqb-true _ _ (sym c.is_empty.ensures ∙ c.loop-rest-test.false)))
