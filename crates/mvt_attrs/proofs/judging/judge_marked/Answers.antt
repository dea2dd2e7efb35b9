use Rattle.std.proofs.Common.{◌≡◌, ◌+◌, ◌-◌, length, take, drop, refl, sym, subst, arith, length-drop}
use Rattle.std.proofs.lemmas.List.{take_rest}
use Rattle.std.proofs.lemmas.Result.{err_from_is_err_and}
use Rattle.mvt_attrs.specs.FirstUses.{lent}
use Rattle.mvt_attrs.specs.Inner.Marking.{AreBelow}
use Rattle.mvt_attrs.proofs.JudgingLemmas.{MarkedSoFar, so_far_none, indices_stop, repeat_stops, so_far_more, below_more, so_far_ends}
use Rattle.mvt_attrs.proofs.TagLemmas.{tag_fault-odd}
use Rattle.mvt_attrs.proofs.judging.judge_marked.Goals as goal

pub returns-then-tags-eq1-clause-err : goal.returns-then-tags-eq1-clause-err
returns-then-tags-eq1-clause-err c =
    rw c.fault.ensures (λ held e. tag_fault-odd (lent c.args.texts.now) held c.args.tags.now c.if-tags-eq1.true)

pub loop-rest-init : goal.loop-rest-init
loop-rest-init c = record {
  marked = so_far_none (lent c.args.texts.now) c.args.first_indices.now c.args.named_by.now c.args.feature c.args.values c.args.tags.now
      c.requires.fresh;
  below = λ i. let lt = c.requires.fresh i in omega arith;
  within = omega arith;
}

pub returns-in_err-judge_indices-clause-err : goal.returns-in_err-judge_indices-clause-err
returns-in_err-judge_indices-clause-err c =
    let p = err_from_is_err_and c.from_residual.result c.from_residual.ensures.1 in
    rw (p.1, p.2)
    (indices_stop (lent c.args.texts.now) c.args.first_indices.now c.loop-rest.named_by c.args.feature c.args.values c.args.tags.now
    c.loop-rest.rest.now c.loop-rest.invariant.marked c.if-tags-eq1.false c.in-len2-up.len_at_least _ refl
    c.in_err-judge_indices.field-0.0 c.in_err-judge_indices.ensures.err)

pub returns-then-not-mark-clause-err : goal.returns-then-not-mark-clause-err
returns-then-not-mark-clause-err c =
    rw c.fault-then-not-mark.ensures
    (repeat_stops (lent c.args.texts.now) c.args.first_indices.now c.loop-rest.named_by c.args.feature c.args.values c.args.tags.now
    c.loop-rest.rest.now c.loop-rest.invariant.marked c.if-tags-eq1.false c.in-len2-up.len_at_least c.in_ok-judge_indices.ensures.ok.0
    c.in_ok-judge_indices.ensures.ok.1 c.mark.result c.mark.ensures.new c.if-not-mark.true)

pub loop-rest-preserved : goal.loop-rest-preserved
loop-rest-preserved c =
    let texts = lent c.args.texts.now in
    let room : length c.loop-rest.named_by ≡ length texts = omega (arith, c.requires.room) in
    let within = c.loop-rest.invariant.within in
    let left : take (length c.loop-rest.rest.now - 2) (drop 2 c.loop-rest.rest.now) ≡ drop 2 c.loop-rest.rest.now =
    take_rest c.loop-rest.rest.now 2 in
    record {
      marked =
          subst
          (λ ms. MarkedSoFar texts c.args.first_indices.now ms c.args.feature c.args.values c.args.tags.now
          (take (length c.loop-rest.rest.now - 2) (drop 2 c.loop-rest.rest.now)))
          (sym c.mark.ensures.marked)
          (so_far_more texts c.args.first_indices.now c.loop-rest.named_by c.args.feature c.args.values c.args.tags.now c.loop-rest.rest.now
          c.loop-rest.invariant.marked c.if-tags-eq1.false c.in-len2-up.len_at_least c.in_ok-judge_indices.ensures.ok.0
          c.in_ok-judge_indices.ensures.ok.1 c.mark.result c.mark.ensures.new _ left c.requires.grouped room c.if-not-mark.false);
      below = subst (λ ms. AreBelow ms (c.args.feature + 1)) (sym c.mark.ensures.marked)
          (below_more texts c.args.first_indices.now c.loop-rest.named_by c.args.feature c.args.values c.args.tags.now c.loop-rest.rest.now
          c.loop-rest.invariant.marked c.if-tags-eq1.false c.in-len2-up.len_at_least c.in_ok-judge_indices.ensures.ok.0
          c.in_ok-judge_indices.ensures.ok.1 c.mark.result c.mark.ensures.new c.requires.grouped room c.loop-rest.invariant.below);
      within = rw left (omega (arith, length-drop 2 c.loop-rest.rest.now));
    }

pub returns-clause-ok : goal.returns-clause-ok
returns-clause-ok c =
    so_far_ends (lent c.args.texts.now) c.args.first_indices.now c.loop-rest.named_by c.args.feature c.args.values c.args.tags.now
    c.loop-rest.rest.now c.loop-rest.invariant.marked c.if-tags-eq1.false c.in_default.len_below
