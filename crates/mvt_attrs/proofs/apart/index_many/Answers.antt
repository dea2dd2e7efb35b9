use Rattle.std.proofs.Common.{◌≡◌, ◌+◌, ◌++◌, ◌∷◌, [], take, sym, ap, subst, ◌∙◌, Contains}
use Rattle.std.proofs.lemmas.List.{take_more}
use Rattle.mvt_attrs.specs.FirstUse.{AreDistinct}
use Rattle.mvt_attrs.specs.Inner.Choosing.{IsTwoChoices}
use Rattle.mvt_attrs.proofs.PoolLemmas.{distinct_more}
use Rattle.mvt_attrs.proofs.apart.index_many.Goals as goal

pub loop-index-preserved : goal.loop-index-preserved
loop-index-preserved g c =
    let entries = c.args.entries.now in
    let i = c.loop-index.index in
    let x = c.index-entries-index.result in
    let more : take i entries ++ x ∷ [] ≡ take (i + 1) entries =
    ap (λ y. take i entries ++ y ∷ []) c.index-entries-index.is ∙ sym (take_more entries i x c.loop-index-test.true) in
    let new : Contains (take i entries) x → ⊥ = c.in_ok-add_apart.ensures.new c.if-not-branch.false in
    record {
      apart = subst AreDistinct more (distinct_more (take i entries) x c.loop-index.invariant.apart new);
      known = subst (IsTwoChoices g.T.Ord.cmp g.T.Hash.hash_input c.add_apart.new.two_choices) more
          (c.in_ok-add_apart.ensures.added c.if-not-branch.false);
    }
