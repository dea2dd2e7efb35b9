use Rattle.std.proofs.Common.{arith, ◌≡◌, sym, ◌∙◌, subst, Some, None}
use Rattle.mvt_geometry.specs.Drawing.{Draws}
use Rattle.mvt_geometry.specs.Table.{IndexedCause}
use Rattle.mvt_geometry.proofs.WholeLemmas.{drawn_faultless, faultless_drawn, all_small}
use Rattle.mvt_geometry.proofs.reading.read_geometry.Goals as goal

pub returns-in_err-count-clause-found : goal.returns-in_err-count-clause-found
returns-in_err-count-clause-found c =
    λ g draws. absurd (apart _ (sym (drawn_faultless c.args.kind c.args.integers.now g draws) ∙ c.in_err-count.ensures.err))
  where
    apart : (f : IndexedCause) → None ≡ Some f → ⊥
    apart f e = cc

pub build-requires : goal.build-requires
build-requires c =
    let g = c.args.integers.now in
    let small = all_small g (λ i. let fits = c.type_inv.integers i in omega (arith, fits)) in
    let there = faultless_drawn c.args.kind g small c.in_ok-count.ensures.ok in
    (there.0, there.1, c.in_ok-count.ensures.count there.0 there.1)

pub returns-in_err-build-clause-memory : goal.returns-in_err-build-clause-memory
returns-in_err-build-clause-memory c = λ memory.
    let g = c.args.integers.now in
    let small = all_small g (λ i. let fits = c.type_inv.integers i in omega (arith, fits)) in
    faultless_drawn c.args.kind g small c.in_ok-count.ensures.ok

pub returns-clause-drawn : goal.returns-clause-drawn
returns-clause-drawn c =
    let g = c.args.integers.now in
    let small = all_small g (λ i. let fits = c.type_inv.integers i in omega (arith, fits)) in
    let there = faultless_drawn c.args.kind g small c.in_ok-count.ensures.ok in
    subst (Draws c.args.kind g) (sym (c.in_ok-build.ensures there.0 there.1)) there.1
