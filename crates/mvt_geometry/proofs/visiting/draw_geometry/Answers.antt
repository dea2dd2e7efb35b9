use Rattle.std.proofs.Common.{arith}
use Rattle.mvt_geometry.proofs.WholeLemmas.{faultless_drawn, all_small}
use Rattle.mvt_geometry.proofs.visiting.draw_geometry.Goals as goal

pub returns-in_err-draw-clause-memory : goal.returns-in_err-draw-clause-memory
returns-in_err-draw-clause-memory g c = λ memory.
    let ints = c.args.integers.now in
    let small = all_small ints (λ i. let fits = c.type_inv.integers i in omega (arith, fits)) in
    faultless_drawn c.args.kind ints small c.in_ok-judge.ensures.ok

pub returns-clause-drawn : goal.returns-clause-drawn
returns-clause-drawn g c =
    let ints = c.args.integers.now in
    let small = all_small ints (λ i. let fits = c.type_inv.integers i in omega (arith, fits)) in
    let there = faultless_drawn c.args.kind ints small c.in_ok-judge.ensures.ok in
    (there.0, there.1, c.in_ok-draw.ensures there.0 there.1)
