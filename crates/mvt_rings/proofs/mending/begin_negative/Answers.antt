use Rattle.std.proofs.Common.{rules, arith, ◌≡◌, ℕ, suc, ◌+◌, ◌<◌, true, List, ◌∷◌, length, get_or, drop, drop-cons, sym, ap, ap₂, ◌∙◌}
use Rattle.mvt_geometry.specs.declared.shape.Point.{Point}
use Rattle.mvt_rings.specs.Repeats.{is_long, without_repeats}
use Rattle.mvt_rings.specs.Signs.{is_negative}
use Rattle.mvt_rings.specs.Mending.{begins_negative, kept_from}
use Rattle.mvt_rings.proofs.TurningLemmas.{first_long}
use Rattle.mvt_rings.proofs.mending.begin_negative.Goals as goal

at_index : (rings : List (List Point)) (i : ℕ) (ring : List Point) → i < length rings → get_or rings i ring ≡ ring
    → drop i rings ≡ ring ∷ drop (i + 1) rings
at_index rings i ring within is =
    let next : suc i ≡ i + 1 = omega arith in
    drop-cons rings i ring within ∙ ap₂ (λ r rs. r ∷ rs) is (ap (λ n. drop n rings) next)

pub returns-then-is_long : goal.returns-then-is_long
returns-then-is_long c =
    let i = c.loop-ring.ring-index in
    let ring = c.as_slice-points.result.now in
    let long : is_long 3 (without_repeats ring) ≡ true = search rules in
    let sign : c.is_negative.result ≡ is_negative ring = search rules in
    let first = first_long i ring (drop (i + 1) c.args.rings.now) long in
    let here : drop i c.args.rings.now ≡ ring ∷ drop (i + 1) c.args.rings.now =
    at_index c.args.rings.now i ring c.loop-ring-test.true (grind (arith)) in
    sign ∙ (first ∙ (ap (λ rings. begins_negative (kept_from 3 i rings)) (sym here) ∙ c.loop-ring.invariant))
