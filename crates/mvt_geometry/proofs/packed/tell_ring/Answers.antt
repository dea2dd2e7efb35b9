use Rattle.std.proofs.Common.{rules, ◌≡◌, ◌+◌, ◌*◌, [], ◌∷◌, subst, to_z, of_z}
use Rattle.std.specs.Int.{w128}
use Rattle.mvt_geometry.specs.Inner.Telling.{SpellsFront}
use Rattle.mvt_geometry.proofs.TellingLemmas.{ring_there}
use Rattle.mvt_geometry.proofs.packed.tell_ring.Goals as goal

pub returns-clause-line : goal.returns-clause-line
returns-clause-line g c =
    let line = rw c.in-Some.is at c.in_ok-ring.ensures.line in
    let close = c.in-Some-command_front in
    let one =
    subst (λ n. SpellsFront g.I.Integers.are c.in-Some.ring.after ((7 + 8 * n) ∷ []) close.behind) c.if-count-ne1.false close.ensures.spelled in
    let same : to_z w128 (of_z w128 c.in-Some.ring.area) ≡ c.in-Some.ring.area = search rules in
    (line.0, rw same (ring_there line.1 one), line.2)
