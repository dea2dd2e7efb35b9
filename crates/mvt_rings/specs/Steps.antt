-- The steps that telling rings takes.
use Rattle.std.specs.Prelude.{ℕ, ◌+◌, ◌*◌, ◌==◌, if◌then◌else◌, List, [], ◌∷◌, length, ◌<◌, ⊤}
use Rattle.mvt_rings.specs.declared.rings.Ring.{Ring}
use Rattle.mvt_rings.specs.declared.steps.Ended.{Ended}
use Rattle.mvt_rings.specs.declared.steps.Ended.TheVariants.{Memory, Steps}
use Rattle.mvt_rings.specs.Rings.{may_hold}
use Rattle.mvt_rings.specs.Placing.{band}

-- the rings with area
abbrev pub count_solid : List Ring → ℕ
count_solid [] = 0
count_solid (r ∷ rings) = (if r.size == 0 then 0 else 1) + count_solid rings

-- 4.3.4: where a ring may hold another, one for each edge, and for each point of the other and each edge that is level with
-- it 18: nine spots around two marks
unfoldable pub pair_steps : Ring → Ring → ℕ
pair_steps o r =
    if may_hold o r then length o.points + 18 * (length r.points * length (band r.bounds o.points)) else 0

abbrev pub steps_for : Ring → List Ring → ℕ
steps_for r [] = 0
steps_for r (o ∷ rings) = pair_steps o r + steps_for r rings

abbrev pub steps_over : List Ring → List Ring → ℕ
steps_over all [] = 0
steps_over all (r ∷ rings) = (if r.size == 0 then 0 else steps_for r all) + steps_over all rings

-- one for each two rings with area, and what each pair takes
unfoldable pub ring_steps : List Ring → ℕ
ring_steps rings = count_solid rings * count_solid rings + steps_over rings rings

-- too many steps were needed, if it ended for that
abbrev pub IsEnded : Ended → ℕ → ℕ → Type 0
IsEnded Memory left steps = ⊤
IsEnded Steps left steps = left < steps
