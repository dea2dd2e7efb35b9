-- Spots that are level with a box.
use Rattle.std.specs.Prelude.{pos, ◌+ℤ◌, ◌-ℤ◌, ◌≤ℤ◌}
use Rattle.mvt_rings.specs.declared.boxes.Bounds.{Bounds}
use Rattle.mvt_rings.specs.declared.nesting.Spot.{Spot}
use Rattle.mvt_rings.specs.Nesting.{in_parts}

-- a spot, in halves of a unit, that is level with a box or at most a unit above or below it
pub record IsLevel (box : Bounds) (p : Spot) : Type 0 where
  pub low : in_parts 2 (box.top -ℤ pos 1) ≤ℤ p.y
  pub high : p.y ≤ℤ in_parts 2 (box.bottom +ℤ pos 1)
