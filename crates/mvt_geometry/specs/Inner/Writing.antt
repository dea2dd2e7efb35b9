-- What the writer is given.
use Rattle.std.specs.Prelude.{ℕ, ◌<◌, ◌≤◌, ◌^◌, Bool, if◌then◌else◌, List, [], ◌∷◌, length}
use Rattle.std.specs.List.{AllByRecursion}
use Rattle.mvt_geometry.specs.declared.shape.Point.{Point}

-- what ends a line, or a ring: nothing, or a ClosePath
abbrev pub ending : Bool → List ℕ
ending is_ring = if is_ring then 15 ∷ [] else []

-- a line whose counts are commands
pub record IsShort (points : List Point) : Type 0 where
  pub some : 0 < length points
  pub few : length points ≤ 2 ^ 29

-- no line has more points than a command can count
abbrev pub AreShort : List (List Point) → Type 0
AreShort lines = AllByRecursion IsShort lines
