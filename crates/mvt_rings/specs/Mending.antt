-- Lines and rings mended: no point repeated (Mapbox Vector Tile Specification 2.1, 4.3.3.2), and each ring in the direction
-- that it should have (4.3.4.4).
use Rattle.std.specs.Prelude.{ℕ, ◌+◌, Bool, false, if◌then◌else◌, List, [], ◌∷◌, ◌++◌, Result, Ok}
use Rattle.mvt_geometry.specs.declared.shape.Point.{Point}
use Rattle.mvt_rings.specs.declared.rings.Kept.{Kept}
use Rattle.mvt_rings.specs.declared.holding.Crossing.{Crossing}
use Rattle.mvt_rings.specs.Signs.{is_negative}
use Rattle.mvt_rings.specs.Repeats.{without_repeats, is_long}
use Rattle.mvt_rings.specs.Rings.{rings_from}
use Rattle.mvt_rings.specs.Homes.{told}
use Rattle.mvt_rings.specs.Steps.{ring_steps}

-- a part without its repeated points, if it has so many then
abbrev pub kept_one : ℕ → ℕ → List Point → List Kept
kept_one least n part =
    if is_long least (without_repeats part) then record { index = n; points = without_repeats part } ∷ [] else []

-- the parts that stay, the first of this index
abbrev pub kept_from : ℕ → ℕ → List (List Point) → List Kept
kept_from least n [] = []
kept_from least n (part ∷ parts) = kept_one least n part ++ kept_from least (n + 1) parts

-- 4.3.4.4: the first ring that stays has negative area
abbrev pub begins_negative : List Kept → Bool
begins_negative [] = false
begins_negative (first ∷ rings) = is_negative first.points

-- 4.3.3.2, 4.3.4.3: lines without repeated points, and without those that are too short then
unfoldable pub mended_lines : List (List Point) → List Kept
mended_lines lines = kept_from 2 0 lines

-- rings without repeated points, and without those that are too short then. Where the first has negative area, all are told
-- by what holds them
unfoldable pub mended_rings : List (List Point) → Result (List Kept) Crossing
mended_rings rings = if begins_negative (kept_from 3 0 rings) then told (rings_from 0 rings) else Ok (kept_from 3 0 rings)

-- the steps that this takes
unfoldable pub mending_steps : List (List Point) → ℕ
mending_steps rings = if begins_negative (kept_from 3 0 rings) then ring_steps (rings_from 0 rings) else 0
