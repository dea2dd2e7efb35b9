-- The lines or rings of integers that keep the form of commands, whatever points they repeat and in whatever direction a
-- ring goes (Mapbox Vector Tile Specification 2.1, 4.3.1 to 4.3.4).
use Rattle.std.specs.Prelude.{ℕ, zero, suc, ◌+◌, ◌*◌, ◌/◌, ◌%◌, ◌==◌, ◌&&◌, nat_le, Bool, true, false, if◌then◌else◌, ℤ, ◌+ℤ◌, List, [], ◌∷◌, ◌++◌, length, take, drop, slice_index, Option, Some, None, option_map, option_and_then}
use Rattle.mvt_wire.specs.Zigzag.{unzig}
use Rattle.mvt_geometry.specs.declared.shape.Point.{Point}
use Rattle.mvt_geometry.specs.Shape.{wide, origin}
use Rattle.mvt_geometry.specs.Table.{is_outside}

-- 4.3.2: a coordinate moved by a parameter, which may not be 4,294,967,295, and has to lead to one in range
unfoldable pub moved : ℤ → ℕ → Option ℤ
moved c n = if n == 4294967295 then None else (if is_outside wide (c +ℤ unzig n) then None else Some (c +ℤ unzig n))

-- the position that a pair leads to
unfoldable pub step : Point → ℕ → ℕ → Option Point
step c dx dy = option_and_then (λ x. option_map (λ y. record { x = x; y = y }) (moved c.y dy)) (moved c.x dx)

-- points, and where the cursor stands after them
pub record Path : Type 0 where
  pub points : List Point
  pub last : Point

-- the positions that pairs lead to, after others
abbrev pub path_in : List Point → Point → List ℕ → Option Path
path_in before c [] = Some (record { points = before; last = c })
path_in before c (dx ∷ []) = None
path_in before c (dx ∷ dy ∷ more) = option_and_then (λ p. path_in (before ++ p ∷ []) p more) (step c dx dy)

-- 4.3.4.3, 4.3.4.4: the least points of a line or a ring
abbrev pub least_of : Bool → ℕ
least_of false = 2
least_of true = 3

-- 4.3.1: the count of a LineTo that stands behind a MoveTo and its pair
abbrev pub count_in : List ℕ → ℕ
count_in ints = slice_index ints 3 / 8

-- a MoveTo with one pair stands in front, and a LineTo behind them
unfoldable pub begins_line : List ℕ → Bool
begins_line ints = nat_le 4 (length ints) && ((slice_index ints 0 == 9) && (slice_index ints 3 % 8 == 2))

-- the LineTo has as many pairs as a line or ring needs, and they are there
unfoldable pub has_pairs : Bool → List ℕ → Bool
has_pairs ring ints = nat_le (least_of ring) (count_in ints + 1) && nat_le (4 + 2 * count_in ints) (length ints)

-- the integers after a line, or after the ClosePath of a ring
abbrev pub after_part : Bool → List ℕ → Option (List ℕ)
after_part false ints = Some ints
after_part true [] = None
after_part true (n ∷ ints) = if n == 15 then Some ints else None

-- a line or ring, where the cursor stands after it, and the integers behind it
pub record Part : Type 0 where
  pub points : List Point
  pub last : Point
  pub rest : List ℕ

-- the part in front, from a cursor
unfoldable pub part_in : Bool → Point → List ℕ → Option Part
part_in ring c ints =
    if begins_line ints && has_pairs ring ints then
    option_and_then (λ first. option_and_then ended (path_in (first ∷ []) first (take (2 * count_in ints) (drop 4 ints))))
    (step c (slice_index ints 1) (slice_index ints 2))
    else None
  where
    ended : Path → Option Part
    ended path =
        option_map (λ rest. record { points = path.points; last = path.last; rest = rest })
        (after_part ring (drop (2 * count_in ints) (drop 4 ints)))

-- all parts, after others, if they are fewer than n
abbrev pub parts_after : Bool → ℕ → List (List Point) → Point → List ℕ → Option (List (List Point))
parts_after ring zero before c ints = None
parts_after ring (suc n) before c [] = Some before
parts_after ring (suc n) before c (i ∷ ints) =
    option_and_then (λ part. parts_after ring n (before ++ part.points ∷ []) part.last part.rest) (part_in ring c (i ∷ ints))

-- all parts, one at least: there are no more than integers
abbrev pub parts_in : Bool → List ℕ → Option (List (List Point))
parts_in ring [] = None
parts_in ring (i ∷ ints) = parts_after ring (suc (length (i ∷ ints))) [] origin (i ∷ ints)
