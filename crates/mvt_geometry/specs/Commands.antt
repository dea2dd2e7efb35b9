-- Commands and their parameters (Mapbox Vector Tile Specification 2.1, 4.3.1 to 4.3.4), as places in a
-- list of integers.
use Rattle.std.specs.Prelude.{ℕ, zero, suc, ◌+◌, ◌*◌, ◌/◌, ◌%◌, ◌==◌, ◌||◌, nat_lt, Bool, true, false, if◌then◌else◌, ◌+ℤ◌, List, [], ◌∷◌, ◌++◌, length, take, drop, slice_index, Option, Some, None, option_and_then}
use Rattle.std.specs.Option.{option_map_or}
use Rattle.mvt_wire.specs.Zigzag.{unzig}
use Rattle.mvt_geometry.specs.declared.shape.Point.{Point}
use Rattle.mvt_geometry.specs.declared.shape.Kind.{Kind}
use Rattle.mvt_geometry.specs.declared.shape.Kind.TheVariants as kinds
use Rattle.mvt_geometry.specs.declared.command.Command.{Command}
use Rattle.mvt_geometry.specs.declared.command.Command.TheVariants.{MoveTo, LineTo, ClosePath}
use Rattle.mvt_geometry.specs.Shape.{origin}

-- 4.3.1: the number of a command
abbrev pub id_of : Command → ℕ
id_of MoveTo = 1
id_of LineTo = 2
id_of ClosePath = 7

-- 4.3.4: the counts that a command may have
abbrev pub is_allowed : Kind → Command → ℕ → Bool
is_allowed kinds.Point command n = nat_lt 0 n
is_allowed kinds.LineString LineTo n = nat_lt 0 n
is_allowed kinds.Polygon LineTo n = nat_lt 1 n
is_allowed kind command n = n == 1

-- 4.3.4: the command that is due as number k; none is due in a geometry of unknown type
abbrev pub due : Kind → ℕ → Option Command
due kinds.Unknown k = None
due kinds.Point k = if k == 0 then Some MoveTo else None
due kinds.LineString k = if k % 2 == 0 then Some MoveTo else Some LineTo
due kinds.Polygon k = if k % 3 == 0 then Some MoveTo else (if k % 3 == 1 then Some LineTo else Some ClosePath)

-- the integers may not end where this command is due
abbrev pub may_not_end : Kind → ℕ → Bool
may_not_end kind k = (k == 0) || option_map_or (λ command. not_move command) (due kind k) false
  where
    not_move : Command → Bool
    not_move MoveTo = false
    not_move LineTo = true
    not_move ClosePath = true

-- 4.3.2: a pair of parameters
pub record Pair : Type 0 where
  pub dx : ℕ
  pub dy : ℕ

-- integers taken two by two
abbrev pub pairs_of : List ℕ → List Pair
pairs_of [] = []
pairs_of (n ∷ []) = []
pairs_of (n ∷ m ∷ integers) = record { dx = n; dy = m } ∷ pairs_of integers

-- 4.3.1: how many pairs stand after a command of count n
abbrev pub pair_count : Option Command → ℕ → ℕ
pair_count (Some ClosePath) n = 0
pair_count command n = n

-- the pairs after a command that begins at s
abbrev pub pairs_at : Option Command → List ℕ → ℕ → List Pair
pairs_at command g s = take (pair_count command (slice_index g s / 8)) (pairs_of (drop (s + 1) g))

-- where command k begins; it is nowhere where the command before it isn't there
unfoldable pub start : Kind → List ℕ → ℕ → Option ℕ
start kind g zero = Some 0
start kind g (suc k) =
    option_and_then
    (λ s. if nat_lt s (length g) then Some (s + 1 + 2 * pair_count (due kind k) (slice_index g s / 8)) else None)
    (start kind g k)

-- the pairs of command k
unfoldable pub moves : Kind → List ℕ → ℕ → List Pair
moves kind g k = option_map_or (λ s. pairs_at (due kind k) g s) (start kind g k) []

-- 4.3.2: the cursor after one pair, whose parameters are zigzag codes
abbrev pub stepped : Point → Pair → Point
stepped c d = record { x = c.x +ℤ unzig d.dx; y = c.y +ℤ unzig d.dy }

-- the cursor after pairs
abbrev pub moved : Point → List Pair → Point
moved c [] = c
moved c (d ∷ pairs) = moved (stepped c d) pairs

-- the positions that pairs lead to
abbrev pub positions : Point → List Pair → List Point
positions c [] = []
positions c (d ∷ pairs) = stepped c d ∷ positions (stepped c d) pairs

-- 4.3.3: the cursor before command k
unfoldable pub cursor : Kind → List ℕ → ℕ → Point
cursor kind g zero = origin
cursor kind g (suc k) = moved (cursor kind g k) (moves kind g k)

-- the points of the first ring of polygons
unfoldable pub first_ring : List ℕ → List Point
first_ring g = positions origin (moves kinds.Polygon g 0 ++ moves kinds.Polygon g 1)
