-- The rules that integers break (Mapbox Vector Tile Specification 2.1, 4.3), as a table by commands. A
-- fault is told by the index of an integer and a cause.
use Rattle.std.specs.Prelude.{ℕ, zero, suc, ◌+◌, ◌*◌, ◌/◌, ◌%◌, ◌==◌, ◌&&◌, ◌||◌, not, nat_lt, Bool, true, false, ℤ, pos, List, [], ◌∷◌, ◌++◌, length, slice_index, Option, Some, None}
use Rattle.std.specs.Option.{option_map_or}
use Rattle.std.specs.Int.Signed.{lt_z}
use Rattle.mvt_base.specs.Rules.{Rules, when, under, rows, each, first}
use Rattle.mvt_geometry.specs.declared.shape.Point.{Point}
use Rattle.mvt_geometry.specs.declared.shape.Kind.{Kind}
use Rattle.mvt_geometry.specs.declared.shape.Kind.TheVariants as kinds
use Rattle.mvt_geometry.specs.declared.command.Command.{Command}
use Rattle.mvt_geometry.specs.declared.command.Command.TheVariants.{LineTo}
use Rattle.mvt_geometry.specs.declared.fault.GeometryCause.{GeometryCause}
use Rattle.mvt_geometry.specs.declared.fault.GeometryCause.TheVariants as causes
use Rattle.mvt_geometry.specs.Shape.{Range, wide}
use Rattle.mvt_geometry.specs.Area.{area2}
use Rattle.mvt_geometry.specs.Commands.{id_of, is_allowed, due, may_not_end, Pair, pair_count, pairs_at, start, moved, cursor, first_ring}

-- the index of an integer, and the cause
abbrev pub IndexedCause : Type 0
IndexedCause = ℕ × GeometryCause

-- a coordinate that is out of range
abbrev pub is_outside : Range → ℤ → Bool
is_outside range z = lt_z z range.low || lt_z range.high z

-- the command due draws lines
abbrev pub is_line_to : Option Command → Bool
is_line_to (Some LineTo) = true
is_line_to command = false

-- the command due has this number; where none is due, none has it
abbrev pub has_id : Option Command → ℕ → Bool
has_id command id = option_map_or (λ c. id == id_of c) command false

-- the command due may have this count
abbrev pub has_allowed : Kind → Option Command → ℕ → Bool
has_allowed kind command n = option_map_or (λ c. is_allowed kind c n) command true

-- a pair whose dX is the integer numbered `at`, and which leads to the point `to`
abbrev pub step_rows : Bool → ℕ → Pair → Point → List (ℕ × Rules IndexedCause)
step_rows is_line at d to =
    (0, when (d.dx == 4294967295) (at, causes.ParameterRange)) ∷ (1, when (d.dy == 4294967295) (at + 1, causes.ParameterRange))
    ∷ (2, when (is_line && ((d.dx == 0) && (d.dy == 0))) (at, causes.ZeroSegment))
    ∷ (3, when (is_outside wide to.x) (at, causes.CoordinateRange)) ∷ (4, when (is_outside wide to.y) (at + 1, causes.CoordinateRange)) ∷ []

unfoldable pub step_rules : Bool → ℕ → Pair → Point → Rules IndexedCause
step_rules is_line at d to = rows (step_rows is_line at d to)

-- a pair after others, of a command whose pairs begin with the integer numbered `at` and move the
-- cursor from the point `from`
unfoldable pub pair_rules : Bool → ℕ → Point → List Pair → Pair → Rules IndexedCause
pair_rules is_line at from front d = step_rules is_line (at + 2 * length front) d (moved from (front ++ d ∷ []))

-- the integers end at s, where a command has to come
unfoldable pub ends_early : Bool → List ℕ → ℕ → Rules IndexedCause
ends_early must_not g s = when ((s == length g) && must_not) (s, causes.EndsEarly)

-- 4.3.4: another command stands at s than the one due, or none is due
unfoldable pub wrong_command : Option Command → List ℕ → ℕ → Rules IndexedCause
wrong_command command g s = when (nat_lt s (length g) && not (has_id command (slice_index g s % 8))) (s, causes.Command)

-- 4.3.4: its count isn't one that the geometry allows
unfoldable pub wrong_count : Kind → Option Command → List ℕ → ℕ → Rules IndexedCause
wrong_count kind command g s =
    when (nat_lt s (length g) && not (has_allowed kind command (slice_index g s / 8))) (s, causes.Count)

-- 4.3.1: fewer integers are left than it has parameters
unfoldable pub no_room : Option Command → List ℕ → ℕ → Rules IndexedCause
no_room command g s =
    when (nat_lt s (length g) && nat_lt (length g) (s + 1 + 2 * pair_count command (slice_index g s / 8))) (s, causes.Parameters)

-- a command that begins at s, up to its count and its room
abbrev pub header_rows : Bool → Kind → Option Command → List ℕ → ℕ → List (ℕ × Rules IndexedCause)
header_rows must_not kind command g s =
    (0, ends_early must_not g s) ∷ (1, wrong_command command g s) ∷ (2, wrong_count kind command g s)
    ∷ (3, no_room command g s) ∷ []

-- its pairs
unfoldable pub wrong_pairs : Option Command → Point → List ℕ → ℕ → Rules IndexedCause
wrong_pairs command from g s = each (pair_rules (is_line_to command) (s + 1) from) [] (pairs_at command g s)

-- the ClosePath of the first ring
abbrev pub is_first_close : Kind → ℕ → Bool
is_first_close kinds.Polygon k = k == 2
is_first_close kind k = false

-- 4.3.4.4: the first ring is an exterior one
unfoldable pub wrong_ring : Kind → List ℕ → ℕ → ℕ → Rules IndexedCause
wrong_ring kind g k s =
    when (is_first_close kind k && lt_z (area2 (first_ring g)) (pos 0)) (s, causes.FirstRing)

-- command k, which begins at s
abbrev pub command_rows : Kind → List ℕ → ℕ → ℕ → List (ℕ × Rules IndexedCause)
command_rows kind g k s =
    header_rows (may_not_end kind k) kind (due kind k) g s ++
    ((4, wrong_pairs (due kind k) (cursor kind g k) g s) ∷ (5, wrong_ring kind g k s) ∷ [])

unfoldable pub command_rules : Kind → List ℕ → ℕ → ℕ → Rules IndexedCause
command_rules kind g k s = rows (command_rows kind g k s)

-- command k, which begins at s or nowhere
abbrev pub rules_at : Kind → List ℕ → ℕ → Option ℕ → Rules IndexedCause
rules_at kind g k None = []
rules_at kind g k (Some s) = command_rules kind g k s

-- the first n commands
unfoldable pub rules_of_first : Kind → List ℕ → ℕ → Rules IndexedCause
rules_of_first kind g zero = []
rules_of_first kind g (suc k) = rules_of_first kind g k ++ under k (rules_at kind g k (start kind g k))

-- all commands: there are no more than integers, and one more may be missing. A geometry of unknown
-- type has no rules
unfoldable pub geometry_rules : Kind → List ℕ → Rules IndexedCause
geometry_rules kinds.Unknown g = []
geometry_rules kinds.Point g = rules_of_first kinds.Point g (suc (length g))
geometry_rules kinds.LineString g = rules_of_first kinds.LineString g (suc (length g))
geometry_rules kinds.Polygon g = rules_of_first kinds.Polygon g (suc (length g))

-- the fault of integers
unfoldable pub geometry_fault : Kind → List ℕ → Option IndexedCause
geometry_fault kind g = first (geometry_rules kind g)
