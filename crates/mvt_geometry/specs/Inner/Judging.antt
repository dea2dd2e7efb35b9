-- What the judge knows on its way.
use Rattle.std.specs.Prelude.{◌≡◌, ℕ, ◌+◌, ◌*◌, ◌/◌, ◌%◌, ◌<◌, ◌≤◌, true, ℤ, pos, ◌+ℤ◌, Bool, List, [], ◌∷◌, ◌++◌, length, slice_index, Some, None}
use Rattle.mvt_base.specs.Rules.{first, each}
use Rattle.mvt_geometry.specs.declared.shape.Point.{Point}
use Rattle.mvt_geometry.specs.declared.shape.Geometry.{Geometry}
use Rattle.mvt_geometry.specs.declared.shape.Geometry.TheVariants.{Unknown, Points, Lines, Polygons}
use Rattle.mvt_geometry.specs.declared.shape.Kind.{Kind}
use Rattle.mvt_geometry.specs.declared.command.Command.{Command}
use Rattle.mvt_geometry.specs.Area.{cross}
use Rattle.mvt_geometry.specs.Commands.{id_of, is_allowed, Pair, pair_count, pairs_of, start, moved, cursor}
use Rattle.mvt_geometry.specs.Table.{pair_rules, rules_of_first}

-- the command due stands at s, with a count that is allowed and with its parameters
pub record IsHeader (kind : Kind) (command : Command) (g : List ℕ) (s : ℕ) : Type 0 where
  pub within : s < length g
  pub id : slice_index g s % 8 ≡ id_of command
  pub allowed : is_allowed kind command (slice_index g s / 8) ≡ true
  pub room : s + 1 + 2 * pair_count (Some command) (slice_index g s / 8) ≤ length g

-- command k begins at s, with the cursor at c
pub record Stands (kind : Kind) (g : List ℕ) (k s : ℕ) (c : Point) : Type 0 where
  pub begins : start kind g k ≡ Some s
  pub cursor_is : cursor kind g k ≡ c
  pub within : s ≤ length g

-- and the commands before it break no rule
pub record Reached (kind : Kind) (g : List ℕ) (k s : ℕ) (c : Point) : Type 0 where
  pub stands : Stands kind g k s c
  pub before : first (rules_of_first kind g k) ≡ None

-- a walk over pairs has come to c with what is left, and the pairs done break no rule
pub record Walked (is_line : Bool) (begin : ℕ) (from : Point) (parameters rest : List ℕ) (c : Point) (done : List Pair) : Type 0 where
  pub split : pairs_of parameters ≡ done ++ pairs_of rest
  pub cursor_is : c ≡ moved from done
  pub calm : first (each (pair_rules is_line begin from) [] done) ≡ None
  pub used : length parameters ≡ 2 * length done + length rest

-- what the edges of a path add to twice the area
abbrev pub edges : Point → List Point → ℤ
edges c [] = pos 0
edges c (p ∷ points) = cross c p +ℤ edges p points

-- how many lines or polygons a geometry has
abbrev pub part_count : Geometry → ℕ
part_count (Unknown integers) = 0
part_count (Points points) = 0
part_count (Lines lines) = length lines
part_count (Polygons polygons) = length polygons
