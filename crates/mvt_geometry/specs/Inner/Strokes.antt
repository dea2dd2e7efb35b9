-- Lines and rings as commands with a cursor that is carried on.
use Rattle.std.specs.Prelude.{◌≡◌, ℕ, suc, ◌+◌, ◌*◌, ◌<◌, ◌^◌, ◌-ℤ◌, true, List, [], ◌∷◌, ◌++◌, length, drop, Some}
use Rattle.std.specs.List.{AllByRecursion}
use Rattle.mvt_wire.specs.Zigzag.{zig}
use Rattle.mvt_geometry.specs.declared.shape.Point.{Point}
use Rattle.mvt_geometry.specs.declared.shape.Kind.{Kind}
use Rattle.mvt_geometry.specs.declared.command.Command.{Command}
use Rattle.mvt_geometry.specs.Shape.{IsPlace, AreSteps, Apart, last_of}
use Rattle.mvt_geometry.specs.Valid.{IsStroke}
use Rattle.mvt_geometry.specs.Drawing.{path_from, stroke}
use Rattle.mvt_geometry.specs.Commands.{id_of, Pair, pair_count, is_allowed, moves}
use Rattle.mvt_geometry.specs.Table.{is_line_to}
use Rattle.mvt_geometry.specs.Inner.Judging.{Reached}

-- the pair that leads from one point to another
abbrev pub pair_between : Point → Point → Pair
pair_between p q = record { dx = zig (q.x -ℤ p.x); dy = zig (q.y -ℤ p.y) }

-- the parameters that lead from a cursor along points
abbrev pub pairs_between : Point → List Point → List Pair
pairs_between c [] = []
pairs_between c (p ∷ points) = pair_between c p ∷ pairs_between p points

-- a command of this count may lead from c over these points
pub record MayDraw (kind : Kind) (command : Command) (count : ℕ) (c : Point) (points : List Point) : Type 0 where
  pub allowed : is_allowed kind command count ≡ true
  pub pairs : length points ≡ pair_count (Some command) count
  pub places : AllByRecursion IsPlace points
  pub small_steps : AreSteps c points
  pub apart : is_line_to (Some command) ≡ true → Apart (c ∷ points)

-- integers of 32 bits
abbrev pub AreSmall : List ℕ → Type 0
AreSmall ints = AllByRecursion (λ n. n < 2 ^ 32) ints

-- what a command that breaks no rule draws
pub record Found (kind : Kind) (command : Command) (g : List ℕ) (k s : ℕ) (c : Point) : Type 0 where
  pub count : ℕ
  pub points : List Point
  pub may : MayDraw kind command count c points
  pub few : count < 2 ^ 29
  pub spelled : drop s g ≡ (id_of command + 8 * count) ∷ (path_from c points ++ drop (s + 1 + 2 * length points) g)
  pub next : Reached kind g (suc k) (s + 1 + 2 * length points) (last_of c points)
  pub moves_are : moves kind g k ≡ pairs_between c points

-- what a MoveTo and a LineTo that break no rule draw: the pen is then after a line, or before the
-- ClosePath of a ring
pub record FoundStroke (kind : Kind) (least : ℕ) (g : List ℕ) (k s : ℕ) (c : Point) : Type 0 where
  pub head : Point
  pub tail : List Point
  pub end : ℕ
  pub is : IsStroke least (head ∷ tail)
  pub small_steps : AreSteps c (head ∷ tail)
  pub spelled : drop s g ≡ stroke [] c (head ∷ tail) ++ drop end g
  pub next : Reached kind g (suc (suc k)) end (last_of head tail)
  pub first_moves : moves kind g k ≡ pair_between c head ∷ []
  pub other_moves : moves kind g (suc k) ≡ pairs_between head tail
  pub further : s < end
