use Rattle.std.proofs.Common.{◌≡◌, ◌+◌, ◌%◌, ◌-◌, ◌≤◌, ℕ, List, [], length}
use Rattle.mvt_geometry.specs.declared.shape.Point.{Point}
use Rattle.mvt_geometry.specs.declared.shape.Kind.TheVariants as kinds
use Rattle.mvt_geometry.specs.Shape.{origin}
use Rattle.mvt_geometry.specs.Inner.Judging.{Reached}
use Rattle.mvt_geometry.proofs.CountLemmas.{Left}
use Rattle.mvt_geometry.proofs.judging.judge_lines.Given as goal

abbrev pub invariant-loop-pen : goal.invariant-loop-pen
invariant-loop-pen l =
    ((k : ℕ) × (k % 2 ≡ 0) × Reached kinds.LineString l.integers k l.pen.at l.pen.cursor) × (l.lines ≤ l.pen.at)
    ×
    ((ls : List (List Point)) → Left 2 [] l.integers 0 origin ls
    → (rest : List (List Point)) × Left 2 [] l.integers l.pen.at l.pen.cursor rest × (l.lines + length rest ≡ length ls))

abbrev pub decreases-loop-pen : goal.decreases-loop-pen
decreases-loop-pen l = length l.integers - l.pen.at
