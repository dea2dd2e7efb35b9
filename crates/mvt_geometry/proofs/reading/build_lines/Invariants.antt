use Rattle.std.proofs.Common.{◌≡◌, List, [], ◌++◌, length}
use Rattle.mvt_geometry.specs.declared.shape.Point.{Point}
use Rattle.mvt_geometry.specs.Shape.{origin}
use Rattle.mvt_geometry.specs.Inner.Building.{SpellLines}
use Rattle.mvt_geometry.proofs.reading.build_lines.Given as goal

abbrev pub invariant-loop-rest : goal.invariant-loop-rest
invariant-loop-rest l =
    (ls : List (List Point)) → SpellLines [] origin l.integers ls
    → (todo : List (List Point)) × (l.lines.items ++ todo ≡ ls) × SpellLines [] l.cursor l.rest todo

abbrev pub decreases-loop-rest : goal.decreases-loop-rest
decreases-loop-rest l = length l.rest
