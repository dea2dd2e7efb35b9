use Rattle.std.proofs.Common.{◌≡◌, ◌++◌, drop}
use Rattle.mvt_base.specs.Related.{Extends}
use Rattle.mvt_geometry.specs.Shape.{AreSteps, joined, last_of}
use Rattle.mvt_geometry.specs.Inner.Writing.{ending, AreShort}
use Rattle.mvt_geometry.proofs.writing.put_lines.Given as goal
use Rattle.mvt_geometry.specs.Drawing.{strokes}

abbrev pub invariant-loop-line : goal.invariant-loop-line
invariant-loop-line g l =
    ((g.N.NumberList.numbers l.integers) ++ strokes (ending l.are_rings) l.cursor (drop l.line-index l.lines)
    ≡ (g.N.NumberList.numbers l.initial.integers) ++ strokes (ending l.are_rings) l.initial.cursor l.lines)
    × (last_of l.cursor (joined (drop l.line-index l.lines)) ≡ last_of l.initial.cursor (joined l.lines))
    × AreSteps l.cursor (joined (drop l.line-index l.lines)) × AreShort (drop l.line-index l.lines)
    × Extends (g.N.NumberList.numbers l.initial.integers) (g.N.NumberList.numbers l.integers)
