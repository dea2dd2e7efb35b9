use Rattle.std.proofs.Common.{◌≡◌, ◌+◌, drop, map}
use Rattle.mvt_rows.specs.TileRows.{point_of}
use Rattle.mvt_rows.specs.Undrawn.{path_fault}
use Rattle.mvt_rows.proofs.writing.refused.path_fault.Given as goal

abbrev pub invariant-loop-index : goal.invariant-loop-index
invariant-loop-index l =
    path_fault l.is_line l.part (l.number + l.index) l.cursor (map point_of (drop l.index l.points))
    ≡ path_fault l.is_line l.part l.number l.initial.cursor (map point_of l.points)
