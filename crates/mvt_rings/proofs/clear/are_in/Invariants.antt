use Rattle.std.proofs.Common.{◌≡◌, drop}
use Rattle.std.specs.List.{list_all}
use Rattle.mvt_rings.specs.Clear.{is_in}
use Rattle.mvt_rings.proofs.clear.are_in.Given as goal

abbrev pub invariant-loop-point : goal.invariant-loop-point
invariant-loop-point l = list_all (is_in l.bounds) (drop l.point-index l.points) ≡ list_all (is_in l.bounds) l.points
