use Rattle.std.proofs.Common.{◌≡◌, ◌++◌, drop, map}
use Rattle.mvt_geometry.specs.Shape.{last_of}
use Rattle.mvt_geometry.specs.Drawing.{path_from}
use Rattle.mvt_geometry.specs.Inner.Validity.{IsPath}
use Rattle.mvt_geometry.proofs.strokes.append_path.Given as goal

abbrev pub invariant-loop-position : goal.invariant-loop-position
invariant-loop-position g l =
    let left = map g.P.Position.point_of (drop l.position-index l.points) in
    let all = map g.P.Position.point_of l.points in
    record {
      drawn : g.N.NumberList.numbers l.list ++ path_from l.cursor left ≡ g.N.NumberList.numbers l.initial.list ++ path_from
          l.initial.cursor all;
      last : last_of l.cursor left ≡ last_of l.initial.cursor all;
      forth : IsPath l.is_line l.initial.cursor all → IsPath l.is_line l.cursor left;
      back : IsPath l.is_line l.cursor left → IsPath l.is_line l.initial.cursor all;
    }
