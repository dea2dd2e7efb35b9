use Rattle.std.proofs.Common.{◌≡◌, ◌++◌, take, string_bytes}
use Rattle.std.specs.List.{flat_map}
use Rattle.mvt_view.specs.Svg.{polygon_path}
use Rattle.mvt_view.proofs.paths.push_polygons.Given as goal

abbrev pub invariant-loop-polygon : goal.invariant-loop-polygon
invariant-loop-polygon l =
    string_bytes l.text ≡ string_bytes l.initial.text ++ flat_map polygon_path (take l.polygon-index l.polygons)
