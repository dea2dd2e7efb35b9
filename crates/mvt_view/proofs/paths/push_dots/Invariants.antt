use Rattle.std.proofs.Common.{◌≡◌, ◌++◌, take, string_bytes}
use Rattle.std.specs.List.{flat_map}
use Rattle.mvt_view.specs.Svg.{dot_path}
use Rattle.mvt_view.proofs.paths.push_dots.Given as goal

abbrev pub invariant-loop-point : goal.invariant-loop-point
invariant-loop-point l =
    string_bytes l.text ≡ string_bytes l.initial.text ++ flat_map dot_path (take l.point-index l.points)
