use Rattle.std.proofs.Common.{◌≡◌, ◌++◌, take, string_bytes}
use Rattle.std.specs.List.{flat_map}
use Rattle.mvt_view.specs.Svg.{ring_path}
use Rattle.mvt_view.proofs.paths.push_rings.Given as goal

abbrev pub invariant-loop-ring : goal.invariant-loop-ring
invariant-loop-ring l =
    string_bytes l.text ≡ string_bytes l.initial.text ++ flat_map ring_path (take l.ring-index l.rings)
