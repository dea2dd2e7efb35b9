use Rattle.std.proofs.Common.{◌≡◌, ◌++◌, take, string_bytes}
use Rattle.std.specs.List.{flat_map}
use Rattle.mvt_view.specs.Svg.{feature_svg}
use Rattle.mvt_view.proofs.svg.push_features.Given as goal

abbrev pub invariant-loop-feature : goal.invariant-loop-feature
invariant-loop-feature l =
    string_bytes l.text ≡ string_bytes l.initial.text ++ flat_map feature_svg (take l.feature-index l.features)
