use Rattle.std.proofs.Common.{◌≡◌, ◌++◌, take, string_bytes}
use Rattle.mvt_view.specs.Svg.{items_svg}
use Rattle.mvt_view.proofs.svg.push_items.Given as goal

abbrev pub invariant-loop-index : goal.invariant-loop-index
invariant-loop-index l =
    string_bytes l.text ≡ string_bytes l.initial.text ++ items_svg 0 (take l.index l.items)
