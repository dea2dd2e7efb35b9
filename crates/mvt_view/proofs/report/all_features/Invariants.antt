use Rattle.std.proofs.Common.{◌≡◌, ◌*◌, ◌≤◌, take}
use Rattle.std.specs.List.{sum_by}
use Rattle.mvt_tile_value.specs.Survey.{feature_count}
use Rattle.mvt_view.proofs.report.all_features.Given as goal

abbrev pub invariant-loop-item : goal.invariant-loop-item
invariant-loop-item l =
    (l.count ≡ sum_by feature_count (take l.item-index l.items)) × (l.count ≤ l.item-index * 18446744073709551615)
