use Rattle.std.proofs.Common.{◌≡◌, ◌≤◌, ◌-◌, List, [], length}
use Rattle.mvt_attrs.specs.FirstUses.{lent}
use Rattle.mvt_attrs.specs.Values.{Value}
use Rattle.mvt_feature.specs.Copying.{AreReady}
use Rattle.mvt_message.specs.declared.item.Item.{Item}
use Rattle.mvt_message.specs.Copying.{AreFeaturesFrom}
use Rattle.mvt_message.proofs.canonical_features.judge_features.Given as goal

abbrev pub invariant-loop-at : goal.invariant-loop-at
invariant-loop-at g l =
    (l.at ≤ length l.body) × (l.layer_keys ≡ lent l.front.keys.items)
    × ((items : List Item) → g.V.FeatureVisitor.has_features items l.initial.visitor [] → (held : List Value) → length held ≡ l.values
    → AreReady (lent l.front.keys.items) held (0, 0)
    → AreFeaturesFrom (g.V.FeatureVisitor.has_features items l.visitor) l.body l.start (lent l.front.keys.items) held l.at l.used)

abbrev pub decreases-loop-at : goal.decreases-loop-at
decreases-loop-at g l = length l.body - l.at
