use Rattle.std.proofs.Common.{◌≡◌, List, [], length}
use Rattle.mvt_attrs.specs.FirstUses.{lent}
use Rattle.mvt_attrs.specs.Values.{Value}
use Rattle.mvt_wire.specs.Field.{Entry}
use Rattle.mvt_feature.specs.Walks.{Walk}
use Rattle.mvt_message.specs.Inner.{AreFeaturesHeld}
use Rattle.mvt_message.proofs.features.visit_features.Given as goal

abbrev pub invariant-loop-field : goal.invariant-loop-field
invariant-loop-field g l =
    (done : List Entry) × Walk l.payload l.field-iterator.to_come done
    × ((given : g.V.LayerVisitor.Given) (held : List Value) → length held ≡ l.values
    → g.V.LayerVisitor.has_features given (lent l.fn.keys) held l.initial.visitor [] []
    → AreFeaturesHeld (g.V.LayerVisitor.has_features given (lent l.fn.keys) held l.visitor) l.payload_at (lent l.fn.keys) held done l.count)
    × (l.keys ≡ lent l.fn.keys)
