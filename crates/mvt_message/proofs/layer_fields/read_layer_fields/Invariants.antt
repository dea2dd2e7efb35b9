use Rattle.std.proofs.Common.{List, []}
use Rattle.mvt_wire.specs.Field.{Entry}
use Rattle.mvt_feature.specs.Walks.{Walk}
use Rattle.mvt_message.specs.Inner.{IsLayerFields}
use Rattle.mvt_message.proofs.layer_fields.read_layer_fields.Given as goal

abbrev pub invariant-loop-field : goal.invariant-loop-field
invariant-loop-field g l =
    (done : List Entry) × Walk l.payload l.field-iterator.to_come done
    × ((given : g.V.LayerVisitor.Given) → g.V.LayerVisitor.has_values given l.initial.visitor []
    → IsLayerFields (g.V.LayerVisitor.has_values given l.visitor) l.payload_at done l.front)
    × ((given : g.V.LayerVisitor.Given) → g.V.LayerVisitor.has_values given l.initial.visitor []
    → g.V.LayerVisitor.has_given given l.initial.visitor
    → g.V.LayerVisitor.has_given given l.visitor)
