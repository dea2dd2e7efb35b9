use Rattle.std.proofs.Common.{List}
use Rattle.mvt_wire.specs.Field.{Entry}
use Rattle.mvt_feature.specs.Walks.{Walk}
use Rattle.mvt_message.specs.Inner.{IsLayerHeader}
use Rattle.mvt_message.proofs.layer_fields.header_fault_before.Given as goal

abbrev pub invariant-loop-field : goal.invariant-loop-field
invariant-loop-field l =
    (done : List Entry) × Walk l.payload l.field-iterator.to_come done × IsLayerHeader l.payload_at done l.header
