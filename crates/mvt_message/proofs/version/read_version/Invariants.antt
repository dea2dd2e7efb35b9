use Rattle.std.proofs.Common.{List}
use Rattle.std.specs.Prelude.{IfErr}
use Rattle.mvt_wire.specs.Field.{Entry}
use Rattle.mvt_feature.specs.Walks.{Walk}
use Rattle.mvt_message.specs.Inner.{IsVersionSoFar, IsFault}
use Rattle.mvt_message.proofs.version.read_version.Given as goal

abbrev pub invariant-loop-field : goal.invariant-loop-field
invariant-loop-field l =
    (done : List Entry) × Walk l.payload l.field-iterator.to_come done × IsVersionSoFar l.payload_at done l.version
    × IfErr l.version IsFault
