use Rattle.std.proofs.Common.{List, Ok}
use Rattle.mvt_wire.specs.Field.{Entry}
use Rattle.mvt_feature.specs.Inner.{AreFeatureFieldsSoFar}
use Rattle.mvt_feature.specs.Walks.{Walk}
use Rattle.mvt_feature.proofs.feature_fields.read_fields.Given as goal

abbrev pub invariant-loop-field : goal.invariant-loop-field
invariant-loop-field l =
    (done : List Entry) × Walk l.payload l.field-iterator.to_come done
    × AreFeatureFieldsSoFar l.payload_at done (Ok l.known) l.scratch.tags.items l.scratch.integers.items
