use Rattle.std.proofs.Common.{◌≡◌}
use Rattle.mvt_wire.specs.Split.{split}
use Rattle.mvt_message.proofs.ExtentLemmas.{extent_from}
use Rattle.mvt_message.proofs.extent.extent_in.Given as goal

abbrev pub invariant-loop-field : goal.invariant-loop-field
invariant-loop-field l = extent_from 4096 (split l.payload).fields ≡ extent_from l.extent l.field-iterator.to_come.fields
