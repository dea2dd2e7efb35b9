use Rattle.std.proofs.Common.{◌≡◌}
use Rattle.mvt_wire.specs.Split.{split}
use Rattle.mvt_mend.proofs.layers.is_whole.Given as goal

abbrev pub invariant-loop-field : goal.invariant-loop-field
invariant-loop-field l = l.field-iterator.to_come.rest ≡ (split l.bytes).rest
