use Rattle.std.proofs.Common.{◌≡◌, ◌++◌, map, take}
use Rattle.mvt_wire.specs.Spelling.{spelled}
use Rattle.mvt_message.specs.CanonicalItems.{value_field}
use Rattle.mvt_message.proofs.layer_writer.put_values.Given as goal

abbrev pub invariant-loop-value : goal.invariant-loop-value
invariant-loop-value l = l.out.items ≡ l.fn.out.items ++ spelled (map value_field (take l.value-index l.values))
