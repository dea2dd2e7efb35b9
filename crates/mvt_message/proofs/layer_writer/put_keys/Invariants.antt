use Rattle.std.proofs.Common.{◌≡◌, ◌++◌, map, take}
use Rattle.mvt_wire.specs.Spelling.{spelled}
use Rattle.mvt_message.specs.CanonicalItems.{key_field}
use Rattle.mvt_message.proofs.layer_writer.put_keys.Given as goal

abbrev pub invariant-loop-key : goal.invariant-loop-key
invariant-loop-key l = l.out.items ≡ l.fn.out.items ++ spelled (map key_field (take l.key-index l.keys))
