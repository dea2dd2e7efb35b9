use Rattle.std.proofs.Common.{◌≡◌, ◌+◌, length, map, take}
use Rattle.mvt_wire.specs.Spelling.{spelled}
use Rattle.mvt_message.specs.Copying.{field_of}
use Rattle.mvt_message.proofs.layer_copying.end_of_used.Given as goal

abbrev pub invariant-loop-payload : goal.invariant-loop-payload
invariant-loop-payload g l = l.at + length (spelled (map (field_of g.T.AsSlice.items l.number) (take l.payload-index l.unused))) ≡ l.end
