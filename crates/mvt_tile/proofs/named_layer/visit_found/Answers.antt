use Rattle.std.proofs.Common.{[]}
use Rattle.mvt_message.proofs.MessageLaws.{item_or_fault_clean}
use Rattle.mvt_tile.proofs.named_layer.visit_found.Goals as goal

pub returns-in-Ok-clause-ok : goal.returns-in-Ok-clause-ok
returns-in-Ok-clause-ok g c =
    let found = c.args.found in
    let (given, start) = c.requires.start in
    let taken = c.in-Ok.ensures.item given [] [] start in
    item_or_fault_clean found.payload.now found.payload_at found.tag_at taken.0 taken.1
