use Rattle.std.proofs.Common.{arith, refl}
use Rattle.mvt_mend.proofs.CauseLemmas.{long_winded_cause}
use Rattle.mvt_mend.proofs.MendedTileLemmas.{long_winded_stays, unchanged}
use Rattle.mvt_mend.proofs.tile.mend_refused.Goals as goal

pub returns-in-Err-Steps-clause-cause : goal.returns-in-Err-Steps-clause-cause
returns-in-Err-Steps-clause-cause c =
    let long = rw c.in-Err-Steps.field-0-is at c.in-Err-Steps.ensures.ended in long_winded_cause _ long

pub returns-in-Err-Steps-clause-refused : goal.returns-in-Err-Steps-clause-refused
returns-in-Err-Steps-clause-refused c =
    let long = rw c.in-Err-Steps.field-0-is at c.in-Err-Steps.ensures.ended in
    let stays = unchanged c.args.bytes.now (long_winded_stays c.args.bytes.now long) in
    rw (stays, c.requires) refl

pub returns-then-len-eq0-clause-refused : goal.returns-then-len-eq0-clause-refused
returns-then-len-eq0-clause-refused c =
    let stays = c.in-Ok.ensures.stays (omega arith) in rw (stays, c.requires) refl

pub returns-in-Ok-rewrite-clause-tile : goal.returns-in-Ok-rewrite-clause-tile
returns-in-Ok-rewrite-clause-tile c =
    let made = c.in-Ok.ensures.bytes (omega arith) in
    let (tile, is_tile, valid, encoded) = c.in-Ok-rewrite.ensures.tile in
    (tile, rw made (rw c.deref.ensures.value at is_tile), valid, encoded)

pub returns-in-Err-Fault-clause-refused : goal.returns-in-Err-Fault-clause-refused
returns-in-Err-Fault-clause-refused c =
    let made = c.in-Ok.ensures.bytes (omega arith) in
    let broken = rw (c.in-Err-Fault.field-0-is, c.deref.ensures.value) at c.in-Err-Fault.ensures.fault in
    rw (made, broken) refl
