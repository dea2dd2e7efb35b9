use Rattle.std.proofs.Common.{sym}
use Rattle.mvt_wire.proofs.VarintLemmas.{one_byte, two_bytes}
use Rattle.mvt_wire.proofs.varint.varint_at.Goals as goal

pub returns-in-len1-up-clause-number : goal.returns-in-len1-up-clause-number
returns-in-len1-up-clause-number c = rw c.from.ensures (sym (one_byte c.args.bytes.now c.in-len1-up.len_at_least c.if-a-lt128.true))

pub returns-in-len2-up-clause-number : goal.returns-in-len2-up-clause-number
returns-in-len2-up-clause-number c =
    rw (c.from-in-len2-up.ensures, c.from-in-len2-up-2.ensures)
    (sym (two_bytes c.args.bytes.now c.in-len2-up.len_at_least c.if-a-lt128.false c.if-b-lt128.true))
