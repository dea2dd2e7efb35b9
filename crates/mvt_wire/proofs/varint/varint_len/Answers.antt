use Rattle.std.proofs.Common.{sym}
use Rattle.mvt_wire.proofs.ShortLemmas.{short_len, short_length_one, short_length_two}
use Rattle.mvt_wire.proofs.varint.varint_len.Goals as goal

pub returns-then-number-clause-len : goal.returns-then-number-clause-len
returns-then-number-clause-len c = sym (short_length_one c.args.number c.if-number.true)

pub returns-then-number-2-clause-len : goal.returns-then-number-2-clause-len
returns-then-number-2-clause-len c = sym (short_length_two c.args.number c.if-number.false c.if-number-2.true)

pub returns-clause-len : goal.returns-clause-len
returns-clause-len c =
    short_len c.args.number c.ilog2.result c.ilog2.ensures.bound c.ilog2.ensures.power_le c.ilog2.ensures.next_power_gt
