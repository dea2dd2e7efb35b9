use Rattle.std.proofs.Common.{rules}
use Rattle.mvt_wire.proofs.ShortLemmas.{short_is_one, short_is_two}
use Rattle.mvt_wire.proofs.varint.put_varint.Goals as goal

pub returns-then-number-clause-ok : goal.returns-then-number-clause-ok
returns-then-number-clause-ok c = rw (short_is_one c.args.number c.if-number.true) (search rules)

pub returns-then-number-clause-room : goal.returns-then-number-clause-room
returns-then-number-clause-room c = rw (short_is_one c.args.number c.if-number.true) (search rules)

pub returns-then-number-2-clause-ok : goal.returns-then-number-2-clause-ok
returns-then-number-2-clause-ok c = rw (short_is_two c.args.number c.if-number.false c.if-number-2.true) (search rules)

pub returns-then-number-2-clause-room : goal.returns-then-number-2-clause-room
returns-then-number-2-clause-room c = rw (short_is_two c.args.number c.if-number.false c.if-number-2.true) (search rules)
