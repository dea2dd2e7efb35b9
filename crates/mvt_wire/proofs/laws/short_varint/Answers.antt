use Rattle.mvt_wire.proofs.WireLaws.{short_varint_spells, short_varint_shortest, short_varint_only}
use Rattle.mvt_wire.proofs.laws.short_varint.Goals as goal

pub returns-clause-spells : goal.returns-clause-spells
returns-clause-spells c = short_varint_spells

pub returns-clause-shortest : goal.returns-clause-shortest
returns-clause-shortest c = short_varint_shortest

pub returns-clause-only : goal.returns-clause-only
returns-clause-only c = short_varint_only
