use Rattle.std.proofs.Common.{sym}
use Rattle.mvt_wire.specs.Field.{entry_of}
use Rattle.mvt_wire.proofs.StepLemmas.{next_found, next_slice, next_none}
use Rattle.mvt_wire.proofs.field.next_field.Goals as goal

pub returns-in-Ok-clause-next : goal.returns-in-Ok-clause-next
returns-in-Ok-clause-next c =
    next_found c.args.source.now c.args.at c.in-Ok.size (entry_of c.in-Ok.field) c.requires (sym c.in-Ok.ensures.field)

pub returns-in-Ok-clause-slice : goal.returns-in-Ok-clause-slice
returns-in-Ok-clause-slice c =
    next_slice c.args.source.now c.args.at c.in-Ok.size (entry_of c.in-Ok.field) c.requires (sym c.in-Ok.ensures.field)

pub returns-in-Err-clause-next : goal.returns-in-Err-clause-next
returns-in-Err-clause-next c =
    next_none c.args.source.now c.args.at c.in-Err.cause c.requires c.if-at-source.false (sym c.in-Err.ensures.field)
