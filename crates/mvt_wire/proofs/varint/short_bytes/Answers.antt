use Rattle.std.proofs.Common.{◌∙◌, length-set}
use Rattle.mvt_wire.specs.Varint.{short_within}
use Rattle.mvt_wire.proofs.ShortLemmas.{spell_step, spell_end, short_within_is}
use Rattle.mvt_wire.proofs.varint.short_bytes.Goals as goal

pub loop-rest-preserved : goal.loop-rest-preserved
loop-rest-preserved c =
    let l = c.loop-rest in
    let inv = l.invariant in
    let step =
    spell_step l.bytes (short_within 9 c.args.number) l.len l.rest inv.size inv.within c.loop-rest-test.true inv.fits
    inv.spelled in
    record { size = length-set l.bytes l.len _ ∙ inv.size; within = step.0; fits = step.1; spelled = step.2 }

pub returns-clause-short : goal.returns-clause-short
returns-clause-short c =
    let l = c.loop-rest in
    let inv = l.invariant in
    spell_end l.bytes (short_within 9 c.args.number) l.len l.rest inv.size inv.within c.loop-rest-test.false inv.spelled
    ∙ short_within_is c.args.number
