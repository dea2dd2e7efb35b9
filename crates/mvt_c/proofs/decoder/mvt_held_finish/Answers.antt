use Rattle.std.proofs.Common.{◌∙◌, sym}
use Rattle.mvt_c.proofs.RefusalLemmas.{reported_of}
use Rattle.mvt_c.proofs.decoder.mvt_held_finish.Goals as goal

pub returns-in-Err-clause-refused : goal.returns-in-Err-clause-refused
returns-in-Err-clause-refused c = λ one s stands.
    reported_of s c.in-Err.refusal c.args.fault.now c.report.new.fault (sym c.report.ensures.status ∙ one)
    (c.in-Err.ensures.refused s (rw (c.into_inner.ensures, c.into_box.ensures) stands)) c.report.ensures.fault
