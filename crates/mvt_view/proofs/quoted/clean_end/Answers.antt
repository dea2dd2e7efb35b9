use Rattle.std.proofs.Common.{◌∙◌, sym}
use Rattle.mvt_view.proofs.QuotedLemmas.{runs_byte}
use Rattle.mvt_view.proofs.quoted.clean_end.Goals as goal

pub loop-end-preserved : goal.loop-end-preserved
loop-end-preserved c =
    runs_byte c.args.bytes.now c.args.from c.loop-end.end c.loop-end.invariant c.loop-end-test.true
    (sym c.is_clean.ensures ∙ c.if-is_clean.true)
