use Rattle.std.proofs.Common.{rules, ◌≡◌, IfErr}
use Rattle.mvt_tasks.specs.declared.failure.Failure.TheVariants.{Write, Memory}
use Rattle.std.specs.Prelude.{is_err}
use Rattle.mvt_tasks.proofs.Replies.{fails_flushing}
use Rattle.mvt_tasks.proofs.CheckLemmas.{cut_unwritten, cut_unflushed}
use Rattle.mvt_tasks.proofs.files.tell_all.Goals as goal

pub returns-in_err-line-clause-cut : goal.returns-in_err-line-clause-cut
returns-in_err-line-clause-cut g c =
    cut_unwritten c.from_residual-in_err-line.result _ _ _ _ _ _ c.in_ok-tally.ensures.said
    (let h : IfErr c.from_residual-in_err-line.result (λ failure. failure ≡ Memory) = search rules in h)

pub returns-in_err-map_err-clause-cut : goal.returns-in_err-map_err-clause-cut
returns-in_err-map_err-clause-cut g c =
    cut_unflushed c.from_residual-in_err-map_err.result _ _ _ _ _ _ _ c.in_ok-tally.ensures.said
    c.flush.ensures.bytes (let h : IfErr c.from_residual-in_err-map_err.result
    (λ failure. failure ≡ Write) = search rules in h)

pub returns-in_err-map_err-clause-failed : goal.returns-in_err-map_err-clause-failed
returns-in_err-map_err-clause-failed g c =
    let result = c.from_residual-in_err-map_err.result in
    let printed : IfErr result (λ failure. failure ≡ Write) = search rules in
    let same : is_err result ≡ is_err c.flush.result = search rules in
    fails_flushing result c.flush.result (g.W.Sink.state c.args.writer.now).faults (g.W.Sink.state c.tell_each.new.writer).faults
    (g.W.Sink.state c.flush.new.self).faults printed same c.in_ok-tally.ensures.sound c.flush.ensures.faults
