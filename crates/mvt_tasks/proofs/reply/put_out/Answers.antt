use Rattle.std.proofs.Common.{rules, ◌≡◌, IfErr}
use Rattle.std.specs.Prelude.{is_err}
use Rattle.mvt_io.specs.States.{NoneFailed}
use Rattle.mvt_tasks.specs.declared.failure.Failure.TheVariants.{Write}
use Rattle.mvt_tasks.proofs.Replies.{fails_flushing, is_writing}
use Rattle.mvt_tasks.proofs.reply.put_out.Goals as goal

pub returns-clause-failed : goal.returns-clause-failed
returns-clause-failed g c =
    let printed : IfErr c.map_err-2.result (λ failure. failure ≡ Write) = search rules in
    let same : is_err c.map_err-2.result ≡ is_err c.flush.result = search rules in
    let none : NoneFailed (g.W.Sink.state c.args.writer.now).faults (g.W.Sink.state c.write_all.new.writer).faults = search rules in
    is_writing c.map_err-2.result _ _ printed
    (fails_flushing c.map_err-2.result c.flush.result (g.W.Sink.state c.args.writer.now).faults
    (g.W.Sink.state c.write_all.new.writer).faults
    (g.W.Sink.state c.flush.new.self).faults printed same none c.flush.ensures.faults)
