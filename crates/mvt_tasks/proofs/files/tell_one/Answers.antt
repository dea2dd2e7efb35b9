use Rattle.std.proofs.Common.{rules, ◌≡◌, ◌∷◌, [], IfErr, refl, subst, ◌∙◌}
use Rattle.std.specs.Io.KnownBytes.{Appends}
use Rattle.mvt_tasks.specs.declared.failure.Failure.TheVariants.{Memory}
use Rattle.mvt_tasks.specs.Checks.{TakesUntil, Prints, visit_of, written_of, printed_of}
use Rattle.mvt_tasks.proofs.CheckLemmas.{cut_first_of, cut_within_of, read_is_next}
use Rattle.mvt_tasks.proofs.files.tell_one.Goals as goal

pub returns-clause-said : goal.returns-clause-said
unfolding written_of printed_of
returns-clause-said g c = record {
  reply = c.in_ok-reply.reply;
  checked = c.in_ok-reply.ensures.said;
  visited = c.in_ok-reply.ensures.visited;
  written = subst (λ text. Appends (g.W.Sink.state c.args.writer.now).taken (g.W.Sink.state c.put.new.writer).taken text)
      (c.deref-2.ensures.value ∙ c.in_ok-written.ensures.bytes) c.in_ok-put.ensures.taken;
  printed = subst (λ text. Prints (g.E.Sink.state c.args.errors.now) (g.E.Sink.state c.note.new.errors) text)
      (c.deref.ensures.value ∙ c.in_ok-printed.ensures.bytes) c.note.ensures;
  judged = c.of-verdict.ensures;
}

pub returns-in_err-reply-clause-cut : goal.returns-in_err-reply-clause-cut
returns-in_err-reply-clause-cut g c =
    let asked = c.in_err-reply.ensures.asked in
    cut_first_of c.from_residual.result _ _ _ _ _ asked.0 (read_is_next c.args.name.now asked.0 asked.1) asked.2
    (let h : IfErr c.from_residual.result (λ failure. failure ≡ Memory) = search rules in h)

pub returns-in_err-written-clause-cut : goal.returns-in_err-written-clause-cut
returns-in_err-written-clause-cut g c =
    cut_first_of c.from_residual-in_err-written.result _ _ _ _ _ (visit_of c.args.name.now c.in_ok-reply.reply ∷ [])
    refl c.in_ok-reply.ensures.visited
    (let h : IfErr c.from_residual-in_err-written.result (λ failure. failure ≡ Memory) = search rules in h)

pub returns-in_err-printed-clause-cut : goal.returns-in_err-printed-clause-cut
returns-in_err-printed-clause-cut g c =
    cut_first_of c.from_residual-in_err-printed.result _ _ _ _ _ (visit_of c.args.name.now c.in_ok-reply.reply ∷ [])
    refl c.in_ok-reply.ensures.visited
    (let h : IfErr c.from_residual-in_err-printed.result (λ failure. failure ≡ Memory) = search rules in h)

pub returns-in_err-put-clause-cut : goal.returns-in_err-put-clause-cut
unfolding written_of printed_of
returns-in_err-put-clause-cut g c =
    cut_within_of c.from_residual-in_err-put.result _ _ _ c.in_ok-reply.reply _ _ c.in_ok-reply.ensures.said c.in_ok-reply.ensures.visited
    (subst (λ text. IfErr c.from_residual-in_err-put.result (TakesUntil (g.W.Sink.state c.args.writer.now).taken
    (g.W.Sink.state c.put.new.writer).taken text)) (c.deref-2.ensures.value ∙ c.in_ok-written.ensures.bytes)
    (search rules))
    (subst (λ text. Prints (g.E.Sink.state c.args.errors.now) (g.E.Sink.state c.note.new.errors) text)
    (c.deref.ensures.value ∙ c.in_ok-printed.ensures.bytes) c.note.ensures)
