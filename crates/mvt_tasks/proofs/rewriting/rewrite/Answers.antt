use Rattle.mvt_tasks.proofs.Replies.{rewritten, not_rewritten}
use Rattle.mvt_tasks.proofs.rewriting.rewrite.Goals as goal

pub returns-in-Ok-Some-clause-reply : goal.returns-in-Ok-Some-clause-reply
returns-in-Ok-Some-clause-reply g c =
    let printed = c.in-Ok-Some.ensures.tile in
    rewritten 67108864 (g.R.Source.state c.args.reader.now).left printed.0 printed.2 _ _ c.new.ensures
    (rw c.in-Ok-Some.field-0-is at printed.1)

pub returns-in_ok-too_large-in-Ok-None-clause-reply : goal.returns-in_ok-too_large-in-Ok-None-clause-reply
returns-in_ok-too_large-in-Ok-None-clause-reply g c =
    let printed = c.in-Ok-None.ensures.tile in
    not_rewritten 67108864 (g.R.Source.state c.args.reader.now).left printed.0 printed.2 _ c.in_ok-too_large-in-Ok-None.ensures
    (rw c.in-Ok-None.field-0-is at printed.1)
