use Rattle.std.proofs.Common.{sym, ap, ◌∙◌}
use Rattle.std.proofs.lemmas.Result.{IfOk-weaker}
use Rattle.mvt_words.specs.Words.{task_of_subcommand}
use Rattle.mvt_words.proofs.Commands.{entered_is}
use Rattle.mvt_words.proofs.words.task_of.Goals as goal

pub returns-in-Some : goal.returns-in-Some
returns-in-Some c =
    IfOk-weaker c.task_named.result _ _
    (λ task is. is ∙ ap task_of_subcommand
    (sym (entered_is c.args.matches.now _ _ c.in-Some.ensures.name c.in-Some.ensures.rows))) c.task_named.ensures
