use Rattle.std.proofs.Common.{sym, ap, ◌∙◌}
use Rattle.std.proofs.lemmas.Result.{IfOk-weaker}
use Rattle.mvt_words.specs.Words.{files_of_subcommand}
use Rattle.mvt_words.proofs.Commands.{entered_is}
use Rattle.mvt_words.proofs.words.files_of.Goals as goal

pub returns-in-Some : goal.returns-in-Some
returns-in-Some c =
    IfOk-weaker c.files_named.result _ _ (λ files is. is ∙ ap files_of_subcommand
    (sym (entered_is c.args.matches.now _ _ c.in-Some.ensures.name c.in-Some.ensures.rows))) c.files_named.ensures
