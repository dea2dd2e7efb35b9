use Rattle.std.proofs.Common.{◌≡◌, ap, ap₂, ◌∙◌, false}
use Rattle.std.proofs.lemmas.Result.{IfOk-weaker}
use Rattle.clap.specs.Simple.{app_of_fields}
use Rattle.clap.specs.Words.{app_of, new_app, rule_of, with_rule}
use Rattle.clap.specs.declared.builder.arg.Arg.{Arg}
use Rattle.mvt_words.specs.Words.{files_app, files_rule}
use Rattle.mvt_words.proofs.Commands.{files_rule_is, given_range}
use Rattle.mvt_words.proofs.words.files_command.Goals as goal

pub returns-clause-shape : goal.returns-clause-shape
unfolding files_app
returns-clause-shape c =
    let top : app_of c.about.result ≡ new_app c.args.name.now = ap app_of_fields c.about.ensures ∙ c.new-2.ensures.app in
    let rule : rule_of c.help-files.result ≡ files_rule =
    files_rule_is c.new.result c.action.result c.num_args.result c.help-files.result _ _ c.new.ensures.rule
    c.action.ensures c.num_args.ensures.0 (given_range _ _ c.num_args.ensures.1) c.help-files.ensures in
    let local : c.help-files.result.global ≡ false =
    ap (λ (a : Arg). a.global) c.help-files.ensures ∙ ap (λ (a : Arg). a.global) c.num_args.ensures.0
    ∙ ap (λ (a : Arg). a.global) c.action.ensures ∙ c.new.ensures.optional.1 in
    IfOk-weaker c.arg.result _ _ (λ m h. h.shape local ∙ ap₂ with_rule top rule) c.arg.ensures
