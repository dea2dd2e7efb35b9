use Rattle.std.proofs.Common.{◌≡◌, ap, ap₂, ◌∙◌, codes, false}
use Rattle.std.proofs.lemmas.Result.{IfOk-weaker}
use Rattle.clap.specs.Simple.{app_of_fields}
use Rattle.clap.specs.Words.{app_of, new_app, rule_of, with_rule}
use Rattle.clap.specs.declared.builder.arg.Arg.{Arg}
use Rattle.mvt_words.specs.Words.{extract_app, names_rule}
use Rattle.mvt_words.proofs.Commands.{names_rule_is, given_range}
use Rattle.mvt_words.proofs.words.extract_command.Goals as goal

pub returns-clause-shape : goal.returns-clause-shape
unfolding extract_app
returns-clause-shape c =
    let top : app_of c.about.result ≡ new_app (codes "extract") = ap app_of_fields c.about.ensures ∙ c.new-2.ensures.app in
    let rule : rule_of c.help-names.result ≡ names_rule =
    names_rule_is c.new.result c.action.result c.num_args.result c.required.result c.help-names.result _ _
    c.new.ensures.rule c.action.ensures c.num_args.ensures.0 (given_range _ _ c.num_args.ensures.1)
    c.required.ensures c.help-names.ensures in
    let local : c.help-names.result.global ≡ false =
    ap (λ (a : Arg). a.global) c.help-names.ensures ∙ ap (λ (a : Arg). a.global) c.required.ensures
    ∙ ap (λ (a : Arg). a.global) c.num_args.ensures.0 ∙ ap (λ (a : Arg). a.global) c.action.ensures
    ∙ c.new.ensures.optional.1 in
    IfOk-weaker c.arg.result _ _ (λ m h. h.shape local ∙ ap₂ with_rule top rule) c.arg.ensures
