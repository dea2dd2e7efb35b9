use Rattle.std.proofs.Common.{◌≡◌, refl, ap, ap₂, ◌∙◌, codes, false}
use Rattle.std.proofs.lemmas.Result.{IfOk-weaker}
use Rattle.clap.specs.Simple.{app_of_fields}
use Rattle.clap.specs.Words.{app_of, new_app, rule_of, with_rule}
use Rattle.clap.specs.declared.builder.arg.Arg.{Arg}
use Rattle.mvt_words.specs.Words.{bare_mvt, version_rule}
use Rattle.mvt_words.proofs.Commands.{version_rule_is}
use Rattle.mvt_words.proofs.words.flags_command.Goals as goal

pub returns : goal.returns
unfolding bare_mvt
returns c =
    let top : app_of c.about.result ≡ new_app (codes "mvt") = ap app_of_fields c.about.ensures ∙ c.new-2.ensures.app in
    let rule : rule_of c.help-version.result ≡ version_rule =
    version_rule_is c.new.result c.long.result c.short.result c.action.result c.help-version.result _ _
    c.new.ensures.rule refl c.long.ensures c.short.ensures c.action.ensures c.help-version.ensures in
    let local : c.help-version.result.global ≡ false =
    ap (λ (a : Arg). a.global) c.help-version.ensures ∙ ap (λ (a : Arg). a.global) c.action.ensures
    ∙ ap (λ (a : Arg). a.global) c.short.ensures ∙ ap (λ (a : Arg). a.global) c.long.ensures
    ∙ c.new.ensures.optional.1 in
    IfOk-weaker c.arg.result _ _ (λ m h. h.shape local ∙ ap₂ with_rule top rule) c.arg.ensures
