use Rattle.std.proofs.lemmas.Result.{IfOk-weaker, err_from_is_err_and}
use Rattle.mvt_words.specs.Words.{mvt}
use Rattle.mvt_words.proofs.Commands.{added}
use Rattle.mvt_words.proofs.words.mvt_command.Goals as goal

pub returns : goal.returns
unfolding mvt
returns c =
    let one = added _ _ _ _ _ c.in_ok-subcommand.ensures c.in_ok-flags_command.ensures c.bare_command-fields.ensures.shape c.bare_command-fields.ensures.local in
    let two = added _ _ _ _ _ c.in_ok-subcommand-2.ensures one c.bare_command-show.ensures.shape c.bare_command-show.ensures.local in
    let three = added _ _ _ _ _ c.in_ok-subcommand-3.ensures two c.bare_command-draw.ensures.shape c.bare_command-draw.ensures.local in
    let four = added _ _ _ _ _ c.in_ok-subcommand-4.ensures three c.in_ok-check.ensures.shape c.in_ok-check.ensures.local in
    let five = added _ _ _ _ _ c.in_ok-subcommand-5.ensures four c.in_ok-explain.ensures.shape
    c.in_ok-explain.ensures.local in
    let six = added _ _ _ _ _ c.in_ok-subcommand-6.ensures five c.in_ok-lint.ensures.shape c.in_ok-lint.ensures.local in
    let seven = added _ _ _ _ _ c.in_ok-subcommand-7.ensures six c.bare_command-rewrite.ensures.shape
    c.bare_command-rewrite.ensures.local in
    let eight = added _ _ _ _ _ c.in_ok-subcommand-8.ensures seven c.bare_command-mend.ensures.shape c.bare_command-mend.ensures.local in
    IfOk-weaker c.subcommand-9.result _ _
    (λ m h. added _ _ _ _ _ h eight c.in_ok-extract.ensures.shape c.in_ok-extract.ensures.local) c.subcommand-9.ensures

pub returns-in_err-extract : goal.returns-in_err-extract
returns-in_err-extract c =
    let p = err_from_is_err_and c.from_residual-in_err-extract.result c.from_residual-in_err-extract.ensures.1 in rw p.1 tt

pub returns-in_err-subcommand : goal.returns-in_err-subcommand
returns-in_err-subcommand c =
    let p = err_from_is_err_and c.from_residual-in_err-subcommand.result c.from_residual-in_err-subcommand.ensures.1 in rw p.1 tt
