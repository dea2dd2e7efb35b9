use Rattle.std.proofs.Common.{sym, ◌∙◌}
use Rattle.std.proofs.lemmas.Result.{err_from_is_err_and}
use Rattle.mvt_message.proofs.ReadLemmas.{head_some, head_none, head_versions}
use Rattle.mvt_message.proofs.version.version_of.Goals as goal

pub returns-in_err-version-clause-err : goal.returns-in_err-version-clause-err
returns-in_err-version-clause-err c = λ payload payload_at whole so_far.
    let p = err_from_is_err_and c.from_residual.result c.from_residual.ensures.1 in
    rw (p.1, p.2) (head_versions payload payload_at c.args.tag_at _ whole (rw c.in_err-version.was at so_far))

pub returns-in-None-clause-err : goal.returns-in-None-clause-err
returns-in-None-clause-err c = λ payload payload_at whole so_far.
    let now = rw c.in_ok-version.was at so_far in
    rw c.fault_at.ensures (head_none payload payload_at c.args.tag_at whole now.0 (sym c.in-None.is ∙ now.1))

pub returns-in-Some-clause-ok : goal.returns-in-Some-clause-ok
returns-in-Some-clause-ok c = λ payload payload_at whole so_far.
    let now = rw c.in_ok-version.was at so_far in
    head_some payload payload_at c.args.tag_at c.in-Some.version whole now.0 (sym c.in-Some.is ∙ now.1)
