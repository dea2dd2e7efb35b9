use Rattle.std.proofs.Common.{[], ◌++◌, Some, sym, ap, append-nil}
use Rattle.std.proofs.lemmas.Result.{IfErr-weaker}
use Rattle.mvt_io.proofs.IoLaws.{writes_add_up_part}
use Rattle.mvt_tile_value.proofs.writing.write_both.Goals as goal

pub returns-clause-stopped : goal.returns-clause-stopped
returns-clause-stopped g c =
    let head = c.args.head.now in
    let payload = c.args.payload.now in
    IfErr-weaker c.write_all-2.result _ _
    (λ kind. writes_add_up_part _ _ _ head payload [] (head ++ payload) (Some kind) (ap (λ p. head ++ p) (sym (append-nil payload)))
    c.in_ok-write_all.ensures.wrote)
    c.write_all-2.ensures.stopped
