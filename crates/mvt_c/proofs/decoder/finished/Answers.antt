use Rattle.std.proofs.Common.{◌<◌, rules, ap, sym, subst, ◌∙◌}
use Rattle.std.proofs.lemmas.Bool.Decides.{nat_tests}
use Rattle.mvt_rows.specs.Tables.{table_size}
use Rattle.mvt_rows.specs.TileRows.{IsTileOf}
use Rattle.std.proofs.lemmas.Result.{err_from_is_err_and}
use Rattle.mvt_c.proofs.RefusalLemmas.{end_memory, end_shown}
use Rattle.mvt_c.proofs.decoder.finished.Goals as goal

pub returns-then-not-is_within-clause-memory : goal.returns-then-not-is_within-clause-memory
returns-then-not-is_within-clause-memory c = λ two none s stands.
    let (tile, is, valid, has) = c.in_ok-finish.ensures.tile c.args.decoder.most s stands in
    let table = c.into_table-table.result in
    let beyond : c.args.decoder.most < table_size table = search (rules, nat_tests) in
    let size = ap table_size (c.into_table-table.ensures ∙ has.1.rows) in
    (tile, is, valid, subst (λ n. c.args.decoder.most < n) size beyond)

pub returns-in_err-finish-clause-refused : goal.returns-in_err-finish-clause-refused
returns-in_err-finish-clause-refused c =
    let p = err_from_is_err_and c.from_residual.result c.from_residual.ensures.1 in
    rw (p.1, p.2) (λ s stands. end_shown _ s (c.in_err-finish.ensures.fault c.args.decoder.most s stands))

pub returns-clause-done : goal.returns-clause-done
returns-clause-done c = λ s stands.
    let (tile, is, valid, has) = c.in_ok-finish.ensures.tile c.args.decoder.most s stands in (
      tile,
      is,
      valid,
      subst (λ t. IsTileOf t tile) (sym c.into_table-table.ensures) has.0,
      c.into_table-table.ensures ∙ has.1.rows,
    )

pub returns-in_err-finish-clause-memory : goal.returns-in_err-finish-clause-memory
returns-in_err-finish-clause-memory c =
    let p = err_from_is_err_and c.from_residual.result c.from_residual.ensures.1 in
    rw (p.1, p.2)
    (λ two none s stands.
    absurd (end_memory _ s (c.in_err-finish.ensures.fault c.args.decoder.most s stands) (c.in_err-finish.ensures.no_memory none) two))
