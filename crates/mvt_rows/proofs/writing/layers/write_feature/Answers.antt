use Rattle.std.proofs.Common.{sym}
use Rattle.mvt_rows.specs.Lent.{table_of}
use Rattle.mvt_rows.proofs.FaultLemmas.{row_wrong, undrawn, wrong_in}
use Rattle.mvt_rows.proofs.WritingLemmas.{feature_of_parts}
use Rattle.mvt_rows.proofs.writing.layers.write_feature.Goals as goal

pub returns-in_err-parts-clause-wrong : goal.returns-in_err-parts-clause-wrong
returns-in_err-parts-clause-wrong c = λ values features has.
    let count = sym (c.value_count-values.ensures c.args.keys.now values features has) in
    wrong_in c.from_residual.result _ _ _ c.from_residual.ensures.1 (c.in_err-parts.ensures.wrong values count)
    (row_wrong (table_of c.args.rows.now) c.args.keys.now values c.args.row.now)

pub returns-in-Err-clause-wrong : goal.returns-in-Err-clause-wrong
returns-in-Err-clause-wrong c = λ values features has.
    let count = sym (c.value_count-values.ensures c.args.keys.now values features has) in
    undrawn (table_of c.args.rows.now) c.args.keys.now values c.args.row.now _ c.in_ok-parts.parts.kind c.in-Err.undrawn
    (c.in_ok-parts.ensures.clean values count) (c.in_ok-parts.ensures.parts values count).geometry c.in-Err.is

pub returns-clause-written : goal.returns-clause-written
returns-clause-written c = λ values features range has.
    let count = sym (c.value_count-values.ensures c.args.keys.now values features has) in
    let (f, id, draws, names, is) =
    feature_of_parts (table_of c.args.rows.now) c.args.keys.now values c.args.row.now _ c.in_ok-parts.parts c.in-Ok.kind range
    (c.in_ok-parts.ensures.parts values count) c.in-Ok.is in
    (f, is, c.in_ok-add_drawn_feature.ensures c.args.keys.now values features f has id draws names)
