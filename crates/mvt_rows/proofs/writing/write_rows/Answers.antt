use Rattle.std.proofs.Common.{[], ◌∷◌, ◌++◌, arith, refl}
use Rattle.mvt_rows.specs.Lent.{table_of}
use Rattle.mvt_rows.specs.RowsFaults.{IsValidItemOf}
use Rattle.mvt_rows.proofs.FaultLemmas.{layer_fault}
use Rattle.mvt_rows.proofs.TileLemmas.{related_more}
use Rattle.mvt_rows.proofs.WritingLemmas.{all_written, out_written}
use Rattle.mvt_rows.proofs.writing.write_rows.Goals as goal

pub loop-index-init : goal.loop-index-init
loop-index-init c = ([], (tt, c.new-writer.ensures))

pub returns-in-Err-clause-refused : goal.returns-in-Err-clause-refused
returns-in-Err-clause-refused c =
    let (items, (are, has)) = c.loop-index.invariant in
    rw c.at_layer.ensures
    (layer_fault (table_of c.args.rows.now) c.loop-index.index _ items c.in-Err.error are has.distinct c.loop-index-test.true
    (c.in-Err.ensures.wrong items has))

pub loop-index-preserved : goal.loop-index-preserved
loop-index-preserved c =
    let t = table_of c.args.rows.now in
    let (items, (are, has)) = c.loop-index.invariant in
    let (item, is, added) = c.in-Ok.ensures.added items has in (
      items ++ item ∷ [],
      (
        related_more (IsValidItemOf t) t.layers c.loop-index.index _ items item (items ++ item ∷ []) are c.loop-index-test.true is refl,
        added,
      ),
    )

pub returns-clause-done : goal.returns-clause-done
returns-clause-done c =
    let t = table_of c.args.rows.now in
    let (items, (are, has)) = c.loop-index.invariant in
    (out_written t items c.loop-index.writer.out c.ok_or.result (all_written t c.loop-index.index items (omega arith) are has.distinct)
    has.encoded c.ok_or.ensures.value).0

pub returns-clause-refused : goal.returns-clause-refused
returns-clause-refused c =
    let t = table_of c.args.rows.now in
    let (items, (are, has)) = c.loop-index.invariant in
    (out_written t items c.loop-index.writer.out c.ok_or.result (all_written t c.loop-index.index items (omega arith) are has.distinct)
    has.encoded c.ok_or.ensures.value).1
