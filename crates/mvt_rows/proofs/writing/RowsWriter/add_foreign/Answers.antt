use Rattle.std.proofs.Common.{refl}
use Rattle.mvt_message.specs.declared.item.Item.TheVariants.{Foreign}
use Rattle.mvt_rows.specs.Lent.{table_of}
use Rattle.mvt_rows.proofs.FaultLemmas.{any_there}
use Rattle.mvt_rows.proofs.WritingLemmas.{canonical_foreign, foreign_added}
use Rattle.mvt_rows.proofs.writing.RowsWriter.add_foreign.Goals as goal

pub returns-clause-added : goal.returns-clause-added
returns-clause-added c = λ items has.
    let part = any_there _ c.part.result c.if_any.result c.in_ok-bytes.field-0 c.in-Some.bytes c.part.ensures.part c.if_any.ensures
    c.in_ok-bytes.was c.in-Some.is in
    let content = c.in-Some.bytes.now in
    foreign_added (table_of c.args.rows.now) c.args.row.now content items c.args.self.now _ c.requires part
    (c.are_of_version.ensures.0 c.if-not-are_of_version.false) has refl
    (c.in_ok-self.ensures items (Foreign c.args.row.now.version content) (rw c.take.ensures.value has.encoded)
    (canonical_foreign c.args.row.now.version content))
