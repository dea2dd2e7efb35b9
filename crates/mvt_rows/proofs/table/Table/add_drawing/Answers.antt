use Rattle.std.proofs.Common.{◌≡◌, take, ap₂, ◌∙◌}
use Rattle.mvt_rows.specs.Tables.{Table}
use Rattle.mvt_rows.proofs.TableLemmas.{dropped}
use Rattle.mvt_rows.proofs.table.Table.add_drawing.Goals as goal

pub returns-in-Ok-clause-feature : goal.returns-in-Ok-clause-feature
returns-in-Ok-clause-feature c = λ held are.
    let start = c.args.self.now in
    let now = c.draw_usual_feature.new.visitor in
    let told = rw c.in-Ok-None.field-0-is at c.in-Ok-None.ensures.told in
    let same : c.forget_behind.new.self ≡ start =
    c.forget_behind.ensures
    ∙ ap₂ (λ p q. let t : Table = record now { parts = take p now.parts; points = take q now.points } in t) c.mark-before.ensures.parts
    c.mark-before.ensures.points
    ∙ dropped start told.0 told.1 now told.2 in
    rw (c.draw_usual_feature.ensures.same, same) at (c.in-Ok.ensures.feature held are)
