use Rattle.std.proofs.Common.{◌≡◌, List, Some, None, is_some, sym, subst, ◌∙◌}
use Rattle.mvt_rows.specs.Building.{IsStep, has_layer}
use Rattle.mvt_rows.specs.Told.{ToldPart, add_feature, told_parts, whole_feature}
use Rattle.mvt_rows.proofs.BuildingLemmas.{called}
use Rattle.mvt_rows.proofs.WholeLemmas.{both, some_of, whole_due}
use Rattle.mvt_rows.proofs.builder.Builder.add.Goals as goal

pub returns : goal.returns
returns c =
    let a = c.args in
    let parts = told_parts a.kind a.points.now a.parts.now in
    let entered = c.in_ok-enter.ensures.ok in
    let due = both (has_layer a.self.now.turn) (is_some parts) (sym c.takes_parts.ensures ∙ entered.2) in
    let (told_of, is) = some_of parts due.1 in
    let added = c.add_feature-added in
    let stepped =
    subst
    (λ b. (told : List ToldPart) → parts ≡ Some told → IsStep b added.new.self added.result (add_feature a.kind a.id a.tags.now (Some told)))
    entered.1 added.ensures in
    let step =
    subst (λ o. IsStep a.self.now added.new.self added.result (add_feature a.kind a.id a.tags.now o)) (sym is) (stepped told_of is) in
    called a.self.now added.new.self c.settle.new.self added.result c.settle.result (add_feature a.kind a.id a.tags.now parts) entered.0
    step.done
    (λ told h none.
    whole_due a.self.now told (whole_feature a.kind a.id a.tags.now told_of) due.0 h
    (subst (λ o. add_feature a.kind a.id a.tags.now o told ≡ None) is none))
    c.settle.ensures.ok c.settle.ensures.err
