use Rattle.std.proofs.Common.{◌≡◌, not, rules, refl, sym, ap, ap₂, ◌∙◌, w32, to_z, of_z, Some}
use Rattle.mvt_tile_value.specs.declared.finding.Finding.TheVariants.{FarPoint}
use Rattle.mvt_tile_value.specs.Lint.{is_far_point}
use Rattle.mvt_tile_value.specs.Linting.{far_point}
use Rattle.mvt_tile_value.proofs.LintingLemmas.{found_before, found_now, not_found, point_looked}
use Rattle.mvt_tile_value.proofs.geometry_linting.GeometryFindingGeometryVisitor.visit_point.Goals as goal
use Rattle.mvt_tile_value.proofs.geometry_linting.GeometryFindingGeometryVisitor.visit_point.Goals.{else-is_none-via-then-is_none+else-is_far_point, else-is_none-via-else-is_none}

pub returns-then-is_far_point : goal.returns-then-is_far_point
returns-then-is_far_point c = λ start parts begun looked.
    let old = c.args.self.now in
    let p = c.args.point in
    let x : to_z w32 (of_z w32 p.x) ≡ p.x = search rules in
    let y : to_z w32 (of_z w32 p.y) ≡ p.y = search rules in
    point_looked start old _ parts begun p looked refl refl refl
    (ap₂ (λ a b. Some (FarPoint old.layer old.feature a b)) x y
    ∙ found_now old.found (far_point old.layer old.feature) (is_far_point old.extent p) p c.if-is_none.ensures
    (sym c.if-is_far_point.ensures))

pub returns-else-is_none : goal.returns-else-is_none
returns-else-is_none c = λ start parts begun looked.
    let old = c.args.self.now in
    let p = c.args.point in
    let make = far_point old.layer old.feature in
    point_looked start old old parts begun p looked refl refl refl
    (elim c.else-is_none.branch [
      | else-is_none-via-then-is_none+else-is_far_point w ↦ not_found old.found make (is_far_point old.extent p) p
          (sym w.is_far_point.ensures ∙ w.if-is_far_point.false)
      | else-is_none-via-else-is_none w ↦ found_before old.found make (is_far_point old.extent p) p
          (c.is_none.ensures ∙ ap not w.if-is_none.false)
    ])
