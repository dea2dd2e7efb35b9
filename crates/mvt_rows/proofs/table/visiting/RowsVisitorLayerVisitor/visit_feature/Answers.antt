use Rattle.std.proofs.Common.{[], ◌∷◌, ◌++◌, sym, ap, ◌∙◌, subst}
use Rattle.mvt_attrs.specs.Tags.{Resolved}
use Rattle.mvt_feature.specs.declared.feature.Feature.{Feature}
use Rattle.mvt_rows.specs.declared.places.Places.{Places}
use Rattle.mvt_rows.specs.Tables.{with_feature_row, with_geometry}
use Rattle.mvt_rows.specs.Visiting.{AreLayerRows, HasReadFeatures}
use Rattle.mvt_rows.proofs.ReadTableLemmas.{feature_read}
use Rattle.mvt_rows.proofs.TableLemmas.{told}
use Rattle.mvt_rows.proofs.VisitLemmas.{feature_visited}
use Rattle.mvt_rows.proofs.table.visiting.RowsVisitorLayerVisitor.visit_feature.Goals as goal

pub returns-in_ok-keep_within-in-Ok-clause-feature : goal.returns-in_ok-keep_within-in-Ok-clause-feature
returns-in_ok-keep_within-in-Ok-clause-feature c = λ given held payloads features are has.
    let drawn = c.in_ok-known.ensures.feature held are in
    let known = c.in_ok-known.known in
    let opened = c.places-opened.result in
    let tags = c.tags.result.now in
    let before = c.args.self.now.table in
    let f : Feature = record { id = known.id; attributes = drawn.attributes; geometry = drawn.geometry } in
    let open_at = c.args.self.now.opened in
    let named : Resolved c.args.keys.now held tags drawn.attributes =
    subst (λ tags. Resolved c.args.keys.now held tags drawn.attributes) (sym c.tags.ensures) drawn.resolved in
    let made =
    c.in-Ok.ensures.ok ∙ ap (λ t. with_feature_row tags t known opened) (told before _ drawn.geometry drawn.holds) in
    let here = made ∙ ap (with_feature_row tags (with_geometry before drawn.geometry) known) c.places-opened.ensures in (
      f,
      drawn.is,
      (
        subst (λ t. AreLayerRows t open_at given.items c.args.keys.now held (features ++ f ∷ [])) (sym made)
            (feature_visited before open_at given.items c.args.keys.now held features tags known opened drawn.attributes drawn.geometry
            (ap (λ (p : Places). p.parts) c.places-opened.ensures) (ap (λ (p : Places). p.integers) c.places-opened.ensures) drawn.kind
            named has.0),
        subst (λ t. HasReadFeatures given.table t open_at c.args.keys.now held (payloads ++ c.args.payload.now ∷ []) (features ++ f ∷ []))
            (sym here)
            (feature_read given.table before open_at c.args.keys.now held payloads features c.args.payload.now tags known drawn.attributes
            drawn.geometry has.1 (c.tags.ensures ∙ drawn.tagged) drawn.kind),
        has.2,
      ),
    )
