use Rattle.std.proofs.Common.{◌≡◌, [], ◌∷◌, ◌++◌, refl, sym, ap, arith, ◌∙◌, subst}
use Rattle.mvt_wire.specs.Split.{split}
use Rattle.mvt_message.specs.declared.item.Item.TheVariants.{Layer as ALayer, Foreign as AForeign}
use Rattle.mvt_message.specs.declared.visiting.Visited.TheVariants.{Layer, Foreign}
use Rattle.mvt_message.specs.Items.{IsItem}
use Rattle.mvt_message.specs.LayerFields.{keys_in, values_in}
use Rattle.mvt_message.specs.ValidItems.{ValidItem}
use Rattle.mvt_message.specs.Visiting.{OfFeatures}
use Rattle.mvt_rows.specs.declared.places.Places.{Places}
use Rattle.mvt_rows.specs.declared.table.visiting.RowsVisitor.{RowsVisitor}
use Rattle.mvt_rows.specs.ReadTables.{with_item}
use Rattle.mvt_rows.specs.Tables.{with_foreign, with_layer_row, without_values}
use Rattle.mvt_rows.specs.Visiting.{AreItemRows, AreLayerRows, Before, HasReadFeatures}
use Rattle.mvt_rows.proofs.ReadTableLemmas.{is_within, item_read, layer_read, values_kept}
use Rattle.mvt_rows.proofs.VisitLemmas.{layer_opened, layer_ends, foreign_ends, was_layer, was_foreign}
use Rattle.mvt_rows.proofs.table.visiting.RowsVisitorTileVisitor.visit_item.Goals as goal

-- what the visitor has of what was before, and of features
abbrev HasGiven : Before → RowsVisitor → Type 0
HasGiven given rows = (without_values rows.table rows.opened ≡ given.table) × (rows.most ≡ given.most)

abbrev HasFeatures : Before → OfFeatures RowsVisitor
HasFeatures given keys values rows payloads features =
    AreLayerRows rows.table rows.opened given.items keys values features
    × HasReadFeatures given.table rows.table rows.opened keys values payloads features × (rows.most ≡ given.most)

pub visit_version_2-requires : goal.visit_version_2-requires
visit_version_2-requires c κs =
    let (given, payloads, items, has, few) = c.requires.known in
    let at = c.places-self.ensures in
    let rows = c.args.self.now in
    let opened =
    layer_opened rows.table c.places-self.result items (ap (λ (p : Places). p.features) at) (ap (λ (p : Places). p.keys) at)
    (ap (λ (p : Places). p.values) at) has.0 in
    let before : Before = record { table = rows.table; items = items; most = given } in (
      (refl, tt),
      (
        omega (arith, c.requires.fits),
        (omega (arith, c.requires.fits), (before, (opened, (at, refl), has.2.most_is))),
      ),
    )

pub returns-in_ok-from_str-in-Ok-Layer-clause-item : goal.returns-in_ok-from_str-in-Ok-Layer-clause-item
returns-in_ok-from_str-in-Ok-Layer-clause-item c = λ most payloads items are.
    let at = c.places-self.ensures in
    let before = c.args.self.now.table in
    let given : Before = record { table = before; items = items; most = most } in
    let payload = c.args.payload.now in
    let fields = (split payload).fields in
    let start =
    layer_opened before c.places-self.result items (ap (λ (p : Places). p.features) at) (ap (λ (p : Places). p.keys) at)
    (ap (λ (p : Places). p.values) at) are.0 in
    let (item, is, valid, visited) =
    c.in-Ok-Layer.ensures.item given (start, (at, refl), are.2.most_is)
    (values_kept before before c.places-self.result [] (at, refl), are.2.most_is) in
    let reported = rw c.in-Ok-Layer.field-0-is at visited in
    let rows = c.visit_version_2.new.visitor in
    let name = c.in-Ok-Layer.name.now in
    let extent = c.in-Ok-Layer.extent in
    let (layer, has, facts) =
    was_layer (HasGiven given) (HasFeatures given) payload rows (Layer c.in-Ok-Layer.name extent)
    (λ i. IsItem payload i × ValidItem i) (λ number content none. none) item reported (is, valid) in
    let ended =
    layer_ends rows.table rows.opened items name c.in_ok-from_str-in-Ok-Layer.field-0 extent layer (keys_in fields) (values_in fields)
    facts.1 has.0 has.1 c.in_ok-from_str-in-Ok-Layer.ensures.same has.2.0 in
    let added = c.in_ok-add_layer_row-in-Ok-Layer.ensures in
    let read = subst (λ open_at. with_layer_row rows.table name extent open_at ≡ with_item before payload (ALayer layer))
    (sym has.2.1.opened)
    (layer_read before rows.table payload name extent layer has.0 has.1 has.2.1.rows) in (
      ALayer layer,
      facts.0,
      facts.1,
      ended.0,
      (
        subst (λ t. AreItemRows t (items ++ ALayer layer ∷ [])) (sym added) ended.1,
        item_read before _ payloads items payload (ALayer layer) are.1 (added ∙ read),
        is_within most _ has.2.2 c.in_ok-keep_within-in-Ok-Layer.ensures.within,
      ),
    )

pub returns-in_ok-keep_within-in-Ok-Foreign-clause-item : goal.returns-in_ok-keep_within-in-Ok-Foreign-clause-item
returns-in_ok-keep_within-in-Ok-Foreign-clause-item c = λ most payloads items are.
    let at = c.places-self.ensures in
    let before = c.args.self.now.table in
    let given : Before = record { table = before; items = items; most = most } in
    let payload = c.args.payload.now in
    let start =
    layer_opened before c.places-self.result items (ap (λ (p : Places). p.features) at) (ap (λ (p : Places). p.keys) at)
    (ap (λ (p : Places). p.values) at) are.0 in
    let (item, is, valid, visited) =
    c.in-Ok-Foreign.ensures.item given (start, (at, refl), are.2.most_is)
    (values_kept before before c.places-self.result [] (at, refl), are.2.most_is) in
    let reported = rw c.in-Ok-Foreign.field-0-is at visited in
    let rows = c.visit_version_2.new.visitor in
    let version = c.in-Ok-Foreign.version in
    let (number, content, has, facts) =
    was_foreign (HasGiven given) (HasFeatures given) payload rows (Foreign version)
    (λ i. IsItem payload i × ValidItem i) (λ layer none. none) item reported (is, valid) in
    let ended = foreign_ends payload before items version number content facts.0 facts.1 has.0 are.0 in
    let added = c.in_ok-add_foreign-in-Ok-Foreign.ensures
    ∙ ap (λ t. with_foreign t version payload) (c.forget_values.ensures ∙ has.1.0) in (
      AForeign number content,
      facts.0,
      facts.1,
      refl,
      (
        subst (λ t. AreItemRows t (items ++ AForeign number content ∷ [])) (sym added) ended.0,
        item_read before _ payloads items payload (AForeign number content) are.1 (added ∙ ended.1),
        is_within most _ has.1.1 c.in_ok-keep_within-in-Ok-Foreign.ensures.within,
      ),
    )
