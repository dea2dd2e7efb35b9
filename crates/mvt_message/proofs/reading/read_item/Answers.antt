use Rattle.std.proofs.Common.{◌≡◌, ◌∙◌}
use Rattle.mvt_message.specs.declared.reading.LayerKeeper.{LayerKeeper}
use Rattle.mvt_message.specs.declared.visiting.Visited.TheVariants.{Layer, Foreign}
use Rattle.mvt_message.specs.Items.{IsItem}
use Rattle.mvt_message.specs.ValidItems.{ValidItem}
use Rattle.mvt_message.specs.Visiting.{OfFeatures}
use Rattle.mvt_message.proofs.VisitLemmas.{layer_visited, foreign_visited, put_together, foreign_bytes, foreign_made}
use Rattle.mvt_message.proofs.reading.read_item.Goals as goal

-- what is kept of what was given, and of features
abbrev HasGiven : LayerKeeper → Type 0
HasGiven kept = Unit {0}

abbrev HasFeatures : OfFeatures LayerKeeper
HasFeatures keys values kept payloads features = (kept.values.items ≡ values) × (kept.features.items ≡ features)

pub returns-in_ok-from_str-in-Ok-Layer-clause-item : goal.returns-in_ok-from_str-in-Ok-Layer-clause-item
returns-in_ok-from_str-in-Ok-Layer-clause-item c =
    let (item, is, valid, visited) = c.in-Ok-Layer.ensures.item tt (c.new-kept.ensures.values, c.new-kept.ensures.features) tt in
    let reported = rw c.in-Ok-Layer.field-0-is at visited in
    let (layer, has, p) =
    layer_visited HasGiven HasFeatures c.args.payload.now c.visit_version_2.new.visitor (Layer c.in-Ok-Layer.name c.in-Ok-Layer.extent)
    (IsItem c.args.payload.now)
    (λ number content none. none) item reported is in
    put_together (IsItem c.args.payload.now) layer _ _ _ (c.in_ok-from_str-in-Ok-Layer.ensures.same ∙ has.0) has.1
    (c.new.ensures ∙ has.2.1) p

pub returns-in_ok-from_str-in-Ok-Layer-clause-valid : goal.returns-in_ok-from_str-in-Ok-Layer-clause-valid
returns-in_ok-from_str-in-Ok-Layer-clause-valid c =
    let (item, is, valid, visited) = c.in-Ok-Layer.ensures.item tt (c.new-kept.ensures.values, c.new-kept.ensures.features) tt in
    let reported = rw c.in-Ok-Layer.field-0-is at visited in
    let (layer, has, p) =
    layer_visited HasGiven HasFeatures c.args.payload.now c.visit_version_2.new.visitor (Layer c.in-Ok-Layer.name c.in-Ok-Layer.extent)
    ValidItem
    (λ number content none. none) item reported valid in
    put_together ValidItem layer _ _ _ (c.in_ok-from_str-in-Ok-Layer.ensures.same ∙ has.0) has.1 (c.new.ensures ∙ has.2.1) p

pub returns-in_ok-from_slice-in-Ok-Foreign-clause-item : goal.returns-in_ok-from_slice-in-Ok-Foreign-clause-item
returns-in_ok-from_slice-in-Ok-Foreign-clause-item c =
    let (item, is, valid, visited) = c.in-Ok-Foreign.ensures.item tt (c.new-kept.ensures.values, c.new-kept.ensures.features) tt in
    let reported = rw c.in-Ok-Foreign.field-0-is at visited in
    let (number, content, has, p) =
    foreign_visited HasGiven HasFeatures c.args.payload.now c.visit_version_2.new.visitor (Foreign c.in-Ok-Foreign.version)
    (IsItem c.args.payload.now)
    (λ layer none. none) item reported is in
    foreign_made (IsItem c.args.payload.now) _ _ (foreign_bytes c.args.payload.now number content p) has.0
    (c.new-in-Ok-Foreign.ensures ∙ c.in_ok-from_slice-in-Ok-Foreign.ensures.items) p

pub returns-in_ok-from_slice-in-Ok-Foreign-clause-valid : goal.returns-in_ok-from_slice-in-Ok-Foreign-clause-valid
returns-in_ok-from_slice-in-Ok-Foreign-clause-valid c =
    let (item, is, valid, visited) = c.in-Ok-Foreign.ensures.item tt (c.new-kept.ensures.values, c.new-kept.ensures.features) tt in
    let reported = rw c.in-Ok-Foreign.field-0-is at visited in
    let (other, bytes, same, q) =
    foreign_visited HasGiven HasFeatures c.args.payload.now c.visit_version_2.new.visitor (Foreign c.in-Ok-Foreign.version)
    (λ i. IsItem c.args.payload.now i × ValidItem i)
    (λ layer none. none) item reported (is, valid) in
    foreign_made ValidItem _ _ (foreign_bytes c.args.payload.now other bytes q.0) same.0
    (c.new-in-Ok-Foreign.ensures ∙ c.in_ok-from_slice-in-Ok-Foreign.ensures.items) q.1
