-- A feature whose payload was judged, and what is written of it.
use Rattle.std.proofs.Common.{◌≡◌, ℕ, ◌<◌, ◌^◌, List, [], ◌∷◌, ◌++◌, Option, None, refl, sym, ap, subst, ◌∙◌}
use Rattle.std.specs.List.{AllByRecursion}
use Rattle.mvt_attrs.specs.Values.{Value}
use Rattle.mvt_attrs.specs.declared.used_entries.LayerEntries.{LayerEntries}
use Rattle.mvt_attrs.specs.TagRules.{tag_fault}
use Rattle.mvt_attrs.specs.TagPlaces.{tags_in}
use Rattle.mvt_attrs.specs.Using.{IsUsedBy, used_of}
use Rattle.mvt_geometry.specs.declared.shape.Geometry.{Geometry}
use Rattle.mvt_geometry.specs.declared.shape.Kind.{Kind}
use Rattle.mvt_geometry.specs.Drawing.{drawn, Draws}
use Rattle.mvt_geometry.specs.Shape.{kind_of}
use Rattle.mvt_geometry.specs.Table.{geometry_fault}
use Rattle.mvt_wire.specs.Field.{bytes}
use Rattle.mvt_wire.specs.Spelling.{short_numbers, spelled}
use Rattle.mvt_wire.specs.Split.{split}
use Rattle.mvt_feature.specs.declared.feature.Feature.{Feature}
use Rattle.mvt_feature.specs.declared.feature_fields.FeatureFields.{FeatureFields}
use Rattle.mvt_feature.specs.declared.numbers.feature.TheConstants.{GEOMETRY}
use Rattle.mvt_feature.specs.declared.scratch.Scratch.{Scratch}
use Rattle.mvt_feature.specs.Canonical.{plain, id_fields, tags_fields, type_fields, drawing_fields}
use Rattle.mvt_feature.specs.FeatureRules.{joined}
use Rattle.mvt_feature.specs.Inner.{AreOf, IsJudged}
use Rattle.mvt_feature.specs.Rewriting.{IsRewritten}
use Rattle.mvt_feature.specs.Selection.{only}
use Rattle.mvt_feature.proofs.FeatureLemmas.{Says, feature_from, joined_small, joined_is}
use Rattle.mvt_attrs.proofs.AttrsLaws.{attributes_or_fault_there}
use Rattle.mvt_geometry.proofs.GeometryLaws.{faultless_draws}

-- no fault: there is a feature of these tags and integers
pub judged_from : {payload : List ℕ} {payload_at : ℕ} {known : FeatureFields} {scratch : Scratch}
    → Says payload payload_at known scratch.tags.items scratch.integers.items → (keys : List (List ℕ)) (values : List Value)
    → tag_fault keys values scratch.tags.items ≡ None → geometry_fault known.kind scratch.integers.items ≡ None
    → IsJudged payload keys values known scratch
judged_from {payload} {payload_at} {known} {scratch} says keys values tags_clean drawing_clean =
    let xs = (split payload).fields in
    let attributes = attributes_or_fault_there keys values scratch.tags.items tags_clean in
    let small = joined_small (only GEOMETRY xs) (joined GEOMETRY xs) (joined_is payload_at GEOMETRY xs (λ c e. e) says.clean) in
    let geometry =
    faultless_draws known.kind scratch.integers.items
    (subst (AllByRecursion (λ n. n < 2 ^ 32)) (sym says.known_is.integers_are) small) drawing_clean in
    let f : Feature = record { id = known.id; attributes = attributes.0; geometry = geometry.0 } in (
      f,
      feature_from says keys values f refl attributes.1 geometry.1,
      record { id = refl; tags = attributes.1; integers = geometry.1 },
    )

-- the fields of a feature are those of its parts
pub parts_written : (keys : List (List ℕ)) (values : List Value) (known : FeatureFields) (scratch : Scratch) (f : Feature)
    (old new : LayerEntries)
    (before after tags : List ℕ) → AreOf keys values known scratch f → IsUsedBy f.attributes old new
    → tags ≡ tags_in (used_of new.keys) (used_of new.values) f.attributes
    → after ≡ before ++ spelled (id_fields known.id ++ (tags_fields tags ++ drawing_fields known.kind scratch.integers.items))
    → IsRewritten f old new before after
parts_written keys values known scratch f old new before after tags are used tags_are is = (
  used,
  is
      ∙ ap (λ i. before ++ spelled (id_fields i ++ (tags_fields tags ++ drawing_fields known.kind scratch.integers.items))) (sym are.id)
      ∙ ap (λ t. before ++ spelled (id_fields f.id ++ (tags_fields t ++ drawing_fields known.kind scratch.integers.items))) tags_are
      ∙ ap (λ k. before ++ spelled (id_fields f.id ++ (tags_fields (tags_in (used_of new.keys) (used_of new.values) f.attributes)
      ++ drawing_fields k scratch.integers.items))) are.integers.same_kind
      ∙ ap (λ i. before ++ spelled (id_fields f.id ++ (tags_fields (tags_in (used_of new.keys) (used_of new.values) f.attributes)
      ++ drawing_fields (kind_of f.geometry) i))) are.integers.spelled,
)

-- the same of a feature's parts
pub fields_written : (f : Feature) (old new : LayerEntries) (before after : List ℕ) (id : Option ℕ) (tags : List ℕ) (geometry : Geometry)
    → IsUsedBy f.attributes old new → f.id ≡ id → f.geometry ≡ geometry
    → tags ≡ tags_in (used_of new.keys) (used_of new.values) f.attributes
    → after ≡ before ++ spelled (id_fields id ++ (tags_fields tags ++ drawing_fields (kind_of geometry) (drawn geometry)))
    → IsRewritten f old new before after
fields_written f old new before after id tags geometry used id_is geometry_is tags_are is = (
  used,
  is
      ∙ ap (λ i. before ++ spelled (id_fields i ++ (tags_fields tags ++ drawing_fields (kind_of geometry) (drawn geometry)))) (sym id_is)
      ∙ ap (λ g. before ++ spelled (id_fields f.id ++ (tags_fields tags ++ drawing_fields (kind_of g) (drawn g)))) (sym geometry_is)
      ∙ ap (λ t. before ++ spelled (id_fields f.id ++ (tags_fields t ++ drawing_fields (kind_of f.geometry) (drawn f.geometry)))) tags_are,
)

-- the same of a feature whose integers are copied
pub packed_written : (f : Feature) (old new : LayerEntries) (before after : List ℕ) (id : Option ℕ) (tags : List ℕ) (kind : Kind)
    (integers packed : List ℕ)
    → IsUsedBy f.attributes old new → f.id ≡ id → tags ≡ tags_in (used_of new.keys) (used_of new.values) f.attributes
    → packed ≡ short_numbers integers → Draws kind integers f.geometry
    → after ≡ before ++ spelled (id_fields id ++ (tags_fields tags ++ (type_fields kind ++ plain GEOMETRY (bytes packed) ∷ [])))
    → IsRewritten f old new before after
packed_written f old new before after id tags kind integers packed used id_is tags_are short draws is =
    fields_written f old new before after id tags f.geometry used id_is refl tags_are
    (is
    ∙ ap (λ b. before ++ spelled (id_fields id ++ (tags_fields tags ++ (type_fields kind ++ plain GEOMETRY (bytes b) ∷ [])))) short
    ∙ ap (λ k. before ++ spelled (id_fields id ++ (tags_fields tags ++ drawing_fields k integers))) draws.same_kind
    ∙ ap (λ i. before ++ spelled (id_fields id ++ (tags_fields tags ++ drawing_fields (kind_of f.geometry) i))) draws.spelled)
