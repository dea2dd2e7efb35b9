-- Definitions between private functions, which no public contract cites.
use Rattle.std.specs.Prelude.{◌≡◌, ◌≢◌, ℕ, ◌==◌, true, false, List, [], Option, Some, None, Result, if◌then◌else◌}
use Rattle.std.specs.List.{last_or}
use Rattle.mvt_attrs.specs.Values.{Value}
use Rattle.mvt_attrs.specs.Tags.{Resolved}
use Rattle.mvt_geometry.specs.declared.shape.Kind.{Kind}
use Rattle.mvt_geometry.specs.Drawing.{Draws}
use Rattle.mvt_wire.specs.Field.{Content, Entry}
use Rattle.mvt_feature.specs.declared.numbers.feature.TheConstants.{ID, TAGS, TYPE, GEOMETRY}
use Rattle.mvt_feature.specs.declared.message_error.MessageError.{MessageError}
use Rattle.mvt_feature.specs.declared.feature.Feature.{Feature}
use Rattle.mvt_feature.specs.declared.feature_fields.FeatureFields.{FeatureFields}
use Rattle.mvt_feature.specs.declared.scratch.Scratch.{Scratch}
use Rattle.mvt_feature.specs.declared.value.Kinds.{Kinds}
use Rattle.mvt_feature.specs.declared.value.Kinds.TheVariants.{Nothing, One, Several}
use Rattle.mvt_feature.specs.Features.{number_of, number_in, kind_of_type, IsFeatureOf}
use Rattle.mvt_feature.specs.FeatureRules.{numbers_of, joined, kind_in, feature_field_rules}
use Rattle.mvt_feature.specs.Selection.{last_only}
use Rattle.mvt_feature.specs.Values.{Means}
use Rattle.mvt_feature.specs.Walks.{IsSoFar}
use Rattle.mvt_feature.specs.ValueRules.{kinds, are_one_kind, value_field_rules}

-- the kinds that occur in fields, and what the last field of an only kind says
abbrev pub AreKindsOf : List Entry → Kinds → Type 0
AreKindsOf fields Nothing = fields ≡ []
AreKindsOf fields (One number meaning) =
    (are_one_kind fields ≡ true)
    × ((x : Entry) × ((last_or None fields ≡ Some x) × ((x.number ≡ number) × Means number x.content meaning)))
AreKindsOf fields Several = (fields ≢ []) × (are_one_kind fields ≡ false)

-- the fields of a value's payload that have one of its kinds
abbrev pub AreKinds : List Entry → Kinds → Type 0
AreKinds fields k = AreKindsOf (kinds fields) k

-- the kinds with one more field
abbrev pub kinds_with : Kinds → ℕ → Value → Kinds
kinds_with Nothing number meaning = One number meaning
kinds_with (One first_number old) number meaning = if first_number == number then One number meaning else Several
kinds_with Several number meaning = Several

-- the same of the fields so far, or their first fault
abbrev pub AreSoFar : ℕ → List Entry → Result Kinds MessageError → Type 0
AreSoFar payload_at done k = IsSoFar (value_field_rules payload_at) AreKinds done k

-- what one more field of a feature changes
abbrev pub id_after : Option ℕ → ℕ → Content → Option ℕ
id_after old number content = if number == ID then number_of content else old

-- the last field of a type counts
abbrev pub kind_after : Kind → ℕ → Content → Kind
kind_after old number content = if number == TYPE then kind_of_type (number_of content) else old

-- the numbers of a field, if it has this number
abbrev pub numbers_at : ℕ → ℕ → Content → List ℕ
numbers_at k number content = if number == k then numbers_of content else []

-- what is known of a feature by these fields
pub record AreFeatureFields (fields : List Entry) (known : FeatureFields) (tags integers : List ℕ) : Type 0 where
  pub id : known.id ≡ number_in (last_only ID fields)
  pub kind : known.kind ≡ kind_in fields
  pub tags_are : tags ≡ joined TAGS fields
  pub integers_are : integers ≡ joined GEOMETRY fields

-- what is known by the fields so far, or their first fault
abbrev pub AreFeatureFieldsSoFar : ℕ → List Entry → Result FeatureFields MessageError → List ℕ → List ℕ → Type 0
AreFeatureFieldsSoFar payload_at done known tags integers =
    IsSoFar (feature_field_rules payload_at) (λ fields k. AreFeatureFields fields k tags integers) done known

-- the tags and the integers in a scratch, with what is known besides, are those of this feature
pub record AreOf (keys : List (List ℕ)) (values : List Value) (known : FeatureFields) (scratch : Scratch) (f : Feature) : Type 0 where
  pub id : f.id ≡ known.id
  pub tags : Resolved keys values scratch.tags.items f.attributes
  pub integers : Draws known.kind scratch.integers.items f.geometry

abbrev pub IsJudged : List ℕ → List (List ℕ) → List Value → FeatureFields → Scratch → Type 0
IsJudged payload keys values known scratch = (f : Feature) × IsFeatureOf payload keys values f × AreOf keys values known scratch f
