-- Payloads that are canonical as they stand, in a layer whose keys and values are used in order (Mapbox Vector Tile Specification
-- 2.1, 4.4).
use Rattle.std.specs.Prelude.{◌≡◌, ℕ, ◌≤◌, List, [], ◌∷◌, ◌++◌, length, IsUtf8}
use Rattle.std.specs.List.{AllByRecursion}
use Rattle.mvt_attrs.specs.Values.{Value}
use Rattle.mvt_attrs.specs.FirstUse.{AreDistinct}
use Rattle.mvt_attrs.specs.FirstUses.{AreFirstUses}
use Rattle.mvt_attrs.specs.TagPlaces.{tags_in}
use Rattle.mvt_geometry.specs.declared.shape.Geometry.{Geometry}
use Rattle.mvt_geometry.specs.Shape.{kind_of}
use Rattle.mvt_wire.specs.Field.{bytes}
use Rattle.mvt_wire.specs.Spelling.{Plain, spelled}
use Rattle.mvt_feature.specs.declared.canonical_feature.CanonicalFeature.{CanonicalFeature}
use Rattle.mvt_feature.specs.declared.canonical_feature.Parts.{Parts}
use Rattle.mvt_feature.specs.declared.feature.Feature.{Feature}
use Rattle.mvt_feature.specs.declared.numbers.feature.TheConstants.{TAGS, GEOMETRY}
use Rattle.mvt_feature.specs.Canonical.{plain, value_fields, id_fields, type_fields, feature_fields}
use Rattle.mvt_feature.specs.Valid.{ValidValue, ValidFeature}

-- the canonical payload of a value
abbrev pub IsCanonicalValue : List ℕ → Value → Type 0
IsCanonicalValue payload value = ValidValue value × (payload ≡ spelled (value_fields value))

-- keys and values as a layer has them that is canonical, of which so many are used
pub record AreReady (keys : List (List ℕ)) (values : List Value) (used : ℕ × ℕ) : Type 0 where
  pub keys_apart : AreDistinct keys
  pub values_apart : AreDistinct values
  pub texts : AllByRecursion IsUtf8 keys
  pub valid : AllByRecursion ValidValue values
  pub keys_within : used.0 ≤ length keys
  pub values_within : used.1 ≤ length values

-- the canonical payload of a feature that uses them in order
pub record IsCanonicalFeature (payload : List ℕ) (keys : List (List ℕ)) (values : List Value) (used after : ℕ × ℕ) (f : Feature) : Type 0
  where
    pub valid : ValidFeature f
    pub uses : AreFirstUses keys values f.attributes used.0 used.1 after
    pub spelled_as : payload ≡ spelled (feature_fields (tags_in keys values f.attributes) f)

-- this is known of it, and something holds of its geometry
abbrev pub IsCanonicalAfter : List ℕ → List (List ℕ) → List Value → ℕ × ℕ → (Geometry → Type 0) → CanonicalFeature → Type 0
IsCanonicalAfter payload keys values used Holds known =
    AreReady keys values used
    → (f : Feature) × IsCanonicalFeature payload keys values used known.used f × (f.id ≡ known.fields.id)
    × (known.fields.kind ≡ kind_of f.geometry) × Holds f.geometry

-- tags that are packed in these bytes
abbrev pub packed_tags : List ℕ → List Plain
packed_tags [] = []
packed_tags (b ∷ bs) = plain TAGS (bytes (b ∷ bs)) ∷ []

-- the fields of a feature's parts
abbrev pub parts_fields : Parts → List Plain
parts_fields p =
    id_fields p.id ++ (packed_tags p.tags.now ++ (type_fields p.kind ++ plain GEOMETRY (bytes p.integers.now) ∷ []))
