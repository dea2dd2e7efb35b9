-- Features whose fields stand in any order, each once, and each as it is to be written (Mapbox Vector Tile Specification 2.1, 4.1).
use Rattle.std.specs.Prelude.{◌≡◌, ℕ, ◌^◌, ◌<◌, List, [], ◌∷◌, ◌++◌, drop, IfSome}
use Rattle.std.specs.List.{AllByRecursion}
use Rattle.mvt_attrs.specs.Values.{Value}
use Rattle.mvt_attrs.specs.FirstUses.{AreFirstUses}
use Rattle.mvt_attrs.specs.TagPlaces.{tags_in}
use Rattle.mvt_attrs.specs.Tags.{Names}
use Rattle.mvt_geometry.specs.declared.shape.Geometry.{Geometry}
use Rattle.mvt_geometry.specs.declared.shape.Kind.{Kind}
use Rattle.mvt_geometry.specs.declared.shape.Kind.TheVariants as kinds
use Rattle.mvt_geometry.specs.Shape.{kind_of}
use Rattle.mvt_wire.specs.Field.{bytes}
use Rattle.mvt_wire.specs.Spelling.{Plain, IsFit, spelled}
use Rattle.mvt_feature.specs.declared.canonical_feature.CanonicalFeature.{CanonicalFeature}
use Rattle.mvt_feature.specs.declared.canonical_feature.Parts.{Parts}
use Rattle.mvt_feature.specs.declared.feature.Feature.{Feature}
use Rattle.mvt_feature.specs.declared.numbers.feature.TheConstants.{GEOMETRY}
use Rattle.mvt_feature.specs.Canonical.{plain, id_fields, type_fields, feature_fields}
use Rattle.mvt_feature.specs.Copying.{AreReady, packed_tags, parts_fields}
use Rattle.mvt_feature.specs.Selection.{AreAlike}
use Rattle.mvt_feature.specs.Valid.{ValidFeature}

-- a type that was met
abbrev pub met_type : Kind → List Plain
met_type kinds.Unknown = []
met_type kinds.Point = type_fields kinds.Point
met_type kinds.LineString = type_fields kinds.LineString
met_type kinds.Polygon = type_fields kinds.Polygon

-- integers that are packed in these bytes
abbrev pub met_integers : List ℕ → List Plain
met_integers [] = []
met_integers (b ∷ bs) = plain GEOMETRY (bytes (b ∷ bs)) ∷ []

-- the fields that were met, in the canonical order
abbrev pub met_fields : Parts → List Plain
met_fields p = id_fields p.id ++ (packed_tags p.tags.now ++ (met_type p.kind ++ met_integers p.integers.now))

-- what was met of a payload up to a place
pub record AreMet (payload : List ℕ) (at : ℕ) (p : Parts) : Type 0 where
  pub fields : List Plain
  pub fit : AllByRecursion IsFit fields
  pub stand : payload ≡ spelled fields ++ drop at payload
  pub alike : AreAlike fields (met_fields p)
  pub id : IfSome p.id (λ n. n < 2 ^ 64)

-- a payload of these parts
pub record IsInAnyOrder (payload : List ℕ) (p : Parts) : Type 0 where
  pub fields : List Plain
  pub fit : AllByRecursion IsFit fields
  pub is : payload ≡ spelled fields
  pub alike : AreAlike fields (parts_fields p)

-- the feature of these parts, which uses keys and values in order
pub record IsOfParts (p : Parts) (keys : List (List ℕ)) (values : List Value) (used after : ℕ × ℕ) (f : Feature) : Type 0 where
  pub valid : ValidFeature f
  pub uses : AreFirstUses keys values f.attributes used.0 used.1 after
  pub fields : parts_fields p ≡ feature_fields (tags_in keys values f.attributes) f
  pub named : Names keys values (tags_in keys values f.attributes) f.attributes
  pub small : AllByRecursion (λ tag. tag < 2 ^ 32) (tags_in keys values f.attributes)

-- this is known of it, and something holds of its geometry
abbrev pub IsOfPartsAfter : Parts → List (List ℕ) → List Value → ℕ × ℕ → (Geometry → Type 0) → CanonicalFeature → Type 0
IsOfPartsAfter p keys values used Holds known =
    AreReady keys values used
    → (f : Feature) × IsOfParts p keys values used known.used f × (f.id ≡ known.fields.id) × (known.fields.kind ≡ kind_of f.geometry)
    × Holds f.geometry
