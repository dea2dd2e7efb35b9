-- A feature whose tags or integers are left as they stand, and whose geometry was told (Mapbox Vector Tile Specification 2.1, 4.2).
use Rattle.std.specs.Prelude.{◌≡◌, ℕ, List}
use Rattle.mvt_attrs.specs.declared.value.Attribute.{Attribute}
use Rattle.mvt_attrs.specs.Values.{Value}
use Rattle.mvt_attrs.specs.Tags.{Resolved}
use Rattle.mvt_geometry.specs.declared.shape.Geometry.{Geometry}
use Rattle.mvt_geometry.specs.Shape.{kind_of}
use Rattle.mvt_wire.specs.Split.{split}
use Rattle.mvt_feature.specs.declared.feature_fields.FeatureFields.{FeatureFields}
use Rattle.mvt_feature.specs.declared.numbers.feature.TheConstants.{TAGS}
use Rattle.mvt_feature.specs.declared.scratch.Scratch.{Scratch}
use Rattle.mvt_feature.specs.FeatureRules.{joined}
use Rattle.mvt_feature.specs.Features.{IsFeatureOf}

-- the tags that were read last
abbrev pub tags_of : Scratch → List ℕ
tags_of scratch = scratch.tags.items

-- the integers that were read last
abbrev pub integers_of : Scratch → List ℕ
integers_of scratch = scratch.integers.items

-- a payload that is a feature with these tags, this id and this type, with the attributes that the tags name, and with a geometry
-- of which something holds
pub record IsDrawnOf (payload : List ℕ) (keys : List (List ℕ)) (values : List Value) (tags : List ℕ) (Holds : Geometry → Type 0)
    (known : FeatureFields) : Type 0 where
  pub tagged : tags ≡ joined TAGS (split payload).fields
  pub attributes : List Attribute
  pub geometry : Geometry
  pub resolved : Resolved keys values tags attributes
  pub is : IsFeatureOf payload keys values (record { id = known.id; attributes = attributes; geometry = geometry })
  pub kind : known.kind ≡ kind_of geometry
  pub holds : Holds geometry
