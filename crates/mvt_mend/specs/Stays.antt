-- What stays of a tile that is mended (Mapbox Vector Tile Specification 2.1, 4.1 and 4.2).
use Rattle.std.specs.Prelude.{◌≡◌, ◌==◌, ℕ, not, List, filter, map}
use Rattle.mvt_wire.specs.Spelling.{Plain, plain_of}
use Rattle.mvt_wire.specs.Split.{split}
use Rattle.mvt_feature.specs.declared.numbers.feature.TheConstants.{ID, TAGS, GEOMETRY}
use Rattle.mvt_feature.specs.Features.{number_in}
use Rattle.mvt_feature.specs.FeatureRules.{joined, kind_in}
use Rattle.mvt_feature.specs.Selection.{last_only}
use Rattle.mvt_message.specs.declared.numbers.layer.TheConstants.{FEATURES}
use Rattle.mvt_message.specs.LayerFields.{version_in, name_in, extent_in, keys_in, values_in}

-- the fields of bytes, in their order
abbrev pub fields_of : List ℕ → List Plain
fields_of b = map plain_of (split b).fields

-- fields but for those of a number, in their order
abbrev pub besides : ℕ → List Plain → List Plain
besides number fields = filter (λ f. not (f.number == number)) fields

-- bytes have the fields of others but for those of a number, and what stands behind all fields
pub record AreBut (number : ℕ) (old new : List ℕ) : Type 0 where
  pub fields : besides number (fields_of new) ≡ besides number (fields_of old)
  pub rest : (split new).rest ≡ (split old).rest

-- 4.2: one feature is another but for its geometry
pub record IsFeatureBut (old new : List ℕ) : Type 0 where
  pub id : number_in (last_only ID (split new).fields) ≡ number_in (last_only ID (split old).fields)
  pub tags : joined TAGS (split new).fields ≡ joined TAGS (split old).fields
  pub kind : kind_in (split new).fields ≡ kind_in (split old).fields
  pub others : AreBut GEOMETRY old new

-- 4.1: one layer is another but for its features
pub record IsLayerBut (old new : List ℕ) : Type 0 where
  pub version : version_in (split new).fields ≡ version_in (split old).fields
  pub name : name_in (split new).fields ≡ name_in (split old).fields
  pub extent : extent_in (split new).fields ≡ extent_in (split old).fields
  pub keys : keys_in (split new).fields ≡ keys_in (split old).fields
  pub values : values_in (split new).fields ≡ values_in (split old).fields
  pub others : AreBut FEATURES old new
