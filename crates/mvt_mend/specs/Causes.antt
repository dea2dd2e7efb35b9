-- Why a tile isn't mended, in terms of its layers and features (Mapbox Vector Tile Specification
-- 2.1, 4.1 and 4.3.4).
use Rattle.std.specs.Prelude.{◌≡◌, ℕ, true, List, slice_get, Some, Err}
use Rattle.mvt_wire.specs.Field.{bytes}
use Rattle.mvt_feature.specs.Selection.{contents_at}
use Rattle.mvt_geometry.specs.declared.shape.Point.{Point}
use Rattle.mvt_rings.specs.declared.holding.Crossing.{Crossing}
use Rattle.mvt_geometry.specs.declared.shape.Kind.TheVariants as kinds
use Rattle.mvt_wire.specs.Split.{split}
use Rattle.mvt_feature.specs.FeatureRules.{kind_in}
use Rattle.mvt_mend.specs.Reading.{parts_in}
use Rattle.mvt_rings.specs.Mending.{mended_rings}
use Rattle.mvt_rings.specs.Crossings.{CrossingHolds}
use Rattle.mvt_rings.specs.Rings.{rings_from}
use Rattle.mvt_mend.specs.Features.{integers_of}
use Rattle.mvt_message.specs.declared.numbers.layer.TheConstants.{FEATURES}
use Rattle.mvt_tile_value.specs.declared.numbers.tile.TheConstants.{LAYERS}
use Rattle.mvt_mend.specs.Tiles.{is_layer}
use Rattle.mvt_mend.specs.Stays.{fields_of}

-- among the fields of a number the one of this index holds these bytes
abbrev pub HoldsAt : ℕ → List ℕ → ℕ → List ℕ → Type 0
HoldsAt number b n payload = slice_get (contents_at number (fields_of b)) n ≡ Some (bytes payload)

-- two rings of a polygon cross
pub record RingsOfCross (payload : List ℕ) (c : Crossing) : Type 0 where
  pub kind : kind_in (split payload).fields ≡ kinds.Polygon
  pub integers : List ℕ
  pub read : integers_of payload ≡ Some integers
  pub rings : List (List Point)
  pub spelled : parts_in true integers ≡ Some rings
  pub crosses : mended_rings rings ≡ Err c
  pub why : CrossingHolds (rings_from 0 rings) c

-- the feature of an index of the layer of another holds this payload
pub record IsFeatureAt (input : List ℕ) (layer feature : ℕ) (payload : List ℕ) : Type 0 where
  pub layer_payload : List ℕ
  pub layer_there : HoldsAt LAYERS input layer layer_payload
  pub is_one : is_layer layer_payload ≡ true
  pub feature_there : HoldsAt FEATURES layer_payload feature payload
