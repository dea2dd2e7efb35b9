-- The tile that a builder was told: the same layers and features, where the texts are UTF-8, the values are in their range, the
-- tags name entries and the parts are a geometry.
use Rattle.std.specs.Prelude.{◌≡◌, ◌≢◌, ◌==◌, ℕ, List, [], ◌∷◌, map, Option, Some, None, option_map, if◌then◌else◌}
use Rattle.mvt_base.specs.Related.{AreRelated}
use Rattle.mvt_attrs.specs.Values.{Value}
use Rattle.mvt_attrs.specs.declared.value.ValueOf.TheVariants.{Text}
use Rattle.mvt_attrs.specs.Tags.{Resolved}
use Rattle.mvt_geometry.specs.declared.shape.Point.{Point}
use Rattle.mvt_geometry.specs.declared.shape.Polygon.{Polygon}
use Rattle.mvt_geometry.specs.declared.shape.Geometry.{Geometry}
use Rattle.mvt_geometry.specs.declared.shape.Geometry.TheVariants.{Unknown, Points, Lines, Polygons}
use Rattle.mvt_feature.specs.declared.feature.Feature.{Feature as AFeature}
use Rattle.mvt_message.specs.declared.item.Item.{Item}
use Rattle.mvt_message.specs.declared.item.Item.TheVariants as items
use Rattle.mvt_message.specs.declared.item.Layer.{Layer as ALayer}
use Rattle.mvt_tile_value.specs.declared.tile.Tile.{Tile}
use Rattle.mvt_rows.specs.declared.words.Given.{Given}
use Rattle.mvt_rows.specs.TileRows.{number_of, point_of, steps, utf8_of, with_ring}
use Rattle.mvt_rows.specs.Told.{ToldItem, ToldLayer, ToldFeature, ToldPart, Layer, Foreign}

-- a text, and a value in its range
abbrev pub IsText : List ℕ → List ℕ → Type 0
IsText told text = utf8_of told ≡ Some text

abbrev pub given_value : Given → Option Value
given_value v = if v.kind == 1 then option_map Text (utf8_of v.text) else number_of v.kind v.bits

abbrev pub IsGiven : Given → Value → Type 0
IsGiven told value = given_value told ≡ Some value

-- what the parts of a feature draw, by its kind (4.3.4)
abbrev pub line_of : ToldPart → List Point
line_of p = map point_of p.points

abbrev pub points_told : List ToldPart → Option Geometry
points_told [] = None
points_told (p ∷ []) = Some (Points (line_of p))
points_told (p ∷ (q ∷ parts)) = None

abbrev pub with_ring_told : List Polygon → ToldPart → Option (List Polygon)
with_ring_told polygons p = with_ring polygons p.exterior (line_of p)

abbrev pub drawn_told : ℕ → List ToldPart → Option Geometry
drawn_told kind parts =
    if kind == 1 then points_told parts
    else (if kind == 2 then Some (Lines (map line_of parts))
    else (if kind == 3 then option_map Polygons (steps with_ring_told [] parts)
    else None))

abbrev pub geometry_told : ToldFeature → Option Geometry
geometry_told told = if told.kind == 0 then Some (Unknown told.integers) else drawn_told told.kind told.parts

-- a feature of a layer with these keys and values
pub record IsToldFeature (keys : List (List ℕ)) (values : List Value) (told : ToldFeature) (f : AFeature) : Type 0 where
  pub id : told.id ≡ f.id
  pub attributes : Resolved keys values told.tags f.attributes
  pub geometry : geometry_told told ≡ Some f.geometry

pub record IsToldLayer (told : ToldLayer) (layer : ALayer) : Type 0 where
  pub name : IsText told.name layer.name
  pub extent : layer.extent ≡ told.extent
  pub keys : List (List ℕ)
  pub keys_are : AreRelated IsText told.keys keys
  pub values : List Value
  pub values_are : AreRelated IsGiven told.values values
  pub features : AreRelated (IsToldFeature keys values) told.features layer.features

abbrev pub IsToldItem : ToldItem → Item → Type 0
IsToldItem (Layer told) (items.Layer layer) = IsToldLayer told layer
IsToldItem (Layer told) (items.Foreign version content) = ⊥
IsToldItem (Foreign version content) (items.Layer layer) = ⊥
IsToldItem (Foreign version content) (items.Foreign number bytes) = (version ≢ 2) × (number ≡ version) × (bytes ≡ content)

-- the tile of items that were told
abbrev pub IsToldTile : List ToldItem → Tile → Type 0
IsToldTile told tile = AreRelated IsToldItem told tile.items
