-- What the uses answer.
use Rattle.std.specs.Prelude.{◌≡◌, ℕ, List, [], ◌∷◌, length, find, Option, Some, None, MatchOption, Vec, codes}
use Rattle.std.specs.Global.{Global}
use Rattle.mvt_attrs.specs.declared.value.ValueOf.TheVariants.{Text}
use Rattle.mvt_geometry.specs.declared.shape.Point.{Point}
use Rattle.mvt_geometry.specs.declared.shape.Geometry.TheVariants.{Points}
use Rattle.mvt_message.specs.declared.item.Item.{Item}
use Rattle.mvt_message.specs.declared.item.Item.TheVariants.{Layer, Foreign}
use Rattle.mvt_tile_value.specs.declared.tile.Tile.{Tile}
use Rattle.mvt_tile.specs.Extraction.{is_named}
use Rattle.mvt_tile_value.specs.CanonicalTiles.{canonical}
use Rattle.mvt_tile_value.specs.Tiles.{IsTile}
use Rattle.mvt_tile_value.specs.ValidTiles.{Valid}

abbrev pub features_of : Option Item → Option ℕ
features_of None = None
features_of (Some (Layer layer)) = Some (length layer.features)
features_of (Some (Foreign version bytes)) = None

-- how many features the layer of a name has, if there is one
abbrev pub count_of : List ℕ → List Item → Option ℕ
count_of name items = features_of (find (is_named name) items)

-- the input is a tile that has so many
abbrev pub HasCount : ℕ → List ℕ → List ℕ → Option ℕ → Type 0
HasCount limit input name count = (tile : Tile) × IsTile limit input tile × (count ≡ count_of name tile.items)

-- one layer, in which one feature has a name and stands at a point
abbrev pub place_of : List ℕ → Point → Tile
place_of name at = record {
  items = Layer (record {
    name = codes "places";
    extent = 4096;
    features = record {
      id = None;
      attributes = record { key = codes "name"; value = Text name } ∷ [];
      geometry = Points (at ∷ []);
    } ∷ [];
  }) ∷ [];
}

-- the canonical bytes of a tile; none where it can't be written
abbrev pub AreBytesOf : Tile → Option (Vec ℕ Global) → Type 0
AreBytesOf tile found = MatchOption found (Valid tile → ⊥) (λ bytes. bytes.items ≡ canonical tile)
