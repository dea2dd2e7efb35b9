-- What a survey says of a tile.
use Rattle.std.specs.Prelude.{ℕ, Bool, length}
use Rattle.std.specs.List.{sum_by}
use Rattle.mvt_message.specs.declared.item.Item.{Item}
use Rattle.mvt_message.specs.declared.item.Item.TheVariants as item
use Rattle.mvt_tile_value.specs.declared.survey.Survey.{Survey}
use Rattle.mvt_tile_value.specs.declared.tile.Tile.{Tile}
use Rattle.mvt_tile_value.specs.Notes.{notes_of}

-- the features of a layer of version 2; of other layers none are known
abbrev pub feature_count : Item → ℕ
feature_count (item.Layer layer) = length layer.features
feature_count (item.Foreign version bytes) = 0

-- how many layers and features, whether its bytes were canonical, and what is noted
abbrev pub survey_of : Tile → Bool → Survey
survey_of tile canonical = record {
  layers = length tile.items;
  features = sum_by feature_count tile.items;
  is_canonical = canonical;
  notes = notes_of tile;
}
