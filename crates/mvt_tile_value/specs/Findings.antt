-- What a survey knows of the items so far.
use Rattle.std.specs.Prelude.{◌≡◌, ℕ, ◌*◌, ◌≤◌, List, length, map}
use Rattle.std.specs.List.{sum_by}
use Rattle.mvt_feature.specs.declared.feature.Feature.{Feature}
use Rattle.mvt_geometry.specs.declared.shape.Point.{Point}
use Rattle.mvt_geometry.specs.Visiting.{Part}
use Rattle.mvt_wire.specs.Spelling.{spelled}
use Rattle.mvt_message.specs.declared.item.Item.{Item}
use Rattle.mvt_message.specs.declared.item.Item.TheVariants as items
use Rattle.mvt_message.specs.declared.item.Layer.{Layer as ALayer}
use Rattle.mvt_message.specs.CanonicalItems.{canonical_item}
use Rattle.mvt_message.specs.Items.{IsItem}
use Rattle.mvt_message.specs.ValidItems.{ValidItem}
use Rattle.mvt_tile_value.specs.declared.survey_builder.SurveyBuilder.{SurveyBuilder}
use Rattle.mvt_tile_value.specs.declared.layer_noting.LayerNotes.{LayerNotes}
use Rattle.mvt_tile_value.specs.CanonicalTiles.{item_field}
use Rattle.mvt_tile_value.specs.Comparing.{IsAfter}
use Rattle.mvt_tile_value.specs.FirstIds.{AreFirst}
use Rattle.mvt_tile_value.specs.Notes.{numbered, item_notes, feature_notes, first_of}
use Rattle.mvt_tile_value.specs.Rings.{HasBegun, HaveNoted}
use Rattle.mvt_tile_value.specs.Survey.{feature_count}

-- the notes of a layer's features so far
pub record AreNoted (layer : ℕ) (noted : LayerNotes) (features : List Feature) : Type 0 where
  pub layer_is : noted.layer ≡ layer
  pub count_is : noted.count ≡ length features
  pub ids_are : AreFirst noted.ids (λ q. first_of q features)
  pub notes_are : noted.notes.items ≡ numbered (feature_notes layer features) 0 features

-- and nothing of the one that follows
abbrev pub AreNotedSoFar : ℕ → LayerNotes → List Feature → Type 0
AreNotedSoFar layer noted features = AreNoted layer noted features × HasBegun layer (length features) noted.rings

-- nothing but the rings of the next feature was noted
pub record IsSameButRings (start now : LayerNotes) : Type 0 where
  pub layer_is : now.layer ≡ start.layer
  pub count_is : now.count ≡ start.count
  pub ids_are : now.ids ≡ start.ids
  pub notes_are : now.notes.items ≡ start.notes.items

-- and of these parts of its geometry
abbrev pub HaveNotedLayerParts : LayerNotes → List Part → List Point → LayerNotes → Type 0
HaveNotedLayerParts start parts begun now = IsSameButRings start now × HaveNoted start.rings parts now.rings

-- the canonical payload of a layer of this name, the notes of whose features are these
abbrev pub IsNotedLayer : ℕ → List ℕ → List ℕ → LayerNotes → Type 0
IsNotedLayer index payload name noted =
    (layer : ALayer) × IsItem payload (items.Layer layer) × ValidItem (items.Layer layer) × (name ≡ layer.name)
    × (canonical_item (items.Layer layer) ≡ payload) × AreNotedSoFar index noted layer.features

-- this was found of the items at the front of an input
pub record AreFound (limit : ℕ) (input : List ℕ) (found : SurveyBuilder) (items : List Item) : Type 0 where
  pub small : length input ≤ limit
  pub features : found.features ≡ sum_by feature_count items
  pub few : found.features ≤ length items * 18446744073709551615
  pub left : IsAfter input (spelled (map item_field items)) found.left
  pub notes : found.notes.items ≡ numbered item_notes 0 items
