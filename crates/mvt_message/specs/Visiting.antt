-- What the walk over an item tells its visitor and its caller.
use Rattle.std.specs.Prelude.{◌≡◌, ℕ, List}
use Rattle.mvt_attrs.specs.Values.{Value}
use Rattle.mvt_wire.specs.Field.{Entry}
use Rattle.mvt_wire.specs.Split.{split}
use Rattle.mvt_feature.specs.declared.feature.Feature.{Feature}
use Rattle.mvt_message.specs.declared.item.Item.{Item as AnItem}
use Rattle.mvt_message.specs.declared.item.Item.TheVariants as items
use Rattle.mvt_message.specs.declared.item.Layer.{Layer as ALayer}
use Rattle.mvt_message.specs.declared.visiting.Visited.{Visited}
use Rattle.mvt_message.specs.declared.visiting.Visited.TheVariants.{Layer, Foreign}
use Rattle.mvt_message.specs.LayerFields.{keys_in, payloads_in, values_in}

-- what a visitor has of a layer's features, by the layer's keys and values, and by the payloads of the features
abbrev pub OfFeatures : Type 0 → Type 1
OfFeatures V = List (List ℕ) → List Value → V → List (List ℕ) → List Feature → Type 0

-- the visitor has the features of this layer, whose fields these are, and its name and extent are told
abbrev pub HasLayer : {V : Type 0} → OfFeatures V → List Entry → V → Visited → ALayer → Type 0
HasLayer HasFeatures fields visitor (Layer name extent) layer =
    (name.now ≡ layer.name) × (extent ≡ layer.extent)
    × HasFeatures (keys_in fields) (values_in fields) visitor (payloads_in fields) layer.features
HasLayer HasFeatures fields visitor (Foreign version) layer = ⊥

-- what was visited is this item of a payload; of a foreign one the visitor has nothing
abbrev pub IsVisited : {V : Type 0} → (V → Type 0) → OfFeatures V → List ℕ → V → Visited → AnItem → Type 0
IsVisited HasGiven HasFeatures payload visitor visited (items.Layer layer) =
    HasLayer HasFeatures (split payload).fields visitor visited layer
IsVisited HasGiven HasFeatures payload visitor (Layer name extent) (items.Foreign number content) = ⊥
IsVisited HasGiven HasFeatures payload visitor (Foreign version) (items.Foreign number content) =
    (version ≡ number) × HasGiven visitor
