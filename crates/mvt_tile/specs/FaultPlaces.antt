-- Where the first fault of a tile's bytes stands: in a layer, and in a feature, that are there.
use Rattle.std.specs.Prelude.{◌≡◌, ℕ, true, List, ◌∷◌, ◌++◌, length, Some}
use Rattle.std.specs.List.{AllByRecursion}
use Rattle.mvt_wire.specs.Field.{bytes, Entry}
use Rattle.mvt_feature.specs.Faults.{MessageFault}
use Rattle.mvt_message.specs.ItemRules.{item_fault}
use Rattle.mvt_tile_value.specs.declared.numbers.tile.TheConstants.{LAYERS}
use Rattle.mvt_tile_value.specs.Tiles.{layers_of}
use Rattle.mvt_tile.specs.declared.fault.Fault.{Fault}
use Rattle.mvt_tile.specs.TileRules.{is_bytes}

-- a fault of the feature of this index is the first fault of this layer's payload
abbrev pub IsInside : List ℕ → Entry → Fault → ℕ → Type 0
IsInside content x fault j =
    (inner : MessageFault) × (item_fault content x.body x.at ≡ Some inner) × (inner.feature ≡ Some j)

-- the field of the layer of this index, behind as many layers, each of which holds bytes
pub record StandsIn (fields : List Entry) (n : ℕ) (fault : Fault) : Type 0 where
  pub front : List Entry
  pub x : Entry
  pub back : List Entry
  pub of_fields : fields ≡ front ++ x ∷ back
  pub index : length (layers_of front) ≡ n
  pub forms : AllByRecursion (λ (e : Entry). is_bytes e.content ≡ true) (layers_of front)
  pub is_layer : x.number ≡ LAYERS
  pub content : List ℕ
  pub holds : x.content ≡ bytes content
  pub inside : (j : ℕ) → fault.feature ≡ Some j → IsInside content x fault j
