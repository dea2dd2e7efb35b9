-- What bytes don't begin with, and their first field.
use Rattle.std.specs.Prelude.{◌≡◌, ◌≢◌, ℕ, List, ◌++◌, Option, MatchOption, ⊤}
use Rattle.std.specs.Borrow.{Bor}
use Rattle.mvt_wire.specs.Field.{bytes, content_of}
use Rattle.mvt_wire.specs.Spelling.{Plain, short_field}
use Rattle.mvt_message.specs.declared.item.Item.TheVariants as items
use Rattle.mvt_message.specs.declared.item.Layer.{Layer as ALayer}
use Rattle.mvt_message.specs.CanonicalItems.{canonical_item}
use Rattle.mvt_message.specs.ValidItems.{ValidItem}
use Rattle.mvt_tile_value.specs.declared.beginning.Front.{Front}
use Rattle.mvt_tile_value.specs.declared.numbers.tile.TheConstants.{LAYERS}

-- no layer of version 2 is written as this payload
abbrev pub IsNoPayload : List ℕ → Type 0
IsNoPayload d = (layer : ALayer) → ValidItem (items.Layer layer) → d ≢ canonical_item (items.Layer layer)

-- nor as a field at the front
abbrev pub BeginsNoLayer : List ℕ → Type 0
BeginsNoLayer b =
    (layer : ALayer) (more : List ℕ) → ValidItem (items.Layer layer)
    → b ≢ short_field LAYERS (bytes (canonical_item (items.Layer layer))) ++ more

-- and none follows
abbrev pub IsNoLayer : Option (Bor (List ℕ)) → Type 0
IsNoLayer left = MatchOption left ⊤ (λ rest. BeginsNoLayer rest.now)

-- the first field is this one, and these bytes stand behind it
abbrev pub HoldsField : Plain → List ℕ → Option Front → Type 0
HoldsField field more found =
    MatchOption found ⊥ (λ f. (f.number ≡ field.number) × (content_of f.payload ≡ field.content) × (f.rest.now ≡ more))

-- these bytes are there
abbrev pub IsBehind : List ℕ → Option (Bor (List ℕ)) → Type 0
IsBehind more found = MatchOption found ⊥ (λ rest. rest.now ≡ more)
