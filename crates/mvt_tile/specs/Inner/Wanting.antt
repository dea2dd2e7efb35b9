-- The items of a tile that are rewritten.
use Rattle.std.specs.Prelude.{◌≡◌, ℕ, Bool, true, List, filter, bytes_eq, Option, Some, None}
use Rattle.std.specs.List.{list_any}
use Rattle.std.specs.BTreeSet.{BTreeSet, keys}
use Rattle.std.specs.Option.{option_map}
use Rattle.mvt_message.specs.declared.item.Item.{Item}
use Rattle.mvt_message.specs.Items.{names_in}
use Rattle.mvt_tile_value.specs.Encoding.{AreEncoded}
use Rattle.mvt_tile.specs.declared.rewriting.Rewriter.{Rewriter}
use Rattle.mvt_tile.specs.TileRules.{repeats}

-- the names that are wanted, if only some are
abbrev pub names_of : Option (BTreeSet (List ℕ)) → Option (List (List ℕ))
names_of wanted = option_map keys wanted

-- all items, or the layers whose names are among these
abbrev pub is_in : Option (List (List ℕ)) → Item → Bool
is_in None item = true
is_in (Some names) item = repeats names (names_in item)

-- every item is wanted
abbrev pub all_items : Item → Bool
all_items item = true

-- a set holds just these names
abbrev pub IsSetOf : List (List ℕ) → List (List ℕ) → Type 0
IsSetOf keys names = (n : List ℕ) → list_any (bytes_eq n) keys ≡ list_any (bytes_eq n) names

-- of these items the wanted ones are encoded
pub record HasRewritten (limit : ℕ) (wanted : Item → Bool) (r : Rewriter) (items : List Item) : Type 0 where
  pub encoded : AreEncoded limit (filter wanted items) r.out
  pub wants : (item : Item) → is_in (names_of r.wanted) item ≡ wanted item
