-- In a tile the first layer of a name is the one that has it.
use Rattle.std.proofs.Common.{◌≡◌, ℕ, ◌+◌, ◌==◌, Bool, true, false, ◌||◌, List, [], ◌∷◌, bytes_eq, Option, Some, None, refl, sym, ap, subst, ◌∙◌, if◌then◌else◌}
use Rattle.std.specs.Prelude.{◌&&◌}
use Rattle.std.specs.List.{AllByRecursion, IsDistinct, list_any, flat_map}
use Rattle.std.proofs.lemmas.Bool.{cond-true, cond-false, false≢true}
use Rattle.std.proofs.lemmas.Map.Keys.{IsDistinct-head, IsDistinct-tail}
use Rattle.std.proofs.lemmas.Map.Made.{IsDistinct-from_AllPairs}
use Rattle.std.proofs.lemmas.Option.{none-some, same_Some}
use Rattle.std.proofs.lemmas.Slice.Eq.{bytes_eq-Decides}
use Rattle.mvt_base.specs.declared.TheConstants.{LIMIT}
use Rattle.mvt_base.specs.Related.{AreRelated}
use Rattle.mvt_wire.specs.Field.{Entry}
use Rattle.mvt_wire.specs.Split.{split}
use Rattle.mvt_wire.proofs.WireLaws.{split_function_only}
use Rattle.mvt_message.specs.declared.item.Item.{Item as AnItem}
use Rattle.mvt_message.specs.declared.item.Item.TheVariants.{Layer, Foreign}
use Rattle.mvt_message.specs.Items.{IsItem, names_in}
use Rattle.mvt_message.specs.ItemRules.{payload_names}
use Rattle.mvt_message.proofs.MessageLaws.{item_names, one_item}
use Rattle.mvt_tile_value.specs.declared.numbers.tile.TheConstants.{LAYERS}
use Rattle.mvt_tile_value.specs.declared.tile.Tile.{Tile}
use Rattle.mvt_tile_value.specs.Tiles.{layers_of, HoldsItem, IsTile}
use Rattle.mvt_tile.specs.NamedLayer.{first_in, first_of, is_layer_of, named_in, IsFirst}
use Rattle.mvt_tile.specs.TileRules.{bytes_in, payload_of}
use Rattle.mvt_tile.proofs.LayerLemmas.{layers_of-layer, layers_of-other}
use Rattle.mvt_tile.proofs.NameLemmas.{or_right_false}

-- what is found where a test fails
else_none : {X : Type 0} → (b : Bool) (x : X) (o : Option X) → (if b then Some x else o) ≡ None → (b ≡ false) × (o ≡ None)
else_none true x o h = absurd (none-some x (sym h))
else_none false x o h = (refl, h)

else_found : {X : Type 0} → (b : Bool) (x : X) (o : Option X) (y : X) → b ≡ false → (if b then Some x else o) ≡ Some y → o ≡ Some y
else_found true x o y lacks h = absurd (false≢true (sym lacks))
else_found false x o y lacks h = h

module _ (name : List ℕ) where
  abbrev has : AnItem → Bool
  has item = list_any (bytes_eq name) (names_in item)

  -- whether a layer's field is found is whether its item has the name
  found_is : (x : Entry) (item : AnItem) → (x.number == LAYERS) ≡ true → HoldsItem x item → is_layer_of name x ≡ has item
  found_is x item layer (d, holds, is) =
      ap (λ b. b && list_any (bytes_eq name) (payload_names (payload_of x))) layer
      ∙ ap (λ c. list_any (bytes_eq name) (payload_names (bytes_in c))) holds ∙ ap (list_any (bytes_eq name)) (sym (item_names d item is))

  other_is : (x : Entry) → (x.number == LAYERS) ≡ false → is_layer_of name x ≡ false
  other_is x other = ap (λ b. b && list_any (bytes_eq name) (payload_names (payload_of x))) other

  skipped : (item : AnItem) (items : List AnItem) → has item ≡ false → named_in name (item ∷ items) ≡ named_in name items
  skipped item items lacks = cond-false (has item) (item ∷ named_in name items) (named_in name items) lacks

  -- no field of the name, and no item
  module _ (x : Entry) (xs : List Entry)
      (next : (items : List AnItem) (m : ℕ) → AreRelated HoldsItem (layers_of xs) items → first_of name m xs ≡ None
      → named_in name items ≡ []) where
    none_layer : (items : List AnItem) (m : ℕ) → (x.number == LAYERS) ≡ true → AreRelated HoldsItem (x ∷ layers_of xs) items
        → is_layer_of name x ≡ false → first_of name m xs ≡ None → named_in name items ≡ []
    none_layer [] m layer related lacks none = absurd related
    none_layer (item ∷ items) m layer related lacks none =
        skipped item items (sym (found_is x item layer related.0) ∙ lacks) ∙ next items m related.1 none

    none_by : (items : List AnItem) (m : ℕ) (b : Bool) → (x.number == LAYERS) ≡ b → AreRelated HoldsItem (layers_of (x ∷ xs)) items
        → is_layer_of name x ≡ false → first_of name m xs ≡ None → named_in name items ≡ []
    none_by items m true layer related lacks none =
        none_layer items m layer (subst (λ ys. AreRelated HoldsItem ys items) (layers_of-layer x xs layer) related) lacks none
    none_by items m false other related lacks none =
        next items m (subst (λ ys. AreRelated HoldsItem ys items) (layers_of-other x xs other) related) none

  none_among : (fields : List Entry) (items : List AnItem) (n : ℕ) → AreRelated HoldsItem (layers_of fields) items
      → first_of name n fields ≡ None → named_in name items ≡ []
  none_among [] [] n related none = refl
  none_among [] (item ∷ items) n related none = absurd related
  none_among (x ∷ xs) items n related none =
      let m = if x.number == LAYERS then n + 1 else n in
      let left = else_none (is_layer_of name x) (n, x) (first_of name m xs) none in
      none_by x xs (λ more k r h. none_among xs more k r h) items m (x.number == LAYERS) refl related left.0 left.1

  -- behind the layer of a name no other has it
  none_after : (n : List ℕ) (items : List AnItem) → name ≡ n → AllByRecursion (λ y. bytes_eq n y ≡ false) (flat_map names_in items)
      → named_in name items ≡ []
  none_after n [] same apart = refl
  none_after n (Layer l ∷ items) same apart =
      skipped (Layer l) items (or_right_false (bytes_eq name l.name) ∙ ap (λ a. bytes_eq a l.name) same ∙ apart.0)
      ∙ none_after n items same apart.1
  none_after n (Foreign version content ∷ items) same apart = none_after n items same apart

  here : (i item : AnItem) (items : List AnItem) → has i ≡ true → i ≡ item → IsDistinct bytes_eq (flat_map names_in (i ∷ items))
      → named_in name (i ∷ items) ≡ item ∷ []
  here (Layer l) item items shows same apart =
      let equal = (bytes_eq-Decides name l.name).0 (sym (or_right_false (bytes_eq name l.name)) ∙ shows) in
      cond-true (has (Layer l)) (Layer l ∷ named_in name items) (named_in name items) shows
      ∙ ap (λ rest. Layer l ∷ rest) (none_after l.name items equal (IsDistinct-head bytes_eq l.name (flat_map names_in items) apart))
      ∙ ap (λ j. j ∷ []) same
  here (Foreign version content) item items shows same apart = absurd (false≢true shows)

  behind : (i : AnItem) (items : List AnItem) → IsDistinct bytes_eq (flat_map names_in (i ∷ items))
      → IsDistinct bytes_eq (flat_map names_in items)
  behind (Layer l) items apart = IsDistinct-tail bytes_eq l.name (flat_map names_in items) apart
  behind (Foreign version content) items apart = apart

  -- the first field of the name, and its item
  module _ (found : ℕ × Entry) (item : AnItem) (is : IsItem (payload_of found.1) item) where
    module _ (x : Entry) (xs : List Entry)
        (next : (items : List AnItem) (m : ℕ) → AreRelated HoldsItem (layers_of xs) items
        → IsDistinct bytes_eq (flat_map names_in items) → first_of name m xs ≡ Some found → named_in name items ≡ item ∷ []) where
      one_test : (i : AnItem) (items : List AnItem) (n m : ℕ) (b : Bool) → is_layer_of name x ≡ b → has i ≡ b → HoldsItem x i
          → AreRelated HoldsItem (layers_of xs) items → IsDistinct bytes_eq (flat_map names_in (i ∷ items))
          → (if is_layer_of name x then Some (n, x) else first_of name m xs) ≡ Some found → named_in name (i ∷ items) ≡ item ∷ []
      one_test i items n m true test shows holds related apart first =
          let at : (n, x) ≡ found = same_Some (n, x) found
          (ap (λ b. if b then Some (n, x) else first_of name m xs) (sym test) ∙ first) in
          let (d, content, i_is) = holds in
          let same : payload_of found.1 ≡ d = ap (λ (f : ℕ × Entry). payload_of f.1) (sym at) ∙ ap bytes_in content in
          here i item items shows (one_item d i item i_is (subst (λ p. IsItem p item) same is)) apart
      one_test i items n m false test lacks holds related apart first =
          skipped i items lacks
          ∙ next items m related (behind i items apart) (else_found (is_layer_of name x) (n, x) (first_of name m xs) found test first)

      one_layer : (items : List AnItem) (n m : ℕ) → (x.number == LAYERS) ≡ true → AreRelated HoldsItem (x ∷ layers_of xs) items
          → IsDistinct bytes_eq (flat_map names_in items)
          → (if is_layer_of name x then Some (n, x) else first_of name m xs) ≡ Some found → named_in name items ≡ item ∷ []
      one_layer [] n m layer related apart first = absurd related
      one_layer (i ∷ items) n m layer related apart first =
          one_test i items n m (is_layer_of name x) refl (sym (found_is x i layer related.0)) related.0 related.1 apart first

      one_by : (items : List AnItem) (n m : ℕ) (b : Bool) → (x.number == LAYERS) ≡ b → AreRelated HoldsItem (layers_of (x ∷ xs)) items
          → IsDistinct bytes_eq (flat_map names_in items)
          → (if is_layer_of name x then Some (n, x) else first_of name m xs) ≡ Some found → named_in name items ≡ item ∷ []
      one_by items n m true layer related apart first =
          one_layer items n m layer (subst (λ ys. AreRelated HoldsItem ys items) (layers_of-layer x xs layer) related) apart first
      one_by items n m false other related apart first =
          next items m (subst (λ ys. AreRelated HoldsItem ys items) (layers_of-other x xs other) related) apart
          (else_found (is_layer_of name x) (n, x) (first_of name m xs) found (other_is x other) first)

    one_among : (fields : List Entry) (items : List AnItem) (n : ℕ) → AreRelated HoldsItem (layers_of fields) items
        → IsDistinct bytes_eq (flat_map names_in items) → first_of name n fields ≡ Some found → named_in name items ≡ item ∷ []
    one_among [] items n related apart first = absurd (none-some found first)
    one_among (x ∷ xs) items n related apart first =
        one_by x xs (λ more k r d h. one_among xs more k r d h) items n (if x.number == LAYERS then n + 1 else n) (x.number == LAYERS) refl
        related apart first

pub first_named : (b name : List ℕ) (tile : Tile) (item : AnItem) → IsTile LIMIT b tile → IsFirst name b item
    → named_in name tile.items ≡ item ∷ []
first_named b name tile item is (found, first, item_is) =
    let fields = (split_function_only b [] is.fields is.whole).0 in
    one_among name found item item_is (split b).fields tile.items 0
    (subst (λ xs. AreRelated HoldsItem (layers_of xs) tile.items) fields is.items)
    (IsDistinct-from_AllPairs {eq = bytes_eq} bytes_eq-Decides (flat_map names_in tile.items) is.distinct) first

pub none_named : (b name : List ℕ) (tile : Tile) → IsTile LIMIT b tile → first_in name b ≡ None → named_in name tile.items ≡ []
none_named b name tile is none =
    let fields = (split_function_only b [] is.fields is.whole).0 in
    none_among name (split b).fields tile.items 0 (subst (λ xs. AreRelated HoldsItem (layers_of xs) tile.items) fields is.items) none
