-- Items written one after the other.
use Rattle.std.proofs.Common.{◌≡◌, ℕ, ◌+◌, ◌*◌, ◌<◌, ◌≤◌, List, [], ◌∷◌, ◌++◌, length, map, take, drop, get_or, Vec, Global, Option, None, Some, Result, Ok, Err, OnOk, IfOk, refl, sym, ap, ap₂, subst, ◌∙◌, arith, append_assoc, append-nil, length-append, take-append-drop}
use Rattle.std.proofs.lemmas.List.{map-append}
use Rattle.std.proofs.lemmas.Grind.{flat_map-append}
use Rattle.std.specs.Option.{ok_or}
use Rattle.mvt_base.specs.declared.TheConstants.{LIMIT}
use Rattle.mvt_base.proofs.ListLemmas.{front_more}
use Rattle.mvt_wire.specs.Field.{bytes}
use Rattle.mvt_wire.specs.Spelling.{Plain, short_field, spelled}
use Rattle.mvt_wire.specs.Varint.{short}
use Rattle.mvt_message.specs.declared.item.Item.{Item}
use Rattle.mvt_message.specs.CanonicalItems.{canonical_item}
use Rattle.mvt_message.specs.declared.item_writing.PutError.{PutError}
use Rattle.mvt_message.specs.declared.item_writing.PutError.TheVariants as put
use Rattle.mvt_wire.proofs.WireLaws.{short_lengths_bytes, short_lengths_field, short_lengths_most}
use Rattle.mvt_tile_value.specs.declared.numbers.tile.TheConstants.{LAYERS}
use Rattle.mvt_tile_value.specs.declared.write_error.WriteError.TheVariants as write
use Rattle.mvt_tile_value.specs.declared.tile.Tile.{Tile}
use Rattle.mvt_tile_value.specs.CanonicalTiles.{item_field, canonical}
use Rattle.mvt_tile_value.specs.Encoding.{AreEncoded}
use Rattle.mvt_tile_value.specs.Tiles.{IsTile}
use Rattle.mvt_tile_value.specs.ValidTiles.{Valid}
use Rattle.mvt_tile_value.specs.Writing.{write_error}
use Rattle.mvt_tile_value.proofs.CanonicalLemmas.{canonical_reads}

abbrev pub written : List Item → List ℕ
written items = spelled (map item_field items)

abbrev pub field_of : Item → List ℕ
field_of item = short_field LAYERS (bytes (canonical_item item))

pub written-append : (xs ys : List Item) → written (xs ++ ys) ≡ written xs ++ written ys
written-append xs ys =
    ap spelled (map-append item_field xs ys)
    ∙ flat_map-append (λ (f : Plain). short_field f.number f.content) (map item_field xs) (map item_field ys)

pub written_one : (item : Item) → written (item ∷ []) ≡ field_of item
written_one item = append-nil (field_of item)

pub written_after : (items : List Item) (item : Item) → written (items ++ item ∷ []) ≡ written items ++ field_of item
written_after items item = written-append items (item ∷ []) ∙ ap (λ b. written items ++ b) (written_one item)

pub encoded_after : (items : List Item) (item : Item) {old new payload : List ℕ} → old ≡ written items → payload ≡ canonical_item item
    → new ≡ old ++ short_field LAYERS (bytes payload) → new ≡ written (items ++ item ∷ [])
encoded_after items item was is put =
    put ∙ ap₂ (λ o d. o ++ short_field LAYERS (bytes d)) was is ∙ sym (written_after items item)

pub written_more : (items : List Item) (i : ℕ) (item : Item) → i < length items → item ≡ get_or items i item
    → written (take (i + 1) items) ≡ written (take i items) ++ field_of item
written_more items i item h is =
    ap written (front_more items i item h is) ∙ written_after (take i items) item

-- the whole, round the field of one item
pub written_parts : (items : List Item) (i : ℕ) (item : Item) → i < length items → item ≡ get_or items i item
    → written items ≡ written (take i items) ++ (field_of item ++ written (drop (i + 1) items))
written_parts items i item h is =
    ap written (sym (take-append-drop (i + 1) items)) ∙ written-append (take (i + 1) items) (drop (i + 1) items)
    ∙ ap (λ b. b ++ written (drop (i + 1) items)) (written_more items i item h is)
    ∙ append_assoc (written (take i items)) (field_of item) (written (drop (i + 1) items))

-- a front of the items has no more bytes
pub written_within : (items : List Item) (i : ℕ) → length (written (take i items)) ≤ length (written items)
written_within items i =
    let whole : length (written items) ≡ length (written (take i items)) + length (written (drop i items)) =
    ap length (ap written (sym (take-append-drop i items)) ∙ written-append (take i items) (drop i items))
    ∙ length-append (written (take i items)) (written (drop i items)) in
    omega arith

-- an item's field has no more bytes than the whole
pub field_within : (items : List Item) (i : ℕ) (item : Item) → i < length items → item ≡ get_or items i item
    → length (field_of item) ≤ length (written items)
field_within items i item h is =
    let size = ap length (written_parts items i item h is) in
    let outer = length-append (written (take i items)) (field_of item ++ written (drop (i + 1) items)) in
    let inner = length-append (field_of item) (written (drop (i + 1) items)) in
    omega arith

-- its payload has fewer
pub payload_within : (items : List Item) (i : ℕ) (item : Item) → i < length items → item ≡ get_or items i item
    → length (canonical_item item) ≤ length (written items)
payload_within items i item h is =
    let field = field_within items i item h is in
    let longer = short_lengths_bytes LAYERS (canonical_item item) in
    omega arith

-- a field has at most 20 bytes besides its payload
pub field_most : (number : ℕ) (d : List ℕ) → length (short_field number (bytes d)) ≤ length d + 20
field_most number d =
    let parts = length-append (short (length d)) d in
    omega (arith, short_lengths_field number (bytes d), parts, short_lengths_most (8 * number + 2), short_lengths_most (length d))

pub canonical_is : (tile : Tile) (items : List Item) → items ≡ tile.items → canonical tile ≡ written items
unfolding canonical
canonical_is tile items is = ap written (sym is)

pub encoded_reads : {V E : Type 0} → (tile : Tile) (of : V → List ℕ) (r : Result V E) → Valid tile → IfOk r (λ b. of b ≡ canonical tile)
    → IfOk r (λ b. length (of b) ≤ LIMIT)
    → IfOk r (λ b. IsTile LIMIT (of b) tile)
encoded_reads tile of (Err e) valid put small = tt
encoded_reads tile of (Ok b) valid put small =
    subst (λ s. IsTile LIMIT s tile) (sym put) (canonical_reads tile valid (subst (λ s. length s ≤ LIMIT) put small))

pub on_ok : {T E P : Type 0} (r : Result T E) → P → OnOk r P
on_ok (Ok x) p = p
on_ok (Err e) p = tt

-- of two pieces the first was taken, and a front of the second
pub put_large : (e : PutError) → write_error e ≡ write.TooLarge → e ≡ put.TooLarge
put_large put.Memory h = cc
put_large put.TooLarge h = refl

-- all items made into bytes

module _ (limit : ℕ) (tile : Tile) (items : List Item) (is : items ≡ tile.items) where
  pub encoded_put : (out : Option (Vec ℕ Global)) → AreEncoded limit items out
      → IfOk (ok_or out put.TooLarge) (λ b. b.items ≡ canonical tile)
  encoded_put None are = tt
  encoded_put (Some b) are = are.0 ∙ sym (canonical_is tile items is)

  pub encoded_small : (out : Option (Vec ℕ Global)) → AreEncoded limit items out
      → IfOk (ok_or out put.TooLarge) (λ b. length b.items ≤ limit)
  encoded_small None are = tt
  encoded_small (Some b) are = subst (λ xs. length xs ≤ limit) (sym are.0) are.1

  pub encoded_large : (out : Option (Vec ℕ Global)) → AreEncoded limit items out → ok_or out put.TooLarge ≡ Err put.TooLarge
      → limit < length (canonical tile)
  encoded_large None are large = subst (λ b. limit < length b) (sym (canonical_is tile items is)) are
  encoded_large (Some b) are large = cc

-- an item longer than a limit makes the whole longer
pub long_items : (items : List Item) (item : Item) → LIMIT < length (canonical_item item) → AreEncoded LIMIT (items ++ item ∷ []) None
long_items items item long =
    let longer = short_lengths_bytes LAYERS (canonical_item item) in
    omega (arith, ap length (written_after items item), length-append (written items) (field_of item))
