-- Canonical bytes are read as the tile that they are of.
use Rattle.std.proofs.Common.{◌≡◌, ◌+◌, ◌^◌, ◌<◌, ◌≤◌, eqb, true, List, [], ◌∷◌, length, map, sym, ap, subst, arith, length-append, lit<}
use Rattle.std.specs.List.{AllByRecursion}
use Rattle.std.proofs.lemmas.Bool.{cond-true}
use Rattle.mvt_base.specs.Related.{AreRelated}
use Rattle.mvt_wire.specs.Field.{Entry, bytes}
use Rattle.mvt_wire.specs.Spelling.{Plain, plain_of, IsFit, short_field, spelled}
use Rattle.mvt_message.specs.declared.item.Item.{Item}
use Rattle.mvt_message.specs.CanonicalItems.{canonical_item}
use Rattle.mvt_message.specs.ValidItems.{ValidItem}
use Rattle.mvt_base.specs.declared.TheConstants.{LIMIT}
use Rattle.mvt_message.proofs.MessageLaws.{canonical_reads as item_reads}
use Rattle.mvt_wire.proofs.WireLaws.{short_lengths_bytes, spelled_whole_whole}
use Rattle.mvt_tile_value.specs.declared.numbers.tile.TheConstants.{LAYERS}
use Rattle.mvt_tile_value.specs.declared.tile.Tile.{Tile}
use Rattle.mvt_tile_value.specs.CanonicalTiles.{item_field, canonical}
use Rattle.mvt_tile_value.specs.Tiles.{layers_of, HoldsItem, IsTile}
use Rattle.mvt_tile_value.specs.ValidTiles.{Valid}

-- each item's payload is within the limit
abbrev HaveSmall : List Item → Type 0
HaveSmall items = AllByRecursion (λ i. length (canonical_item i) ≤ LIMIT) items

small_items : (items : List Item) → length (spelled (map item_field items)) ≤ LIMIT → HaveSmall items
small_items [] h = tt
small_items (i ∷ items) h =
    let field = short_field LAYERS (bytes (canonical_item i)) in
    let others = spelled (map item_field items) in
    let sum : length field + length others ≤ LIMIT = subst (λ n. n ≤ LIMIT) (length-append field others) h in
    let longer = short_lengths_bytes LAYERS (canonical_item i) in
    (omega (arith, sum, longer), small_items items (omega (arith, sum)))

fit_items : (items : List Item) → HaveSmall items → AllByRecursion IsFit (map item_field items)
fit_items [] h = tt
fit_items (i ∷ items) h =
    let within : LIMIT < 2 ^ 64 = lit< tt in
    (record { first = omega arith; last = lit< tt; content = omega (arith, h.0, within) }, fit_items items h.1)

-- fields that are items, without their places
held_items : (es : List Entry) (items : List Item) → map plain_of es ≡ map item_field items → HaveSmall items
    → AllByRecursion ValidItem items
    → AreRelated HoldsItem (layers_of es) items
held_items [] [] e small valid = tt
held_items [] (i ∷ items) e small valid = cc
held_items (x ∷ es) [] e small valid = cc
held_items (x ∷ es) (i ∷ items) e small valid =
    let one : plain_of x ≡ item_field i = cc in
    let others : map plain_of es ≡ map item_field items = cc in
    let is_layer : eqb x.number LAYERS ≡ true = ap (λ (p : Plain). eqb p.number LAYERS) one in
    let content : x.content ≡ bytes (canonical_item i) = ap (λ (p : Plain). p.content) one in
    subst (λ xs. AreRelated HoldsItem xs (i ∷ items)) (sym (cond-true (eqb x.number LAYERS) (x ∷ layers_of es) (layers_of es) is_layer))
    ((canonical_item i, content, item_reads i valid.0 small.0), held_items es items others small.1 valid.1)

pub canonical_reads : (tile : Tile) → Valid tile → length (canonical tile) ≤ LIMIT → IsTile LIMIT (canonical tile) tile
unfolding canonical
canonical_reads tile valid small =
    let each_small = small_items tile.items small in
    let whole = spelled_whole_whole (map item_field tile.items) (fit_items tile.items each_small) in
    record {
      small = small;
      fields = whole.0;
      whole = whole.1;
      items = held_items whole.0 tile.items whole.2 each_small valid.items;
      distinct = valid.names;
    }
