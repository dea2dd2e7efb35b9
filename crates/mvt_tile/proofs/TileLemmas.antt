-- A tile is related to bytes exactly where they have no fault, and then one alone; the table is in order.
use Rattle.std.proofs.Common.{◌≡◌, ℕ, eqb, ◌+◌, ◌<◌, ◌≤◌, ltb, Bool, true, false, cond, List, [], ◌∷◌, length, take, Option, Some, None, refl, sym, ap, subst, ◌∙◌, ◌↔◌, arith}
use Rattle.std.specs.Option.{option_or}
use Rattle.std.proofs.lemmas.Bool.{ltb-true, ltb-false, lt-ltb, le-ltb}
use Rattle.mvt_base.specs.Rules.{when, rows, under, each, first, AreOrdered, IsLeast}
use Rattle.mvt_base.proofs.RuleLemmas.{first-append, first-under, option_or-nones, option_or-none}
use Rattle.mvt_base.proofs.OrderLemmas.{under_from, all_later, under_ordered, when_ordered, map_faults_ordered, rows_ordered, first_is_least, least_is_first}
use Rattle.mvt_base.proofs.GrowingLemmas.{each_then}
use Rattle.mvt_base.proofs.ListLemmas.{related_once}
use Rattle.mvt_base.specs.Related.{AreRelated}
use Rattle.mvt_base.proofs.TableLemmas.{if_ordered}
use Rattle.mvt_wire.specs.Field.{Entry, bytes}
use Rattle.mvt_wire.specs.Split.{split}
use Rattle.mvt_feature.specs.declared.cause.Cause.TheVariants.{WrongType}
use Rattle.mvt_message.specs.declared.item.Item.{Item}
use Rattle.mvt_message.specs.ItemRules.{item_rules, payload_names}
use Rattle.mvt_message.specs.Items.{IsItem}
use Rattle.mvt_wire.proofs.WireLaws.{split_function_only, split_function_whole}
use Rattle.mvt_message.proofs.MessageLaws.{item_in_order_ordered, one_item}
use Rattle.mvt_tile_value.specs.declared.numbers.tile.TheConstants.{LAYERS}
use Rattle.mvt_tile.specs.declared.fault.Fault.{Fault}
use Rattle.mvt_tile_value.specs.declared.tile.Tile.{Tile}
use Rattle.mvt_tile.specs.Faults.{outer_fault, in_layer}
use Rattle.mvt_tile.specs.Inner.Judging.{repeated_at}
use Rattle.mvt_tile.specs.TileRules.{payload_of, names_before, repeats, layer_rules, is_bytes, field_rules, rest_rules_at, rest_rules, tile_rules, beyond, fault_within}
use Rattle.mvt_tile_value.specs.Tiles.{layers_of, HoldsItem, AreItems, IsTile}
use Rattle.mvt_tile.proofs.ItemLemmas.{are_none, items_there, are_clean}

-- the first fault of a tile's table is that of a field, or of the rest
pub first-tile : (b : List ℕ)
    → first (tile_rules b) ≡ option_or (first (each field_rules [] (split b).fields)) (first (rest_rules (split b)))
unfolding tile_rules
first-tile b =
    let rest = rest_rules (split b) in
    let n = length (split b).fields in
    first-append (each field_rules [] (split b).fields) (under n (under 0 rest))
    ∙ ap (option_or (first (each field_rules [] (split b).fields))) (first-under n (under 0 rest) ∙ first-under 0 rest)

pub fault_of_short : (limit : ℕ) (b : List ℕ) → length b ≤ limit → fault_within limit b ≡ first (tile_rules b)
unfolding fault_within
fault_of_short limit b h =
    ap (λ t. cond t (beyond limit (first (tile_rules (take limit b)))) (first (tile_rules b))) (le-ltb limit (length b) h)

pub fault_of_long : (limit : ℕ) (b : List ℕ) → limit < length b → fault_within limit b ≡ beyond limit (first (tile_rules (take limit b)))
unfolding fault_within
fault_of_long limit b h =
    ap (λ t. cond t (beyond limit (first (tile_rules (take limit b)))) (first (tile_rules b))) (lt-ltb limit (length b) h)

past_there : (limit : ℕ) (o : Option Fault) → beyond limit o ≡ None → ⊥
past_there limit None e = cc
past_there limit (Some f) e = cc

-- bytes without a fault are within the limit
pub short_there : (limit : ℕ) (b : List ℕ) (t : Bool) → ltb limit (length b) ≡ t → fault_within limit b ≡ None → length b ≤ limit
short_there limit b false e none = ltb-false limit (length b) e
short_there limit b true e none =
    absurd (past_there limit (first (tile_rules (take limit b))) (sym (fault_of_long limit b (ltb-true limit (length b) e)) ∙ none))

no_rest : (at : ℕ) (rest : List ℕ) → first (rest_rules_at at rest) ≡ None → rest ≡ []
no_rest at [] e = refl
no_rest at (b ∷ bs) e = cc

pub tile_there : (limit : ℕ) (b : List ℕ) → fault_within limit b ≡ None → (tile : Tile) × IsTile limit b tile
tile_there limit b none =
    let small = short_there limit b (ltb limit (length b)) refl none in
    let parts =
    option_or-nones (first (each field_rules [] (split b).fields)) (first (rest_rules (split b)))
    (sym (fault_of_short limit b small ∙ first-tile b) ∙ none) in
    let items = items_there (split b).fields [] [] are_none parts.0 in (
      record { items = items.0 },
      record {
        small = small;
        fields = (split b).fields;
        whole = split_function_whole b (no_rest (split b).rest_at (split b).rest parts.1);
        items = items.1.held;
        distinct = items.1.distinct;
      },
    )

-- the fields of a tile are items
pub tile_items : (limit : ℕ) (b : List ℕ) (tile : Tile) → IsTile limit b tile → AreItems (split b).fields tile.items
tile_items limit b tile is = record {
  held = subst (λ xs. AreRelated HoldsItem (layers_of xs) tile.items) (split_function_only b [] is.fields is.whole).0 is.items;
  distinct = is.distinct;
}

pub tile_clean : (limit : ℕ) (b : List ℕ) (tile : Tile) → IsTile limit b tile → fault_within limit b ≡ None
tile_clean limit b tile is =
    fault_of_short limit b is.small ∙ first-tile b
    ∙ option_or-none (first (each field_rules [] (split b).fields)) (first (rest_rules (split b)))
    (are_clean (split b).fields tile.items (tile_items limit b tile is))
    ∙ ap (λ r. first (rest_rules_at (split b).rest_at r)) (sym (split_function_only b [] is.fields is.whole).1)

one_held : (x : Entry) (i j : Item) → HoldsItem x i → HoldsItem x j → i ≡ j
one_held x i j h k =
    let same : h.0 ≡ k.0 = let both : bytes h.0 ≡ bytes k.0 = sym h.1 ∙ k.1 in cc in
    one_item k.0 i j (subst (λ d. IsItem d i) same h.2) k.2

pub tile_once : (limit : ℕ) (b : List ℕ) (s t : Tile) → IsTile limit b s → IsTile limit b t → s ≡ t
tile_once limit b s t is_s is_t =
    let same : s.items ≡ t.items =
    related_once HoldsItem one_held (layers_of (split b).fields) s.items t.items (tile_items limit b s is_s).held
    (tile_items limit b t is_t).held in
    ap (λ (items : List Item). let t : Tile = record { items = items } in t) same

field_ordered : (front : List Entry) (x : Entry) → AreOrdered (field_rules front x)
unfolding field_rules
field_ordered front x =
    if_ordered (eqb x.number LAYERS)
    (cond (is_bytes x.content) (rows (layer_rules front x)) (under 0 (when true (outer_fault x.at WrongType)))) []
    (if_ordered (is_bytes x.content) (rows (layer_rules front x)) (under 0 (when true (outer_fault x.at WrongType)))
    (rows_ordered 1 (layer_rules front x) (
      omega arith,
      (
        map_faults_ordered (in_layer (length (layers_of front))) (item_rules (payload_of x) x.body x.at)
            (item_in_order_ordered (payload_of x) x.body x.at),
        (
          omega arith,
          (
            when_ordered (repeats (names_before front) (payload_names (payload_of x)))
                (repeated_at (length (layers_of front)) x.at),
            tt,
          ),
        ),
      ),
    ))
    (tt, tt))
    tt

rest_ordered : (at : ℕ) (rest : List ℕ) → AreOrdered (rest_rules_at at rest)
rest_ordered at [] = tt
rest_ordered at (b ∷ bs) = (tt, tt)

pub tile_ordered : (b : List ℕ) → AreOrdered (tile_rules b)
unfolding tile_rules
tile_ordered b =
    let n = length (split b).fields in
    each_then field_rules [] (split b).fields (under n (under 0 (rest_rules (split b)))) field_ordered
    (under_ordered n _ (under_ordered 0 (rest_rules (split b)) (rest_ordered (split b).rest_at (split b).rest)))
    (all_later (0 + n) n _ (omega arith) (under_from n _))

pub tile_least : (limit : ℕ) (b : List ℕ) (f : Fault) → length b ≤ limit → (fault_within limit b ≡ Some f) ↔ IsLeast (tile_rules b) f
tile_least limit b f small = (
  λ e. first_is_least (tile_rules b) f (tile_ordered b) (sym (fault_of_short limit b small) ∙ e),
  λ h. fault_of_short limit b small ∙ least_is_first (tile_rules b) f (tile_ordered b) h,
)
