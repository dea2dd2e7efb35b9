-- Fields without a fault are items, and those of items have none.
use Rattle.std.proofs.Common.{◌≡◌, ℕ, Bool, true, false, eqb, List, [], ◌∷◌, ◌++◌, length, None, refl, sym, ap, ap₂, subst, ◌∙◌, append_assoc, append-nil}
use Rattle.std.specs.List.{flat_map}
use Rattle.std.specs.Option.{option_or, option_map}
use Rattle.mvt_base.specs.Rules.{each, first}
use Rattle.mvt_base.specs.Related.{AreRelated}
use Rattle.mvt_base.proofs.RuleLemmas.{each_first, first-when_not, option_or-none, option_or-nones}
use Rattle.mvt_base.proofs.ListLemmas.{related-append}
use Rattle.mvt_base.proofs.TableLemmas.{none_mapped, when_none}
use Rattle.mvt_wire.specs.Field.{Content, varint, fixed64, bytes, fixed32, Entry}
use Rattle.mvt_message.specs.declared.item.Item.{Item}
use Rattle.mvt_message.specs.ItemRules.{item_fault, payload_names}
use Rattle.mvt_message.specs.Items.{IsItem, names_in}
use Rattle.mvt_message.proofs.MessageLaws.{item_names, item_or_fault_clean, item_or_fault_there}
use Rattle.mvt_tile_value.specs.declared.numbers.tile.TheConstants.{LAYERS}
use Rattle.mvt_tile.specs.Faults.{in_layer}
use Rattle.mvt_tile.specs.Inner.Judging.{name_fault, payload_fault, repeated_at}
use Rattle.mvt_tile.specs.TileRules.{bytes_in, payload_of, names_before, repeats, is_bytes, field_rules}
use Rattle.mvt_tile_value.specs.Tiles.{layers_of, HoldsItem, HasDistinctNames, AreItems}
use Rattle.mvt_tile.proofs.NameLemmas.{distinct_more, distinct_before, distinct_none}
use Rattle.mvt_tile.proofs.LayerLemmas.{layers_of-append, layers_of-layer, layers_of-other, field_other, first-wrong, first-layer}

-- the names of items are those of the payloads that they are read from
names_read : (xs : List Entry) (items : List Item) → AreRelated HoldsItem xs items
    → flat_map (λ x. payload_names (payload_of x)) xs ≡ flat_map names_in items
names_read [] [] h = refl
names_read [] (i ∷ is) h = absurd h
names_read (x ∷ xs) [] h = absurd h
names_read (x ∷ xs) (i ∷ is) h =
    ap₂ (λ a b. a ++ b) (ap (λ c. payload_names (bytes_in c)) h.0.1 ∙ sym (item_names h.0.0 i h.0.2)) (names_read xs is h.1)

pub names_same : (front : List Entry) (items : List Item) → AreItems front items → names_before front ≡ flat_map names_in items
names_same front items are = names_read (layers_of front) items are.held

pub are_none : AreItems [] []
are_none = record { held = tt; distinct = distinct_none }

-- a field that holds no layer
pub are_over : (front : List Entry) (items : List Item) (x : Entry) → AreItems front items → eqb x.number LAYERS ≡ false
    → AreItems (front ++ x ∷ []) items
are_over front items x are e = record {
  held = subst (λ xs. AreRelated HoldsItem xs items)
      (sym (layers_of-append front (x ∷ []) ∙ ap (λ xs. layers_of front ++ xs) (layers_of-other x [] e) ∙ append-nil (layers_of front)))
      are.held;
  distinct = are.distinct;
}

-- a field that holds an item whose name is new
pub are_more : (front : List Entry) (items : List Item) (x : Entry) (d : List ℕ) (item : Item) → AreItems front items
    → eqb x.number LAYERS ≡ true → x.content ≡ bytes d → IsItem d item → repeats (flat_map names_in items) (names_in item) ≡ false
    → AreItems (front ++ x ∷ []) (items ++ item ∷ [])
are_more front items x d item are e held is new = record {
  held = subst (λ xs. AreRelated HoldsItem xs (items ++ item ∷ []))
      (sym (layers_of-append front (x ∷ []) ∙ ap (λ xs. layers_of front ++ xs) (layers_of-layer x [] e)))
      (related-append HoldsItem (layers_of front) items (x ∷ []) (item ∷ []) are.held ((d, held, is), tt));
  distinct = distinct_more items item are.distinct new;
}

-- the fault of a field that holds bytes, after items
pub first-after : (front : List Entry) (items : List Item) (x : Entry) (d : List ℕ) → AreItems front items → eqb x.number LAYERS ≡ true
    → x.content ≡ bytes d
    → first (field_rules front x) ≡ payload_fault (length (layers_of front)) (flat_map names_in items) d x.body x.at
first-after front items x d are e held =
    first-layer front x d e held ∙ ap (λ ns. payload_fault (length (layers_of front)) ns d x.body x.at) (names_same front items are)

-- a payload without a fault is an item, and its name is new
item_there : (n : ℕ) (names : List (List ℕ)) (d : List ℕ) (body at : ℕ) → payload_fault n names d body at ≡ None
    → (item : Item) × IsItem d item × (repeats names (names_in item) ≡ false)
item_there n names d body at e =
    let parts =
    option_or-nones (option_map (in_layer n) (item_fault d body at)) (name_fault n names (payload_names d) at) e in
    let some = item_or_fault_there d body at (none_mapped (in_layer n) (item_fault d body at) parts.0) in (
      some.0,
      some.1,
      ap (repeats names) (item_names d some.0 some.1)
          ∙ when_none (repeats names (payload_names d)) (repeated_at n at) parts.1,
    )

pub item_clean : (n : ℕ) (names : List (List ℕ)) (d : List ℕ) (body at : ℕ) (item : Item) → IsItem d item
    → repeats names (names_in item) ≡ false
    → payload_fault n names d body at ≡ None
item_clean n names d body at item is new =
    option_or-none (option_map (in_layer n) (item_fault d body at)) (name_fault n names (payload_names d) at)
    (ap (option_map (in_layer n)) (item_or_fault_clean d body at item is))
    ∙ first-when_not (repeats names (payload_names d)) (repeated_at n at) (ap (repeats names) (sym (item_names d item is)) ∙ new)

wrong_none : (front : List Entry) (x : Entry) → eqb x.number LAYERS ≡ true → is_bytes x.content ≡ false → first (field_rules front x) ≡ None
    → ⊥
wrong_none front x e f none = let k = first-wrong front x e f in cc

bytes_there : (front : List Entry) (x : Entry) (c : Content) → x.content ≡ c → eqb x.number LAYERS ≡ true
    → first (field_rules front x) ≡ None → (d : List ℕ) × (x.content ≡ bytes d)
bytes_there front x (varint n) held e none = absurd (wrong_none front x e (ap is_bytes held) none)
bytes_there front x (fixed64 n) held e none = absurd (wrong_none front x e (ap is_bytes held) none)
bytes_there front x (bytes d) held e none = (d, held)
bytes_there front x (fixed32 n) held e none = absurd (wrong_none front x e (ap is_bytes held) none)

-- after items, a field without a fault is no layer, or one item more
field_there : (front : List Entry) (items : List Item) (x : Entry) (b : Bool) → eqb x.number LAYERS ≡ b → AreItems front items
    → first (field_rules front x) ≡ None
    → (more : List Item) × AreItems (front ++ x ∷ []) (items ++ more)
field_there front items x false e are none =
    ([], subst (AreItems (front ++ x ∷ [])) (sym (append-nil items)) (are_over front items x are e))
field_there front items x true e are none =
    let held = bytes_there front x x.content refl e none in
    let some =
    item_there (length (layers_of front)) (flat_map names_in items) held.0 x.body x.at
    (sym (first-after front items x held.0 are e held.1) ∙ none) in
    (some.0 ∷ [], are_more front items x held.0 some.0 are e held.1 some.1 some.2)

-- fields without a fault are items
pub items_there : (xs front : List Entry) (items : List Item) → AreItems front items → first (each field_rules front xs) ≡ None
    → (more : List Item) × AreItems (front ++ xs) (items ++ more)
items_there [] front items are none =
    ([], subst (λ xs. AreItems xs (items ++ [])) (sym (append-nil front)) (subst (AreItems front) (sym (append-nil items)) are))
items_there (x ∷ xs) front items are none =
    let parts =
    option_or-nones (first (field_rules front x)) (first (each field_rules (front ++ x ∷ []) xs))
    (sym (each_first field_rules front x xs) ∙ none) in
    let one = field_there front items x (eqb x.number LAYERS) refl are parts.0 in
    let others = items_there xs (front ++ x ∷ []) (items ++ one.0) one.1 parts.1 in
    let all = subst (AreItems ((front ++ x ∷ []) ++ xs)) (append_assoc items one.0 others.0) others.1 in
    (one.0 ++ others.0, subst (λ ys. AreItems ys (items ++ (one.0 ++ others.0))) (append_assoc front (x ∷ []) xs) all)

-- what is to be shown of the fields after some that are items
abbrev IsCleanAfter : List Entry → Type 0
IsCleanAfter xs =
    (front : List Entry) (items more : List Item) → AreItems front items → AreRelated HoldsItem (layers_of xs) more
    → HasDistinctNames (items ++ more) → first (each field_rules front xs) ≡ None

clean_item : (x : Entry) (xs : List Entry) → IsCleanAfter xs → (front : List Entry) (items more : List Item) → AreItems front items
    → AreRelated HoldsItem (x ∷ layers_of xs) more → HasDistinctNames (items ++ more) → eqb x.number LAYERS ≡ true
    → option_or (first (field_rules front x)) (first (each field_rules (front ++ x ∷ []) xs)) ≡ None
clean_item x xs after front items [] are related distinct e = absurd related
clean_item x xs after front items (item ∷ more) are related distinct e =
    let d = related.0.0 in
    let new : repeats (flat_map names_in items) (names_in item) ≡ false = distinct_before items item more distinct in
    let clean : first (field_rules front x) ≡ None =
    first-after front items x d are e related.0.1
    ∙ item_clean (length (layers_of front)) (flat_map names_in items) d x.body x.at item related.0.2 new in
    option_or-none (first (field_rules front x)) (first (each field_rules (front ++ x ∷ []) xs)) clean
    ∙ after (front ++ x ∷ []) (items ++ item ∷ []) more (are_more front items x d item are e related.0.1 related.0.2 new) related.1
    (subst HasDistinctNames (sym (append_assoc items (item ∷ []) more)) distinct)

clean_field : (x : Entry) (xs : List Entry) → IsCleanAfter xs → (front : List Entry) (items more : List Item) → AreItems front items
    → AreRelated HoldsItem (layers_of (x ∷ xs)) more → HasDistinctNames (items ++ more) → (b : Bool) → eqb x.number LAYERS ≡ b
    → option_or (first (field_rules front x)) (first (each field_rules (front ++ x ∷ []) xs)) ≡ None
clean_field x xs after front items more are related distinct false e =
    option_or-none (first (field_rules front x)) (first (each field_rules (front ++ x ∷ []) xs)) (ap first (field_other front x e))
    ∙ after (front ++ x ∷ []) items more (are_over front items x are e)
    (subst (λ ys. AreRelated HoldsItem ys more) (layers_of-other x xs e) related) distinct
clean_field x xs after front items more are related distinct true e =
    clean_item x xs after front items more are (subst (λ ys. AreRelated HoldsItem ys more) (layers_of-layer x xs e) related) distinct e

-- the fields of items have no fault
items_clean : (xs : List Entry) → IsCleanAfter xs
items_clean [] front items more are related distinct = refl
items_clean (x ∷ xs) front items more are related distinct =
    each_first field_rules front x xs ∙ clean_field x xs (items_clean xs) front items more are related distinct (eqb x.number LAYERS) refl

pub are_clean : (xs : List Entry) (items : List Item) → AreItems xs items → first (each field_rules [] xs) ≡ None
are_clean xs items are = items_clean xs [] [] items are_none are.held are.distinct
