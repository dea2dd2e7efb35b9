-- The layers that are wanted of a tile, by the set of their names.
use Rattle.std.proofs.Common.{◌≡◌, ℕ, ◌+◌, Bool, true, false, cond, not, ◌||◌, List, [], ◌∷◌, ◌++◌, filter, bytes_eq, Option, Some, Vec, Global, IsUtf8, refl, sym, ap, ap₂, subst, ◌∙◌, append-nil}
use Rattle.std.specs.Bool.{OnFalse}
use Rattle.std.specs.List.{list_any, position_from}
use Rattle.std.proofs.lemmas.Bool.{not-false}
use Rattle.std.proofs.lemmas.List.Elements.{filter-append}
use Rattle.std.proofs.lemmas.List.Folds.{list_any-append}
use Rattle.std.proofs.lemmas.Slice.Eq.{bytes_eq-Decides}
use Rattle.mvt_message.specs.declared.item.Item.{Item as AnItem}
use Rattle.mvt_message.specs.declared.item.Item.TheVariants.{Layer, Foreign}
use Rattle.mvt_message.specs.Items.{names_in}
use Rattle.mvt_message.specs.ValidItems.{ValidItem, ValidLayer}
use Rattle.mvt_tile_value.specs.declared.tile.Tile.{Tile}
use Rattle.mvt_tile_value.specs.CanonicalTiles.{canonical}
use Rattle.mvt_tile_value.specs.Encoding.{AreEncoded, IsEncoded}
use Rattle.mvt_tile.specs.declared.rewriting.Rewriter.{Rewriter}
use Rattle.mvt_tile.specs.Extraction.{first_missing, is_among, is_named, pick}
use Rattle.mvt_tile.specs.Inner.Judging.{AreNamed}
use Rattle.mvt_tile.specs.Inner.Wanting.{HasRewritten, IsSetOf, all_items, is_in}
use Rattle.mvt_tile.specs.TileRules.{repeats}
use Rattle.mvt_tile.proofs.ExtractionLemmas.{any_named}
use Rattle.mvt_tile.proofs.NameLemmas.{bytes_eq_comm, or_right_false}

-- ---- sets of names

or_there : (a b : Bool) → a ≡ true → a ≡ (a || b)
or_there true b e = refl
or_there false b e = cc

or_nothing : (a : Bool) → a ≡ (a || (false || false))
or_nothing true = refl
or_nothing false = refl

-- a name that is held adds nothing
held_again : (n t : List ℕ) (keys : List (List ℕ)) (b : Bool) → list_any (bytes_eq t) keys ≡ true → bytes_eq n t ≡ b
    → list_any (bytes_eq n) keys ≡ (list_any (bytes_eq n) keys || (b || false))
held_again n t keys true held same =
    or_there (list_any (bytes_eq n) keys) true (ap (λ x. list_any (bytes_eq x) keys) ((bytes_eq-Decides n t).0 same) ∙ held)
held_again n t keys false held same = or_nothing (list_any (bytes_eq n) keys)

pub set_more : (keys after names : List (List ℕ)) (t : List ℕ) (b : Bool) → b ≡ not (repeats keys (t ∷ []))
    → (b ≡ true → (n : List ℕ) → list_any (bytes_eq n) after ≡ (list_any (bytes_eq n) keys || list_any (bytes_eq n) (t ∷ [])))
    → OnFalse b (after ≡ keys) → IsSetOf keys names → IsSetOf after (names ++ t ∷ [])
set_more keys after names t true is more same set =
    λ n. more refl n ∙ ap (λ b. b || list_any (bytes_eq n) (t ∷ [])) (set n) ∙ sym (list_any-append (bytes_eq n) names (t ∷ []))
set_more keys after names t false is more same set =
    let held : list_any (bytes_eq t) keys ≡ true =
    sym (or_right_false (list_any (bytes_eq t) keys)) ∙ not-false (repeats keys (t ∷ [])) (sym is) in
    λ n. ap (list_any (bytes_eq n)) same ∙ held_again n t keys (bytes_eq n t) held refl
    ∙ ap (λ b. b || list_any (bytes_eq n) (t ∷ [])) (set n) ∙ sym (list_any-append (bytes_eq n) names (t ∷ []))

any_turned : (n : List ℕ) (names : List (List ℕ)) → list_any (bytes_eq n) names ≡ list_any (λ name. bytes_eq name n) names
any_turned n [] = refl
any_turned n (x ∷ xs) = ap₂ (λ a b. a || b) (bytes_eq_comm n x) (any_turned n xs)

none_among : (names : List (List ℕ)) → false ≡ list_any (λ name. false) names
none_among [] = refl
none_among (x ∷ xs) = none_among xs

-- the layers whose names are in a set of these names are those among them
set_wants : (keys names : List (List ℕ)) → IsSetOf keys names → (item : AnItem) → repeats keys (names_in item) ≡ is_among names item
set_wants keys names set (Layer l) = or_right_false (list_any (bytes_eq l.name) keys) ∙ set l.name ∙ any_turned l.name names
set_wants keys names set (Foreign version bytes) = none_among names

pub wants_layers : (limit : ℕ) (names keys : List (List ℕ)) (r : Rewriter) → IsSetOf keys names
    → HasRewritten limit (is_in (Some keys)) r []
    → HasRewritten limit (is_among names) r []
wants_layers limit names keys r set has = record {
  encoded = has.encoded;
  wants = λ item. has.wants item ∙ set_wants keys names set item;
}

-- ---- what is encoded

pub wanted_more : (wanted : AnItem → Bool) (items : List AnItem) (item : AnItem) (b : Bool) → b ≡ wanted item
    → filter wanted items ++ cond b (item ∷ []) [] ≡ filter wanted (items ++ item ∷ [])
wanted_more wanted items item b is =
    ap (λ c. filter wanted items ++ cond c (item ∷ []) []) is ∙ sym (filter-append wanted items (item ∷ []))

all_kept : (items : List AnItem) → filter all_items items ≡ items
all_kept [] = refl
all_kept (x ∷ xs) = ap (λ ys. x ∷ ys) (all_kept xs)

pub tile_encoded : (limit : ℕ) (tile : Tile) (made : Option (Vec ℕ Global)) → AreEncoded limit (filter all_items tile.items) made
    → IsEncoded limit tile made
unfolding canonical
tile_encoded limit tile made are = subst (λ items. AreEncoded limit items made) (all_kept tile.items) are

pub layers_encoded : (limit : ℕ) (items : List AnItem) (names : List (List ℕ)) (made : Option (Vec ℕ Global))
    → AreEncoded limit (filter (is_among names) items) made → IsEncoded limit (pick (record { items = items }) names) made
unfolding canonical
layers_encoded limit items names made are = are

-- an item more that isn't wanted
pub unwanted_more : (limit : ℕ) (wanted : AnItem → Bool) (items : List AnItem) (item : AnItem) (r : Rewriter)
    → HasRewritten limit wanted r items → wanted item ≡ false → HasRewritten limit wanted r (items ++ item ∷ [])
unwanted_more limit wanted items item r has is = record {
  encoded = subst (λ xs. AreEncoded limit xs r.out)
      (sym (append-nil (filter wanted items)) ∙ wanted_more wanted items item false (sym is)) has.encoded;
  wants = has.wants;
}

-- ---- whether a payload is wanted

pub wants_name : (keys name : List (List ℕ)) (text own : List ℕ) (item : AnItem) (b : Bool) → b ≡ list_any (bytes_eq text) keys
    → text ≡ own → own ∷ [] ≡ name → names_in item ≡ name → b ≡ repeats keys (names_in item)
wants_name keys name text own item b is copied named of =
    is ∙ ap (λ n. list_any (bytes_eq n) keys) copied ∙ sym (or_right_false (list_any (bytes_eq own) keys))
    ∙ ap (repeats keys) (named ∙ sym of)

pub wants_nothing : (keys name : List (List ℕ)) (item : AnItem) → [] ≡ name → names_in item ≡ name → false ≡ repeats keys (names_in item)
wants_nothing keys name item none of = ap (repeats keys) (none ∙ sym of)

-- the name of a valid item is a text
pub name_is_text : (name : List (List ℕ)) (own : List ℕ) (item : AnItem) → own ∷ [] ≡ name → names_in item ≡ name → ValidItem item
    → IsUtf8 own
unfolding ValidItem ValidLayer
name_is_text name own (Layer l) named of valid = subst IsUtf8 (let same : own ∷ [] ≡ l.name ∷ [] = named ∙ sym of in cc) valid.0
name_is_text name own (Foreign version content) named of valid = absurd (let none : own ∷ [] ≡ [] = named ∙ sym of in cc)

-- ---- the first name that no layer has

place_by : {A : Type 0} (p q : A → Bool) → ((x : A) → p x ≡ q x) → (n : ℕ) (xs : List A) → position_from p n xs ≡ position_from q n xs
place_by p q same n [] = refl
place_by p q same n (x ∷ xs) = ap₂ (λ b o. cond b (Some n) o) (same x) (place_by p q same (n + 1) xs)

pub missing_by : (count : ℕ) (keys : List (List ℕ)) (items : List AnItem) (names : List (List ℕ)) → AreNamed count keys items
    → position_from (λ name. not (list_any (bytes_eq name) keys)) 0 names ≡ first_missing (record { items = items }) names
missing_by count keys items names are =
    place_by (λ name. not (list_any (bytes_eq name) keys)) (λ name. not (list_any (is_named name) items))
    (λ name. ap not (are.named name ∙ sym (any_named name items))) 0 names

pub not_held : (r b : Bool) (name text : List ℕ) (keys : List (List ℕ)) → r ≡ list_any (bytes_eq text) keys → text ≡ name → r ≡ b
    → not (list_any (bytes_eq name) keys) ≡ not b
not_held r b name text keys e is of = ap not (ap (λ t. list_any (bytes_eq t) keys) (sym is) ∙ sym e ∙ of)
