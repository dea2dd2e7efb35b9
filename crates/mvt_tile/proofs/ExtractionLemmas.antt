-- Names that are looked for among items.
use Rattle.std.proofs.Common.{◌≡◌, ℕ, ◌+◌, ◌<◌, ◌≤◌, Bool, true, false, cond, not, ◌||◌, List, [], ◌∷◌, ◌++◌, length, map, take, drop, get_or, filter, bytes_eq, Option, Some, None, refl, sym, ap, ap₂, subst, ◌∙◌, arith, length-take}
use Rattle.std.specs.List.{list_any, flat_map, position_from}
use Rattle.std.proofs.lemmas.List.{take_all, map-append, length-map}
use Rattle.std.proofs.lemmas.List.Elements.{filter-append}
use Rattle.std.proofs.lemmas.List.Folds.{list_any_at, list_any_more}
use Rattle.mvt_message.specs.declared.item.Item.{Item as AnItem}
use Rattle.mvt_message.specs.declared.item.Item.TheVariants.{Layer, Foreign}
use Rattle.mvt_message.specs.Items.{names_in}
use Rattle.mvt_base.proofs.ListLemmas.{around, front_more}
use Rattle.mvt_tile.specs.Extraction.{is_named}
use Rattle.mvt_tile.specs.TileRules.{repeats}
use Rattle.mvt_tile_value.specs.Tiles.{HasDistinctNames}
use Rattle.mvt_tile.proofs.NameLemmas.{distinct_more, distinct_before, or_right_false}

pub any_named : (name : List ℕ) (items : List AnItem) → list_any (is_named name) items ≡ list_any (bytes_eq name) (flat_map names_in items)
any_named name [] = refl
any_named name (Layer l ∷ items) = ap (λ b. bytes_eq name l.name || b) (any_named name items)
any_named name (Foreign version bytes ∷ items) = any_named name items

pub repeats_named : (name : List ℕ) (items : List AnItem) → list_any (is_named name) items ≡ repeats (flat_map names_in items) (name ∷ [])
repeats_named name items = any_named name items ∙ sym (or_right_false (list_any (bytes_eq name) (flat_map names_in items)))

pub any_mapped : {A B : Type 0} (f : A → B) (p : B → Bool) (xs : List A) → list_any (λ x. p (f x)) xs ≡ list_any p (map f xs)
any_mapped f p [] = refl
any_mapped f p (x ∷ xs) = ap (λ b. p (f x) || b) (any_mapped f p xs)

-- the first element that passes a test, after some that don't

by_head : (b : Bool) (n : ℕ) (o t r : Option ℕ) → cond b (Some n) o ≡ None → (o ≡ None → t ≡ r) → cond b (Some n) t ≡ r
by_head true n o t r none k = cc
by_head false n o t r none k = k none

pub place_here : {A : Type 0} (p : A → Bool) (n : ℕ) (xs : List A) (y : A) (ys : List A) → position_from p n xs ≡ None → p y ≡ true
    → position_from p n (xs ++ y ∷ ys) ≡ Some (n + length xs)
place_here p n [] y ys none is = ap (λ b. cond b (Some n) (position_from p (n + 1) ys)) is ∙ ap Some (let e : n ≡ n + 0 = omega arith in e)
place_here p n (x ∷ xs) y ys none is =
    by_head (p x) n (position_from p (n + 1) xs) (position_from p (n + 1) (xs ++ y ∷ ys)) (Some (n + length (x ∷ xs))) none
    (λ e. place_here p (n + 1) xs y ys e is ∙ ap Some (let k : (n + 1) + length xs ≡ n + length (x ∷ xs) = omega arith in k))

pub place_not : {A : Type 0} (p : A → Bool) (n : ℕ) (xs : List A) (y : A) → position_from p n xs ≡ None → p y ≡ false
    → position_from p n (xs ++ y ∷ []) ≡ None
place_not p n [] y none is = ap (λ b. cond b (Some n) None) is
place_not p n (x ∷ xs) y none is =
    by_head (p x) n (position_from p (n + 1) xs) (position_from p (n + 1) (xs ++ y ∷ [])) None none (λ e. place_not p (n + 1) xs y e is)

-- the element at an index, between those before it and those after it
pub at_index : {A : Type 0} (xs : List A) (i : ℕ) (x : A) → i < length xs → x ≡ get_or xs i x → xs ≡ take i xs ++ x ∷ drop (i + 1) xs
at_index xs i x h is = around xs i x h ∙ ap (λ y. take i xs ++ y ∷ drop (i + 1) xs) (sym is)

pub mapped_more : {A B : Type 0} (f : A → B) (xs : List A) (i : ℕ) (x : A) → i < length xs → x ≡ get_or xs i x
    → map f (take (i + 1) xs) ≡ map f (take i xs) ++ f x ∷ []
mapped_more f xs i x h is = ap (map f) (front_more xs i x h is) ∙ map-append f (take i xs) (x ∷ [])

pub filter_more : {A : Type 0} (p : A → Bool) (xs : List A) (i : ℕ) (x : A) (b : Bool) → i < length xs → x ≡ get_or xs i x → p x ≡ b
    → filter p (take (i + 1) xs) ≡ filter p (take i xs) ++ cond b (x ∷ []) []
filter_more p xs i x b h is e =
    ap (filter p) (front_more xs i x h is) ∙ filter-append p (take i xs) (x ∷ [])
    ∙ ap (λ c. filter p (take i xs) ++ cond c (x ∷ []) []) e

-- valid items, one more

pub distinct_next : (items : List AnItem) (i : ℕ) (item : AnItem) (b : Bool) → i < length items → item ≡ get_or items i item
    → HasDistinctNames (take i items) → b ≡ repeats (flat_map names_in (take i items)) (names_in item) → b ≡ false
    → HasDistinctNames (take (i + 1) items)
distinct_next items i item b h is distinct e new =
    subst HasDistinctNames (sym (front_more items i item h is))
    (distinct_more (take i items) item distinct (sym e ∙ new))

pub distinct_not : (items : List AnItem) (i : ℕ) (item : AnItem) (b : Bool) → i < length items → item ≡ get_or items i item
    → b ≡ repeats (flat_map names_in (take i items)) (names_in item) → b ≡ true → HasDistinctNames items → ⊥
distinct_not items i item b h is e repeated distinct =
    let new = distinct_before (take i items) item (drop (i + 1) items) (subst HasDistinctNames (at_index items i item h is) distinct) in
    cc

-- the first of mapped elements that passes a test

pub missing_here : {A : Type 0} (f : A → List ℕ) (p : List ℕ → Bool) (xs : List A) (i : ℕ) (x : A) → i < length xs → x ≡ get_or xs i x
    → position_from p 0 (map f (take i xs)) ≡ None → p (f x) ≡ true → Some i ≡ position_from p 0 (map f xs)
missing_here f p xs i x h is none here =
    let size : length (map f (take i xs)) ≡ i = length-map (take i xs) f ∙ simp length-take (omega arith) in
    sym (ap (position_from p 0) (ap (map f) (at_index xs i x h is) ∙ map-append f (take i xs) (x ∷ drop (i + 1) xs))
    ∙ place_here p 0 (map f (take i xs)) (f x) (map f (drop (i + 1) xs)) none here
    ∙ ap Some (let k : 0 + length (map f (take i xs)) ≡ i = omega arith in k))

pub missing_next : {A : Type 0} (f : A → List ℕ) (p : List ℕ → Bool) (xs : List A) (i : ℕ) (x : A) → i < length xs → x ≡ get_or xs i x
    → position_from p 0 (map f (take i xs)) ≡ None → p (f x) ≡ false → position_from p 0 (map f (take (i + 1) xs)) ≡ None
missing_next f p xs i x h is none here =
    ap (position_from p 0) (mapped_more f xs i x h is) ∙ place_not p 0 (map f (take i xs)) (f x) none here

pub not_named : (r b : Bool) (name text : List ℕ) (items : List AnItem) → r ≡ list_any (is_named text) items → text ≡ name → r ≡ b
    → not (list_any (is_named name) items) ≡ not b
not_named r b name text items e is of = ap not (ap (λ t. list_any (is_named t) items) (sym is) ∙ sym e ∙ of)

pub picked_more : {A : Type 0} (p : A → Bool) (xs : List A) (i : ℕ) (x : A) (old new : List A) → i < length xs → x ≡ get_or xs i x
    → old ≡ filter p (take i xs) → new ≡ old ++ cond (p x) (x ∷ []) [] → new ≡ filter p (take (i + 1) xs)
picked_more p xs i x old new h is so_far e = e ∙ ap (λ ys. ys ++ cond (p x) (x ∷ []) []) so_far ∙ sym (filter_more p xs i x (p x) h is refl)

-- whether a mapped element passes a test

pub any_here : {A : Type 0} (f : A → List ℕ) (p : List ℕ → Bool) (xs : List A) (i : ℕ) (x : A) (b : Bool) (t : List ℕ) → i < length xs
    → x ≡ get_or xs i x → b ≡ p t → t ≡ f x → b ≡ true → true ≡ list_any p (map f xs)
any_here f p xs i x b t h is e of yes' =
    sym (list_any_at (λ y. p (f y)) xs i x h (ap (λ y. p (f y)) (sym is) ∙ ap p (sym of) ∙ sym e ∙ yes')) ∙ any_mapped f p xs

pub any_next : {A : Type 0} (f : A → List ℕ) (p : List ℕ → Bool) (xs : List A) (i : ℕ) (x : A) (b : Bool) (t : List ℕ) → i < length xs
    → x ≡ get_or xs i x → b ≡ p t → t ≡ f x → b ≡ false
    → list_any p (map f (take i xs)) ≡ false → list_any p (map f (take (i + 1) xs)) ≡ false
any_next f p xs i x b t h is e of not_here none =
    sym (any_mapped f p (take (i + 1) xs)) ∙ list_any_more (λ y. p (f y)) xs i x h
    ∙ ap₂ (λ a c. a || c) (any_mapped f p (take i xs) ∙ none) (ap (λ y. p (f y)) (sym is) ∙ ap p (sym of) ∙ sym e ∙ not_here)

pub any_none : {A : Type 0} (f : A → List ℕ) (p : List ℕ → Bool) (xs : List A) (i : ℕ) → length xs ≤ i
    → list_any p (map f (take i xs)) ≡ false → false ≡ list_any p (map f xs)
any_none f p xs i past none = sym (ap (λ ys. list_any p (map f ys)) (sym (take_all i xs past)) ∙ none)
