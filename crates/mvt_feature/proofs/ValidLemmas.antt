-- Distinct keys, attribute by attribute.
use Rattle.std.proofs.Common.{◌≡◌, ◌≢◌, ℕ, ◌+◌, ◌<◌, Bool, true, false, cond, not, ◌||◌, List, [], ◌∷◌, ◌++◌, length, take, get_or, bytes_eq, refl, sym, ap, ap₂, ◌∙◌, subst, arith, Bor}
use Rattle.std.specs.Ordering.{is_eq, nat_cmp}
use Rattle.std.specs.Cmp.Lexicographic.{slice_cmp}
use Rattle.std.specs.List.{AllByRecursion, list_any}
use Rattle.std.proofs.lemmas.Bool.{both_ways}
use Rattle.std.proofs.lemmas.List.{get_or_default, length-take-le, get_or-take}
use Rattle.std.proofs.lemmas.List.Folds.{Any-from_list_any, list_any_at, list_any_more}
use Rattle.std.proofs.lemmas.List.Quantifiers.{all_pairs_push}
use Rattle.std.proofs.lemmas.Map.Text.{is_eq-slice_cmp}
use Rattle.std.proofs.lemmas.Slice.Eq.{bytes_eq-Decides}
use Rattle.mvt_base.proofs.ListLemmas.{all_joined, front_more}
use Rattle.mvt_attrs.specs.declared.value.Attribute.{Attribute}
use Rattle.mvt_attrs.specs.Tags.{HasDistinctKeys, has_key}
use Rattle.mvt_feature.specs.Valid.{ValidAttribute}

distinct_push : (xs : List Attribute) (a : Attribute) → HasDistinctKeys xs → has_key a.key xs ≡ false → HasDistinctKeys (xs ++ a ∷ [])
distinct_push xs a h new =
    all_pairs_push (λ (x y : Attribute). x.key ≢ y.key) xs a h
    (λ k d inside same. both_ways (has_key a.key xs) new
    (list_any_at (λ (x : Attribute). bytes_eq x.key a.key) xs k d inside ((bytes_eq-Decides _ a.key).1 same)))

-- one more attribute with a new key
pub distinct_more : (xs : List Attribute) (i : ℕ) (a : Attribute) → i < length xs → a ≡ get_or xs i a
    → HasDistinctKeys (take i xs) → has_key a.key (take i xs) ≡ false → HasDistinctKeys (take (i + 1) xs)
distinct_more xs i a inside at h new =
    subst HasDistinctKeys (sym (front_more xs i a inside at)) (distinct_push (take i xs) a h new)

pub valid_more : (xs : List Attribute) (i : ℕ) (a : Attribute) → i < length xs → a ≡ get_or xs i a
    → AllByRecursion ValidAttribute (take i xs) → ValidAttribute a → AllByRecursion ValidAttribute (take (i + 1) xs)
valid_more xs i a inside at h valid =
    subst (AllByRecursion ValidAttribute) (sym (front_more xs i a inside at)) (all_joined ValidAttribute (take i xs) (a ∷ []) h (valid, tt))

-- an attribute whose key stood before
pub distinct_breaks : (xs : List Attribute) (i : ℕ) (a : Attribute) → i < length xs → a ≡ get_or xs i a
    → has_key a.key (take i xs) ≡ true → HasDistinctKeys xs → ⊥
distinct_breaks xs i a inside at seen h =
    let found = Any-from_list_any (λ (x : Attribute). bytes_eq x.key a.key) (take i xs) seen in
    let k = found.0 in
    let x = found.1 in
    let size = length-take-le i xs (omega arith) in
    let before : k < i = omega (arith, found.2) in
    let place : get_or xs k a ≡ x = get_or_default xs k a x (omega arith) ∙ sym (get_or-take i xs k x before) ∙ found.3 in
    let same : x.key ≡ a.key = (bytes_eq-Decides x.key a.key).0 found.4 in
    h k i a before inside (ap (λ (y : Attribute). y.key) place ∙ same ∙ ap (λ (y : Attribute). y.key) at)

-- the answer of `has_key`, over the attributes before a place
pub seen_from : (r b : Bool) (given xs : List Attribute) (key text : List ℕ) → r ≡ has_key text given → given ≡ xs
    → text ≡ key → r ≡ b → has_key key xs ≡ b
seen_from r b given xs key text is list same reported =
    ap (λ l. has_key key l) (sym list) ∙ ap (λ k. has_key k given) (sym same) ∙ sym is ∙ reported

-- a set of keys, seen by their bytes
abbrev pub holds_key : List (Bor (List ℕ)) → List ℕ → Bool
holds_key keys text = list_any (λ k. bytes_eq text k.now) keys

abbrev pub finds_key : List (Bor (List ℕ)) → List ℕ → Bool
finds_key keys text = list_any (λ k. is_eq (slice_cmp nat_cmp text k.now)) keys

pub finds_holds : (text : List ℕ) (keys : List (Bor (List ℕ))) → finds_key keys text ≡ holds_key keys text
finds_holds text [] = refl
finds_holds text (k ∷ keys) = ap₂ (λ a b. a || b) (is_eq-slice_cmp text k.now) (finds_holds text keys)

cond_or : (b held : Bool) → cond b true held ≡ (held || b)
cond_or true true = refl
cond_or true false = refl
cond_or false true = refl
cond_or false false = refl

-- the set with one more key
pub known_more : (old new : List (Bor (List ℕ))) (xs : List Attribute) (i : ℕ) (a : Attribute) (key : List ℕ)
    → i < length xs → a ≡ get_or xs i a → key ≡ a.key
    → ((text : List ℕ) → holds_key old text ≡ has_key text (take i xs)) → (text : List ℕ)
    → finds_key new text ≡ cond (is_eq (slice_cmp nat_cmp key text)) true (finds_key old text)
    → holds_key new text ≡ has_key text (take (i + 1) xs)
known_more old new xs i a key inside at same known text updated =
    sym (finds_holds text new) ∙ updated ∙ ap₂ (λ b held. cond b true held) (is_eq-slice_cmp key text) (finds_holds text old ∙ known text)
    ∙ cond_or (bytes_eq key text) (has_key text (take i xs))
    ∙ ap (λ k. has_key text (take i xs) || bytes_eq k text) (same ∙ ap (λ (x : Attribute). x.key) at)
    ∙ sym (list_any_more (λ (x : Attribute). bytes_eq x.key text) xs i a inside)

not_same : (a b : Bool) → a ≡ not b → b ≡ not a
not_same true true e = cc
not_same true false e = refl
not_same false true e = refl
not_same false false e = cc

-- whether a key was there, from the answer of `insert`
pub key_seen : (added b : Bool) (keys : List (Bor (List ℕ))) (xs : List Attribute) (key text : List ℕ)
    → added ≡ not (finds_key keys text) → text ≡ key
    → ((t : List ℕ) → holds_key keys t ≡ has_key t xs) → added ≡ b → has_key key xs ≡ not b
key_seen added b keys xs key text is same known reported =
    ap (λ k. has_key k xs) (sym same) ∙ sym (known text) ∙ sym (finds_holds text keys) ∙ not_same added (finds_key keys text) is
    ∙ ap not reported
