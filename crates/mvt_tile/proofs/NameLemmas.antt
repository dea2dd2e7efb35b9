-- Names that are distinct, one by one.
use Rattle.std.proofs.Common.{◌≡◌, ◌≢◌, ℕ, Bool, true, false, ◌||◌, List, [], ◌∷◌, ◌++◌, bytes_eq, refl, sym, ap, ap₂, subst, ◌∙◌, append-nil}
use Rattle.std.specs.Prelude.{AllPairs}
use Rattle.std.specs.List.{AllByRecursion, IsDistinct, list_any, flat_map}
use Rattle.std.specs.Cmp.{IsEquivalence}
use Rattle.std.specs.Cmp.Lexicographic.{slice_cmp}
use Rattle.std.specs.Ordering.{is_eq, nat_cmp}
use Rattle.std.proofs.lemmas.Map.Text.{is_eq-slice_cmp}
use Rattle.std.proofs.lemmas.Bool.Decides.{same_from_decides, Decides-like}
use Rattle.std.proofs.lemmas.Grind.{flat_map-append}
use Rattle.std.proofs.lemmas.Slice.Eq.{bytes_eq-Decides}
use Rattle.std.proofs.lemmas.Map.Keys.{IsDistinct-head, IsDistinct-tail, IsDistinct-push}
use Rattle.std.proofs.lemmas.Map.Made.{AllPairs-from_IsDistinct, IsDistinct-from_AllPairs}
use Rattle.std.proofs.lemmas.Bool.{or_from}
use Rattle.mvt_base.proofs.ListLemmas.{all_right}
use Rattle.mvt_message.specs.declared.item.Item.{Item as AnItem}
use Rattle.mvt_message.specs.declared.item.Item.TheVariants.{Layer, Foreign}
use Rattle.mvt_message.specs.Items.{names_in}
use Rattle.mvt_tile.specs.TileRules.{repeats}
use Rattle.mvt_tile_value.specs.Tiles.{HasDistinctNames}

pub bytes_eq_comm : (a b : List ℕ) → bytes_eq a b ≡ bytes_eq b a
bytes_eq_comm a b =
    same_from_decides (bytes_eq a b) (bytes_eq b a) (bytes_eq-Decides a b)
    (Decides-like (bytes_eq b a) (λ e. sym e) (λ e. sym e) (bytes_eq-Decides b a))

bytes_eq_congr : (a b c : List ℕ) → bytes_eq a b ≡ true → bytes_eq a c ≡ bytes_eq b c
bytes_eq_congr a b c e = ap (λ x. bytes_eq x c) ((bytes_eq-Decides a b).0 e)

pub bytes_equivalence : IsEquivalence bytes_eq
bytes_equivalence = record { refl = λ x. (bytes_eq-Decides x x).1 refl; symm = bytes_eq_comm; congr = bytes_eq_congr }

pub any_text : (n : List ℕ) (ks : List (List ℕ)) → list_any (λ k. is_eq (slice_cmp nat_cmp n k)) ks ≡ list_any (bytes_eq n) ks
any_text n [] = refl
any_text n (k ∷ ks) = ap₂ (λ a b. a || b) (is_eq-slice_cmp n k) (any_text n ks)

abbrev AreApart : List (List ℕ) → Type 0
AreApart names = AllPairs (λ a b. a ≢ b) names

apart_push : (names : List (List ℕ)) (n : List ℕ) → AreApart names → list_any (bytes_eq n) names ≡ false → AreApart (names ++ n ∷ [])
apart_push names n apart none =
    AllPairs-from_IsDistinct {eq = bytes_eq} bytes_eq-Decides (names ++ n ∷ [])
    (IsDistinct-push bytes_equivalence names n (IsDistinct-from_AllPairs {eq = bytes_eq} bytes_eq-Decides names apart) none)

pub or_right_false : (a : Bool) → (a || false) ≡ a
or_right_false true = refl
or_right_false false = refl

distinct_apart : (names : List (List ℕ)) (n : List ℕ) (more : List (List ℕ)) → IsDistinct bytes_eq (names ++ n ∷ more)
    → list_any (bytes_eq n) names ≡ false
distinct_apart [] n more h = refl
distinct_apart (x ∷ xs) n more h =
    let after : AllByRecursion (λ y. bytes_eq x y ≡ false) (n ∷ more) =
    all_right (λ y. bytes_eq x y ≡ false) xs (n ∷ more) (IsDistinct-head bytes_eq x (xs ++ n ∷ more) h) in
    or_from (bytes_eq n x) (list_any (bytes_eq n) xs) (bytes_eq_comm n x ∙ after.0)
    (distinct_apart xs n more (IsDistinct-tail bytes_eq x (xs ++ n ∷ more) h))

apart_before : (names : List (List ℕ)) (n : List ℕ) (more : List (List ℕ)) → AreApart (names ++ n ∷ more)
    → list_any (bytes_eq n) names ≡ false
apart_before names n more apart =
    distinct_apart names n more (IsDistinct-from_AllPairs {eq = bytes_eq} bytes_eq-Decides (names ++ n ∷ more) apart)

-- the names of one more item
pub names_more : (items : List AnItem) (item : AnItem) → flat_map names_in (items ++ item ∷ []) ≡ flat_map names_in items ++ names_in item
names_more items item = flat_map-append names_in items (item ∷ []) ∙ ap (λ ns. flat_map names_in items ++ ns) (append-nil (names_in item))

-- an item whose name stands in none before it
pub distinct_more : (items : List AnItem) (item : AnItem) → HasDistinctNames items
    → repeats (flat_map names_in items) (names_in item) ≡ false → HasDistinctNames (items ++ item ∷ [])
distinct_more items (Layer l) distinct none =
    subst AreApart (sym (names_more items (Layer l)))
    (apart_push (flat_map names_in items) l.name distinct
    (sym (or_right_false (list_any (bytes_eq l.name) (flat_map names_in items))) ∙ none))
distinct_more items (Foreign version bytes) distinct none =
    subst AreApart (sym (names_more items (Foreign version bytes) ∙ append-nil (flat_map names_in items))) distinct

-- the name of an item among distinct ones stands in none before it
pub distinct_before : (items : List AnItem) (item : AnItem) (more : List AnItem) → HasDistinctNames (items ++ item ∷ more)
    → repeats (flat_map names_in items) (names_in item) ≡ false
distinct_before items (Layer l) more distinct =
    or_right_false (list_any (bytes_eq l.name) (flat_map names_in items))
    ∙ apart_before (flat_map names_in items) l.name (flat_map names_in more)
    (subst AreApart (flat_map-append names_in items (Layer l ∷ more)) distinct)
distinct_before items (Foreign version bytes) more distinct = refl

pub distinct_none : HasDistinctNames []
unfolding IsDistinct
distinct_none = AllPairs-from_IsDistinct {eq = bytes_eq} bytes_eq-Decides [] tt
