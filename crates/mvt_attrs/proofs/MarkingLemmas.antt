-- Keys in their groups, and the marks that a feature leaves at the places of its keys.
use Rattle.std.proofs.Common.{◌≡◌, ℕ, ◌+◌, ◌<◌, ◌==◌, Bool, Bor, true, false, not, ◌||◌, List, [], ◌∷◌, ◌++◌, length, get_or, set, Option, Some, None, slice_get, bytes_eq, refl, sym, ap, subst, ◌∙◌, ⊎_elim, arith}
use Rattle.std.specs.Map.{update}
use Rattle.std.specs.Option.{unwrap_or}
use Rattle.std.proofs.Math.Seq.{get_or-append_seam}
use Rattle.std.proofs.Math.Bool.{or-true, or-false}
use Rattle.std.proofs.lemmas.Bool.{eq-eqb, ne_eqb, not-true, not-false, cases_eq, false≢true}
use Rattle.std.proofs.lemmas.List.{get_or-map, length-map, get_or-set_same, get_or-set_other, get_or_append_left, length_push}
use Rattle.std.proofs.lemmas.List.Folds.{list_any-append}
use Rattle.std.proofs.lemmas.Map.{update_same, update_other}
use Rattle.std.proofs.lemmas.Option.{slice_get_within, slice_get-get_or}
use Rattle.std.proofs.lemmas.Slice.Eq.{bytes_eq-Decides}
use Rattle.mvt_attrs.specs.declared.value.Attribute.{Attribute}
use Rattle.mvt_attrs.specs.FirstUses.{lent}
use Rattle.mvt_attrs.specs.Inner.Marking.{IsGrouped, IsMarked, AreBelow}
use Rattle.mvt_attrs.specs.Tags.{has_key}

-- the places of the first texts, and where each text is found among them
pub record Found (texts : List (List ℕ)) (n : ℕ) (first_indices : List ℕ) (find : List ℕ → Option ℕ) : Type 0 where
  pub count : length first_indices ≡ n
  pub found : (j : ℕ) (a : List ℕ) → j < n → slice_get texts j ≡ Some a → find a ≡ Some (get_or first_indices j 0)
  pub first : (a : List ℕ) (v : ℕ) → find a ≡ Some v → slice_get texts v ≡ Some a

front_of : (first_indices : List ℕ) (place j : ℕ) → j < length first_indices
    → get_or (first_indices ++ place ∷ []) j 0 ≡ get_or first_indices j 0
front_of first_indices place j lt = get_or_append_left first_indices (place ∷ []) 0 j lt

last_of : (first_indices : List ℕ) (place j : ℕ) → j ≡ length first_indices → get_or (first_indices ++ place ∷ []) j 0 ≡ place
last_of first_indices place j e = ap (λ k. get_or (first_indices ++ place ∷ []) k 0) e ∙ get_or-append_seam first_indices place [] 0

module _ (texts : List (List ℕ)) (n : ℕ) (first_indices : List ℕ) (find after : List ℕ → Option ℕ) (text : List ℕ) (place : ℕ)
    (so_far : Found texts n first_indices find) (at : slice_get texts n ≡ Some text) (is : place ≡ unwrap_or (find text) n)
    (known : (q : List ℕ) → after q ≡ update bytes_eq find text (Some place) q) where
  found_at : (j : ℕ) (a : List ℕ) → j < n + 1 → slice_get texts j ≡ Some a → after a ≡ Some (get_or (first_indices ++ place ∷ []) j 0)
  found_at j a lt at_j = by (bytes_eq text a) refl
    where
      last : j ≡ n → text ≡ a
      last e = let here : slice_get texts n ≡ Some a = subst (λ k. slice_get texts k ≡ Some a) e at_j in cc

      by : (b : Bool) → bytes_eq text a ≡ b → after a ≡ Some (get_or (first_indices ++ place ∷ []) j 0)
      by true e =
          let one : text ≡ a = (bytes_eq-Decides text a).0 e in
          known a ∙ update_same bytes_eq find text (Some place) a e ∙ ap Some (⊎_elim
          (λ (is_last : j ≡ n). sym (last_of first_indices place j (is_last ∙ sym so_far.count)))
          (λ (other : j ≡ n → ⊥).
          let before : j < n = omega arith in
          let there : find a ≡ Some (get_or first_indices j 0) = so_far.found j a before at_j in
          let same : place ≡ get_or first_indices j 0 = is ∙ ap (λ t. unwrap_or (find t) n) one ∙ ap (λ o. unwrap_or o n) there in
          same ∙ sym (front_of first_indices place j (omega (arith, so_far.count))))
          (cases_eq j n))
      by false e =
          let other : j ≡ n → ⊥ = λ is_last. false≢true (sym e ∙ (bytes_eq-Decides text a).1 (last is_last)) in
          let before : j < n = omega arith in
          known a ∙ update_other bytes_eq find text (Some place) a e ∙ so_far.found j a before at_j
          ∙ ap Some (sym (front_of first_indices place j (omega (arith, so_far.count))))

  place_is : slice_get texts place ≡ Some text
  place_is = by (find text) refl
    where
      by : (o : Option ℕ) → find text ≡ o → slice_get texts place ≡ Some text
      by None e = subst (λ k. slice_get texts k ≡ Some text) (sym (is ∙ ap (λ o. unwrap_or o n) e)) at
      by (Some p) e = subst (λ k. slice_get texts k ≡ Some text) (sym (is ∙ ap (λ o. unwrap_or o n) e)) (so_far.first text p e)

  first_at : (a : List ℕ) (v : ℕ) → after a ≡ Some v → slice_get texts v ≡ Some a
  first_at a v at_v = by (bytes_eq text a) refl
    where
      by : (b : Bool) → bytes_eq text a ≡ b → slice_get texts v ≡ Some a
      by true e =
          let one : text ≡ a = (bytes_eq-Decides text a).0 e in
          let here : after a ≡ Some place = known a ∙ update_same bytes_eq find text (Some place) a e in
          let same : place ≡ v = cc in
          subst (λ k. slice_get texts k ≡ Some a) same (place_is ∙ ap Some one)
      by false e = so_far.first a v (sym (known a ∙ update_other bytes_eq find text (Some place) a e) ∙ at_v)

  pub found_more : (longer : List ℕ) → longer ≡ first_indices ++ place ∷ [] → Found texts (n + 1) longer after
  found_more longer e = subst (λ ps. Found texts (n + 1) ps after) (sym e) (record {
    count = omega (arith, length_push first_indices place, so_far.count);
    found = found_at;
    first = first_at;
  })

pub grouped : (texts : List (List ℕ)) (n : ℕ) (first_indices : List ℕ) (find : List ℕ → Option ℕ) → n ≡ length texts
    → Found texts n first_indices find → IsGrouped texts first_indices
grouped texts n first_indices find all done = record {
  len = done.count ∙ all;
  within = λ i lt.
      let text = get_or texts i [] in
      let at : slice_get texts i ≡ Some text = slice_get-get_or texts i [] lt in
      slice_get_within texts (get_or first_indices i 0) text
      (done.first text (get_or first_indices i 0) (done.found i text (omega arith) at));
  together = λ i j a at_i at_j.
      let lt_i : i < length texts = slice_get_within texts i a at_i in
      let lt_j : j < length texts = slice_get_within texts j a at_j in
      let here : find a ≡ Some (get_or first_indices i 0) = done.found i a (omega arith) at_i in
      let there : find a ≡ Some (get_or first_indices j 0) = done.found j a (omega arith) at_j in
      cc;
  apart = λ i j a b at_i at_j e.
      let lt_i : i < length texts = slice_get_within texts i a at_i in
      let lt_j : j < length texts = slice_get_within texts j b at_j in
      let here : slice_get texts (get_or first_indices i 0) ≡ Some a = done.first a (get_or first_indices i 0)
      (done.found i a (omega arith) at_i) in
      let there : slice_get texts (get_or first_indices j 0) ≡ Some b = done.first b (get_or first_indices j 0)
      (done.found j b (omega arith) at_j) in
      let both : Some a ≡ Some b = sym here ∙ ap (slice_get texts) e ∙ there in
      cc;
}

pub below_set : (named_by : List ℕ) (p feature : ℕ) → p < length named_by → AreBelow named_by (feature + 1)
    → AreBelow (set named_by p feature) (feature + 1)
below_set named_by p feature lt below = λ i.
    ⊎_elim
    (λ (e : i ≡ p). subst (λ k. get_or (set named_by p feature) k 0 < feature + 1) (sym e)
    (omega (arith, get_or-set_same named_by p feature 0 lt)))
    (λ (ne : i ≡ p → ⊥). omega (arith, get_or-set_other named_by p i feature 0 ne, below i))
    (cases_eq i p)

-- a feature above all that named a key has named none
pub marked_none : (texts : List (List ℕ)) (first_indices named_by : List ℕ) (feature : ℕ) → AreBelow named_by feature
    → IsMarked texts first_indices named_by feature []
marked_none texts first_indices named_by feature below = λ i text at.
    let lt = below (get_or first_indices i 0) in ne_eqb (get_or named_by (get_or first_indices i 0) 0) feature (λ e. omega arith)

module _ (texts : List (List ℕ)) (first_indices named_by : List ℕ) (feature : ℕ) (attributes : List Attribute) (k : ℕ) (key : List ℕ)
    (new : Bool)
    (marked : IsMarked texts first_indices named_by feature attributes) (at : slice_get texts k ≡ Some key)
    (is : new ≡ not (get_or named_by (get_or first_indices k 0) 0 == feature)) where
  -- a key whose first index this feature has named was named before
  pub repeated_before : new ≡ false → has_key key attributes ≡ true
  repeated_before no_new = not-false (has_key key attributes) (ap not (sym (marked k key at)) ∙ sym is ∙ no_new)

  pub new_before : new ≡ true → has_key key attributes ≡ false
  new_before is_new = not-true (has_key key attributes) (ap not (sym (marked k key at)) ∙ sym is ∙ is_new)

pub below_marked : (texts : List (List ℕ)) (first_indices named_by : List ℕ) (feature k : ℕ) (key : List ℕ) → IsGrouped texts first_indices
    → length named_by ≡ length texts → slice_get texts k ≡ Some key
    → AreBelow named_by (feature + 1) → AreBelow (set named_by (get_or first_indices k 0) feature) (feature + 1)
below_marked texts first_indices named_by feature k key groups room at below =
    let lt : k < length texts = slice_get_within texts k key at in
    below_set named_by (get_or first_indices k 0) feature (omega (arith, groups.within k lt)) below

-- one attribute more, and its key's place marked
pub marked_more : (texts : List (List ℕ)) (first_indices named_by : List ℕ) (feature : ℕ) (attributes : List Attribute) (k : ℕ)
    (a : Attribute)
    → IsGrouped texts first_indices → length named_by ≡ length texts → slice_get texts k ≡ Some a.key
    → IsMarked texts first_indices named_by feature attributes
    → IsMarked texts first_indices (set named_by (get_or first_indices k 0) feature) feature (attributes ++ a ∷ [])
marked_more texts first_indices named_by feature attributes k a groups room at marked = λ i text at_i.
    let lt_k : k < length texts = slice_get_within texts k a.key at in
    let lt : get_or first_indices k 0 < length named_by = omega (arith, groups.within k lt_k) in
    let whole : has_key text (attributes ++ a ∷ []) ≡ (has_key text attributes || (bytes_eq a.key text || false)) =
    list_any-append (λ (b : Attribute). bytes_eq b.key text) attributes (a ∷ []) in
    ⊎_elim
    (λ (e : get_or first_indices i 0 ≡ get_or first_indices k 0).
    let one : a.key ≡ text = groups.apart k i a.key text at at_i (sym e) in
    eq-eqb _ _ (ap (λ p. get_or (set named_by (get_or first_indices k 0) feature) p 0) e
    ∙ get_or-set_same named_by (get_or first_indices k 0) feature 0 lt)
    ∙ sym (whole ∙ ap (λ b. has_key text attributes || (b || false)) ((bytes_eq-Decides a.key text).1 one)
    ∙ or-true (has_key text attributes)))
    (λ (ne : get_or first_indices i 0 ≡ get_or first_indices k 0 → ⊥).
    let two : bytes_eq a.key text ≡ false = differs text i at_i ne in
    ap (λ m. m == feature) (get_or-set_other named_by (get_or first_indices k 0) (get_or first_indices i 0) feature 0 ne)
    ∙ marked i text at_i
    ∙ sym (whole ∙ ap (λ b. has_key text attributes || (b || false)) two ∙ or-false (has_key text attributes)))
    (cases_eq (get_or first_indices i 0) (get_or first_indices k 0))
  where
    differs : (text : List ℕ) (i : ℕ) → slice_get texts i ≡ Some text → (get_or first_indices i 0 ≡ get_or first_indices k 0 → ⊥)
        → bytes_eq a.key text ≡ false
    differs text i at_i ne = by (bytes_eq a.key text) refl
      where
        by : (b : Bool) → bytes_eq a.key text ≡ b → b ≡ false
        by true e = absurd (ne (groups.together i k a.key (at_i ∙ ap Some (sym ((bytes_eq-Decides a.key text).0 e))) at))
        by false e = refl

-- ---- texts that are lent

pub length-lent : (entries : List (Bor (List ℕ))) → length (lent entries) ≡ length entries
length-lent entries = length-map entries (λ (b : Bor (List ℕ)). b.now)

pub lent_at : (entries : List (Bor (List ℕ))) (i : ℕ) (d : Bor (List ℕ)) → i < length entries
    → slice_get (lent entries) i ≡ Some (get_or entries i d).now
lent_at entries i d inside =
    slice_get-get_or (lent entries) i d.now (omega (arith, length-lent entries, inside))
    ∙ ap Some (get_or-map (λ (b : Bor (List ℕ)). b.now) entries i d d.now inside)
