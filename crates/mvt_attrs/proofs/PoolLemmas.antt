-- What a set's look-ups and insertions say of the list of its keys.
use Rattle.std.proofs.Common.{◌≡◌, ◌≢◌, refl, subst, slice_get, cond, ℕ, zero, suc, ◌<◌, Bool, true, false, List, [], ◌∷◌, ◌++◌, length, get_or, Option, Some, None, Result, Ok, Err, Contains, Decides, inl, inr, sym, ap, ◌∙◌, is_some, position, IsErr, IsErrAnd, arith}
use Rattle.std.specs.List.{list_any}
use Rattle.std.proofs.lemmas.Bool.{cond_both, false≢true, or_left, or_right, or_cases, false_from_ne_true, cond-false, both_ways}
use Rattle.std.proofs.lemmas.List.{get_or_default}
use Rattle.std.proofs.lemmas.List.Elements.{Contains-push_cases}
use Rattle.std.proofs.lemmas.List.Quantifiers.{all_pairs_push, position-Some}
use Rattle.std.proofs.lemmas.Option.{slice_get-get_or, slice_get_within, get_or_from_slice_get}
use Rattle.indexmap.specs.IndexSet.{insert_key}
use Rattle.mvt_base.specs.declared.TheConstants.{LIMIT}
use Rattle.mvt_attrs.specs.declared.pool_error.PoolError.{PoolError}
use Rattle.mvt_attrs.specs.declared.pool_error.PoolError.TheVariants.{Memory, Full}
use Rattle.mvt_attrs.specs.Placed.{IsPlaced}
use Rattle.mvt_attrs.specs.FirstUse.{AreDistinct}
use Rattle.mvt_attrs.specs.Inner.Found.{IsPlaceOf}

module _ {A : Type 0} (x : A) (test : A → Bool) (decides : (k : A) → Decides (test k) (x ≡ k)) where
  any_at : (ks : List A) (i : ℕ) → i < length ks → get_or ks i x ≡ x → list_any test ks ≡ true
  any_at [] i lt e = absurd (omega arith)
  any_at (k ∷ ks) zero lt e = or_left (test k) (list_any test ks) ((decides k).1 (sym e))
  any_at (k ∷ ks) (suc i) lt e = or_right (test k) (list_any test ks) (any_at ks i (omega arith) e)

  -- an entry that is there passes
  pub any_from_Contains : (ks : List A) → Contains ks x → list_any test ks ≡ true
  any_from_Contains ks h = any_at ks h.0 h.1 h.2

  -- and what passes is there
  pub Contains_from_any : (ks : List A) → list_any test ks ≡ true → Contains ks x
  Contains_from_any [] e = absurd (false≢true e)
  Contains_from_any (k ∷ ks) e =
      elim (or_cases (test k) (list_any test ks) e) [
        | inl here ↦ (0, omega arith, sym ((decides k).0 here))
        | inr there ↦ (let h = Contains_from_any ks there in (suc h.0, omega (arith, h.1), h.2))
      ]

  pub none_from_absent : (ks : List A) → (Contains ks x → ⊥) → list_any test ks ≡ false
  none_from_absent ks absent = false_from_ne_true (list_any test ks) (λ e. absent (Contains_from_any ks e))

  -- what a look-up answers
  pub look_up : (ks : List A) (r : Option ℕ) → r ≡ position test ks → is_some r ≡ list_any test ks → IsPlaceOf ks x r
  look_up ks None at found = λ h. both_ways (list_any test ks) (sym found) (any_from_Contains ks h)
  look_up [] (Some i) at found = absurd (false≢true (sym found))
  look_up (k ∷ ks) (Some i) at found =
      let all = k ∷ ks in
      let p = position-Some test all i k (sym at) in
      slice_get-get_or all i k p.0 ∙ ap Some (sym ((decides (get_or all i k)).0 p.1))

-- a new key goes last
module _ {A : Type 0} (same : A → A → Bool) (decides : (j k : A) → Decides (same j k) (j ≡ k)) where
  pub inserted : (ks new : List A) (k : A) → (Contains ks k → ⊥) → new ≡ insert_key same ks k → new ≡ ks ++ k ∷ []
  inserted ks new k absent e =
      e ∙ cond-false (list_any (same k) ks) ks (ks ++ k ∷ []) (none_from_absent k (same k) (decides k) ks absent)

-- a new entry differs from those before it
pub distinct_more : {A : Type 0} → (xs : List A) (x : A) → AreDistinct xs → (Contains xs x → ⊥) → AreDistinct (xs ++ x ∷ [])
distinct_more xs x distinct absent =
    all_pairs_push (λ a b. a ≢ b) xs x distinct (λ k d within e. absent (k, within, get_or_default xs k x d within ∙ e))

pub last_there : {A : Type 0} → (xs : List A) (x : A) → slice_get (xs ++ x ∷ []) (length xs) ≡ Some x
last_there [] x = refl
last_there (y ∷ xs) x = last_there xs x

pub slice_get-front : {A : Type 0} → (xs ys : List A) (i : ℕ) (x : A) → slice_get xs i ≡ Some x → slice_get (xs ++ ys) i ≡ Some x
slice_get-front [] ys i x e = cc
slice_get-front (w ∷ xs) ys zero x e = e
slice_get-front (w ∷ xs) ys (suc i) x e = slice_get-front xs ys i x e

-- places that were found stay when another entry is added
module _ {A : Type 0} (entries : List A) (new : A) where
  found_still : (x : A) (r : Option ℕ) → (new ≡ x → ⊥) → IsPlaceOf entries x r → IsPlaceOf (entries ++ new ∷ []) x r
  found_still x None apart absent = λ there.
      elim (Contains-push_cases entries new x there) [
        | inl before ↦ absent before
        | inr same ↦ apart same
      ]
  found_still x (Some i) apart at = slice_get-front entries (new ∷ []) i x at

  -- places are those in a longer list once they have the new entry's
  pub placed_more : (here : A → Bool) → ((x : A) → Decides (here x) (new ≡ x)) → (old after : A → Option ℕ)
      → ((x : A) → IsPlaceOf entries x (old x)) → ((x : A) → after x ≡ cond (here x) (Some (length entries)) (old x))
      → (x : A) → IsPlaceOf (entries ++ new ∷ []) x (after x)
  placed_more here decides old after known updated x =
      subst (IsPlaceOf (entries ++ new ∷ []) x) (sym (updated x))
      (cond_both (here x) (Some (length entries)) (old x) (IsPlaceOf (entries ++ new ∷ []) x)
      (λ e. last_there entries new ∙ ap Some ((decides x).0 e))
      (λ e. found_still x (old x) (λ same. both_ways (here x) e ((decides x).1 same)) (known x)))

-- an entry is there already, the pool is full, memory ran out, or the entry goes last

pub is_there : {A : Type 0} → (pool : List A) (x : A) (i : ℕ) → slice_get pool i ≡ Some x → IsPlaced pool pool x (Ok i)
is_there pool x i at =
    let there : Contains pool x = (i, slice_get_within pool i x at, get_or_from_slice_get pool i x x at) in
    record {
      index = at;
      present = λ _. refl;
      kept = λ _. refl;
      added = λ new. absurd (new there);
      unchanged = tt;
      full = (λ never. absurd (let clash : Ok i ≡ Err Full = never in cc), λ told. absurd (told.1 there));
    }

pub is_full : {A : Type 0} → (pool : List A) (x : A) → (Contains pool x → ⊥) → length pool ≡ LIMIT → IsPlaced pool pool x (Err Full)
is_full pool x new most = record {
  index = tt;
  present = λ there. absurd (new there);
  kept = λ _. refl;
  added = λ _. tt;
  unchanged = refl;
  full = (λ _. (most, new), λ _. refl);
}

pub is_left : {A : Type 0} → (pool after : List A) (x : A) (r : Result ℕ PoolError) → (Contains pool x → ⊥) → length pool ≢ LIMIT
    → after ≡ pool → IsErr r × IsErrAnd r (λ e. e ≡ Memory) → IsPlaced pool after x r
is_left pool after x (Ok i) new room same is = absurd (let clash : false ≡ true = is.0 in cc)
is_left pool after x (Err e) new room same is = rw (is.1, same) (record {
  index = tt;
  present = λ there. absurd (new there);
  kept = λ _. refl;
  added = λ _. tt;
  unchanged = refl;
  full = (
    λ told. absurd (let left : Result ℕ PoolError = Err Memory in let clash : left ≡ Err Full = told in cc),
    λ told. absurd
        (room told.0),
  );
})

pub is_last : {A : Type 0} → (pool after : List A) (x : A) (i : ℕ) → (Contains pool x → ⊥) → i ≡ length pool → length pool ≢ LIMIT
    → after ≡ pool ++ x ∷ [] → IsPlaced pool after x (Ok i)
is_last pool after x i new at room more = rw (at, more) (record {
  index = last_there pool x;
  present = λ _. refl;
  kept = λ there. absurd (new there);
  added = λ _. refl;
  unchanged = tt;
  full = (λ never. absurd (let clash : Ok (length pool) ≡ Err Full = never in cc), λ told. absurd (room told.0));
})
