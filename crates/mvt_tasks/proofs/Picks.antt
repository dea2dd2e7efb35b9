-- The first name that no layer of a tile has.
use Rattle.std.proofs.Common.{◌≡◌, ℕ, ◌+◌, ◌<◌, suc, Bool, true, false, cond, List, [], ◌∷◌, length, find, slice_get, Option, Some, None, refl, sym, ap, ◌∙◌, arith}
use Rattle.std.specs.List.{position_from}
use Rattle.mvt_tile_value.specs.declared.tile.Tile.{Tile}
use Rattle.mvt_tile.specs.Extraction.{first_missing}
use Rattle.mvt_tasks.specs.Output.{is_missing}

-- the element found is the one at the position found

abbrev IsAt : {A : Type 0} → ℕ → ℕ → List A → Option A → Type 0
IsAt n i xs found = (k : ℕ) × (i ≡ n + k) × (k < length xs) × (found ≡ slice_get xs k)

at_head : {A : Type 0} (b : Bool) (n i : ℕ) (x : A) (xs : List A) (o : Option ℕ) (found : Option A) → cond b (Some n) o ≡ Some i
    → (o ≡ Some i → IsAt (n + 1) i xs found) → IsAt n i (x ∷ xs) (cond b (Some x) found)
at_head true n i x xs o found is rest = (0, (let e : i ≡ n = cc in omega arith), omega arith, refl)
at_head false n i x xs o found is rest =
    let r = rest is in (suc r.0, (let e : i ≡ (n + 1) + r.0 = r.1 in omega arith), (let h : r.0 < length xs = r.2 in omega arith), r.3)

at_position : {A : Type 0} (p : A → Bool) (n i : ℕ) (xs : List A) → position_from p n xs ≡ Some i → IsAt n i xs (find p xs)
at_position p n i [] is = cc
at_position p n i (x ∷ xs) is = at_head (p x) n i x xs (position_from p (n + 1) xs) (find p xs) is (λ e. at_position p (n + 1) i xs e)

none_head : {A : Type 0} (b : Bool) (n : ℕ) (x : A) (o : Option ℕ) (found : Option A) → cond b (Some n) o ≡ None → (o ≡ None → found ≡ None)
    → cond b (Some x) found ≡ None
none_head true n x o found is rest = cc
none_head false n x o found is rest = rest is

none_found : {A : Type 0} (p : A → Bool) (n : ℕ) (xs : List A) → position_from p n xs ≡ None → find p xs ≡ None
none_found p n [] is = refl
none_found p n (x ∷ xs) is = none_head (p x) n x (position_from p (n + 1) xs) (find p xs) is (λ e. none_found p (n + 1) xs e)

pub missing_at : (tile : Tile) (names : List (List ℕ)) (i : ℕ) → first_missing tile names ≡ Some i
    → (i < length names) × (find (is_missing tile) names ≡ slice_get names i)
missing_at tile names i is =
    let r = at_position (is_missing tile) 0 i names is in
    let same : i ≡ r.0 = let e : i ≡ 0 + r.0 = r.1 in omega arith in
    (let h : r.0 < length names = r.2 in omega arith, r.3 ∙ ap (slice_get names) (sym same))

pub none_missing : (tile : Tile) (names : List (List ℕ)) → first_missing tile names ≡ None → find (is_missing tile) names ≡ None
none_missing tile names is = none_found (is_missing tile) 0 names is
