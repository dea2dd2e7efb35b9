-- Elements selected by their number, and the last of a list.
use Rattle.std.proofs.Common.{◌≡◌, ℕ, ◌==◌, Bool, true, false, List, [], ◌∷◌, ◌++◌, Option, Some, None, refl, ap, ◌∙◌, append-nil, if◌then◌else◌}
use Rattle.std.specs.Prelude.{filter}
use Rattle.std.specs.List.{AllByRecursion, last_or}
use Rattle.std.proofs.lemmas.Bool.{eqb-true, eq-eqb}
use Rattle.std.proofs.lemmas.List.Elements.{filter-append}

-- the elements of this number
abbrev pub selected : {X : Type 0} → (X → ℕ) → ℕ → List X → List X
selected number k xs = filter (λ x. number x == k) xs

only_if : {X : Type 0} → (b : Bool) (x : X) (xs : List X) (P : X → Type 0) → (b ≡ true → P x) → AllByRecursion P xs
    → AllByRecursion P (if b then x ∷ xs else xs)
only_if true x xs P h k = (h refl, k)
only_if false x xs P h k = k

-- the selected elements have the number
pub only_number : {X : Type 0} → (number : X → ℕ) (k : ℕ) (xs : List X) → AllByRecursion (λ x. number x ≡ k) (selected number k xs)
only_number number k [] = tt
only_number number k (x ∷ xs) =
    only_if (number x == k) x (selected number k xs) (λ y. number y ≡ k) (λ e. eqb-true (number x) k e) (only_number number k xs)

-- what holds of all elements holds of those selected
pub only_all : {X : Type 0} → (number : X → ℕ) (P : X → Type 0) (k : ℕ) (xs : List X) → AllByRecursion P xs
    → AllByRecursion P (selected number k xs)
only_all number P k [] h = tt
only_all number P k (x ∷ xs) h = only_if (number x == k) x (selected number k xs) P (λ _. h.0) (only_all number P k xs h.1)

-- and what holds of those holds of all that have the number
pub all_only : {X : Type 0} → (number : X → ℕ) (P : X → Type 0) (k : ℕ) (xs : List X) → AllByRecursion P (selected number k xs)
    → AllByRecursion (λ x. number x ≡ k → P x) xs
all_only number P k [] h = tt
all_only {X} number P k (x ∷ xs) h = by_test (number x == k) refl h (all_only number P k xs)
  where
    by_test : (b : Bool) → (number x == k) ≡ b → AllByRecursion P (if b then x ∷ selected number k xs else selected number k xs)
        → (AllByRecursion P (selected number k xs) → AllByRecursion (λ y. number y ≡ k → P y) xs) → AllByRecursion
        (λ y. number y ≡ k → P y) (x ∷ xs)
    by_test true e h more = (λ _. h.0, more h.1)
    by_test false e h more = (λ is. cc (eq-eqb (number x) k is), more h)

-- what holds of each element holds of the last
pub last_all : {X : Type 0} → (P : X → Type 0) (o : X) (xs : List X) (x : X) → P o → AllByRecursion P xs → last_or (Some o) xs ≡ Some x
    → P x
last_all P o [] x h k e = let same : o ≡ x = cc in rw same at h
last_all P o (y ∷ ys) x h k e = last_all P y ys x k.0 k.1 e

pub last_of_all : {X : Type 0} → (P : X → Type 0) (xs : List X) (x : X) → AllByRecursion P xs → last_or None xs ≡ Some x → P x
last_of_all P [] x k e = cc
last_of_all P (y ∷ ys) x k e = last_all P y ys x k.0 k.1 e

-- what holds of each element of a number holds of the last of them
pub last_selected : {X : Type 0} → (number : X → ℕ) (P : X → Type 0) (k : ℕ) (xs : List X) (x : X)
    → AllByRecursion (λ y. number y ≡ k → P y) xs → last_or None (selected number k xs) ≡ Some x → P x
last_selected number P k xs x all is =
    (last_of_all (λ y. number y ≡ k → P y) (selected number k xs) x (only_all number (λ y. number y ≡ k → P y) k xs all) is)
    (last_of_all (λ y. number y ≡ k) (selected number k xs) x (only_number number k xs) is)

-- a list that isn't empty has a last
pub last_there : {X : Type 0} → (o : X) (xs : List X) → (x : X) × (last_or (Some o) xs ≡ Some x)
last_there o [] = (o, refl)
last_there o (x ∷ xs) = last_there x xs

-- one more element
pub last_or-more : {X : Type 0} → (o : Option X) (xs : List X) (x : X) → last_or o (xs ++ x ∷ []) ≡ Some x
last_or-more o [] x = refl
last_or-more o (y ∷ ys) x = last_or-more (Some y) ys x

pub last_only-more : {X : Type 0} → (number : X → ℕ) (k : ℕ) (xs : List X) (x : X)
    → last_or None (selected number k (xs ++ x ∷ [])) ≡ (if number x == k then Some x else last_or None (selected number k xs))
last_only-more number k xs x = ap (last_or None) (filter-append (λ y. number y == k) xs (x ∷ [])) ∙ by_test (number x == k)
  where
    by_test : (b : Bool) → last_or None
        (selected number k xs ++ (if b then x ∷ [] else [])) ≡ (if b then Some x else last_or None (selected number k xs))
    by_test true = last_or-more None (selected number k xs) x
    by_test false = ap (last_or None) (append-nil (selected number k xs))
