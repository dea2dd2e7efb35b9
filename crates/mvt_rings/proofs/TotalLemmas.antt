-- Sums over lists, and over lists of lists, by recursion.
use Rattle.std.proofs.Common.{arith, ◌≡◌, ℕ, ◌+◌, ◌<◌, ◌≤◌, zero, suc, Bool, true, false, List, [], ◌∷◌, ◌++◌, map, sum_by, refl, sym, ap, ap₂, ◌∙◌}
use Rattle.std.specs.Prelude.{cond, slice_index}
use Rattle.std.specs.List.{AllByRecursion, filter, flat_map}
use Rattle.std.proofs.lemmas.List.Sums.{sum_by-cons}

abbrev pub total : {X : Type 0} → (X → ℕ) → List X → ℕ
total f [] = 0
total f (x ∷ xs) = f x + total f xs

-- the sum over lists of lists
abbrev pub spread : {X : Type 0} → (X → ℕ) → List (List X) → ℕ
spread f xss = total (total f) xss

pub total_is : {X : Type 0} (f : X → ℕ) (xs : List X) → sum_by f xs ≡ total f xs
total_is f [] = refl
total_is f (x ∷ xs) = sum_by-cons f x xs ∙ ap (λ n. f x + n) (total_is f xs)

pub total-map : {X Y : Type 0} (f : Y → ℕ) (g : X → Y) (xs : List X) → total f (map g xs) ≡ total (λ x. f (g x)) xs
total-map f g [] = refl
total-map f g (x ∷ xs) = ap (λ n. f (g x) + n) (total-map f g xs)

first_more : (a b c : ℕ) → a + (b + c) ≡ (a + b) + c
first_more a b c = omega arith

none_more : (a : ℕ) → a ≡ 0 + a
none_more a = omega arith

pub total-append : {X : Type 0} (f : X → ℕ) (xs ys : List X) → total f (xs ++ ys) ≡ total f xs + total f ys
total-append f [] ys = none_more (total f ys)
total-append f (x ∷ xs) ys = ap (λ n. f x + n) (total-append f xs ys) ∙ first_more (f x) (total f xs) (total f ys)

pub total_same : {X : Type 0} (f g : X → ℕ) → ((x : X) → f x ≡ g x) → (xs : List X) → total f xs ≡ total g xs
total_same f g same [] = refl
total_same f g same (x ∷ xs) = ap₂ (λ a b. a + b) (same x) (total_same f g same xs)

-- a filter that leaves out nothing that counts
counted_out : {X : Type 0} (f : X → ℕ) (b : Bool) (x : X) (xs ys : List X) → (b ≡ false → f x ≡ 0) → total f xs ≡ total f ys
    → total f (cond b (x ∷ xs) xs) ≡ f x + total f ys
counted_out f true x xs ys none same = ap (λ n. f x + n) same
counted_out f false x xs ys none same = same ∙ (none_more (total f ys) ∙ ap (λ n. n + total f ys) (sym (none refl)))

pub total-filter : {X : Type 0} (f : X → ℕ) (test : X → Bool) → ((x : X) → test x ≡ false → f x ≡ 0) → (xs : List X)
    → total f (filter test xs) ≡ total f xs
total-filter f test none [] = refl
total-filter f test none (x ∷ xs) =
    counted_out f (test x) x (filter test xs) xs (none x) (total-filter f test none xs)

pub total-flat_map : {X Y : Type 0} (f : Y → ℕ) (g : X → List Y) (xs : List X)
    → total f (flat_map g xs) ≡ total (λ x. total f (g x)) xs
total-flat_map f g [] = refl
total-flat_map f g (x ∷ xs) =
    total-append f (g x) (flat_map g xs) ∙ ap (λ n. total f (g x) + n) (total-flat_map f g xs)

-- a filter leaves no more than there was
kept_less : {X : Type 0} (f : X → ℕ) (b : Bool) (x : X) (xs ys : List X) → total f xs ≤ total f ys
    → total f (cond b (x ∷ xs) xs) ≤ f x + total f ys
kept_less f true x xs ys less = omega arith
kept_less f false x xs ys less = omega arith

pub total-filter-le : {X : Type 0} (f : X → ℕ) (test : X → Bool) (xs : List X) → total f (filter test xs) ≤ total f xs
total-filter-le f test [] = omega arith
total-filter-le f test (x ∷ xs) = kept_less f (test x) x (filter test xs) xs (total-filter-le f test xs)

pub spread-le : {X : Type 0} (f : X → ℕ) (g : List X → List X) → ((xs : List X) → total f (g xs) ≤ total f xs)
    → (xss : List (List X)) → total (λ xs. total f (g xs)) xss ≤ spread f xss
spread-le f g less [] = omega arith
spread-le f g less (xs ∷ xss) = omega (arith, less xs, spread-le f g less xss)

-- a number of a list of numbers that are all below another
pub index_below : (n : ℕ) (xs : List ℕ) (i : ℕ) → 0 < n → AllByRecursion (λ x. x < n) xs → slice_index xs i < n
index_below n [] i some below = some
index_below n (x ∷ xs) zero some below = below.0
index_below n (x ∷ xs) (suc i) some below = index_below n xs i some below.1
