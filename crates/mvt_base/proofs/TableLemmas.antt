-- The first fault of a table, row by row, and tables without a fault.
use Rattle.std.proofs.Common.{◌≡◌, ℕ, ◌==◌, Bool, true, false, List, [], ◌∷◌, ◌++◌, Option, Some, None, refl, sym, ap, ◌∙◌, if◌then◌else◌}
use Rattle.std.specs.List.{AllByRecursion}
use Rattle.std.specs.Option.{option_or, option_map}
use Rattle.std.proofs.lemmas.Bool.{eqb-true}
use Rattle.mvt_base.specs.Rules.{Rules, AreOrdered, when, rows, each, first}
use Rattle.mvt_base.proofs.RuleLemmas.{each_first, first-rows, option_or-nones, option_or-none}

abbrev pub firsts : {F : Type 0} → List (ℕ × Rules F) → Option F
firsts [] = None
firsts (row ∷ table) = option_or (first row.1) (firsts table)

pub first-rows_all : {F : Type 0} → (table : List (ℕ × Rules F)) → first (rows table) ≡ firsts table
first-rows_all [] = refl
first-rows_all (row ∷ table) = first-rows row.0 row.1 table ∙ ap (λ o. option_or (first row.1) o) (first-rows_all table)

pub none_mapped : {F G : Type 0} → (f : F → G) (o : Option F) → option_map f o ≡ None → o ≡ None
none_mapped f None h = refl
none_mapped f (Some x) h = cc

pub when_none : {F : Type 0} → (b : Bool) (f : F) → first (when b f) ≡ None → b ≡ false
when_none true f h = cc
when_none false f h = refl

-- rules that look at no earlier element: none is broken just where none is of any element
pub none_each : {X F : Type 0} → (rules : X → Rules F) (front xs : List X) → first (each (λ _. rules) front xs) ≡ None
    → AllByRecursion (λ x. first (rules x) ≡ None) xs
none_each rules front [] h = tt
none_each rules front (x ∷ xs) h =
    let parts = option_or-nones _ _ (sym (each_first (λ _. rules) front x xs) ∙ h) in
    (parts.0, none_each rules (front ++ x ∷ []) xs parts.1)

pub each_none : {X F : Type 0} → (rules : X → Rules F) (front xs : List X) → AllByRecursion (λ x. first (rules x) ≡ None) xs
    → first (each (λ _. rules) front xs) ≡ None
each_none rules front [] h = refl
each_none rules front (x ∷ xs) h =
    each_first (λ _. rules) front x xs ∙ option_or-none _ _ h.0 ∙ each_none rules (front ++ x ∷ []) xs h.1

-- rules by a number
pub by_number : {F : Type 0} → (n : ℕ) (a b : Rules F) (k : ℕ) → (n ≡ k → first a ≡ None) → first b ≡ None
    → first (if n == k then a else b) ≡ None
by_number n a b k h g = by_test (n == k) refl
  where
    by_test : (t : Bool) → (n == k) ≡ t → first (if t then a else b) ≡ None
    by_test true e = h (eqb-true n k e)
    by_test false e = g

pub if_ordered : {F : Type 0} → (b : Bool) (r s : Rules F) → AreOrdered r → AreOrdered s → AreOrdered (if b then r else s)
if_ordered true r s h g = h
if_ordered false r s h g = g
