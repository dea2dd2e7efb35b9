-- The entries of a list, each once, in order of first use (4.4: the keys and the values of a layer).
use Rattle.std.specs.Prelude.{◌≢◌, Bool, not, List, [], ◌∷◌, filter, AllPairs}

-- the list without each entry that equals an earlier one, by a test of equality
abbrev pub first_use : {A : Type 0} → (A → A → Bool) → List A → List A
first_use same [] = []
first_use same (x ∷ xs) = x ∷ filter (λ y. not (same x y)) (first_use same xs)

-- no entry stands twice
abbrev pub AreDistinct : {A : Type 0} → List A → Type 0
AreDistinct xs = AllPairs (λ x y. x ≢ y) xs
