-- Places of entries that stand once each.
use Rattle.std.specs.Prelude.{◌≡◌, ◌+◌, ◌<◌, ◌≤◌, ◌++◌, ℕ, List, [], ◌∷◌, Contains, length, slice_index}

-- what placing x promises of a pool
pub record IsPut {A : Type 0} (pool after : List A) (x : A) : Type 0 where
  pub kept : Contains pool x → after ≡ pool
  pub added : (Contains pool x → ⊥) → after ≡ pool ++ x ∷ []

-- the numbers below n, in order
pub record AreIndices (places : List ℕ) (n : ℕ) : Type 0 where
  pub count : length places ≡ n
  pub here : (i : ℕ) → i < n → slice_index places i ≡ i

-- the marks of n places, where the entries of the first of them are used, in order
pub record AreFirstMarks (marks : List ℕ) (n used : ℕ) : Type 0 where
  pub count : length marks ≡ n
  pub front : (i : ℕ) → i < n → i < used → slice_index marks i ≡ i + 1
  pub rest : (i : ℕ) → used ≤ i → slice_index marks i ≡ 0
