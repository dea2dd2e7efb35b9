-- Texts that are different, and slots in which each is found by its hash.
use Rattle.std.specs.Prelude.{◌≡◌, ◌≢◌, ◌+◌, ◌-◌, ◌<◌, ◌≤◌, ℕ, List, Some, length, slice_get, slice_index, bit_and}
use Rattle.std.specs.Hash.FoldHasher as folding

-- two entries are different
abbrev pub IsApart : List (List ℕ) → ℕ → ℕ → Type 0
IsApart entries i j = (a b : List ℕ) → slice_get entries i ≡ Some a → slice_get entries j ≡ Some b → a ≢ b

-- the first n are
abbrev pub AreApart : List (List ℕ) → ℕ → Type 0
AreApart entries n = (i j : ℕ) → i < j → j < n → IsApart entries i j

-- the first slot of a text, among so many
abbrev pub text_slot : ℕ → List ℕ → ℕ
text_slot room text = bit_and (folding.finish (folding.write folding.initial text)) (room - 1)

-- the marks of entries say one more than their index
abbrev pub AreMarks : List ℕ → ℕ → Type 0
AreMarks slots n = (p : ℕ) → slice_index slots p ≤ n

-- no slot from one to another is free
abbrev pub AreTaken : List ℕ → ℕ → ℕ → Type 0
AreTaken slots first slot = (q : ℕ) → first ≤ q → q < slot → slice_index slots q ≢ 0

-- each of the first n entries is in the first slot that was free for it
abbrev pub AreNoted : List (List ℕ) → List ℕ → ℕ → ℕ → Type 0
AreNoted entries slots room n =
    (i : ℕ) (a : List ℕ) → i < n → slice_get entries i ≡ Some a
    → (p : ℕ) × (text_slot room a ≤ p) × (slice_index slots p ≡ i + 1) × AreTaken slots (text_slot room a) p

-- other entries have the slots from one to another
abbrev pub AreOthers : List (List ℕ) → List ℕ → ℕ → ℕ → ℕ → Type 0
AreOthers entries slots index first slot =
    (q i : ℕ) → first ≤ q → q < slot → slice_index slots q ≡ i + 1 → IsApart entries i index

-- a free slot for an entry that stands in none before it
pub record IsFreeFor (entries : List (List ℕ)) (slots : List ℕ) (index first slot : ℕ) : Type 0 where
  pub within : slot < length slots
  pub free : slice_index slots slot ≡ 0
  pub behind : first ≤ slot
  pub taken : AreTaken slots first slot
  pub others : AreOthers entries slots index first slot
