-- Where a look-up finds an entry.
use Rattle.std.specs.Prelude.{◌≡◌, ◌≢◌, ◌+◌, ℕ, List, Option, Some, None, Contains, MatchOption, slice_get, slice_index}
use Rattle.mvt_attrs.specs.declared.lookup.Lookup.{Lookup}
use Rattle.mvt_attrs.specs.declared.lookup.Lookup.TheVariants.{Found, New}

-- the place of an entry, where it is there
abbrev pub IsPlaceOf : {A : Type 0} → List A → A → Option ℕ → Type 0
IsPlaceOf pool x r = MatchOption r (¬ (Contains pool x)) (λ i. slice_get pool i ≡ Some x)

-- the same, or a slot that a new entry can take
abbrev pub IsLookupOf : {A : Type 0} → List A → A → (Option ℕ → Type 0) → Lookup → Type 0
IsLookupOf pool x CanTake (Found i) = slice_get pool i ≡ Some x
IsLookupOf pool x CanTake (New slot) = ¬ (Contains pool x) × CanTake slot

-- what one slot tells: it is free, or this entry's, or another's
abbrev pub IsReportedBy : {A : Type 0} → List ℕ → ℕ → List A → A → Option Lookup → Type 0
IsReportedBy slots slot pool x (Some (Found i)) = slice_get pool i ≡ Some x
IsReportedBy slots slot pool x (Some (New free)) = (free ≡ Some slot) × (slice_index slots slot ≡ 0)
IsReportedBy slots slot pool x None = (slice_index slots slot ≢ 0)
    × ((i : ℕ) → slice_index slots slot ≡ i + 1 → slice_get pool i ≡ Some x → ⊥)
