-- Rings as even-odd counting has them: exterior where an even number of others hold them.
use Rattle.std.specs.Prelude.{◌≡◌, ℕ, ◌%◌, true, if◌then◌else◌, List, [], ◌∷◌, slice_index, Option, Some, ⊤}
use Rattle.mvt_rings.specs.declared.rings.Kept.{Kept}
use Rattle.mvt_rings.specs.declared.holding.Holders.{Holders}
use Rattle.mvt_rings.specs.Signs.{is_positive, is_negative}

-- how many rings hold a ring, and the least of them, by its index
abbrev pub holders_at : Holders → Kept → ℕ
holders_at h k = slice_index h.counts k.index

abbrev pub least_at : Holders → Kept → ℕ
least_at h k = slice_index h.leasts k.index

-- what is exterior is held by an even number of rings, and what is interior by an odd number: then the least of these is
-- the last exterior ring before it
pub record IsEvenOdd (h : Holders) (before : Option ℕ) (k : Kept) : Type 0 where
  pub exterior : is_positive k.points ≡ true → holders_at h k % 2 ≡ 0
  pub interior : is_negative k.points ≡ true → holders_at h k % 2 ≡ 1
  pub behind : is_negative k.points ≡ true → before ≡ Some (least_at h k)

-- the index of the last exterior ring, after one more ring
abbrev pub last_after : Option ℕ → Kept → Option ℕ
last_after before k = if is_positive k.points then Some k.index else before

-- so of all rings, behind those before
abbrev pub AreEvenOdd : Holders → Option ℕ → List Kept → Type 0
AreEvenOdd h before [] = ⊤
AreEvenOdd h before (k ∷ rings) = IsEvenOdd h before k × AreEvenOdd h (last_after before k) rings
