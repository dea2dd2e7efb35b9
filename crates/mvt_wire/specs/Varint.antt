-- Varints: Protocol Buffers, Encoding, "Base 128 Varints".
use Rattle.std.specs.Prelude.{◌≡◌, ℕ, zero, suc, ◌+◌, ◌-◌, ◌*◌, ◌/◌, ◌%◌, ◌^◌, ◌<◌, ◌≤◌, List, [], ◌∷◌, ◌++◌, length, slice_index, if◌then◌else◌, nat_lt}
use Rattle.mvt_wire.specs.declared.fault.WireCause.{WireCause}
use Rattle.mvt_wire.specs.declared.fault.WireCause.TheVariants.{Truncated, VarintRange}

-- the sum of (b[k] mod 128) * 128^(i + k): each byte gives seven bits, the lowest first
abbrev pub groups_from : ℕ → List ℕ → ℕ
groups_from i [] = 0
groups_from i (b ∷ bs) = (b % 128) * 128 ^ i + groups_from (suc i) bs

-- b is a spelling of n: the high bit is set on every byte but the last
pub record Spells (b : List ℕ) (n : ℕ) : Type 0 where
  pub some : 1 ≤ length b
  pub at_most_ten : length b ≤ 10
  pub goes_on : (i : ℕ) → i + 1 < length b → 128 ≤ slice_index b i
  pub ends : slice_index b (length b - 1) < 128
  pub sum : n ≡ groups_from 0 b
  pub fits : n < 2 ^ 64

-- no prefix of b spells a number
abbrev pub SpellsNone : List ℕ → Type 0
SpellsNone b = (front back : List ℕ) (n : ℕ) → b ≡ front ++ back → Spells front n → ⊥

-- why: b ends too early, or its number is too large
abbrev pub spell_cause : List ℕ → WireCause
spell_cause b = if nat_lt (length b) 10 then Truncated else VarintRange

-- the shortest spelling, of at most k + 1 bytes
unfoldable pub short_within : ℕ → ℕ → List ℕ
short_within zero n = n ∷ []
short_within (suc k) n = if nat_lt n 128 then n ∷ [] else ((n % 128 + 128) ∷ short_within k (n / 128))

-- the shortest spelling of a number below 2^64
unfoldable pub short : ℕ → List ℕ
short n = short_within 9 n
