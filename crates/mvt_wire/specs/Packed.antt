-- Packed numbers: Protocol Buffers, Encoding, "Packed Repeated Fields".
use Rattle.std.specs.Prelude.{◌≡◌, ℕ, zero, suc, ◌^◌, ◌<◌, Bool, true, false, not, List, [], ◌∷◌, ◌++◌, length, drop, Option, Some, None, Ok, Err, if◌then◌else◌, nat_lt}
use Rattle.mvt_base.specs.Rules.{Rules, when, under, each}
use Rattle.mvt_wire.specs.declared.packed.PackedError.{PackedError}
use Rattle.mvt_wire.specs.declared.packed.PackedError.TheVariants as errors
use Rattle.mvt_wire.specs.Varint.{Spells, SpellsNone}
use Rattle.mvt_wire.specs.Fronts.{number_at}

-- b is the spellings of these numbers joined; each is below 2^32
abbrev pub ArePacked : List ℕ → List ℕ → Type 0
ArePacked b [] = b ≡ []
ArePacked b (n ∷ ns) = (front back : List ℕ) × (b ≡ front ++ back) × Spells front n × (n < 2 ^ 32) × ArePacked back ns

-- b is the spellings of numbers joined, and then the rest, which begins with none
abbrev pub SplitNumbers : List ℕ → List ℕ → List ℕ → Type 0
SplitNumbers b [] rest = (b ≡ rest) × SpellsNone rest
SplitNumbers b (n ∷ ns) rest = (front back : List ℕ) × (b ≡ front ++ back) × Spells front n × SplitNumbers back ns rest

-- the same as a function, by the law `packed_function`
pub record Numbers : Type 0 where
  pub numbers : List ℕ
  pub rest : List ℕ

-- a number in front of the others
abbrev pub ahead : ℕ → Numbers → Numbers
ahead n more = record { numbers = n ∷ more.numbers; rest = more.rest }

-- the first numbers, at most k of them
unfoldable pub packed_within : ℕ → List ℕ → Numbers
packed_within zero b = record { numbers = []; rest = b }
packed_within (suc k) b =
    elim (number_at b) [ Ok found ↦ ahead found.0 (packed_within k (drop found.1 b)) | Err cause ↦ record { numbers = []; rest = b } ]

-- each number takes a byte at least
unfoldable pub packed : List ℕ → Numbers
packed b = packed_within (length b) b

-- what can be wrong with packed numbers
pub data PackedCause : Type 0 where
  truncated : PackedCause
  varint_range : PackedCause
  number_range : PackedCause

-- why no number begins at a rest
abbrev pub number_cause : List ℕ → PackedCause
number_cause rest = if nat_lt (length rest) 10 then truncated else varint_range

-- no bytes are left
abbrev pub is_nil : List ℕ → Bool
is_nil [] = true
is_nil (b ∷ bs) = false

-- a number is below 2^32
abbrev pub small_rules : List ℕ → ℕ → Rules PackedCause
small_rules front n = when (not (nat_lt n (2 ^ 32))) number_range

-- the rules of packed numbers: each number is small; after the last no bytes are left
unfoldable pub packed_rules : List ℕ → Rules PackedCause
packed_rules b =
    each small_rules [] (packed b).numbers
    ++ under (length (packed b).numbers) (when (not (is_nil (packed b).rest)) (number_cause (packed b).rest))

-- the broken rule that an error tells
abbrev pub fault_of : PackedError → Option PackedCause
fault_of errors.Memory = None
fault_of errors.Truncated = Some truncated
fault_of errors.VarintRange = Some varint_range
fault_of errors.NumberRange = Some number_range
