-- Why a list of bytes begins with no field. Of several reasons the first in the order below counts.
use Rattle.std.specs.Prelude.{◌≡◌, ◌≢◌, ℕ, ◌%◌, ◌^◌, ◌<◌, ◌≤◌, ◌⊎◌, List, ◌++◌, length}
use Rattle.mvt_wire.specs.declared.fault.WireCause.{WireCause}
use Rattle.mvt_wire.specs.declared.fault.WireCause.TheVariants.{Truncated, FieldNumber, WireType}
use Rattle.mvt_wire.specs.Varint.{Spells, SpellsNone, spell_cause}

-- the same of a payload of wire type w: Protocol Buffers, Encoding, "Message Structure"; groups (3 and 4) are refused
pub data IsPayloadCause (w : ℕ) (after : List ℕ) (cause : WireCause) : Type 0 where
  no_type : w ≢ 0 → w ≢ 1 → w ≢ 2 → w ≢ 5 → cause ≡ WireType → IsPayloadCause w after cause
  no_varint : w ≡ 0 → SpellsNone after → cause ≡ spell_cause after → IsPayloadCause w after cause
  no_length : w ≡ 2 → SpellsNone after → cause ≡ spell_cause after → IsPayloadCause w after cause
  past_end : (size rest : List ℕ) (n : ℕ) → w ≡ 2 → after ≡ size ++ rest → Spells size n → length rest < n
      → cause ≡ Truncated → IsPayloadCause w after cause
  no_eight : w ≡ 1 → length after < 8 → cause ≡ Truncated → IsPayloadCause w after cause
  no_four : w ≡ 5 → length after < 4 → cause ≡ Truncated → IsPayloadCause w after cause

-- a tag is below 2^32, and its field number is not 0
pub data IsRestCause (rest : List ℕ) (cause : WireCause) : Type 0 where
  no_tag : SpellsNone rest → cause ≡ spell_cause rest → IsRestCause rest cause
  no_number : (tag after : List ℕ) (n : ℕ) → rest ≡ tag ++ after → Spells tag n → (n < 8) ⊎ (2 ^ 32 ≤ n)
      → cause ≡ FieldNumber → IsRestCause rest cause
  no_payload : (tag after : List ℕ) (n : ℕ) → rest ≡ tag ++ after → Spells tag n → 8 ≤ n → n < 2 ^ 32
      → IsPayloadCause (n % 8) after cause → IsRestCause rest cause
