-- The shortest spellings of fields: what they spell, and how long they are.
use Rattle.std.proofs.Common.{◌≡◌, ℕ, ◌+◌, ◌*◌, ◌^◌, ◌<◌, ◌≤◌, List, [], ◌∷◌, ◌++◌, length, map, refl, sym, ap, ◌∙◌, arith, append-nil}
use Rattle.std.specs.List.{AllByRecursion}
use Rattle.std.proofs.lemmas.List.{length-append}
use Rattle.std.proofs.lemmas.List.Concat.{flat_map-append}
use Rattle.byteorder.specs.Endian.{little_number, little_bytes}
use Rattle.byteorder.specs.Numbers.{little_number-reads_back, length-bytes_low_first}
use Rattle.mvt_wire.specs.Varint.{short}
use Rattle.mvt_wire.specs.Field.{Content, varint, fixed64, bytes, fixed32, wire_type, IsPayload, IsField, Entry, body_size, IsFieldAt}
use Rattle.mvt_wire.specs.Spelling.{short_payload, short_field, short_numbers, Plain, plain_of, spelled, IsWholeAs, FitsContent, IsFit}
use Rattle.mvt_wire.specs.Split.{SplitFrom}
use Rattle.mvt_wire.proofs.ShortLemmas.{short_spells, short_some, short_most, short_length_one}
use Rattle.mvt_wire.proofs.FieldLemmas.{wire_type_small}
use Rattle.mvt_wire.proofs.StepLemmas.{nil_none}
use Rattle.mvt_wire.proofs.SplitLemmas.{split_only}

-- ---- what they spell

payload_short : (c : Content) → FitsContent c → IsPayload (short_payload c) c
payload_short (varint n) fits = short_spells n fits
payload_short (fixed64 n) fits = (
  length-bytes_low_first 0 8 n,
  sym (ap (little_number 8) (sym (append-nil (little_bytes 8 n))) ∙ little_number-reads_back 8 n [] fits),
)
payload_short (bytes d) fits = (short (length d), short_spells (length d) fits, refl)
payload_short (fixed32 n) fits = (
  length-bytes_low_first 0 4 n,
  sym (ap (little_number 4) (sym (append-nil (little_bytes 4 n))) ∙ little_number-reads_back 4 n [] fits),
)

-- the bytes before a field's body, after its tag
lead : Content → ℕ
lead (varint n) = 0
lead (fixed64 n) = 0
lead (bytes d) = length (short (length d))
lead (fixed32 n) = 0

lead_body : (c : Content) → lead c + body_size (short_payload c) c ≡ length (short_payload c)
unfolding lead
lead_body (varint n) = omega arith
lead_body (fixed64 n) = omega arith
lead_body (bytes d) = sym (length-append (short (length d)) d)
lead_body (fixed32 n) = omega arith

-- the field, with its parts
pub field_short : (number : ℕ) (c : Content) → 1 ≤ number → number < 2 ^ 29 → FitsContent c
    → (f : IsField (short_field number c) number c) × (f.payload ≡ short_payload c)
unfolding short_field
field_short number c some fits content =
    let small : wire_type c < 8 = wire_type_small c in (
      record {
        tag = short (8 * number + wire_type c);
        payload = short_payload c;
        joined = refl;
        tagged = short_spells (8 * number + wire_type c) (omega arith);
        tag_fits = omega arith;
        numbered = some;
        carries = payload_short c content;
      },
      refl,
    )

pub length-short_field : (number : ℕ) (c : Content)
    → length (short_field number c) ≡ length (short (8 * number + wire_type c)) + length (short_payload c)
unfolding short_field
length-short_field number c = length-append (short (8 * number + wire_type c)) (short_payload c)

-- where a short field stands
abbrev entry_short : ℕ → Plain → Entry
entry_short at f = record {
  at = at;
  body = at + (length (short (8 * f.number + wire_type f.content)) + lead f.content);
  number = f.number;
  content = f.content;
}

field_at_short : (at : ℕ) (f : Plain) → IsFit f → IsFieldAt at (short_field f.number f.content) (entry_short at f)
field_at_short at f fit =
    let own = field_short f.number f.content fit.first fit.last fit.content in
    let size = length-short_field f.number f.content in
    let body : body_size own.0.payload f.content ≡ body_size (short_payload f.content) f.content = ap (λ p. body_size p f.content) own.1 in
    let whole = lead_body f.content in
    record { field = own.0; begins = refl; ends = omega (arith, size, body, whole) }

pub spelled_from : (at : ℕ) (fs : List Plain) → AllByRecursion IsFit fs
    → (es : List Entry) × SplitFrom at (spelled fs) es [] × (map plain_of es ≡ fs)
spelled_from at [] fit = ([], (refl, nil_none), refl)
spelled_from at (f ∷ fs) fit =
    let more = spelled_from (at + length (short_field f.number f.content)) fs fit.1 in (
      entry_short at f ∷ more.0,
      (short_field f.number f.content, spelled fs, refl, field_at_short at f fit.0, more.1),
      ap (λ gs. f ∷ gs) more.2,
    )

pub whole_once : (b : List ℕ) (fs gs : List Plain) → IsWholeAs b fs → IsWholeAs b gs → fs ≡ gs
whole_once b fs gs p q =
    let left = split_only 0 b [] p.0 p.1 in
    let right = split_only 0 b [] q.0 q.1 in
    sym p.2 ∙ ap (map plain_of) (sym left.0 ∙ right.0) ∙ q.2

pub spelled-append : (fs gs : List Plain) → spelled (fs ++ gs) ≡ spelled fs ++ spelled gs
spelled-append fs gs = flat_map-append (λ (f : Plain). short_field f.number f.content) fs gs

-- ---- lengths

pub bytes_longer : (number : ℕ) (d : List ℕ) → length d + 2 ≤ length (short_field number (bytes d))
bytes_longer number d =
    omega (
      arith,
      length-short_field number (bytes d),
      length-append (short (length d)) d,
      short_some (8 * number + 2),
      short_some (length d),
    )

pub length-bytes : (number : ℕ) (d : List ℕ) → number < 16 → length (short_field number (bytes d)) ≤ 11 + length d
length-bytes number d small =
    let tag = short_length_one (8 * number + 2) (omega arith) in
    omega (arith, length-short_field number (bytes d), length-append (short (length d)) d, tag, short_most (length d))

pub numbers_longer : (ns : List ℕ) → length ns ≤ length (short_numbers ns)
numbers_longer [] = omega arith
numbers_longer (n ∷ ns) = omega (arith, length-append (short n) (short_numbers ns), short_some n, numbers_longer ns)
