-- Integers and fields, one after the other.
use Rattle.std.proofs.Common.{◌≡◌, ℕ, zero, suc, ◌+◌, ◌-◌, ◌≤◌, List, [], ◌∷◌, ◌++◌, length, take, drop, map, Ok, Err, Result, refl, ap₂, sym, ap, subst, ◌∙◌, append_assoc, append-nil, arith}
use Rattle.std.proofs.lemmas.List.{length-drop, map-append, take_rest}
use Rattle.std.specs.Prelude.{filter}
use Rattle.std.specs.List.{flat_map}
use Rattle.mvt_wire.specs.declared.fault.WireCause.{WireCause}
use Rattle.mvt_wire.specs.Field.{Content, varint, bytes, fixed64, fixed32, Entry}
use Rattle.mvt_wire.specs.Fronts.{number_at}
use Rattle.mvt_wire.specs.Varint.{Spells, SpellsNone}
use Rattle.mvt_wire.specs.Split.{Parts, split}
use Rattle.mvt_wire.proofs.WireLaws.{number_function_none}
use Rattle.mvt_feature.specs.Selection.{only}
use Rattle.mvt_message.specs.declared.numbers.layer.TheConstants.{KEYS}
use Rattle.mvt_places.specs.declared.field_rows.Bounds.{Bounds}
use Rattle.mvt_places.specs.declared.integers.Integer.{Integer}
use Rattle.mvt_places.specs.declared.message.Form.TheVariants.{Bytes}
use Rattle.mvt_places.specs.Messages.{Message, fields_of, inside, is_of, span}
use Rattle.mvt_places.specs.Spans.{joined, spelling_before, spellings, spellings_in}
use Rattle.mvt_places.specs.Around.{bounds_of, integer_before, integers_from, integers_in, integers_of, keys_of, place_of}
use Rattle.mvt_places.proofs.MessageLemmas.{formed_is}
use Rattle.mvt_places.proofs.SpanLemmas.{spelled_at}

-- ---- the integers of a field

abbrev pub integer : ℕ → ℕ → ℕ → Integer
integer value start end = record { value = value; start = start; end = end }

one_more : (left at : ℕ) (b : List ℕ) (n k : ℕ) → number_at b ≡ Ok (n, k)
    → integers_from (suc left) at b ≡ integer n at (at + k) ∷ integers_from left (at + k) (drop k b)
one_more left at b n k is = ap (integer_before at (λ size. integers_from left (at + size) (drop size b))) is

no_more : (left at : ℕ) (b : List ℕ) → SpellsNone b → integers_from left at b ≡ []
no_more zero at b none = refl
no_more (suc left) at b none = ap (integer_before at (λ size. integers_from left (at + size) (drop size b))) (number_function_none b none)

-- so many integers may still come, and they begin at a place
pub record Spelling (before : List Integer) (most at : ℕ) (b : List ℕ) (read : List Integer) (left place : ℕ) (rest : List ℕ) : Type 0 where
  pub same : read ++ integers_from left place rest ≡ before ++ integers_from most at b
  pub fits : place + length rest ≡ at + length b

module _ (before : List Integer) (most at : ℕ) (b : List ℕ) (read : List Integer) (left place : ℕ) (rest : List ℕ)
    (spelling : Spelling before most at b read left place rest) where
  more : (less n k : ℕ) → left ≡ suc less → k ≤ length rest → Spells (take k rest) n
      → Spelling before most at b (read ++ integer n place (place + k) ∷ []) less (place + k) (drop k rest)
  more less n k due within spells =
      let left_over : length (drop k rest) ≡ length rest - k = length-drop k rest in
      let fits : place + length rest ≡ at + length b = spelling.fits in
      record {
        same = append_assoc read (integer n place (place + k) ∷ []) (integers_from less (place + k) (drop k rest))
            ∙ sym (ap (λ xs. read ++ xs) (one_more less place rest n k (spelled_at rest n k within spells)))
            ∙ sym (ap (λ (m : ℕ). read ++ integers_from m place rest) due)
            ∙ spelling.same;
        fits = omega arith;
      }

  pub spelling_more : (now : List Integer) (less n k : ℕ) → now ≡ read ++ integer n place (place + k) ∷ [] → left ≡ suc less
      → k ≤ length rest → Spells (take k rest) n → Spelling before most at b now less (place + k) (take (length rest - k) (drop k rest))
  spelling_more now less n k is due within spells =
      subst (λ xs. Spelling before most at b xs less (place + k) (take (length rest - k) (drop k rest))) (sym is)
      (subst (λ (bs : List ℕ). Spelling before most at b (read ++ integer n place (place + k) ∷ []) less (place + k) bs)
      (sym (take_rest rest k))
      (more less n k due within spells))

  pub spelling_none : SpellsNone rest → read ≡ before ++ integers_from most at b
  spelling_none none = sym (append-nil read) ∙ sym (ap (λ xs. read ++ xs) (no_more left place rest none)) ∙ spelling.same

-- the integers stand where numbers are spelled

spelled_from : (n at : ℕ) (b : List ℕ) → map place_of (integers_from n at b) ≡ spellings n at b
spelled_from zero at b = refl
spelled_from (suc n) at b = by_first (number_at b) (λ size. spelled_from n (at + size) (drop size b))
  where
    by_first : (found : Result (ℕ × ℕ) WireCause)
        → ((size : ℕ) → map place_of (integers_from n (at + size) (drop size b)) ≡ spellings n (at + size) (drop size b))
        → map place_of (integer_before at (λ size. integers_from n (at + size) (drop size b)) found)
        ≡ spelling_before at (λ size. spellings n (at + size) (drop size b)) found
    by_first (Ok found) behind = ap (λ xs. span at (at + found.1) ∷ xs) (behind found.1)
    by_first (Err cause) behind = refl

spelled_in : (m : Message) (body : ℕ) (c : Content) → map place_of (integers_in m body c) ≡ spellings_in m body c
spelled_in m body (varint n) = spelled_from 1 (m.body + body) (drop body m.payload)
spelled_in m body (bytes d) = spelled_from (length d) (m.body + body) d
spelled_in m body (fixed64 n) = refl
spelled_in m body (fixed32 n) = refl

spelled_among : (m : Message) (fields : List Entry) → map place_of (flat_map (λ (e : Entry). integers_in m e.body e.content) fields)
    ≡ flat_map (λ (e : Entry). spellings_in m e.body e.content) fields
spelled_among m [] = refl
spelled_among m (e ∷ es) =
    map-append place_of (integers_in m e.body e.content) (flat_map (λ (f : Entry). integers_in m f.body f.content) es)
    ∙ ap₂ (λ xs ys. xs ++ ys) (spelled_in m e.body e.content) (spelled_among m es)

pub integers_are_spelled : (k : ℕ) (m : Message) → map place_of (integers_of k m) ≡ joined k m
integers_are_spelled k m = spelled_among m (only k (fields_of m))

-- ---- field by field

abbrev pub integers_among : Message → List Entry → List Integer
integers_among m fields = flat_map (λ (e : Entry). integers_in m e.body e.content) fields

-- these fields are still to come
pub record Collecting (m : Message) (k : ℕ) (read : List Integer) (to_come : Parts) : Type 0 where
  pub same : read ++ integers_among m (only k to_come.fields) ≡ integers_of k m
  pub within : to_come.rest_at ≤ length m.payload

-- ---- the keys of a layer

abbrev pub bounds_among : Message → List Entry → List Bounds
bounds_among m fields = map (λ (e : Entry). bounds_of (inside m e)) (filter (is_of Bytes KEYS) fields)

-- these fields are still to come
pub record Keying (m : Message) (keys : List Bounds) (to_come : Parts) : Type 0 where
  pub same : keys ++ bounds_among m to_come.fields ≡ keys_of m
  pub within : to_come.rest_at ≤ length m.payload

pub keys_start : (m : Message) (keys : List Bounds) (to_come : Parts) → keys ≡ [] → to_come ≡ split m.payload
    → to_come.rest_at + length to_come.rest ≡ length m.payload → Keying m keys to_come
keys_start m keys to_come none is place = record {
  same = ap (λ ks. ks ++ bounds_among m to_come.fields) none
      ∙ ap (λ (p : Parts). bounds_among m p.fields) is
      ∙ sym (ap (map (λ (e : Entry). bounds_of (inside m e))) (formed_is Bytes KEYS (fields_of m)));
  within = omega arith;
}
