-- The spellings of numbers, one after the other.
use Rattle.std.proofs.Common.{◌≡◌, ℕ, zero, suc, ◌+◌, ◌-◌, ◌≤◌, List, [], ◌∷◌, length, take, drop, Option, Some, None, Ok, refl, sym, ap, subst, ◌∙◌, arith, fold}
use Rattle.std.specs.Prelude.{IfSome, slice_get}
use Rattle.std.specs.List.{flat_map, last_or}
use Rattle.std.proofs.lemmas.List.{length-take-le, length-drop, take-append-drop, take_rest}
use Rattle.mvt_wire.specs.Field.{Entry}
use Rattle.mvt_wire.specs.Fronts.{number_at}
use Rattle.mvt_wire.specs.Split.{Parts}
use Rattle.mvt_feature.specs.Selection.{only}
use Rattle.mvt_places.specs.Messages.{Message, span}
use Rattle.mvt_wire.specs.Varint.{Spells, SpellsNone}
use Rattle.mvt_wire.proofs.WireLaws.{number_function_spelled, number_function_none}
use Rattle.mvt_places.specs.declared.span.Span.{Span}
use Rattle.mvt_places.specs.declared.span.Seen.{Seen}
use Rattle.mvt_places.specs.Spans.{joined, spellings, spellings_in, spelling_before, start_of, wanted_after, with_span, EndsBelow, SeesBelow}

pub spelled_at : (b : List ℕ) (n k : ℕ) → k ≤ length b → Spells (take k b) n → number_at b ≡ Ok (n, k)
spelled_at b n k within spells =
    ap number_at (sym (take-append-drop k b)) ∙ number_function_spelled (take k b) (drop k b) n spells
    ∙ ap (λ (size : ℕ). Ok (n, size)) (length-take-le k b within)

one_more : (left at : ℕ) (b : List ℕ) (n k : ℕ) → number_at b ≡ Ok (n, k)
    → spellings (suc left) at b ≡ span at (at + k) ∷ spellings left (at + k) (drop k b)
one_more left at b n k is = ap (spelling_before at (λ size. spellings left (at + size) (drop size b))) is

no_more : (left at : ℕ) (b : List ℕ) → SpellsNone b → spellings left at b ≡ []
no_more zero at b none = refl
no_more (suc left) at b none = ap (spelling_before at (λ size. spellings left (at + size) (drop size b))) (number_function_none b none)

below_with : (place : ℕ) (seen : Seen) (s : Span) → EndsBelow place s → SeesBelow place seen → SeesBelow place (with_span seen s)
below_with place seen s ends sees = (wanted seen.left sees.0, ends)
  where
    wanted : (left : Option ℕ) → IfSome seen.wanted (EndsBelow place) → IfSome (wanted_after left seen.wanted s) (EndsBelow place)
    wanted None held = held
    wanted (Some zero) held = ends
    wanted (Some (suc n)) held = held

-- so many numbers may still come, and they begin at a place
pub record Reading (before : Seen) (most at : ℕ) (b : List ℕ) (seen : Seen) (left place : ℕ) (rest : List ℕ) : Type 0 where
  pub same : fold with_span before (spellings most at b) ≡ fold with_span seen (spellings left place rest)
  pub fits : place + length rest ≡ at + length b
  pub below : (end : ℕ) → at + length b ≤ end → SeesBelow end before → SeesBelow end seen

module _ (before : Seen) (most at : ℕ) (b : List ℕ) (seen : Seen) (left place : ℕ) (rest : List ℕ)
    (reading : Reading before most at b seen left place rest) where
  more : (less n k : ℕ) → left ≡ suc less → k ≤ length rest → Spells (take k rest) n
      → Reading before most at b (with_span seen (span place (place + k))) less (place + k) (drop k rest)
  more less n k due within spells =
      let left_over : length (drop k rest) ≡ length rest - k = length-drop k rest in
      let fits : place + length rest ≡ at + length b = reading.fits in
      record {
        same = reading.same ∙ ap (λ (m : ℕ). fold with_span seen (spellings m place rest)) due
            ∙ ap (fold with_span seen) (one_more less place rest n k (spelled_at rest n k within spells));
        fits = omega arith;
        below = λ end most_end sees. let sum : place + k ≤ end = omega arith in
            below_with end seen (span place (place + k)) (omega arith, sum) (reading.below end most_end sees);
      }

  pub reading_more : (now : Seen) (less n k : ℕ) → now ≡ with_span seen (span place (place + k)) → left ≡ suc less → k ≤ length rest
      → Spells (take k rest) n → Reading before most at b now less (place + k) (take (length rest - k) (drop k rest))
  reading_more now less n k is due within spells =
      subst (λ (s : Seen). Reading before most at b s less (place + k) (take (length rest - k) (drop k rest))) (sym is)
      (subst (λ (bs : List ℕ). Reading before most at b (with_span seen (span place (place + k))) less (place + k) bs)
      (sym (take_rest rest k))
      (more less n k due within spells))

  pub reading_none : SpellsNone rest → seen ≡ fold with_span before (spellings most at b)
  reading_none none = sym (reading.same ∙ ap (fold with_span seen) (no_more left place rest none))

  pub reading_ends : left ≡ 0 → seen ≡ fold with_span before (spellings most at b)
  reading_ends due = sym (reading.same ∙ ap (λ (m : ℕ). fold with_span seen (spellings m place rest)) due)

-- ---- field by field

abbrev pub spans_of : Message → List Entry → List Span
spans_of m fields = flat_map (λ (e : Entry). spellings_in m e.body e.content) fields

-- these fields are still to come
pub record Joining (m : Message) (k index : ℕ) (seen : Seen) (to_come : Parts) : Type 0 where
  pub same : fold with_span (start_of index) (joined k m) ≡ fold with_span seen (spans_of m (only k to_come.fields))
  pub within : to_come.rest_at ≤ length m.payload
  pub below : SeesBelow (m.body + length m.payload) seen

last_seen : (spans : List Span) (seen : Seen) → (fold with_span seen spans).last ≡ last_or seen.last spans
last_seen [] seen = refl
last_seen (s ∷ ss) seen = last_seen ss (with_span seen s)

-- once it is seen the wanted span stays
wanted_stays : (spans : List Span) (wanted last : Option Span)
    → (fold with_span (record { left = None; wanted = wanted; last = last }) spans).wanted ≡ wanted
wanted_stays [] wanted last = refl
wanted_stays (s ∷ ss) wanted last = wanted_stays ss wanted (Some s)

wanted_seen : (spans : List Span) (n : ℕ) (last : Option Span)
    → (fold with_span (record { left = Some n; wanted = None; last = last }) spans).wanted ≡ slice_get spans n
wanted_seen [] n last = refl
wanted_seen (s ∷ ss) zero last = wanted_stays ss (Some s) (Some s)
wanted_seen (s ∷ ss) (suc n) last = wanted_seen ss n (Some s)

module _ (m : Message) (k index : ℕ) (seen : Seen) (to_come : Parts) (joining : Joining m k index seen to_come)
    (none : to_come.fields ≡ []) where
  all_seen : fold with_span (start_of index) (joined k m) ≡ seen
  all_seen = joining.same ∙ ap (λ xs. fold with_span seen (spans_of m (only k xs))) none

  pub joined_wanted : seen.wanted ≡ slice_get (joined k m) index
  joined_wanted = sym (ap (λ (s : Seen). s.wanted) all_seen) ∙ wanted_seen (joined k m) index None

  pub joined_last : seen.last ≡ last_or None (joined k m)
  joined_last = sym (ap (λ (s : Seen). s.last) all_seen) ∙ last_seen (joined k m) (start_of index)
