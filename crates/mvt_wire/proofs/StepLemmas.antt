-- What `next_field`, a step of `Fields` and `field_span` give.
use Rattle.std.proofs.Common.{◌≡◌, ◌≢◌, ℕ, Bor, Option, Result, IfOk, IfSome, suc, ◌+◌, ◌-◌, ◌<◌, ◌≤◌, List, [], ◌∷◌, ◌++◌, length, take, drop, None, Some, Ok, Err, refl, sym, ap, subst, ◌∙◌, arith, append_assoc}
use Rattle.std.specs.Prelude.{slice_get, slice_range}
use Rattle.std.proofs.lemmas.List.{length-append, length-drop, length-take-le, take-append-drop, take_rest, drop-drop, drop_all}
use Rattle.std.proofs.Math.Seq.{take-append_seam, drop-append_seam}
use Rattle.mvt_wire.specs.declared.fault.WireCause.{WireCause}
use Rattle.mvt_wire.specs.declared.fault.WireCause.TheVariants.{Truncated}
use Rattle.mvt_wire.specs.declared.fault.WireFault.{WireFault}
use Rattle.mvt_wire.specs.declared.field.Field.{Field}
use Rattle.mvt_wire.specs.Varint.{SpellsNone}
use Rattle.mvt_wire.specs.Field.{Content, varint, fixed64, bytes, fixed32, IsPayload, StartsNoField, Entry, body_size, IsFieldAt, IsSliceAt, entry_of}
use Rattle.mvt_wire.specs.Fields.{Ahead, bytes_size, EndsBy, GivesEntry}
use Rattle.mvt_wire.specs.Fronts.{entry_at, rest_cause}
use Rattle.mvt_wire.specs.Rest.{no_tag}
use Rattle.mvt_wire.specs.Split.{Parts, SplitFrom, behind, no_fields, split_from}
use Rattle.mvt_wire.proofs.FieldLemmas.{entry_found, entry_none, entry_why, rest_cause_is}
use Rattle.mvt_wire.proofs.SplitLemmas.{split_front, split_is, split_none, split_ends, bytes_size-le}

pub nil_spells : SpellsNone []
nil_spells front back n joined s =
    let none : 0 ≡ length front + length back = ap length joined ∙ length-append front back in
    let some : 1 ≤ length front = s.some in
    omega arith

-- nothing begins with no field
pub nil_none : StartsNoField []
nil_none front back number content joined f =
    let size : length front ≡ length f.tag + length f.payload = ap length f.joined ∙ length-append f.tag f.payload in
    let none : 0 ≡ length front + length back = ap length joined ∙ length-append front back in
    let some : 1 ≤ length f.tag = f.tagged.some in
    omega arith

-- ---- `next_field`

pub next_found : (source : List ℕ) (at k : ℕ) (e : Entry) → at ≤ length source
    → entry_at at (take (length source - at) (drop at source)) ≡ Ok (e, k)
    → (at < at + k) × (at + k ≤ length source) × IsFieldAt at (slice_range source at (at + k)) e
next_found source at k e within is =
    let seen = entry_found at (drop at source) (e, k) (ap (entry_at at) (sym (take_rest source at)) ∙ is) in
    let rest : length (drop at source) ≡ length source - at = length-drop at source in
    let some : 1 ≤ k = seen.0 in
    let all : k ≤ length (drop at source) = seen.1 in
    let back : k ≡ (at + k) - at = omega arith in
    (omega arith, omega arith, subst (λ (n : ℕ). IsFieldAt at (take n (drop at source)) e) back seen.2)

regroup : (a b c d : List ℕ) → (a ++ (b ++ c)) ++ d ≡ (a ++ b) ++ (c ++ d)
regroup a b c d = simp append_assoc

slice_of : (source tag payload rest : List ℕ) (at body : ℕ) (c : Content) → at ≤ length source → IsPayload payload c
    → drop at source ≡ (tag ++ payload) ++ rest → body + body_size payload c ≡ at + (length tag + length payload) → IsSliceAt source body c
slice_of source tag payload rest at body (varint n) within carries joined ends = tt
slice_of source tag payload rest at body (fixed64 n) within carries joined ends = tt
slice_of source tag payload rest at body (bytes d) within carries joined ends =
    let size : List ℕ = carries.0 in
    let front : List ℕ = tag ++ size in
    let whole : drop at source ≡ front ++ (d ++ rest) =
    joined ∙ ap (λ (p : List ℕ). (tag ++ p) ++ rest) carries.2 ∙ regroup tag size d rest in
    let left : length (drop at source) ≡ length source - at = length-drop at source in
    let parts : length (front ++ (d ++ rest)) ≡ length front + length (d ++ rest) = length-append front (d ++ rest) in
    let all : length (drop at source) ≡ length (front ++ (d ++ rest)) = ap length whole in
    let after_d : length (d ++ rest) ≡ length d + length rest = length-append d rest in
    let own : length payload ≡ length size + length d = ap length carries.2 ∙ length-append size d in
    let lead : length front ≡ length tag + length size = length-append tag size in
    let place : at + length front ≡ body = omega arith in
    let from_body : drop body source ≡ d ++ rest =
    ap (λ k. drop k source) (sym place) ∙ sym (drop-drop (length front) at source) ∙ ap (drop (length front)) whole
    ∙ drop-append_seam front (d ++ rest) in
    (omega arith, sym (ap (take (length d)) from_body ∙ take-append_seam d rest))
slice_of source tag payload rest at body (fixed32 n) within carries joined ends = tt

pub next_slice : (source : List ℕ) (at k : ℕ) (e : Entry) → at ≤ length source
    → entry_at at (take (length source - at) (drop at source)) ≡ Ok (e, k) → IsSliceAt source e.body e.content
next_slice source at k e within is =
    let seen = entry_found at (drop at source) (e, k) (ap (entry_at at) (sym (take_rest source at)) ∙ is) in
    let f = seen.2 in
    let joined : drop at source ≡ (f.field.tag ++ f.field.payload) ++ drop k (drop at source) =
    sym (take-append-drop k (drop at source)) ∙ ap (λ s. s ++ drop k (drop at source)) f.field.joined in
    let size : length (take k (drop at source)) ≡ length f.field.tag + length f.field.payload =
    ap length f.field.joined ∙ length-append f.field.tag f.field.payload in
    let ends : e.body + body_size f.field.payload e.content ≡ at + length (take k (drop at source)) = f.ends in
    slice_of source f.field.tag f.field.payload (drop k (drop at source)) at e.body e.content within f.field.carries joined (omega arith)

pub next_none : (source : List ℕ) (at : ℕ) (c : WireCause) → at ≤ length source → at ≢ length source
    → entry_at at (take (length source - at) (drop at source)) ≡ Err c
    → (at < length source) × StartsNoField (drop at source) × (at ≡ at) × (c ≡ rest_cause (drop at source))
next_none source at c within other is =
    let none : entry_at at (drop at source) ≡ Err c = ap (entry_at at) (sym (take_rest source at)) ∙ is in
    (omega arith, entry_none at (drop at source) c none, refl, rest_cause_is (drop at source) c (entry_why at (drop at source) c none))

-- ---- a step of `Fields`, seen as the split to come

abbrev pub to_come : List ℕ → ℕ → Parts
to_come source at = split_from at (drop at source)

abbrev pub ahead : Bor (List ℕ) → ℕ → Ahead
ahead source at = record { source = source; to_come = to_come source.now at }

pub end_step : (source : List ℕ) (at : ℕ) → at ≡ length source → to_come source at ≡ no_fields at []
end_step source at is = ap (split_from at) (drop_all at source (omega arith)) ∙ split_none at [] nil_none

pub fault_step : (source : List ℕ) (at : ℕ) → StartsNoField (drop at source) → to_come source at ≡ no_fields at (drop at source)
fault_step source at none = split_none at (drop at source) none

pub some_left : (source : List ℕ) (at : ℕ) → at < length source → drop at source ≢ []
some_left source at less none = let left = length-drop at source in let nil = ap length none in omega (arith, left, nil)

pub field_step : (source : List ℕ) (at after : ℕ) (e : Entry)
    → (at < after) × (after ≤ length source) × IsFieldAt at (slice_range source at after) e
    → (to_come source at ≡ behind e (to_come source after)) × EndsBy (to_come source at).rest_at e
field_step source at after e step =
    let less : at < after = step.0 in
    let within : after ≤ length source = step.1 in
    let front : List ℕ = take (after - at) (drop at source) in
    let left : length (drop at source) ≡ length source - at = length-drop at source in
    let size : length front ≡ after - at = length-take-le (after - at) (drop at source) (omega arith) in
    let place : at + length front ≡ after = omega arith in
    let back : drop (after - at) (drop at source) ≡ drop after source =
    drop-drop (after - at) at source ∙ ap (λ k. drop k source) (omega arith) in
    let joined : drop at source ≡ front ++ drop after source =
    sym (take-append-drop (after - at) (drop at source)) ∙ ap (λ s. front ++ s) back in
    let whole : to_come source at ≡ behind e (to_come source after) =
    ap (split_from at) joined ∙ split_front at front (drop after source) e step.2
    ∙ ap (λ k. behind e (split_from k (drop after source))) place in
    let rest : (to_come source at).rest_at ≡ (to_come source after).rest_at = ap (λ p. p.rest_at) whole in
    let past : after ≤ (to_come source after).rest_at = split_ends after (drop after source) in
    let f = step.2 in
    let begins : e.at ≡ at = f.begins in
    let ends : e.body + body_size f.field.payload e.content ≡ at + length front = f.ends in
    let least : bytes_size e.content ≤ body_size f.field.payload e.content = bytes_size-le f.field.payload e.content in
    (whole, (omega arith, omega arith))

pub gives_none : (source : List ℕ) (at : ℕ) → at ≡ length source → GivesEntry (to_come source at) None (to_come source at)
gives_none source at is = let end = end_step source at is in (ap (λ p. p.fields) end, ap (λ p. p.rest) end, refl)

pub gives_field : (source : List ℕ) (at after : ℕ) (f : Field)
    → (at < after) × (after ≤ length source) × IsFieldAt at (slice_range source at after) (entry_of f)
    → GivesEntry (to_come source at) (Some (Ok f)) (to_come source after)
gives_field source at after f step = field_step source at after (entry_of f) step

pub gives_fault : (source : List ℕ) (at : ℕ) (fault : WireFault)
    → (at < length source) × StartsNoField (drop at source) × (fault.at ≡ at) × (fault.cause ≡ rest_cause (drop at source))
    → GivesEntry (to_come source at) (Some (Err fault)) (to_come source (length source))
gives_fault source at fault why =
    let old = fault_step source at why.1 in
    let new = end_step source (length source) refl in (
      ap (λ p. p.fields) old,
      (λ none. some_left source at why.0 (sym (ap (λ p. p.rest) old) ∙ none)),
      why.2 ∙ sym (ap (λ p. p.rest_at) old),
      why.3 ∙ ap rest_cause (sym (ap (λ p. p.rest) old)),
      ap (λ p. p.fields) new,
      ap (λ p. p.rest) new,
    )

-- what is to come grows shorter
pub less_after_field : (old new : Parts) (e : Entry) → old ≡ behind e new
    → length new.fields + length new.rest < length old.fields + length old.rest
less_after_field old new e is =
    let fields : length old.fields ≡ suc (length new.fields) = ap (λ p. length p.fields) is in
    let rest : length old.rest ≡ length new.rest = ap (λ p. length p.rest) is in
    omega arith

some_less : (rest : List ℕ) (m n k : ℕ) → rest ≢ [] → m ≡ 0 → n ≡ 0 → m + n < k + length rest
some_less [] m n k some fields left = absurd (some refl)
some_less (x ∷ xs) m n k some fields left = omega arith

pub less_after_fault : (old new : Parts) (fault : WireFault) → GivesEntry old (Some (Err fault)) new
    → length new.fields + length new.rest < length old.fields + length old.rest
less_after_fault old new fault g = some_less old.rest _ _ _ g.1 (ap length g.4) (ap length g.5)

-- ---- `field_span`

pub nil_cause : rest_cause [] ≡ Truncated
nil_cause = sym (rest_cause_is [] Truncated (no_tag nil_spells refl))

pub nil_span : (b : List ℕ) → 0 ≡ length b → StartsNoField b × (rest_cause b ≡ Truncated)
nil_span [] is = (nil_none, nil_cause)
nil_span (x ∷ xs) is = absurd (omega arith)

-- the field that a step gives begins where the step does
pub given_at : (at : ℕ) (b : List ℕ) (new : Parts) (e : Entry) → split_from at b ≡ behind e new → e.at ≡ at
given_at at b new e is =
    let fields : (split_from at b).fields ≡ e ∷ new.fields = ap (λ (p : Parts). p.fields) is in
    let (front, back, joined, field, more) = subst (λ es. SplitFrom at b es (split_from at b).rest) fields (split_is at b) in
    field.begins

-- and so its first byte is the one that stands there
pub given_tag : (source b : List ℕ) (at tag : ℕ) (given : Option (Result Field WireFault)) (new : Parts)
    → GivesEntry (split_from at b) given new → slice_get source at ≡ Some tag
    → IfSome given (λ r. IfOk r (λ (field : Field). slice_get source field.at ≡ Some tag))
given_tag source b at tag None new step is = tt
given_tag source b at tag (Some (Err fault)) new step is = tt
given_tag source b at tag (Some (Ok field)) new step is = rw (given_at at b new (entry_of field) step.0) is
