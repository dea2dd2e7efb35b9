-- Splits: that the function `split_from` is the relation `SplitFrom`, and what more bytes change.
use Rattle.std.proofs.Common.{add_assoc, ◌≡◌, ◌≢◌, ℕ, zero, suc, ◌+◌, ◌%◌, ◌≤◌, inl, inr, cond, List, [], ◌∷◌, ◌++◌, length, take, drop, Result, Ok, Err, refl, sym, ap, subst, ◌∙◌, arith, append_assoc, lt-ltb, le-ltb}
use Rattle.std.proofs.lemmas.Bool.{cases_lt}
use Rattle.std.proofs.lemmas.List.{length-append, length-drop, length-take-le, drop-append-le, take-append-drop, take-append-le}
use Rattle.std.proofs.Math.Seq.{take-append_seam, drop-append_seam}
use Rattle.mvt_wire.specs.declared.fault.WireCause.{WireCause}
use Rattle.mvt_wire.specs.declared.fault.WireCause.TheVariants.{Truncated, VarintRange}
use Rattle.mvt_wire.specs.Varint.{SpellsNone, spell_cause}
use Rattle.mvt_wire.specs.Field.{Content, varint, fixed64, bytes, fixed32, StartsNoField, Entry, body_size, IsFieldAt}
use Rattle.mvt_wire.specs.Fields.{bytes_size}
use Rattle.mvt_wire.specs.Fronts.{entry_at, rest_cause}
use Rattle.mvt_wire.specs.Rest.{IsPayloadCause, no_type, no_varint, no_length, past_end, no_eight, no_four, IsRestCause, no_tag, no_number, no_payload}
use Rattle.mvt_wire.specs.Split.{SplitFrom, Parts, behind, no_fields, split_within, split_from, shifted, shifted_parts}
use Rattle.mvt_wire.proofs.PieceLemmas.{Takes, all_step, induct}
use Rattle.mvt_wire.proofs.FieldLemmas.{entry_cause, entry_found, entry_front, entry_none, entry_none_from, entry_why, rest_cause_is}

-- ---- one step of the function

within_step : (n at : ℕ) (b : List ℕ) (found : Entry × ℕ) → entry_at at b ≡ Ok found
    → split_within (suc n) at b ≡ behind found.0 (split_within n (at + found.1) (drop found.1 b))
unfolding split_within
within_step n at b found e = rw (e, split_within) refl

within_stop : (n at : ℕ) (b : List ℕ) (c : WireCause) → entry_at at b ≡ Err c → split_within n at b ≡ no_fields at b
unfolding split_within
within_stop zero at b c e = refl
within_stop (suc n) at b c e = rw (e, split_within) refl

-- what was found is a byte at least, and within the list
found_size : (at : ℕ) (b : List ℕ) (found : Entry × ℕ) → entry_at at b ≡ Ok found → (1 ≤ found.1) × (found.1 ≤ length b)
found_size at b found e = let seen = entry_found at b found e in (seen.0, seen.1)

takes_fields : Takes entry_at behind no_fields split_within
takes_fields = record { step = within_step; stop = within_stop; size = found_size }

pub split_stop : (at : ℕ) (b : List ℕ) (c : WireCause) → entry_at at b ≡ Err c → split_from at b ≡ no_fields at b
unfolding split_from
split_stop at b c e = within_stop (length b) at b c e

pub split_step : (at : ℕ) (b : List ℕ) (found : Entry × ℕ) → entry_at at b ≡ Ok found
    → split_from at b ≡ behind found.0 (split_from (at + found.1) (drop found.1 b))
unfolding split_from
split_step at b found e = all_step entry_at behind no_fields split_within takes_fields at b found e

pub split_induct : (P : ℕ → List ℕ → Parts → Type 0)
    → ((at : ℕ) (b : List ℕ) (c : WireCause) → entry_at at b ≡ Err c → P at b (no_fields at b))
    → ((at : ℕ) (b : List ℕ) (found : Entry × ℕ) (parts : Parts) → entry_at at b ≡ Ok found → P (at + found.1) (drop found.1 b) parts
    → P at b (behind found.0 parts))
    → (at : ℕ) (b : List ℕ) → P at b (split_from at b)
unfolding split_from
split_induct P stop step =
    induct entry_at behind no_fields split_within takes_fields P stop (λ at b found e more. step at b found _ e more)

-- ---- what a split is

pub split_place : (at : ℕ) (b : List ℕ) → (split_from at b).rest_at + length (split_from at b).rest ≡ at + length b
split_place =
    split_induct (λ at b parts. parts.rest_at + length parts.rest ≡ at + length b) (λ at b c e. refl)
    (λ at b found parts e more.
    let size = found_size at b found e in
    omega (arith, size.0, size.1, length-drop found.1 b, more))

pub split_ends : (at : ℕ) (b : List ℕ) → at ≤ (split_from at b).rest_at
split_ends =
    split_induct (λ at b parts. at ≤ parts.rest_at) (λ at b c e. omega arith)
    (λ at b found parts e more. omega (arith, more))

pub split_is : (at : ℕ) (b : List ℕ) → SplitFrom at b (split_from at b).fields (split_from at b).rest
split_is =
    split_induct (λ at b parts. SplitFrom at b parts.fields parts.rest) (λ at b c e. (refl, entry_none at b c e))
    (λ at b found parts e more.
    let seen = entry_found at b found e in
    let size : length (take found.1 b) ≡ found.1 = length-take-le found.1 b seen.1 in (
      take found.1 b,
      drop found.1 b,
      sym (take-append-drop found.1 b),
      seen.2,
      subst (λ (k : ℕ). SplitFrom (at + k) (drop found.1 b) parts.fields parts.rest) (sym size) more,
    ))

pub split_front : (at : ℕ) (front back : List ℕ) (e : Entry) → IsFieldAt at front e
    → split_from at (front ++ back) ≡ behind e (split_from (at + length front) back)
split_front at front back e f =
    split_step at (front ++ back) (e, length front) (entry_front at front back e f)
    ∙ ap (λ s. behind e (split_from (at + length front) s)) (drop-append_seam front back)

pub split_none : (at : ℕ) (b : List ℕ) → StartsNoField b → split_from at b ≡ no_fields at b
split_none at b none = split_stop at b _ (entry_none_from at b none)

pub split_only : (at : ℕ) (b rest : List ℕ) (es : List Entry) → SplitFrom at b es rest
    → ((split_from at b).fields ≡ es) × ((split_from at b).rest ≡ rest)
split_only at b rest [] s =
    let is : split_from at b ≡ no_fields at rest = ap (split_from at) s.0 ∙ split_none at rest s.1 in
    (ap (λ p. p.fields) is, ap (λ p. p.rest) is)
split_only at b rest (e ∷ es) s =
    let front : List ℕ = s.0 in
    let back : List ℕ = s.1 in
    let is : split_from at b ≡ behind e (split_from (at + length front) back) = ap (split_from at) s.2 ∙ split_front at front back e s.3 in
    let more = split_only (at + length front) back rest es s.4 in
    (ap (λ p. p.fields) is ∙ ap (λ fs. e ∷ fs) more.0, ap (λ p. p.rest) is ∙ more.1)

pub bytes_size-le : (payload : List ℕ) (c : Content) → bytes_size c ≤ body_size payload c
bytes_size-le payload (varint n) = omega arith
bytes_size-le payload (fixed64 n) = omega arith
bytes_size-le payload (bytes d) = omega arith
bytes_size-le payload (fixed32 n) = omega arith

-- ---- more bytes

pub field_stays : (at k : ℕ) (b more : List ℕ) (e : Entry) → entry_at at b ≡ Ok (e, k) → entry_at at (b ++ more) ≡ Ok (e, k)
field_stays at k b more e is =
    let seen = entry_found at b (e, k) is in
    let size : length (take k b) ≡ k = length-take-le k b seen.1 in
    let joined : b ++ more ≡ take k b ++ (drop k b ++ more) =
    ap (λ s. s ++ more) (sym (take-append-drop k b)) ∙ append_assoc (take k b) (drop k b) more in
    ap (entry_at at) joined ∙ entry_front at (take k b) (drop k b ++ more) e seen.2
    ∙ ap (λ (n : ℕ). let r : Result (Entry × ℕ) WireCause = Ok (e, n) in r) size

-- a prefix that isn't longer than b is a prefix of b
pub front_within : (b more front back : List ℕ) → b ++ more ≡ front ++ back → length front ≤ length b → b ≡ front ++ drop (length front) b
front_within b more front back joined short =
    let own : take (length front) (b ++ more) ≡ front = ap (take (length front)) joined ∙ take-append_seam front back in
    let same : take (length front) b ≡ front = sym (take-append-le (length front) b more short) ∙ own in
    sym (take-append-drop (length front) b) ∙ ap (λ s. s ++ drop (length front) b) same

pub none_stays : (b more : List ℕ) → 10 ≤ length b → SpellsNone b → SpellsNone (b ++ more)
none_stays b more long none front back n joined s =
    let ten : length front ≤ 10 = s.at_most_ten in
    none front (drop (length front) b) n (front_within b more front back joined (omega arith)) s

pub long_cause : (b : List ℕ) → spell_cause b ≢ Truncated → 10 ≤ length b
long_cause b other =
    elim (cases_lt (length b) 10) [
      | inl short ↦ absurd (other (ap (λ t. cond t Truncated VarintRange) (lt-ltb _ _ short)))
      | inr long ↦ long
    ]

pub spell_cause_stays : (b more : List ℕ) → 10 ≤ length b → spell_cause b ≡ spell_cause (b ++ more)
spell_cause_stays b more long =
    let all = length-append b more in
    ap (λ t. cond t Truncated VarintRange) (le-ltb (length b) 10 long ∙ sym (le-ltb (length (b ++ more)) 10 (omega (arith, all))))

-- a number that nothing spells stays so, where that isn't for want of bytes
pub number_stays : (b more : List ℕ) (c : WireCause) → c ≢ Truncated → SpellsNone b → c ≡ spell_cause b
    → SpellsNone (b ++ more) × (c ≡ spell_cause (b ++ more))
number_stays b more c other none is =
    let long : 10 ≤ length b = long_cause b (λ e. other (is ∙ e)) in
    (none_stays b more long none, is ∙ spell_cause_stays b more long)

pub payload_stays : (w : ℕ) (b more : List ℕ) (c : WireCause) → c ≢ Truncated → IsPayloadCause w b c → IsPayloadCause w (b ++ more) c
payload_stays w b more c other (no_type n0 n1 n2 n5 is) = no_type n0 n1 n2 n5 is
payload_stays w b more c other (no_varint is none cause) =
    let stays = number_stays b more c other none cause in
    no_varint is stays.0 stays.1
payload_stays w b more c other (no_length is none cause) =
    let stays = number_stays b more c other none cause in
    no_length is stays.0 stays.1
payload_stays w b more c other (past_end size rest n is joined spells short cause) = absurd (other cause)
payload_stays w b more c other (no_eight is short cause) = absurd (other cause)
payload_stays w b more c other (no_four is short cause) = absurd (other cause)

pub cause_stays : (b more : List ℕ) (c : WireCause) → c ≢ Truncated → IsRestCause b c → IsRestCause (b ++ more) c
cause_stays b more c other (no_tag none is) = let stays = number_stays b more c other none is in no_tag stays.0 stays.1
cause_stays b more c other (no_number tag after n joined spells why is) =
    no_number tag (after ++ more) n (ap (λ s. s ++ more) joined ∙ append_assoc tag after more) spells why is
cause_stays b more c other (no_payload tag after n joined spells low high why) =
    no_payload tag (after ++ more) n (ap (λ s. s ++ more) joined ∙ append_assoc tag after more) spells low high
    (payload_stays (n % 8) after more c other why)

-- fields in front of a split
abbrev pub joined_to : List Entry → Parts → Parts
joined_to es parts = record { fields = es ++ parts.fields; rest_at = parts.rest_at; rest = parts.rest }

pub split_joined : (at : ℕ) (b more : List ℕ)
    → split_from at (b ++ more)
    ≡ joined_to (split_from at b).fields (split_from (split_from at b).rest_at ((split_from at b).rest ++ more))
split_joined at b more =
    split_induct
    (λ at b parts. (more : List ℕ) → split_from at (b ++ more) ≡ joined_to parts.fields (split_from parts.rest_at (parts.rest ++ more)))
    (λ at b c e more. refl)
    (λ at b found parts e rec more.
    let seen = found_size at b found e in
    split_step at (b ++ more) found (field_stays at found.1 b more found.0 e)
    ∙ ap (λ s. behind found.0 (split_from (at + found.1) s)) (drop-append-le found.1 b more seen.1)
    ∙ ap (behind found.0) (rec more))
    at b more

-- a field has a byte at least
pub split_count : (at : ℕ) (b : List ℕ) → length (split_from at b).fields + length (split_from at b).rest ≤ length b
split_count =
    split_induct (λ at b parts. length parts.fields + length parts.rest ≤ length b) (λ at b c e. omega arith)
    (λ at b found parts e more.
    let size = found_size at b found e in
    omega (arith, size.0, size.1, length-drop found.1 b, more))

-- no field begins at the rest
pub split_rest : (at : ℕ) (b : List ℕ) → StartsNoField (split_from at b).rest
split_rest =
    split_induct (λ at b parts. StartsNoField parts.rest) (λ at b c e. entry_none at b c e) (λ at b found parts e more. more)

pub rest_stays : (b more : List ℕ) → StartsNoField b → rest_cause b ≢ Truncated
    → StartsNoField (b ++ more) × (rest_cause (b ++ more) ≡ rest_cause b)
rest_stays b more none other =
    let why : IsRestCause b (rest_cause b) = entry_why 0 b (rest_cause b) (entry_none_from 0 b none) in
    let stays = cause_stays b more (rest_cause b) other why in (
      entry_none 0 (b ++ more) (rest_cause b) (entry_cause 0 (b ++ more) (rest_cause b) stays),
      sym (rest_cause_is (b ++ more) (rest_cause b) stays),
    )

-- ---- k bytes further on

pub field_shifts : (k at : ℕ) (b : List ℕ) (e : Entry) → IsFieldAt at b e → IsFieldAt (k + at) b (shifted k e)
field_shifts k at b e f =
    let ends : e.body + body_size f.field.payload e.content ≡ at + length b = f.ends in
    record { field = f.field; begins = ap (λ n. k + n) f.begins; ends = omega arith }

found_shifts : (k at : ℕ) (b : List ℕ) (found : Entry × ℕ) → entry_at at b ≡ Ok found
    → entry_at (k + at) b ≡ Ok (shifted k found.0, found.1)
found_shifts k at b found e =
    let seen = entry_found at b found e in
    let size : length (take found.1 b) ≡ found.1 = length-take-le found.1 b seen.1 in
    ap (entry_at (k + at)) (sym (take-append-drop found.1 b))
    ∙ entry_front (k + at) (take found.1 b) (drop found.1 b) (shifted k found.0) (field_shifts k at (take found.1 b) found.0 seen.2)
    ∙ ap (λ (n : ℕ). let r : Result (Entry × ℕ) WireCause = Ok (shifted k found.0, n) in r) size

pub split_shifts : (k at : ℕ) (b : List ℕ) → split_from (k + at) b ≡ shifted_parts k (split_from at b)
split_shifts k =
    split_induct (λ at b parts. split_from (k + at) b ≡ shifted_parts k parts)
    (λ at b c e. split_stop (k + at) b c (entry_cause (k + at) b c (entry_why at b c e)))
    (λ at b found parts e more.
    split_step (k + at) b (shifted k found.0, found.1) (found_shifts k at b found e)
    ∙ ap (λ n. behind (shifted k found.0) (split_from n (drop found.1 b))) (add_assoc k at found.1)
    ∙ ap (behind (shifted k found.0)) more)
