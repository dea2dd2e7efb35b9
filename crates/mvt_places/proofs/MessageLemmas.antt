-- The fields of a message, one after the other.
use Rattle.std.proofs.Common.{◌≡◌, ℕ, ◌==◌, ◌+◌, ◌-◌, ◌<◌, ◌≤◌, Bool, true, false, List, [], ◌∷◌, length, drop, Option, None, Ok, if◌then◌else◌, refl, sym, ap, subst, ◌∙◌, arith}
use Rattle.std.specs.Prelude.{◌&&◌, IfSome, filter, find, slice_get, slice_range}
use Rattle.std.specs.List.{last_or}
use Rattle.std.proofs.lemmas.List.{length-drop, length-take-le, take-append-drop, drop_all}
use Rattle.mvt_wire.specs.Field.{Entry, IsFieldAt, StartsNoField}
use Rattle.mvt_wire.specs.Fields.{EndsBy}
use Rattle.mvt_wire.specs.Fronts.{entry_at}
use Rattle.mvt_wire.specs.Split.{Parts, split}
use Rattle.mvt_wire.proofs.WireLaws.{field_function_spelled, field_function_none, field_function_end}
use Rattle.mvt_feature.specs.Selection.{only}
use Rattle.mvt_places.specs.declared.message.Form.{Form}
use Rattle.mvt_places.specs.Messages.{has_form, is_of, formed, end_with, end_in}

-- ---- where a field ends

pub end_of_field : (payload : List ℕ) (at after : ℕ) (e : Entry) → at < after → after ≤ length payload
    → IsFieldAt at (slice_range payload at after) e → after ≡ end_in payload at
end_of_field payload at after e before within is =
    let rest : length (drop at payload) ≡ length payload - at = length-drop at payload in
    let fits : after - at ≤ length (drop at payload) = omega arith in
    let size : length (slice_range payload at after) ≡ after - at = length-take-le (after - at) (drop at payload) fits in
    let found : entry_at at (drop at payload) ≡ Ok (e, length (slice_range payload at after)) =
    ap (entry_at at) (sym (take-append-drop (after - at) (drop at payload)))
    ∙ field_function_spelled at (slice_range payload at after) (drop (after - at) (drop at payload)) e is in
    let ends : end_in payload at ≡ at + length (slice_range payload at after) = ap (end_with at (length payload)) found in
    omega arith

pub end_without_field : (payload : List ℕ) (at : ℕ) → StartsNoField (drop at payload) → length payload ≡ end_in payload at
end_without_field payload at none = sym (ap (end_with at (length payload)) (field_function_none at (drop at payload) none))

pub end_of_payload : (payload : List ℕ) (at : ℕ) → at ≡ length payload → length payload ≡ end_in payload at
end_of_payload payload at is =
    let h : length payload ≤ at = omega arith in
    end_without_field payload at (subst StartsNoField (sym (drop_all at payload h)) field_function_end)

-- ---- the fields of a number and a form

-- one filter for both
pub formed_is : (form : Form) (k : ℕ) (xs : List Entry) → formed form k xs ≡ filter (is_of form k) xs
formed_is form k [] = refl
formed_is form k (x ∷ xs) = by_tests (x.number == k) (has_form form x.content) refl (formed_is form k xs)
  where
    by_has : (c : Bool) → formed form k xs ≡ filter (is_of form k) xs
        → (if c then x ∷ formed form k xs else formed form k xs) ≡ (if c then x ∷ filter (is_of form k) xs else filter (is_of form k) xs)
    by_has true same = ap (λ ys. x ∷ ys) same
    by_has false same = same

    by_tests : (b c : Bool) → has_form form x.content ≡ c → formed form k xs ≡ filter (is_of form k) xs
        → filter (λ (e : Entry). has_form form e.content) (if b then x ∷ only k xs else only k xs)
        ≡ (if b && c then x ∷ filter (is_of form k) xs else filter (is_of form k) xs)
    by_tests true c has same = ap (λ t. if t then x ∷ formed form k xs else formed form k xs) has ∙ by_has c same
    by_tests false c has same = same

-- ---- one field and then the next

-- the field of an index is still to come
pub record Seeking (form : Form) (k : ℕ) (all : List ℕ) (index left : ℕ) (to_come : Parts) : Type 0 where
  pub same : slice_get (formed form k (split all).fields) index ≡ slice_get (filter (is_of form k) to_come.fields) left
  pub within : to_come.rest_at ≤ length all

-- the last field is the one so far, or is still to come
pub record Lasting (form : Form) (k : ℕ) (all : List ℕ) (last : Option Entry) (to_come : Parts) : Type 0 where
  pub same : last_or None (formed form k (split all).fields) ≡ last_or last (filter (is_of form k) to_come.fields)
  pub within : to_come.rest_at ≤ length all
  pub held : IfSome last (EndsBy (length all))

-- the first field that passes a test is still to come
pub record Holding (form : Form) (k : ℕ) (all : List ℕ) (test : Entry → Bool) (to_come : Parts) : Type 0 where
  pub same : find test (formed form k (split all).fields) ≡ find test (filter (is_of form k) to_come.fields)
  pub within : to_come.rest_at ≤ length all

pub seek_start : (form : Form) (k : ℕ) (all : List ℕ) (index : ℕ) (to_come : Parts) → to_come ≡ split all
    → to_come.rest_at + length to_come.rest ≡ length all → Seeking form k all index index to_come
seek_start form k all index to_come is place = record {
  same = ap (λ xs. slice_get xs index) (formed_is form k (split all).fields)
      ∙ ap (λ (p : Parts). slice_get (filter (is_of form k) p.fields) index) (sym is);
  within = omega arith;
}

pub last_start : (form : Form) (k : ℕ) (all : List ℕ) (to_come : Parts) → to_come ≡ split all
    → to_come.rest_at + length to_come.rest ≡ length all → Lasting form k all None to_come
last_start form k all to_come is place = record {
  same = ap (last_or None) (formed_is form k (split all).fields)
      ∙ ap (λ (p : Parts). last_or None (filter (is_of form k) p.fields)) (sym is);
  within = omega arith;
  held = tt;
}

pub hold_start : (form : Form) (k : ℕ) (all : List ℕ) (test : Entry → Bool) (to_come : Parts) → to_come ≡ split all
    → to_come.rest_at + length to_come.rest ≡ length all → Holding form k all test to_come
hold_start form k all test to_come is place = record {
  same = ap (find test) (formed_is form k (split all).fields) ∙ ap (λ (p : Parts). find test (filter (is_of form k) p.fields)) (sym is);
  within = omega arith;
}
