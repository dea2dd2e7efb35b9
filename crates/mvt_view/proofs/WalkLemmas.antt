-- A walk over the fields of an input: the lines so far, and what is still to come.
use Rattle.std.proofs.Common.{◌≡◌, ◌≢◌, ℕ, Bool, true, false, List, [], ◌∷◌, ◌++◌, length, take, nat_lt, Option, Some, None, Ok, Err, refl, sym, ap, ap₂, ◌∙◌, append_assoc, append-nil}
use Rattle.std.specs.List.{flat_map}
use Rattle.std.specs.Bool.{then_some}
use Rattle.std.proofs.lemmas.Grind.{flat_map-append}
use Rattle.mvt_wire.specs.declared.fault.WireFault.{WireFault}
use Rattle.mvt_wire.specs.declared.field.Field.{Field}
use Rattle.mvt_wire.specs.Field.{Entry, entry_of}
use Rattle.mvt_wire.specs.Fields.{GivesEntry}
use Rattle.mvt_wire.specs.Fronts.{rest_cause}
use Rattle.mvt_wire.specs.Split.{Parts, split}
use Rattle.mvt_tile.specs.declared.fault.Fault.{Fault}
use Rattle.mvt_feature.specs.declared.cause.Cause.TheVariants.{TooLarge}
use Rattle.mvt_tile.specs.Faults.{outer_fault}
use Rattle.mvt_view.specs.FieldLines.{field_line, front_parts, fields_lines, fields_fault, rest_fault, reported}

pub record Listed (limit : ℕ) (input : List ℕ) (to_come : Parts) (lines : List ℕ) : Type 0 where
  pub done : List Entry
  pub fields : (front_parts limit input).fields ≡ done ++ to_come.fields
  pub rest : to_come.rest ≡ (front_parts limit input).rest
  pub place : to_come.rest_at ≡ (front_parts limit input).rest_at
  pub reported_so_far : lines ≡ flat_map field_line done

pub listed_start : (limit : ℕ) (input front : List ℕ) (to_come : Parts) (lines : List ℕ) → front ≡ take limit input
    → to_come ≡ split front → lines ≡ [] → Listed limit input to_come lines
listed_start limit input front to_come lines is all none = record {
  done = [];
  fields = ap (λ (p : Parts). p.fields) (ap split (sym is) ∙ sym all);
  rest = ap (λ (p : Parts). p.rest) (all ∙ ap split is);
  place = ap (λ (p : Parts). p.rest_at) (all ∙ ap split is);
  reported_so_far = none;
}

pub listed_step : (limit : ℕ) (input : List ℕ) (old new : Parts) (lines after : List ℕ) (field : Field)
    → Listed limit input old lines → GivesEntry old (Some (Ok field)) new → after ≡ lines ++ field_line
    (entry_of field) → Listed limit input new after
listed_step limit input old new lines after field so_far step is = record {
  done = so_far.done ++ entry_of field ∷ [];
  fields = so_far.fields ∙ ap (λ (p : Parts). so_far.done ++ p.fields) step.0
      ∙ sym (append_assoc so_far.done (entry_of field ∷ []) new.fields);
  rest = sym (ap (λ (p : Parts). p.rest) step.0) ∙ so_far.rest;
  place = sym (ap (λ (p : Parts). p.rest_at) step.0) ∙ so_far.place;
  reported_so_far = is ∙ ap (λ l. l ++ field_line (entry_of field)) so_far.reported_so_far
      ∙ sym (flat_map-append field_line so_far.done (entry_of field ∷ [])
      ∙ ap (λ l. flat_map field_line so_far.done ++ l) (append-nil (field_line (entry_of field))));
}

all_reported : (limit : ℕ) (input : List ℕ) (old : Parts) (lines : List ℕ) → Listed limit input old lines
    → old.fields ≡ [] → lines ≡ fields_lines limit input
unfolding fields_lines
all_reported limit input old lines so_far none =
    so_far.reported_so_far ∙ ap (flat_map field_line) (sym (so_far.fields ∙ ap (λ l. so_far.done ++ l) none ∙ append-nil so_far.done))

fault_of_rest : (limit : ℕ) (longer : Bool) (at : ℕ) (rest : List ℕ) → rest ≢ [] → rest_fault limit longer at rest
    ≡ Some (reported longer at (rest_cause rest))
fault_of_rest limit longer at [] some = absurd (some refl)
fault_of_rest limit longer at (b ∷ bs) some = refl

the_fault : (limit : ℕ) (input : List ℕ) (old : Parts) (lines : List ℕ) (longer : Bool) → Listed limit input old lines
    → longer ≡ nat_lt limit (length input) → rest_fault limit longer old.rest_at old.rest ≡ fields_fault limit input
unfolding fields_fault
the_fault limit input old lines longer so_far is =
    ap (λ l. rest_fault limit l old.rest_at old.rest) is ∙ ap₂ (rest_fault limit (nat_lt limit (length input))) so_far.place so_far.rest

pub listed_fault : (limit : ℕ) (input : List ℕ) (old new : Parts) (lines : List ℕ) (longer : Bool) (fault : WireFault)
    (f : Fault) → Listed limit input old lines → GivesEntry old (Some (Err fault)) new → longer ≡ nat_lt limit
    (length input) → f ≡ reported longer fault.at fault.cause → (lines ≡ fields_lines limit input)
    × (Some f ≡ fields_fault limit input)
listed_fault limit input old new lines longer fault f so_far step is f_is = (
  all_reported limit input old lines so_far step.0,
  ap Some (f_is ∙ ap₂ (reported longer) step.2 step.3)
      ∙ sym (fault_of_rest limit longer old.rest_at old.rest step.1) ∙ the_fault limit input old lines longer so_far is,
)

after_limit : (limit : ℕ) (longer : Bool) (at : ℕ) → then_some longer (outer_fault limit TooLarge) ≡ rest_fault limit longer at []
after_limit limit true at = refl
after_limit limit false at = refl

pub listed_end : (limit : ℕ) (input : List ℕ) (old new : Parts) (lines : List ℕ) (longer : Bool) (o : Option Fault)
    → Listed limit input old lines → GivesEntry old None new → longer ≡ nat_lt limit (length input)
    → o ≡ then_some longer (outer_fault limit TooLarge) → (lines ≡ fields_lines limit input) × (o ≡ fields_fault limit input)
listed_end limit input old new lines longer o so_far step is o_is = (
  all_reported limit input old lines so_far step.0,
  o_is ∙ after_limit limit longer old.rest_at
      ∙ ap (rest_fault limit longer old.rest_at) (sym step.1) ∙ the_fault limit input old lines longer so_far is,
)
