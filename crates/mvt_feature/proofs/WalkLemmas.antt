-- The steps of a walk over the fields of a payload, and its end.
use Rattle.std.proofs.Common.{◌≡◌, ◌≢◌, ℕ, ◌+◌, ◌^◌, ◌<◌, List, [], ◌∷◌, ◌++◌, length, Some, None, Ok, Err, refl, sym, ap, ap₂, ◌∙◌, append_assoc, append-nil, arith}
use Rattle.mvt_base.specs.Rules.{first}
use Rattle.mvt_wire.specs.declared.fault.WireFault.{WireFault}
use Rattle.mvt_wire.specs.declared.field.Field.{Field}
use Rattle.mvt_wire.specs.Field.{Entry, entry_of}
use Rattle.mvt_wire.specs.Fields.{GivesEntry}
use Rattle.mvt_wire.specs.Fronts.{rest_cause}
use Rattle.mvt_wire.specs.Split.{Parts, split}
use Rattle.mvt_feature.specs.Causes.{of_wire}
use Rattle.mvt_feature.specs.Faults.{fault_at, rest_rules, rest_rules_at}
use Rattle.mvt_feature.specs.Walks.{Walk}

pub walk_start : (payload : List ℕ) (it : Parts) → it ≡ split payload → it.rest_at + length it.rest ≡ length payload → Walk payload it []
walk_start payload it is bound = record {
  fields = ap (λ (p : Parts). p.fields) (sym is);
  rest = ap (λ (p : Parts). p.rest) is;
  place = ap (λ (p : Parts). p.rest_at) is;
  bound = rw is at bound;
}

pub walk_step : (payload : List ℕ) (old new : Parts) (done : List Entry) (field : Field) → Walk payload old done
    → GivesEntry old (Some (Ok field)) new → Walk payload new (done ++ entry_of field ∷ [])
walk_step payload old new done field walk step = record {
  fields = walk.fields ∙ ap (λ (p : Parts). done ++ p.fields) step.0 ∙ sym (append_assoc done (entry_of field ∷ []) new.fields);
  rest = sym (ap (λ (p : Parts). p.rest) step.0) ∙ walk.rest;
  place = sym (ap (λ (p : Parts). p.rest_at) step.0) ∙ walk.place;
  bound = walk.bound;
}

-- the tag of the next field stands inside the payload
pub walk_fits : (payload : List ℕ) (old new : Parts) (done : List Entry) (field : Field) (payload_at : ℕ)
    → Walk payload old done → GivesEntry old (Some (Ok field)) new → payload_at + length payload < 2 ^ 64
    → payload_at + field.at < 2 ^ 64
walk_fits payload old new done field payload_at walk step small =
    let inside : field.at < old.rest_at = step.1.0 in
    let place = walk.place in
    let bound = walk.bound in
    omega arith

pub walk_fault_fits : (payload : List ℕ) (old new : Parts) (done : List Entry) (fault : WireFault) (payload_at : ℕ)
    → Walk payload old done → GivesEntry old (Some (Err fault)) new → payload_at + length payload < 2 ^ 64
    → payload_at + fault.at < 2 ^ 64
walk_fault_fits payload old new done fault payload_at walk step small =
    let at : fault.at ≡ old.rest_at = step.2 in
    let place = walk.place in
    let bound = walk.bound in
    omega arith

-- at the end these were all fields
pub walk_end : (payload : List ℕ) (old new : Parts) (done : List Entry) → Walk payload old done → GivesEntry old None new
    → ((split payload).fields ≡ done) × ((split payload).rest ≡ [])
walk_end payload old new done walk step =
    (walk.fields ∙ ap (λ l. done ++ l) step.0 ∙ append-nil done, sym walk.rest ∙ step.1)

rest_reported : (at : ℕ) (rest : List ℕ) → rest ≢ [] → first (rest_rules_at at rest) ≡ Some (fault_at at (of_wire (rest_cause rest)))
rest_reported at [] some = absurd (some refl)
rest_reported at (b ∷ bs) some = refl

pub walk_fault : (payload : List ℕ) (old new : Parts) (done : List Entry) (fault : WireFault) (payload_at : ℕ)
    → Walk payload old done → GivesEntry old (Some (Err fault)) new
    → first (rest_rules payload_at (split payload)) ≡ Some (fault_at (payload_at + fault.at) (of_wire fault.cause))
unfolding rest_rules
walk_fault payload old new done fault payload_at walk step =
    let at : (split payload).rest_at ≡ fault.at = sym walk.place ∙ sym step.2 in
    let cause : rest_cause (split payload).rest ≡ fault.cause = ap rest_cause (sym walk.rest) ∙ sym step.3 in
    let some : (split payload).rest ≢ [] = λ e. step.1 (walk.rest ∙ e) in
    rest_reported (payload_at + (split payload).rest_at) (split payload).rest some
    ∙ ap₂ (λ n c. Some (fault_at (payload_at + n) (of_wire c))) at cause

pub rest_none : (payload_at : ℕ) (parts : Parts) → parts.rest ≡ [] → first (rest_rules payload_at parts) ≡ None
unfolding rest_rules
rest_none payload_at parts is = rw is refl

nothing_left : (at : ℕ) (rest : List ℕ) → first (rest_rules_at at rest) ≡ None → rest ≡ []
nothing_left at [] h = refl
nothing_left at (b ∷ bs) h = cc

pub none_rest : (payload_at : ℕ) (parts : Parts) → first (rest_rules payload_at parts) ≡ None → parts.rest ≡ []
unfolding rest_rules
none_rest payload_at parts h = nothing_left (payload_at + parts.rest_at) parts.rest h
