-- A walk over the fields of a payload: those so far, and what is still to come.
use Rattle.std.specs.Prelude.{◌≡◌, ℕ, ◌+◌, List, [], ◌++◌, length, None, Result, Ok, Err}
use Rattle.mvt_base.specs.Reports.{Reports}
use Rattle.mvt_base.specs.Rules.{Rules, each, first}
use Rattle.mvt_wire.specs.Field.{Entry}
use Rattle.mvt_wire.specs.Split.{Parts, split}
use Rattle.mvt_feature.specs.declared.message_error.MessageError.{MessageError}
use Rattle.mvt_feature.specs.Faults.{MessageFault, fault_of}

-- a walk over a payload's fields: those that are done, and those to come
pub record Walk (payload : List ℕ) (to_come : Parts) (done : List Entry) : Type 0 where
  pub fields : (split payload).fields ≡ done ++ to_come.fields
  pub rest : to_come.rest ≡ (split payload).rest
  pub place : to_come.rest_at ≡ (split payload).rest_at
  pub bound : (split payload).rest_at + length (split payload).rest ≡ length payload

-- what holds of the fields so far, which break no rule; or a fault that stays whatever fields follow
abbrev pub IsSoFar : {K : Type 0} → (Entry → Rules MessageFault) → (List Entry → K → Type 0) → List Entry → Result K MessageError → Type 0
IsSoFar rules Holds done (Ok k) = (first (each (λ _. rules) [] done) ≡ None) × Holds done k
IsSoFar rules Holds done (Err error) =
    (more : List Entry) → Reports (fault_of error) (first (each (λ _. rules) [] (done ++ more)))
