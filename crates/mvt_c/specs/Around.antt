-- What there is round the fault that C hands back, as C has it.
use Rattle.std.specs.Prelude.{◌≡◌, ℕ, ◌⊎◌, List, length, map, None}
use Rattle.std.specs.Option.{unwrap_or}
use Rattle.mvt_base.specs.declared.TheConstants.{LIMIT}
use Rattle.mvt_feature.specs.declared.cause.Cause.TheVariants.{Truncated}
use Rattle.mvt_tile.specs.declared.fault.Fault.{Fault as TileFault}
use Rattle.mvt_places.specs.declared.around.Around.{Around}
use Rattle.mvt_places.specs.declared.field_rows.Bounds.{Bounds}
use Rattle.mvt_places.specs.declared.pen.Step.{Step}
use Rattle.mvt_places.specs.Around.{IsAround}
use Rattle.mvt_places.specs.Pens.{role_number}
use Rattle.mvt_c.specs.declared.around.StepRow.{StepRow}
use Rattle.mvt_c.specs.declared.around.Surroundings.{Surroundings}
use Rattle.mvt_c.specs.declared.fault.Fault.{Fault}
use Rattle.mvt_c.specs.Faults.{is_there}
use Rattle.mvt_c.specs.Places.{IsGiven, LacksCause}

-- the end of the bytes
abbrev pub at_end : List ℕ → TileFault
at_end input = record { layer = None; feature = None; at = length input; cause = Truncated }

-- C's fault is this one; where its cause has a number that none has, it is the end of the bytes
abbrev pub IsMeant : List ℕ → Fault → TileFault → Type 0
IsMeant input given fault = IsGiven given fault ⊎ (LacksCause given × (fault ≡ at_end input))

abbrev pub row_of_step : Step → StepRow
row_of_step s = record { role = role_number s.role; left = s.left; x = s.x; y = s.y }

-- no bytes
abbrev pub nowhere : Bounds
nowhere = record { start = 0; body = 0; end = 0 }

-- what there is, as C has it: what isn't there is 0
pub record IsTold (around : Around) (out : Surroundings) : Type 0 where
  pub has_layer : out.has_layer ≡ is_there around.layer
  pub layer : out.layer ≡ unwrap_or around.layer nowhere
  pub has_extent : out.has_extent ≡ is_there around.extent
  pub extent : out.extent ≡ unwrap_or around.extent 0
  pub has_feature : out.has_feature ≡ is_there around.feature
  pub feature : out.feature ≡ unwrap_or around.feature nowhere
  pub has_kind : out.has_kind ≡ is_there around.kind
  pub kind : out.kind ≡ unwrap_or around.kind 0
  pub list : out.list ≡ unwrap_or around.list 0
  pub message : out.message ≡ around.message
  pub keys : out.keys.now ≡ around.keys.items
  pub tags : out.tags.now ≡ around.tags.items
  pub geometry : out.geometry.now ≡ around.geometry.items
  pub steps : out.steps.now ≡ map row_of_step around.steps.items
  pub fields : out.fields.now ≡ around.fields.items

-- this is what there is round C's fault
abbrev pub IsSurrounded : List ℕ → Fault → Surroundings → Type 0
IsSurrounded input given out =
    (fault : TileFault) × IsMeant input given fault × (around : Around) × IsAround LIMIT input fault around × IsTold around out
