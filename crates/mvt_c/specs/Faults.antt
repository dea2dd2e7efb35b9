-- A fault as C sees it: an index is -1 where there is none.
use Rattle.std.specs.Prelude.{◌≡◌, ℕ, ℤ, pos, negsuc, Option, Some, None}
use Rattle.std.specs.Option.{option_and_then, option_map_or, unwrap_or}
use Rattle.mvt_feature.specs.declared.cause.Cause.TheVariants as causes
use Rattle.mvt_feature.specs.Causes.{cause_number, cause_name}
use Rattle.mvt_tile.specs.declared.fault.Fault.{Fault as TileFault}
use Rattle.mvt_rows.specs.declared.rows_cause.RowsCause.{RowsCause}
use Rattle.mvt_rows.specs.declared.rows_cause.RowsCause.TheVariants.{Drawing}
use Rattle.mvt_rows.specs.declared.rows_cause.RowsFault.{RowsFault}
use Rattle.mvt_rows.specs.declared.undrawn.DrawingRule.{DrawingRule}
use Rattle.mvt_rows.specs.declared.undrawn.DrawingRule.TheVariants as rules
use Rattle.mvt_rows.specs.declared.undrawn.Undrawn.{Undrawn}
use Rattle.mvt_rows.specs.RowsFaults.{IsFaultOf, rows_cause_number}
use Rattle.mvt_rows.specs.Tables.{Table}
use Rattle.mvt_c.specs.declared.fault.Fault.{Fault}
use Rattle.mvt_c.specs.declared.writing.RowsFaultRow.{RowsFaultRow}

-- an index as C has it: -1 for none
abbrev pub index_of : Option ℕ → ℤ
index_of None = negsuc 0
index_of (Some n) = pos n

-- the fields are the fault's, and the name is its cause's
pub record IsFault (fault : TileFault) (reported : Fault) : Type 0 where
  pub layer : reported.layer ≡ index_of fault.layer
  pub feature : reported.feature ≡ index_of fault.feature
  pub at : reported.at ≡ fault.at
  pub cause : reported.cause ≡ cause_number fault.cause
  pub name : reported.name.bytes.now ≡ cause_name fault.cause

-- whether there is one, as C has it
abbrev pub is_there : {A : Type 0} → Option A → ℕ
is_there None = 0
is_there (Some value) = 1

-- the number of a rule: that of the cause which reading has for it. The last two are of rows alone
abbrev pub rule_number : DrawingRule → ℕ
rule_number rules.Count = cause_number causes.Count
rule_number rules.ZeroSegment = cause_number causes.ZeroSegment
rule_number rules.CoordinateRange = cause_number causes.CoordinateRange
rule_number rules.FirstRing = cause_number causes.FirstRing
rule_number rules.EndsEarly = cause_number causes.EndsEarly
rule_number rules.ParameterRange = cause_number causes.ParameterRange
rule_number rules.ExteriorRing = 27
rule_number rules.InteriorRing = 28

-- the rule that a geometry breaks, the part and the point, where the cause tells these
abbrev pub undrawn_of : RowsCause → Option Undrawn
undrawn_of (Drawing undrawn) = Some undrawn
undrawn_of cause = None

abbrev pub point_of : Option Undrawn → Option ℕ
point_of undrawn = option_and_then (λ (u : Undrawn). u.point) undrawn

-- what is wrong with rows, as C has it
abbrev pub row_of_fault : RowsFault → RowsFaultRow
row_of_fault fault = record {
  layer = fault.layer;
  feature = unwrap_or fault.feature 0;
  has_feature = is_there fault.feature;
  cause = rows_cause_number fault.cause;
  rule = option_map_or (λ (u : Undrawn). rule_number u.rule) (undrawn_of fault.cause) 0;
  has_point = is_there (point_of (undrawn_of fault.cause));
  part = option_map_or (λ (u : Undrawn). u.part) (undrawn_of fault.cause) 0;
  point = unwrap_or (point_of (undrawn_of fault.cause)) 0;
}

-- what is wrong with rows first
abbrev pub IsRowsFault : Table → RowsFaultRow → Type 0
IsRowsFault t row = (fault : RowsFault) × IsFaultOf t fault × (row ≡ row_of_fault fault)
