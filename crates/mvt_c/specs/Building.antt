-- What the calls of a builder answer.
use Rattle.std.specs.Prelude.{◌≡◌, ◌==◌, ℕ, Option, None, Some, Result, Ok, Err, if◌then◌else◌}
use Rattle.mvt_rows.specs.declared.builder.BuildError.{BuildError}
use Rattle.mvt_rows.specs.declared.builder.BuildError.TheVariants as call
use Rattle.mvt_rows.specs.declared.builder.Builder.{Builder}
use Rattle.mvt_rows.specs.declared.builder.FinishError.{FinishError}
use Rattle.mvt_rows.specs.declared.builder.FinishError.TheVariants.{Call, Rows}
use Rattle.mvt_rows.specs.declared.rows_error.RowsError.{RowsError}
use Rattle.mvt_rows.specs.declared.rows_error.RowsError.TheVariants as rows
use Rattle.mvt_rows.specs.Building.{IsCalled}
use Rattle.mvt_rows.specs.Told.{Told}

-- the statuses of mvt.h
abbrev pub status_of_call : BuildError → ℕ
status_of_call call.Memory = 2
status_of_call call.OutOfTurn = 8

abbrev pub status_of_made : {A : Type 0} → Result A BuildError → ℕ
status_of_made (Ok made) = 0
status_of_made (Err failure) = status_of_call failure

abbrev pub status_of_rows : RowsError → ℕ
status_of_rows rows.Memory = 2
status_of_rows rows.TooLarge = 3
status_of_rows (rows.NoTile fault) = 6

abbrev pub status_of_finish : FinishError → ℕ
status_of_finish (Call failure) = status_of_call failure
status_of_finish (Rows refused) = status_of_rows refused

-- an id that C gives: there is one where the number isn't 0
abbrev pub id_given : ℕ → ℕ → Option ℕ
id_given has_id id = if has_id == 0 then None else Some id

-- the status is that of a call that makes this of what was told
abbrev pub IsAnswered : {A : Type 0} → Builder → Builder → Result A BuildError → ℕ → (Told → Option Told) → Type 0
IsAnswered old new made status next = (status ≡ status_of_made made) × IsCalled old new made next

abbrev pub IsAnsweredBy : (A : Type 0) → Builder → Builder → ℕ → (Told → Option Told) → Type 0
IsAnsweredBy A old new status next = (made : Result A BuildError) × IsAnswered old new made status next
