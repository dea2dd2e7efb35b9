-- What a builder holds of what it was told, and what its calls answer.
use Rattle.std.specs.Prelude.{◌≡◌, ◌↔◌, ◌==◌, ◌&&◌, ℕ, Bool, true, false, List, ◌++◌, length, Option, Some, None, Result, OnOk, IfErr, IfSome, MatchOption, IsSomeAnd, IsErrOf}
use Rattle.std.specs.declared.alloc.AllocError.{AllocError}
use Rattle.mvt_rows.specs.declared.builder.BuildError.{BuildError}
use Rattle.mvt_rows.specs.declared.builder.BuildError.TheVariants.{OutOfTurn}
use Rattle.mvt_rows.specs.declared.builder.Builder.{Builder}
use Rattle.mvt_rows.specs.declared.builder.FinishError.{FinishError}
use Rattle.mvt_rows.specs.declared.builder.FinishError.TheVariants.{Call, Rows}
use Rattle.mvt_rows.specs.declared.builder.OpenFeature.{OpenFeature}
use Rattle.mvt_rows.specs.declared.builder.Turn.{Turn}
use Rattle.mvt_rows.specs.declared.builder.Turn.TheVariants as turn
use Rattle.mvt_rows.specs.declared.words.Given.{Given}
use Rattle.mvt_rows.specs.ReadTables.{places_of}
use Rattle.mvt_rows.specs.Tables.{Table}
use Rattle.mvt_rows.specs.Told.{Told, ToldLayer, ToldFeature, ToldPart, Begun, Nothing, InLayer, InFeature, InPart}
use Rattle.mvt_rows.specs.ToldRows.{rows_of, with_drawn, with_told_features}
use Rattle.mvt_rows.specs.Written.{NotWritten}

-- the layer that has begun stands behind this table
pub record IsOpenLayer (b : Builder) (t : Table) (l : ToldLayer) : Type 0 where
  pub name : b.name ≡ l.name
  pub extent : b.extent ≡ l.extent
  pub open_at : b.layer_at ≡ places_of t
  pub keys : b.keys ≡ l.keys
  pub values : b.values ≡ l.values

-- the feature that has begun stands behind this table
abbrev pub open_feature : Table → ToldFeature → OpenFeature
open_feature t f = record {
  kind = f.kind;
  id = f.id;
  tags_at = length t.tags;
  parts_at = length t.parts;
  points_at = length t.points;
  integers_at = length t.integers;
}

-- a table and the points of a part more, whose row comes when it ends
abbrev pub with_points_of : Table → ToldPart → Table
with_points_of t p = record t { points = t.points ++ p.points }

-- the builder holds what has begun, behind the rows of the items that have ended
abbrev pub Holds : Builder → Table → Begun → Type 0
Holds b t Nothing = (b.turn ≡ turn.Nothing) × (b.table ≡ t)
Holds b t (InLayer l) = (b.turn ≡ turn.Layer) × IsOpenLayer b t l × (b.table ≡ with_told_features t l.features)
Holds b t (InFeature l f) =
    (b.turn ≡ turn.Feature) × IsOpenLayer b t l × (b.feature ≡ open_feature (with_told_features t l.features) f)
    × (b.table ≡ with_drawn (with_told_features t l.features) f)
Holds b t (InPart l f p) =
    (b.turn ≡ turn.Part) × IsOpenLayer b t l × (b.feature ≡ open_feature (with_told_features t l.features) f)
    × (b.exterior ≡ p.exterior) × (b.part_at ≡ length (with_drawn (with_told_features t l.features) f).points)
    × (b.table ≡ with_points_of (with_drawn (with_told_features t l.features) f) p)

-- no call has failed, and the builder was told this
abbrev pub HasTold : Builder → Told → Type 0
HasTold b told = (b.failure ≡ None) × Holds b (rows_of told.items) told.begun

-- one step, where there is memory, makes this of what was told
pub record IsStep (old new : Builder) (result : Result (Unit {0}) AllocError) (next : Told → Option Told) : Type 0 where
  pub done : OnOk result ((told : Told) → HasTold old told → IsSomeAnd (next told) (HasTold new))

-- ---- whether a call is due

abbrev pub has_layer : Turn → Bool
has_layer turn.Nothing = false
has_layer turn.Layer = true
has_layer turn.Feature = true
has_layer turn.Part = true

abbrev pub has_feature : Turn → Bool
has_feature turn.Nothing = false
has_feature turn.Layer = false
has_feature turn.Feature = true
has_feature turn.Part = true

abbrev pub has_kind : Turn → ℕ → ℕ → Bool
has_kind now kind wanted = has_feature now && (kind == wanted)

abbrev pub takes_points : Turn → ℕ → Bool
takes_points turn.Nothing kind = false
takes_points turn.Layer kind = false
takes_points turn.Feature kind = kind == 1
takes_points turn.Part kind = true

-- a call isn't due, or one before it has failed
abbrev pub IsRefused : Builder → Builder → Bool → BuildError → Type 0
IsRefused old new is_due error =
    MatchOption old.failure ((is_due ≡ false) × (error ≡ OutOfTurn) × (new.failure ≡ Some OutOfTurn))
    (λ failure. (error ≡ failure) × (new ≡ old))

-- the same builder with these keys, or these values, of the layer that has begun
abbrev pub IsWithKeys : Builder → Builder → List (List ℕ) → Type 0
IsWithKeys old new keys = new ≡ record old { key = new.key; keys = keys }

abbrev pub IsWithValues : Builder → Builder → List Given → Type 0
IsWithValues old new values = new ≡ record old { value = new.value; values = values }

-- what a call answers that makes this of what was told, or is not due
pub record IsCalled {A : Type 0} (old new : Builder) (result : Result A BuildError) (next : Told → Option Told) : Type 0 where
  pub done : OnOk result ((told : Told) → HasTold old told → IsSomeAnd (next told) (HasTold new))
  pub due : (told : Told) → HasTold old told → (IsErrOf result OutOfTurn ↔ (next told ≡ None))
  pub failed : IfErr result (λ error. new.failure ≡ Some error)
  pub sticky : IfSome old.failure (λ error. IsErrOf result error × (new ≡ old))

-- why the rows of what was told give no bytes
abbrev pub NotFinished : Table → FinishError → Type 0
NotFinished t (Call failure) = ⊥
NotFinished t (Rows refused) = NotWritten t refused
