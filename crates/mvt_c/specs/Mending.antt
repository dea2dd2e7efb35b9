-- Changes as rows of C.
use Rattle.std.specs.Prelude.{◌≡◌, ℕ, ◌==◌, List, map, Some, IsSome, ⊤, if◌then◌else◌}
use Rattle.mvt_base.specs.declared.TheConstants.{LIMIT}
use Rattle.mvt_mend.specs.declared.change.Change.{Change}
use Rattle.mvt_mend.specs.declared.change.Change.TheVariants.{TurnedRing, RepeatedPoint, PartLeftOut, FeatureLeftOut, MovedRing}
use Rattle.mvt_mend.specs.declared.change.Unmended.{Unmended}
use Rattle.mvt_mend.specs.declared.change.Unmended.TheVariants.{RingsCross, TooManySteps, AnotherRule}
use Rattle.mvt_mend.specs.Tiles.{cause_in, changes_in, mended}
use Rattle.mvt_rows.specs.Reading.{IsRewritten, IsTooLarge}
use Rattle.mvt_tile.specs.TileRules.{fault_within}
use Rattle.mvt_c.specs.declared.mending.ChangeRow.{ChangeRow}
use Rattle.mvt_c.specs.declared.mending.Mended.{Mended}
use Rattle.mvt_c.specs.declared.mending.UnmendedRow.{UnmendedRow}
use Rattle.mvt_rings.specs.declared.holding.Crossing.{Crossing}
use Rattle.mvt_c.specs.declared.refusal.Refusal.{Refusal}
use Rattle.mvt_c.specs.declared.refusal.Refusal.TheVariants.{Refused, Memory, TooLarge, NoLayer, BadName}

-- a change of this kind at a line or ring of a feature
abbrev pub change_at : ℕ → ℕ → ℕ → ℕ → ChangeRow
change_at kind layer feature part = record {
  kind = kind;
  layer = layer;
  feature = feature;
  part = part;
  count = 0;
  to = 0;
}

abbrev pub row_of_change : Change → ChangeRow
row_of_change (TurnedRing layer feature ring) = change_at 1 layer feature ring
row_of_change (RepeatedPoint layer feature part count) = record (change_at 2 layer feature part) { count = count }
row_of_change (PartLeftOut layer feature part count) = record (change_at 3 layer feature part) { count = count }
row_of_change (FeatureLeftOut layer feature count) = record (change_at 4 layer feature 0) { count = count }
row_of_change (MovedRing layer feature ring to) = record (change_at 5 layer feature ring) { to = to }

-- the change that a row tells
abbrev pub change_of_row : ChangeRow → Change
change_of_row row =
    if row.kind == 1 then TurnedRing row.layer row.feature row.part
    else if row.kind == 2 then RepeatedPoint row.layer row.feature row.part row.count
    else if row.kind == 3 then PartLeftOut row.layer row.feature row.part row.count
    else if row.kind == 4 then FeatureLeftOut row.layer row.feature row.count
    else MovedRing row.layer row.feature row.part row.to

-- the canonical bytes of the bytes mended, and the rows of what is changed
pub record IsMendedTo (input : List ℕ) (made : Mended) : Type 0 where
  pub bytes : IsRewritten (mended input) made.bytes.now
  pub changes : made.changes.now ≡ map row_of_change (changes_in input)

-- a cause of this kind that speaks of no ring
abbrev pub unplaced : ℕ → UnmendedRow
unplaced kind = record {
  kind = kind;
  layer = 0;
  feature = 0;
  ring = 0;
  other = 0;
}

abbrev pub row_of_unmended : Unmended → UnmendedRow
row_of_unmended (RingsCross layer feature crossing) = record {
  kind = 1;
  layer = layer;
  feature = feature;
  ring = crossing.outer;
  other = crossing.inner;
}
row_of_unmended TooManySteps = unplaced 2
row_of_unmended AnotherRule = unplaced 3

-- the cause that a row tells
abbrev pub unmended_of_row : UnmendedRow → Unmended
unmended_of_row row =
    if row.kind == 1 then RingsCross row.layer row.feature (record { outer = row.ring; inner = row.other })
    else if row.kind == 2 then TooManySteps
    else AnotherRule

-- what is told of the cause: of a tile that is refused its own, else nothing
abbrev pub why_after : Refusal → List ℕ → UnmendedRow → UnmendedRow
why_after (Refused fault) input old = row_of_unmended (cause_in input)
why_after refusal input old = old

-- why nothing is made: the fault of the bytes as they stand, where they break a rule mended too
abbrev pub NotMended : List ℕ → Refusal → Type 0
NotMended input (Refused fault) = (fault_within LIMIT input ≡ Some fault) × IsSome (fault_within LIMIT (mended input))
NotMended input Memory = ⊤
NotMended input TooLarge = IsTooLarge (mended input)
NotMended input (NoLayer index) = ⊥
NotMended input BadName = ⊥
