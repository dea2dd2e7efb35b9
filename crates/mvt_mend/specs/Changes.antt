-- What is changed of a geometry that is mended (Mapbox Vector Tile Specification 2.1, 4.3.3.2 and 4.3.4.4).
use Rattle.std.specs.Prelude.{ℕ, ◌+◌, ◌-◌, ◌==◌, ◌&&◌, ◌||◌, nat_lt, Bool, false, if◌then◌else◌, List, [], ◌∷◌, ◌++◌, length, map, slice_index_or, slice_set, min, ◌^◌}
use Rattle.mvt_geometry.specs.declared.shape.Point.{Point}
use Rattle.mvt_rings.specs.declared.rings.Kept.{Kept}
use Rattle.mvt_rings.specs.Signs.{is_positive, is_negative}
use Rattle.mvt_mend.specs.declared.change.Change.{Change}
use Rattle.mvt_mend.specs.declared.change.Change.TheVariants.{TurnedRing, RepeatedPoint, PartLeftOut, FeatureLeftOut, MovedRing}
use Rattle.mvt_mend.specs.declared.change.Unmended.{Unmended}
use Rattle.mvt_mend.specs.declared.change.Unmended.TheVariants.{RingsCross, TooManySteps, AnotherRule}
use Rattle.mvt_mend.specs.declared.geometry.Outcome.{Outcome}
use Rattle.mvt_mend.specs.declared.geometry.Outcome.TheVariants.{Stays, Crosses, Becomes}
use Rattle.mvt_mend.specs.declared.geometry.Remade.{Remade}
use Rattle.mvt_mend.specs.declared.fates.Fate.{Fate}

-- a part that is left out
abbrev pub gone : Fate
gone = record { place = 0; points = 0; is_positive = false; is_negative = false }

-- a part that stays in the place of this number, counted from 1
abbrev pub fate_of : ℕ → Kept → Fate
fate_of place k =
    record { place = place; points = length k.points; is_positive = is_positive k.points; is_negative = is_negative k.points }

-- what became of parts, as the kept ones after so many tell it
abbrev pub fates_after : ℕ → List Fate → List Kept → List Fate
fates_after n fates [] = fates
fates_after n fates (k ∷ kept) = fates_after (n + 1) (slice_set fates k.index (fate_of (n + 1) k)) kept

abbrev pub all_gone : List (List Point) → List Fate
all_gone parts = map (λ part. gone) parts

-- what became of each part
abbrev pub fates_of : List (List Point) → List Kept → List Fate
fates_of parts kept = fates_after 0 (all_gone parts) kept

-- points that are left out of a part
abbrev pub repeats_told : ℕ → ℕ → ℕ → List Point → Fate → List Change
repeats_told layer feature n part fate =
    if nat_lt fate.points (length part) then RepeatedPoint layer feature n (length part - fate.points) ∷ [] else []

-- the area of a ring has the other sign
unfoldable pub is_turned : List Point → Fate → Bool
is_turned ring fate = (is_positive ring && fate.is_negative) || (is_negative ring && fate.is_positive)

abbrev pub turn_told : ℕ → ℕ → ℕ → List Point → Fate → List Change
turn_told layer feature n ring fate = if is_turned ring fate then TurnedRing layer feature n ∷ [] else []

-- a part stands behind another number of parts than of those before it that stay
abbrev pub move_told : ℕ → ℕ → ℕ → ℕ → Fate → List Change
move_told layer feature n before fate =
    if fate.place == before + 1 then [] else MovedRing layer feature n (fate.place - 1) ∷ []

-- what is told of one part, of which so many before it stay
abbrev pub told_of : ℕ → ℕ → ℕ → ℕ → List Point → Fate → List Change
told_of layer feature n before part fate =
    if fate.place == 0 then PartLeftOut layer feature n (length part) ∷ []
    else repeats_told layer feature n part fate ++ (turn_told layer feature n part fate ++ move_told layer feature n before fate)

-- the parts before the next that stay
abbrev pub with_staying : ℕ → Fate → ℕ
with_staying before fate = if fate.place == 0 then before else before + 1

-- what became of the part of this index
abbrev pub fate_at : List Fate → ℕ → Fate
fate_at fates n = slice_index_or fates n gone

-- what is told of parts, the first of this index, of which so many before it stay
abbrev pub told_from : ℕ → ℕ → List Fate → ℕ → ℕ → List (List Point) → List Change
told_from layer feature fates n before [] = []
told_from layer feature fates n before (part ∷ parts) =
    told_of layer feature n before part (fate_at fates n)
    ++ told_from layer feature fates (n + 1) (with_staying before (fate_at fates n)) parts

-- the points of parts and so many others, as far as a usize counts them
abbrev pub count_after : ℕ → List (List Point) → ℕ
count_after n [] = n
count_after n (part ∷ parts) = count_after (min (n + length part) (2 ^ 64 - 1)) parts

abbrev pub count_points : List (List Point) → ℕ
count_points parts = count_after 0 parts

-- what is told of a geometry that others stand in place of, or none at all
abbrev pub told_remade : ℕ → ℕ → Remade → List Change
told_remade layer feature remade =
    if length remade.integers == 0 then FeatureLeftOut layer feature (count_points remade.parts) ∷ []
    else told_from layer feature (fates_of remade.parts remade.kept) 0 0 remade.parts

-- what is changed of a feature whose geometry comes to this
abbrev pub changes_of : ℕ → ℕ → Outcome → List Change
changes_of layer feature Stays = []
changes_of layer feature (Crosses crossing) = []
changes_of layer feature (Becomes remade) = told_remade layer feature remade

-- why it isn't mended, where it isn't
abbrev pub cause_of : ℕ → ℕ → Outcome → Unmended
cause_of layer feature Stays = AnotherRule
cause_of layer feature (Crosses crossing) = RingsCross layer feature crossing
cause_of layer feature (Becomes remade) = AnotherRule

-- of two causes the first that says more than that another rule is broken
abbrev pub first_cause : Unmended → Unmended → Unmended
first_cause (RingsCross layer feature crossing) other = RingsCross layer feature crossing
first_cause TooManySteps other = TooManySteps
first_cause AnotherRule other = other
