-- A feature's payload mended (Mapbox Vector Tile Specification 2.1, 4.2 and 4.3).
use Rattle.std.specs.Prelude.{ℕ, ◌==◌, is_none, Bool, if◌then◌else◌, List, [], ◌∷◌, ◌++◌, Option, Some, None, option_and_then}
use Rattle.mvt_base.specs.Rules.{first}
use Rattle.mvt_wire.specs.Field.{Content, bytes, Entry}
use Rattle.mvt_wire.specs.Packed.{is_nil}
use Rattle.mvt_wire.specs.Spelling.{Plain, plain_of, short_field, short_numbers, spelled}
use Rattle.mvt_wire.specs.Split.{split}
use Rattle.mvt_feature.specs.declared.numbers.feature.TheConstants.{GEOMETRY}
use Rattle.mvt_feature.specs.FeatureRules.{kind_in, list_rules, numbers_of}
use Rattle.mvt_mend.specs.declared.change.Change.{Change}
use Rattle.mvt_mend.specs.declared.change.Unmended.{Unmended}
use Rattle.mvt_mend.specs.declared.geometry.Outcome.{Outcome}
use Rattle.mvt_mend.specs.declared.geometry.Outcome.TheVariants.{Stays}
use Rattle.mvt_mend.specs.Changes.{cause_of, changes_of}
use Rattle.mvt_mend.specs.Geometry.{geometry_steps, mended_geometry, outcome}

-- a list of numbers
unfoldable pub is_list : Content → Bool
is_list content = is_none (first (list_rules content))

-- the integers of a feature's fields after others, if its geometry's fields are lists of numbers
abbrev pub integers_after : List ℕ → List Entry → Option (List ℕ)
integers_after before [] = Some before
integers_after before (x ∷ xs) =
    if x.number == GEOMETRY then (if is_list x.content then integers_after (before ++ numbers_of x.content) xs else None)
    else integers_after before xs

-- the integers of a payload, if it is fields and nothing else
unfoldable pub integers_of : List ℕ → Option (List ℕ)
integers_of payload = if is_nil (split payload).rest then integers_after [] (split payload).fields else None

-- the fields of a feature besides those of its geometry
abbrev pub others : List Entry → List Plain
others [] = []
others (x ∷ xs) = if x.number == GEOMETRY then others xs else plain_of x ∷ others xs

-- a payload with these integers in place of its own, behind its other fields
unfoldable pub with_integers : List ℕ → List ℕ → List ℕ
with_integers payload ints = spelled (others (split payload).fields) ++ short_field GEOMETRY (bytes (short_numbers ints))

-- the integers that stand in place of those of a payload
unfoldable pub mended_integers : List ℕ → Option (List ℕ)
mended_integers payload = option_and_then (mended_geometry (kind_in (split payload).fields)) (integers_of payload)

-- a feature stays, is left out or has other integers
abbrev pub feature_with : List ℕ → Option (List ℕ) → List (List ℕ)
feature_with payload None = payload ∷ []
feature_with payload (Some []) = []
feature_with payload (Some (n ∷ ints)) = with_integers payload (n ∷ ints) ∷ []

-- the payload that stands in place of a feature's, if any does
unfoldable pub mended_feature : List ℕ → List (List ℕ)
mended_feature payload = feature_with payload (mended_integers payload)

-- what comes of these integers of a payload, if it has such
abbrev pub outcome_with : List Entry → Option (List ℕ) → Outcome
outcome_with fields None = Stays
outcome_with fields (Some ints) = outcome (kind_in fields) ints

-- what comes of a feature's geometry
unfoldable pub feature_outcome : List ℕ → Outcome
feature_outcome payload = outcome_with (split payload).fields (integers_of payload)

-- what is changed of a feature
unfoldable pub feature_changes : ℕ → ℕ → List ℕ → List Change
feature_changes layer feature payload = changes_of layer feature (feature_outcome payload)

-- why it isn't mended, where it isn't
unfoldable pub feature_cause : ℕ → ℕ → List ℕ → Unmended
feature_cause layer feature payload = cause_of layer feature (feature_outcome payload)

abbrev pub steps_with : List Entry → Option (List ℕ) → ℕ
steps_with fields None = 0
steps_with fields (Some ints) = geometry_steps (kind_in fields) ints

-- the steps that telling its rings takes
unfoldable pub feature_steps : List ℕ → ℕ
feature_steps payload = steps_with (split payload).fields (integers_of payload)
