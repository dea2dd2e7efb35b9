-- The rules that bind the tags of a feature (4.4), as tables. A fault is an index into the tags and the
-- rule that is broken there.
use Rattle.std.specs.Prelude.{ℕ, ◌+◌, ◌*◌, ◌%◌, ◌==◌, nat_le, Bool, false, ◌||◌, List, [], ◌∷◌, length, Option, Some, None, slice_get, bytes_eq}
use Rattle.std.specs.List.{list_any}
use Rattle.mvt_base.specs.Rules.{Rules, when, rows, each, first}
use Rattle.mvt_attrs.specs.Values.{Value}
use Rattle.mvt_attrs.specs.declared.resolving.TagCause.{TagCause}
use Rattle.mvt_attrs.specs.declared.resolving.TagCause.TheVariants.{OddTags, KeyIndex, ValueIndex, RepeatedKey}
use Rattle.mvt_attrs.specs.declared.resolving.TagError.{TagError}
use Rattle.mvt_attrs.specs.declared.resolving.TagError.TheVariants.{Memory, Fault}

-- the tags two at a time; a last one alone is no pair
abbrev pub pairs_of : List ℕ → List (ℕ × ℕ)
pairs_of [] = []
pairs_of (key ∷ []) = []
pairs_of (key ∷ (value ∷ tags)) = (key, value) ∷ pairs_of tags

-- both indices are there and name one text
abbrev pub are_same_texts : Option (List ℕ) → Option (List ℕ) → Bool
are_same_texts (Some a) (Some b) = bytes_eq a b
are_same_texts _ _ = false

-- two indices are one, or name one text
abbrev pub name_one_key : List (List ℕ) → ℕ → ℕ → Bool
name_one_key keys i j = (i == j) || are_same_texts (slice_get keys i) (slice_get keys j)

-- an even number of tags
unfoldable pub count_rules : List ℕ → Rules (ℕ × TagCause)
count_rules tags = when (length tags % 2 == 1) (length tags, OddTags)

-- the rules of a pair after others: its key is there, its value is there, no earlier pair has its key
abbrev pub rows_of_pair : List (List ℕ) → List Value → List (ℕ × ℕ) → ℕ × ℕ → List (ℕ × Rules (ℕ × TagCause))
rows_of_pair keys values front pair =
    (0, when (nat_le (length keys) pair.0) (2 * length front, KeyIndex))
    ∷ ((1, when (nat_le (length values) pair.1) (2 * length front + 1, ValueIndex))
    ∷ ((2, when (list_any (λ earlier. name_one_key keys earlier.0 pair.0) front) (2 * length front, RepeatedKey))
    ∷ []))

-- the rules of one pair of tags, by the pairs before it
abbrev pub rules_of_pair : List (List ℕ) → List Value → List (ℕ × ℕ) → ℕ × ℕ → Rules (ℕ × TagCause)
rules_of_pair keys values front pair = rows (rows_of_pair keys values front pair)

-- the rules of all pairs, each under its number
unfoldable pub pair_rules : List (List ℕ) → List Value → List ℕ → Rules (ℕ × TagCause)
pair_rules keys values tags = each (rules_of_pair keys values) [] (pairs_of tags)

-- the rules of a feature's tags: their number comes first
abbrev pub tag_rules : List (List ℕ) → List Value → List ℕ → Rules (ℕ × TagCause)
tag_rules keys values tags = rows ((2, count_rules tags) ∷ ((3, pair_rules keys values tags) ∷ []))

-- the broken rule of least rank
unfoldable pub tag_fault : List (List ℕ) → List Value → List ℕ → Option (ℕ × TagCause)
tag_fault keys values tags = first (tag_rules keys values tags)

-- the fault that an error tells
abbrev pub fault_of : TagError → Option (ℕ × TagCause)
fault_of Memory = None
fault_of (Fault index cause) = Some (index, cause)
