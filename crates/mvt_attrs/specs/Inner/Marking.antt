-- How a key that a feature repeats is found: keys of one text have one place, and a feature marks the
-- places that it has named.
use Rattle.std.specs.Prelude.{◌≡◌, ◌⊎◌, ℕ, ◌+◌, ◌<◌, ◌≤◌, ◌==◌, List, length, Option, Some, slice_get, slice_index}
use Rattle.std.specs.Borrow.{Bor}
use Rattle.std.specs.Ordering.{nat_cmp}
use Rattle.std.specs.Cmp.Lexicographic.{slice_cmp}
use Rattle.std.specs.BTreeMap.{BTreeMap, get_by}
use Rattle.mvt_attrs.specs.declared.value.Attribute.{Attribute}
use Rattle.mvt_attrs.specs.declared.resolving.TagCause.TheVariants.{KeyIndex, ValueIndex}
use Rattle.mvt_attrs.specs.declared.resolving.TagError.{TagError}
use Rattle.mvt_attrs.specs.declared.resolving.TagError.TheVariants.{Fault}
use Rattle.mvt_attrs.specs.Tags.{has_key}

-- two keys have one place exactly where they are one text
pub record IsGrouped (texts : List (List ℕ)) (first_indices : List ℕ) : Type 0 where
  pub len : length first_indices ≡ length texts
  pub within : (i : ℕ) → i < length texts → slice_index first_indices i < length texts
  pub together : (i j : ℕ) (a : List ℕ) → slice_get texts i ≡ Some a → slice_get texts j ≡ Some a
      → slice_index first_indices i ≡ slice_index first_indices j
  pub apart : (i j : ℕ) (a b : List ℕ) → slice_get texts i ≡ Some a → slice_get texts j ≡ Some b
      → slice_index first_indices i ≡ slice_index first_indices j → a ≡ b

-- the first indices that this feature has named are those of the attributes' keys
abbrev pub IsMarked : List (List ℕ) → List ℕ → List ℕ → ℕ → List Attribute → Type 0
IsMarked texts first_indices named_by feature attributes =
    (i : ℕ) (text : List ℕ) → slice_get texts i ≡ Some text
    → (slice_index named_by (slice_index first_indices i) == feature) ≡ has_key text attributes

-- no place has a mark as high as n
abbrev pub AreBelow : List ℕ → ℕ → Type 0
AreBelow named_by n = (i : ℕ) → slice_index named_by i < n

-- what is told of a pair that names no key, or no value; its key stands at this index
abbrev pub IsIndexError : List (List ℕ) → ℕ → ℕ → ℕ → ℕ → TagError → Type 0
IsIndexError texts values index key value error =
    ((length texts ≤ key) × (error ≡ Fault index KeyIndex))
    ⊎ ((key < length texts) × (values ≤ value) × (error ≡ Fault (index + 1) ValueIndex))

-- keys in their groups, and what named them, up to the last feature
pub record IsReady (texts : List (List ℕ)) (first_indices named_by : List ℕ) (feature : ℕ) : Type 0 where
  pub grouped : IsGrouped texts first_indices
  pub room : length named_by ≡ length texts
  pub below : AreBelow named_by (feature + 1)

-- the place of a text among the places so far
abbrev pub place_in_map : BTreeMap (Bor (List ℕ)) ℕ → List ℕ → Option ℕ
place_in_map first_indices text = get_by (λ k. slice_cmp nat_cmp text k.now) first_indices
