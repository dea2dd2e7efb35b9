-- Tags (4.4 Feature Attributes): pairs of an index of a key and an index of a value.
use Rattle.std.specs.Prelude.{◌≡◌, ◌≢◌, ℕ, ◌+◌, ◌*◌, Bool, List, Some, length, slice_get, slice_index, bytes_eq, AllPairs}
use Rattle.std.specs.List.{list_any}
use Rattle.mvt_attrs.specs.Values.{Value}
use Rattle.mvt_attrs.specs.declared.value.Attribute.{Attribute}

-- a pair of indices names an attribute
abbrev pub NamesOne : List (List ℕ) → List Value → ℕ × ℕ → Attribute → Type 0
NamesOne keys values pair a = (slice_get keys pair.0 ≡ Some a.key) × (slice_get values pair.1 ≡ Some a.value)

-- the tags name these attributes, pair by pair and in order
pub record Names (keys : List (List ℕ)) (values : List Value) (tags : List ℕ) (attributes : List Attribute) : Type 0 where
  pub twice : length tags ≡ 2 * length attributes
  pub key : (i : ℕ) (a : Attribute) → slice_get attributes i ≡ Some a → slice_get keys (slice_index tags (2 * i)) ≡ Some a.key
  pub value : (i : ℕ) (a : Attribute) → slice_get attributes i ≡ Some a → slice_get values (slice_index tags (2 * i + 1)) ≡ Some a.value

-- no two attributes have one key
abbrev pub HasDistinctKeys : List Attribute → Type 0
HasDistinctKeys attributes = AllPairs (λ (a b : Attribute). a.key ≢ b.key) attributes

-- whether an attribute has a key
abbrev pub has_key : List ℕ → List Attribute → Bool
has_key key attributes = list_any (λ (a : Attribute). bytes_eq a.key key) attributes

-- a feature with these tags has these attributes
pub record Resolved (keys : List (List ℕ)) (values : List Value) (tags : List ℕ) (attributes : List Attribute) : Type 0 where
  pub named : Names keys values tags attributes
  pub distinct : HasDistinctKeys attributes
