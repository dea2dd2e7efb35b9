-- What the public laws state, for the proofs of the crates above: a lemma for each clause.
pub use Rattle.mvt_attrs.proofs.ResolvedLemmas.{there_law as attributes_or_fault_there, clean_law as attributes_or_fault_clean}
pub use Rattle.mvt_attrs.proofs.OrderedLemmas.{count_ordered as rules_in_order_count, pairs_ordered as rules_in_order_pairs, tags_ordered as rules_in_order_tags, least_law as fault_is_least_least, fault_parts as fault_is_least_parts}
pub use Rattle.mvt_attrs.proofs.PlaceLemmas.{all_held as pools_hold, places_name as places_name_names, places_small as places_name_small, names_places as tags_stay}
pub use Rattle.mvt_attrs.proofs.FirstUsesLemmas.{uses_in_order}
pub use Rattle.mvt_attrs.proofs.UsedTagsLemmas.{used_by_same as uses_by_what_is_used}
pub use Rattle.mvt_attrs.proofs.UsesLemmas.{keys_told as uses_tell_entries_keys, values_told as uses_tell_entries_values}
use Rattle.std.proofs.Common.{bytes_eq}
use Rattle.std.proofs.lemmas.Slice.Eq.{bytes_eq-Decides}
use Rattle.std.specs.Prelude.{Contains, List, map, ℕ, ◌++◌, ◌≡◌}
use Rattle.mvt_attrs.proofs.EqualityLemmas.{equal_values-Decides}
use Rattle.mvt_attrs.proofs.FirstUseLemmas.{first_use-distinct}
use Rattle.mvt_attrs.proofs.PlaceLemmas.{pool_by_parts, pool_from, pool_grows, pool_held}
use Rattle.mvt_attrs.proofs.ResolvedLemmas.{one_named}
use Rattle.mvt_attrs.specs.FirstUse.{AreDistinct}
use Rattle.mvt_attrs.specs.Pools.{key_pool, value_pool}
use Rattle.mvt_attrs.specs.Tags.{Resolved}
use Rattle.mvt_attrs.specs.Values.{equal_values}
use Rattle.mvt_attrs.specs.declared.value.Attribute.{Attribute}
use Rattle.mvt_attrs.specs.Values.{Value}

pub attributes_or_fault_once : (keys : List (List ℕ)) (values : List Value) (tags : List ℕ) (attributes others : List Attribute) →
    Resolved keys values tags attributes → Resolved keys values tags others → attributes ≡ others
attributes_or_fault_once = λ keys values tags attributes others h k. one_named keys values tags attributes others h.named k.named

pub pool_entries_distinct_keys : (held : List (List ℕ)) (attributes : List Attribute) → AreDistinct (key_pool held attributes)
pool_entries_distinct_keys = λ held attributes. first_use-distinct bytes_eq bytes_eq-Decides _

pub pool_entries_distinct_values : (held : List Value) (attributes : List Attribute) → AreDistinct (value_pool held attributes)
pool_entries_distinct_values = λ held attributes. first_use-distinct equal_values equal_values-Decides _

pub pool_entries_from_keys : (held : List (List ℕ)) (attributes : List Attribute) (key : List ℕ) →
    Contains (key_pool held attributes) key →
    Contains (held ++ map (λ (a : Attribute). a.key) attributes) key
pool_entries_from_keys = pool_from bytes_eq bytes_eq-Decides (λ (a : Attribute). a.key)

pub pool_entries_from_values : (held : List Value) (attributes : List Attribute) (value : Value) →
    Contains (value_pool held attributes) value →
    Contains (held ++ map (λ (a : Attribute). a.value) attributes) value
pool_entries_from_values = pool_from equal_values equal_values-Decides (λ (a : Attribute). a.value)

pub pools_by_parts_keys : (held : List (List ℕ)) (attributes more : List Attribute) →
    key_pool (key_pool held attributes) more ≡ key_pool held (attributes ++ more)
pools_by_parts_keys = pool_by_parts bytes_eq bytes_eq-Decides (λ (a : Attribute). a.key)

pub pools_by_parts_values : (held : List Value) (attributes more : List Attribute) →
    value_pool (value_pool held attributes) more ≡ value_pool held (attributes ++ more)
pools_by_parts_values = pool_by_parts equal_values equal_values-Decides (λ (a : Attribute). a.value)

pub pools_grow_keys : (held : List (List ℕ)) (attributes more : List Attribute) →
    (added : List (List ℕ)) × (key_pool held (attributes ++ more) ≡ key_pool held attributes ++ added)
pools_grow_keys = pool_grows bytes_eq bytes_eq-Decides (λ (a : Attribute). a.key)

pub pools_grow_values : (held : List Value) (attributes more : List Attribute) →
    (added : List Value) × (value_pool held (attributes ++ more) ≡ value_pool held attributes ++ added)
pools_grow_values = pool_grows equal_values equal_values-Decides (λ (a : Attribute). a.value)

pub pools_grow_held_keys : (held : List (List ℕ)) (attributes : List Attribute) →
    AreDistinct held → (added : List (List ℕ)) × (key_pool held attributes ≡ held ++ added)
pools_grow_held_keys = pool_held bytes_eq bytes_eq-Decides (λ (a : Attribute). a.key)

pub pools_grow_held_values : (held : List Value) (attributes : List Attribute) →
    AreDistinct held → (added : List Value) × (value_pool held attributes ≡ held ++ added)
pools_grow_held_values = pool_held equal_values equal_values-Decides (λ (a : Attribute). a.value)
