-- Attributes whose entries are placed as they come: what holds of the pools holds of what is used.
use Rattle.std.proofs.Common.{◌≡◌, ℕ, ◌+◌, List, bytes_eq, take, sym, subst, ◌∙◌, inl, inr, Result, Ok, Err, OnErr, OnOk}
use Rattle.std.proofs.lemmas.Slice.Eq.{bytes_eq-Decides}
use Rattle.mvt_attrs.specs.declared.value.Attribute.{Attribute}
use Rattle.mvt_attrs.specs.Values.{Value}
use Rattle.mvt_attrs.specs.FirstUse.{AreDistinct}
use Rattle.mvt_attrs.specs.Placed.{ArePlaced}
use Rattle.mvt_attrs.specs.Pools.{key_pool, value_pool}
use Rattle.mvt_attrs.specs.TagPlaces.{tags_in}
use Rattle.mvt_attrs.specs.Tags.{Names}
use Rattle.mvt_attrs.specs.Using.{HasNoneAdded, IsUsedBy, used_of}
use Rattle.mvt_attrs.specs.Values.{equal_values}
use Rattle.mvt_attrs.specs.declared.used_entries.LayerEntries.{LayerEntries}
use Rattle.mvt_attrs.proofs.EqualityLemmas.{equal_values-Decides}
use Rattle.mvt_attrs.proofs.FirstUseLemmas.{first_use-distinct}
use Rattle.mvt_attrs.proofs.UsesLemmas.{all_used, none_added}

keys_apart : (keys : List (List ℕ)) (attributes : List Attribute) {pool : List (List ℕ)} → pool ≡ key_pool keys attributes
    → AreDistinct pool
keys_apart keys attributes is = subst AreDistinct (sym is) (first_use-distinct bytes_eq bytes_eq-Decides _)

values_apart : (values : List Value) (attributes : List Attribute) {pool : List Value} → pool ≡ value_pool values attributes
    → AreDistinct pool
values_apart values attributes is = subst AreDistinct (sym is) (first_use-distinct equal_values equal_values-Decides _)

-- the pools hold each entry once, wherever placing stopped
pub apart_after : {T E : Type 0} → (r : Result T E) (attributes : List Attribute) (keys keys_after : List (List ℕ))
    (values values_after : List Value)
    → OnOk r (keys_after ≡ key_pool keys attributes) → OnOk r (values_after ≡ value_pool values attributes)
    → OnErr r ((n : ℕ) × ArePlaced n attributes keys keys_after values values_after)
    → AreDistinct keys_after × AreDistinct values_after
apart_after (Ok x) attributes keys keys_after values values_after of_keys of_values left =
    (keys_apart keys attributes of_keys, values_apart values attributes of_values)
apart_after (Err e) attributes keys keys_after values values_after of_keys of_values left = (
  elim left.1.keys_are [
    | inl before ↦ keys_apart keys (take left.0 attributes) before
    | inr next ↦ keys_apart keys (take (left.0 + 1) attributes) next
  ],
  values_apart values (take left.0 attributes) left.1.values_are,
)

pub of_used : (old new : LayerEntries) → HasNoneAdded old → new.keys.front ≡ old.keys.front → new.values.front ≡ old.values.front
    → new.keys.places.items ≡ old.keys.places.items → new.values.places.items ≡ old.values.places.items
    → (P : List (List ℕ) → List (List ℕ) → List Value → List Value → Type 0)
    → P old.keys.distinct new.keys.distinct old.values.distinct new.values.distinct
    → P (used_of old.keys) (used_of new.keys) (used_of old.values) (used_of new.values)
of_used old new uses keys_front values_front keys_stay values_stay P holds =
    let keys = none_added old.keys uses.0 in
    let values = none_added old.values uses.1 in
    subst (λ k. P k (used_of new.keys) (used_of old.values) (used_of new.values)) (sym (all_used old.keys keys.0 keys.1.no_places))
    (subst (λ k. P old.keys.distinct k (used_of old.values) (used_of new.values))
    (sym (all_used new.keys (keys_front ∙ keys.0) (keys_stay ∙ keys.1.no_places)))
    (subst (λ v. P old.keys.distinct new.keys.distinct v (used_of new.values)) (sym (all_used old.values values.0 values.1.no_places))
    (subst (λ v. P old.keys.distinct new.keys.distinct old.values.distinct v)
    (sym (all_used new.values (values_front ∙ values.0) (values_stay ∙ values.1.no_places))) holds)))

pub used_by : {T E : Type 0} → (r : Result T E) (attributes : List Attribute) (old new : LayerEntries)
    → OnOk r (used_of new.keys ≡ key_pool (used_of old.keys) attributes)
    → OnOk r (used_of new.values ≡ value_pool (used_of old.values) attributes)
    → OnOk r (Names (used_of new.keys) (used_of new.values) (tags_in (used_of new.keys) (used_of new.values) attributes) attributes)
    → OnOk r (IsUsedBy attributes old new)
used_by (Ok x) attributes old new keys values names = record { keys = keys; values = values; names = names }
used_by (Err e) attributes old new keys values names = tt
