-- The entries of a layer that its features use, each once, in order of first use (4.4). Entries are known by
-- places: equal ones have one place.
use Rattle.std.specs.Prelude.{◌≡◌, ◌≢◌, ℕ, ◌+◌, ◌<◌, ◌≤◌, List, [], ◌∷◌, ◌++◌, Option, Some, None, length, take, slice_get, slice_index}
use Rattle.std.specs.Option.{option_to_list}
use Rattle.mvt_attrs.specs.declared.used_entries.UsedEntries.{UsedEntries}
use Rattle.mvt_attrs.specs.declared.used_entries.LayerEntries.{LayerEntries}
use Rattle.mvt_attrs.specs.declared.value.Attribute.{Attribute}
use Rattle.mvt_attrs.specs.Values.{Value}
use Rattle.mvt_attrs.specs.FirstUse.{AreDistinct}
use Rattle.mvt_attrs.specs.Placed.{ArePlaced, AreReported, IsFullAt}
use Rattle.mvt_attrs.specs.Pools.{key_pool, value_pool}
use Rattle.mvt_attrs.specs.Tags.{Names}
use Rattle.mvt_attrs.specs.TagPlaces.{tags_in}

-- the place of each entry, and for each place one more than its index among those that are used, or 0
pub record AreUses {A : Type 0} (distinct : List A) (places marks : List ℕ) (used entries : List A) : Type 0 where
  pub apart : AreDistinct distinct
  pub count : length places ≡ length entries
  pub placed : (i : ℕ) (x : A) → slice_get entries i ≡ Some x → slice_get distinct (slice_index places i) ≡ Some x
  pub room : length marks ≡ length distinct
  pub marked : (p i : ℕ) → p < length distinct → slice_index marks p ≡ i + 1 → slice_get used i ≡ slice_get distinct p
  pub once : AreDistinct used
  pub recorded : (i : ℕ) (x : A) → slice_get used i ≡ Some x
      → (p : ℕ) × (slice_get distinct p ≡ Some x) × (slice_index marks p ≢ 0)

-- no entry was added: those that are used are placed as they come
pub record AreAllUsed {A : Type 0} (distinct : List A) (places marks : List ℕ) (used : List A) : Type 0 where
  pub apart : AreDistinct distinct
  pub no_places : places ≡ []
  pub no_marks : marks ≡ []
  pub no_used : used ≡ []

-- entries that stand once each, of which so many are used, the first
pub record AreCounted {A : Type 0} (distinct entries : List A) (count : ℕ) : Type 0 where
  pub apart : AreDistinct distinct
  pub same : distinct ≡ entries
  pub within : count ≤ length distinct

-- entries that were added, of which some are used, or the first are counted; without them all are used that are there
abbrev pub UsesAre : {A : Type 0} → List A → Option ℕ → List ℕ → List ℕ → List A → List A → Type 0
UsesAre distinct None places marks used [] = AreAllUsed distinct places marks used
UsesAre distinct None places marks used (x ∷ entries) = AreUses distinct places marks used (x ∷ entries)
UsesAre distinct (Some count) places marks used [] = ⊥
UsesAre distinct (Some count) places marks used (x ∷ entries) = AreCounted distinct (x ∷ entries) count

abbrev pub AreUsesOf : {A : Type 0} → UsedEntries A → List A → Type 0
AreUsesOf uses entries = UsesAre uses.distinct uses.front uses.places.items uses.marks.items uses.used.items entries

-- the entries that were added, in their order: each stands at its place
abbrev pub entries_at : {A : Type 0} → List A → List ℕ → List A
entries_at distinct [] = []
entries_at distinct (place ∷ places) = option_to_list (slice_get distinct place) ++ entries_at distinct places

abbrev pub entries_in : {A : Type 0} → List A → Option ℕ → List ℕ → List A
entries_in distinct None places = entries_at distinct places
entries_in distinct (Some count) places = distinct

abbrev pub entries_of : {A : Type 0} → UsedEntries A → List A
entries_of uses = entries_in uses.distinct uses.front uses.places.items

-- the entries that are used
abbrev pub used_in : {A : Type 0} → Option ℕ → List ℕ → List A → List A → List A
used_in (Some count) places distinct used = take count distinct
used_in None [] distinct used = distinct
used_in None (place ∷ places) distinct used = used

unfoldable pub used_of : {A : Type 0} → UsedEntries A → List A
used_of uses = used_in uses.front uses.places.items uses.distinct uses.used.items

-- uses of a layer with these keys and values
abbrev pub HasUses : LayerEntries → List (List ℕ) → List Value → Type 0
HasUses uses keys values = AreUsesOf uses.keys keys × AreUsesOf uses.values values

-- no key and no value was added: attributes bring their own, and all that are there are used
abbrev pub HasNoneAdded : LayerEntries → Type 0
HasNoneAdded uses = HasUses uses [] []

-- what attributes more do to the uses of a layer
pub record IsUsedBy (attributes : List Attribute) (old new : LayerEntries) : Type 0 where
  pub keys : used_of new.keys ≡ key_pool (used_of old.keys) attributes
  pub values : used_of new.values ≡ value_pool (used_of old.values) attributes
  pub names : Names (used_of new.keys) (used_of new.values) (tags_in (used_of new.keys) (used_of new.values) attributes) attributes

-- both entries of the first n attributes are used, and perhaps the key of the next
abbrev pub AreUsedUpTo : ℕ → List Attribute → LayerEntries → LayerEntries → Type 0
AreUsedUpTo n attributes old new =
    ArePlaced n attributes (used_of old.keys) (used_of new.keys) (used_of old.values) (used_of new.values)

-- the same where the tags of the first n attributes were told: the value of the next may be used too
abbrev pub AreToldUpTo : ℕ → List Attribute → LayerEntries → LayerEntries → Type 0
AreToldUpTo n attributes old new =
    AreReported n attributes (used_of old.keys) (used_of new.keys) (used_of old.values) (used_of new.values)

-- the entry of attribute n that is to be used next is new, and as many are used as may be
abbrev pub IsUsedUpAt : ℕ → List Attribute → LayerEntries → Type 0
IsUsedUpAt n attributes uses = IsFullAt n attributes (used_of uses.keys) (used_of uses.values)

-- the same entries are used
abbrev pub AreSameUses : LayerEntries → LayerEntries → Type 0
AreSameUses old new = (used_of new.keys ≡ used_of old.keys) × (used_of new.values ≡ used_of old.values)
