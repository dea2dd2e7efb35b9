-- Tags that are read one after another, whose entries are used.
use Rattle.std.specs.Prelude.{◌≡◌, ◌⊎◌, ℕ, IsTrue, List, [], ◌∷◌, ◌++◌, ◌<◌, ◌≤◌, Some, length, take, slice_get, slice_index}
use Rattle.mvt_base.specs.Related.{AreRelated, Extends}
use Rattle.mvt_attrs.specs.declared.used_entries.LayerEntries.{LayerEntries}
use Rattle.mvt_attrs.specs.declared.used_entries.UsedEntries.{UsedEntries}
use Rattle.mvt_attrs.specs.declared.value.Attribute.{Attribute}
use Rattle.mvt_attrs.specs.Values.{Value}
use Rattle.mvt_attrs.specs.Inner.Places.{IsPut}
use Rattle.mvt_attrs.specs.Pools.{key_pool, value_pool}
use Rattle.mvt_attrs.specs.Tags.{Names, NamesOne}
use Rattle.mvt_attrs.specs.TagRules.{pairs_of}
use Rattle.mvt_attrs.specs.Using.{AreUsesOf, HasUses, used_of}

-- more entries are used, or as many; none more where there is none
abbrev pub IsGrown : {A : Type 0} → List A → List A → List A → Type 0
IsGrown entries old new = Extends old new × (entries ≡ [] → new ≡ old)

-- the entry at this index is used, and stands at an index among those that are
pub record IsOneUse {A : Type 0} (entry : ℕ) (old new : UsedEntries A) (index : ℕ) : Type 0 where
  pub uses : (entries : List A) → AreUsesOf old entries → AreUsesOf new entries
  pub grown : (entries : List A) → AreUsesOf old entries → IsGrown entries (used_of old) (used_of new)
  pub put : (entries : List A) (x : A) → AreUsesOf old entries → slice_get entries entry ≡ Some x
      → IsPut (used_of old) (used_of new) x × (slice_get (used_of new) index ≡ Some x)

-- of those that were used the first so many still are; all where there is no entry
abbrev pub IsUndone : {A : Type 0} → List A → ℕ → List A → List A → Type 0
IsUndone [] count old new = new ≡ old
IsUndone (x ∷ entries) count old new = new ≡ take count old

-- marks without those above a count
pub record AreMarksUpTo (count : ℕ) (old new : List ℕ) : Type 0 where
  pub size : length new ≡ length old
  pub kept : (p : ℕ) → slice_index old p ≤ count → slice_index new p ≡ slice_index old p
  pub gone : (p : ℕ) → count < slice_index old p → slice_index new p ≡ 0

-- the pools of these attributes, which these tags name in them
pub record TagsSoFar (done : List Attribute) (held_keys keys : List (List ℕ)) (held_values values : List Value) (tags : List ℕ) : Type 0
  where
    pub keys_are : keys ≡ key_pool held_keys done
    pub values_are : values ≡ value_pool held_values done
    pub names : Names keys values tags done

-- some of the attributes are used, and the rest of the tags names the others
pub record UsedSoFar (keys : List (List ℕ)) (values : List Value) (attributes : List Attribute) (rest : List ℕ) (old now : LayerEntries)
    (before after : List ℕ) : Type 0 where
  pub done : List Attribute
  pub to_come : List Attribute
  pub parts : attributes ≡ done ++ to_come
  pub named : AreRelated (NamesOne keys values) (pairs_of rest) to_come
  pub uses : HasUses now keys values
  pub tags : List ℕ
  pub out : after ≡ before ++ tags
  pub so_far : TagsSoFar done (used_of old.keys) (used_of now.keys) (used_of old.values) (used_of now.values) tags

-- what these tags name is used, and they became the tags behind those in front; where it is said, they are the same
pub record UsesTags (start : LayerEntries) (tags : List ℕ) (now : LayerEntries) : Type 0 where
  pub uses : (keys : List (List ℕ)) (values : List Value) → HasUses start keys values
      → HasUses now keys values × IsGrown keys (used_of start.keys) (used_of now.keys)
      × IsGrown values (used_of start.values) (used_of now.values)
  pub used : (keys : List (List ℕ)) (values : List Value) (attributes : List Attribute) (rest : List ℕ) → HasUses start keys values
      → Names keys values (tags ++ rest) attributes
      → UsedSoFar keys values attributes rest start now start.tags.items now.tags.items
  pub same : IsTrue now.are_same → now.tags.items ≡ start.tags.items ++ tags

-- nothing was read yet, or these tags
abbrev pub HasRead : LayerEntries → List ℕ → LayerEntries → Type 0
HasRead start tags now = ((tags ≡ []) × (now ≡ start)) ⊎ UsesTags start tags now
