-- Tags that are packed in bytes and judged where they stand (4.4).
use Rattle.std.specs.Prelude.{◌≡◌, ℕ, Bool, IsTrue, List, length, None}
use Rattle.mvt_wire.specs.Packed.{ArePacked}
use Rattle.mvt_wire.specs.Spelling.{short_numbers}
use Rattle.mvt_attrs.specs.declared.packed_tags.PackedTags.{PackedTags}
use Rattle.mvt_attrs.specs.declared.packed_tags.PackedTags.TheVariants.{Good, Stopped, Broken}
use Rattle.mvt_attrs.specs.declared.used_entries.LayerEntries.{LayerEntries}
use Rattle.mvt_attrs.specs.declared.value.Attribute.{Attribute}
use Rattle.mvt_attrs.specs.Tags.{Resolved}
use Rattle.mvt_attrs.specs.TagPlaces.{tags_in}
use Rattle.mvt_attrs.specs.Using.{IsUsedBy, used_of}
use Rattle.mvt_attrs.specs.Values.{Value}
use Rattle.mvt_attrs.specs.TagRules.{tag_fault}

-- tags that break no rule, in a layer with these keys and so many values; a visitor was told them; where it is said, their spellings are
-- the shortest
pub record AreGoodTags {V : Type 0} (HasTags : V → List ℕ → V → Type 0) (start now : V) (bytes : List ℕ) (keys : List (List ℕ))
    (values : ℕ) (is_short : Bool) : Type 0 where
  pub tags : List ℕ
  pub packed : ArePacked bytes tags
  pub told : HasTags start tags now
  pub faultless : (held : List Value) → length held ≡ values → tag_fault keys held tags ≡ None
  pub short : IsTrue is_short → bytes ≡ short_numbers tags

-- what is found of them; where a rule seems to be broken, the visitor was told some tags
abbrev pub AreFound : {V : Type 0} → Type 0 → (V → List ℕ → V → Type 0) → V → V → List ℕ → List (List ℕ) → ℕ → PackedTags → Type 0
AreFound MayStop HasTags start now bytes keys values (Good is_short) = AreGoodTags HasTags start now bytes keys values is_short
AreFound MayStop HasTags start now bytes keys values Stopped = MayStop
AreFound MayStop HasTags start now bytes keys values Broken = (tags : List ℕ) × HasTags start tags now

-- tags that break no rule, and the tags that their attributes have among what is used then; where it is said, the bytes are as these
-- are to be packed
pub record AreUsedTags (bytes : List ℕ) (keys : List (List ℕ)) (values : List Value) (old new : LayerEntries) (is_same : Bool) : Type 0
  where
    pub tags : List ℕ
    pub attributes : List Attribute
    pub packed : ArePacked bytes tags
    pub resolved : Resolved keys values tags attributes
    pub used : IsUsedBy attributes old new
    pub written : new.tags.items ≡ tags_in (used_of new.keys) (used_of new.values) attributes
    pub same : IsTrue is_same → bytes ≡ short_numbers new.tags.items
