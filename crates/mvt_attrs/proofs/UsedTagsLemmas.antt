-- Tags that are read one after another, whose entries are used.
use Rattle.std.proofs.Common.{◌≡◌, ℕ, Bool, ◌&&◌, IsTrue, List, [], ◌∷◌, ◌++◌, length, take, inl, inr, refl, sym, ap, ap₂, subst, ◌∙◌, arith, append_assoc, append-nil}
use Rattle.std.proofs.lemmas.Bool.{and_parts}
use Rattle.std.proofs.Math.Seq.{take-append_seam}
use Rattle.mvt_wire.specs.Packed.{ArePacked}
use Rattle.mvt_wire.specs.Spelling.{short_numbers}
use Rattle.mvt_attrs.specs.declared.value.Attribute.{Attribute}
use Rattle.mvt_attrs.specs.Packed.{AreUsedTags}
use Rattle.mvt_attrs.specs.Pools.{key_pool, value_pool}
use Rattle.mvt_attrs.specs.TagPlaces.{tags_in}
use Rattle.mvt_attrs.specs.declared.used_entries.LayerEntries.{LayerEntries}
use Rattle.mvt_attrs.specs.Values.{Value}
use Rattle.mvt_attrs.specs.Inner.UsedTags.{HasRead, IsGrown, IsOneUse, IsUndone, UsesTags}
use Rattle.mvt_attrs.specs.Tags.{Names, Resolved}
use Rattle.mvt_attrs.specs.Using.{AreSameUses, HasUses, IsUsedBy, used_of}
use Rattle.mvt_attrs.proofs.GrownLemmas.{more_grown, none_grown}
use Rattle.mvt_attrs.proofs.UsesLemmas.{tags_end, used_end, used_start, used_step}

pub tags_begin : (start : LayerEntries) → UsesTags start [] start
tags_begin start = record {
  uses = λ keys values uses. (uses, none_grown keys (used_of start.keys), none_grown values (used_of start.values));
  used = λ keys values attributes rest uses names. used_start keys values attributes start start.tags.items rest uses names;
  same = λ is. sym (append-nil start.tags.items);
}

pub tags_read : (start : LayerEntries) (tags : List ℕ) (now : LayerEntries) → HasRead start tags now → UsesTags start tags now
tags_read start tags now (inl (none, same)) =
    subst (λ ts. UsesTags start ts now) (sym none) (subst (UsesTags start []) (sym same) (tags_begin start))
tags_read start tags now (inr read) = read

pub tags_more : (start old new : LayerEntries) (tags : List ℕ) (key value k v : ℕ) → UsesTags start tags old
    → IsOneUse key old.keys new.keys k → IsOneUse value old.values new.values v → new.tags.items ≡ old.tags.items ++ k ∷ (v ∷ [])
    → (IsTrue new.are_same → IsTrue old.are_same × (k ≡ key) × (v ≡ value)) → UsesTags start (tags ++ key ∷ (value ∷ [])) new
tags_more start old new tags key value k v so_far use_key use_value pushed is = record {
  uses = λ keys values uses.
      let before = so_far.uses keys values uses in (
        (use_key.uses keys before.0.0, use_value.uses values before.0.1),
        more_grown keys (used_of start.keys) (used_of old.keys) (used_of new.keys) before.1 (use_key.grown keys before.0.0),
        more_grown values (used_of start.values) (used_of old.values) (used_of new.values) before.2 (use_value.grown values before.0.1),
      );
  used = λ keys values attributes rest uses names.
      let before = so_far.uses keys values uses in
      used_step keys values attributes start start.tags.items (key ∷ (value ∷ rest)) rest old new old.tags.items new.tags.items k v
      (so_far.used keys values attributes (key ∷ (value ∷ rest)) uses
      (subst (λ ts. Names keys values ts attributes) (append_assoc tags (key ∷ (value ∷ [])) rest) names)) (omega arith) refl
      (use_key.uses keys before.0.0, use_value.uses values before.0.1)
      (λ x at. use_key.put keys x before.0.0 at) (λ x at. use_value.put values x before.0.1 at) pushed;
  same = λ same.
      let both = is same in
      pushed ∙ ap₂ (λ l p. l ++ p) (so_far.same both.0) (ap₂ (λ a b. a ∷ (b ∷ [])) both.1 both.2)
      ∙ append_assoc start.tags.items tags (key ∷ (value ∷ []));
}

-- where the same entries are used, attributes do the same
pub used_by_same : (attributes : List Attribute) (old same new : LayerEntries) → AreSameUses old same → IsUsedBy attributes same new
    → IsUsedBy attributes old new
used_by_same attributes old same new are used = record {
  keys = used.keys ∙ ap (λ ks. key_pool ks attributes) are.0;
  values = used.values ∙ ap (λ vs. value_pool vs attributes) are.1;
  names = used.names;
}

-- tags that were read to their end
pub used_tags : (old start now : LayerEntries) (bytes : List ℕ) (keys : List (List ℕ)) (values : List Value) (tags : List ℕ)
    (attributes : List Attribute) (is_short : Bool) → UsesTags start tags now → AreSameUses old start → start.tags.items ≡ []
    → HasUses start keys values → ArePacked bytes tags → Resolved keys values tags attributes
    → (IsTrue is_short → bytes ≡ short_numbers tags) → AreUsedTags bytes keys values old now (is_short && now.are_same)
used_tags old start now bytes keys values tags attributes is_short read same none uses packed resolved short =
    let all = read.used keys values attributes [] uses
    (subst (λ ts. Names keys values ts attributes) (sym (append-nil tags)) resolved.named) in
    let before = start.tags.items in
    record {
      tags = tags;
      attributes = attributes;
      packed = packed;
      resolved = resolved;
      used = used_by_same attributes old start now same (used_end keys values attributes start before [] now now.tags.items all (omega arith));
      written = tags_end keys values attributes start before [] now now.tags.items all (omega arith)
          ∙ ap (λ l. l ++ tags_in (used_of now.keys) (used_of now.values) attributes) none;
      same = λ both.
          let parts = and_parts is_short now.are_same both in
          short parts.0 ∙ ap short_numbers (sym (read.same parts.1 ∙ ap (λ l. l ++ tags) none));
    }

-- what was used since is undone
pub undone_same : {A : Type 0} → (entries old now new : List A) (count : ℕ) → IsGrown entries old now → count ≡ length old
    → IsUndone entries count now new → new ≡ old
undone_same [] old now new count grown counted undone = undone ∙ grown.1 refl
undone_same (x ∷ entries) old now new count grown counted undone =
    undone ∙ ap₂ (λ n l. take n l) counted grown.0.1 ∙ take-append_seam old grown.0.0
