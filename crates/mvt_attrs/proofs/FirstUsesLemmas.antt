-- Attributes that use the entries of a layer in order.
use Rattle.std.proofs.Common.{◌≡◌, ℕ, ◌<◌, ◌≤◌, List, [], ◌∷◌, ◌++◌, length, take, drop, get_or, refl, sym, ap, subst, ◌∙◌, arith, append_assoc, append-nil}
use Rattle.mvt_base.specs.Related.{AreRelated}
use Rattle.mvt_attrs.specs.declared.value.Attribute.{Attribute}
use Rattle.mvt_attrs.specs.Values.{Value}
use Rattle.mvt_attrs.specs.FirstUse.{AreDistinct}
use Rattle.mvt_attrs.specs.FirstUses.{AreFirstUses, AreInOrder, IsUseOf}
use Rattle.mvt_attrs.specs.Pools.{key_pool, value_pool}
use Rattle.mvt_attrs.specs.Tags.{Names, NamesOne}
use Rattle.mvt_attrs.specs.TagRules.{pairs_of}
use Rattle.mvt_attrs.proofs.JudgingLemmas.{named_front, named_none}
use Rattle.mvt_attrs.proofs.ResolvedLemmas.{related_from_names}
use Rattle.mvt_attrs.specs.Inner.UsedTags.{TagsSoFar}
use Rattle.mvt_attrs.proofs.FrontLemmas.{distinct_front, use_step}
use Rattle.mvt_attrs.proofs.UsesLemmas.{tags_start, tags_step}

-- so many entries are used by the attributes so far, and these tags name those to come
pub record FirstUsesSoFar (keys : List (List ℕ)) (values : List Value) (attributes : List Attribute) (rest : List ℕ)
    (keys_before values_before used_keys used_values : ℕ) : Type 0 where
  pub done : List Attribute
  pub to_come : List Attribute
  pub parts : attributes ≡ done ++ to_come
  pub named : AreRelated (NamesOne keys values) (pairs_of rest) to_come
  pub keys_within : used_keys ≤ length keys
  pub values_within : used_values ≤ length values
  pub tags : List ℕ
  pub so_far : TagsSoFar done (take keys_before keys) (take used_keys keys) (take values_before values) (take used_values values) tags

module _ (keys : List (List ℕ)) (values : List Value) (attributes : List Attribute) (apart_keys : AreDistinct keys)
    (apart_values : AreDistinct values) (keys_before values_before : ℕ) where
  pub uses_start : (tags : List ℕ) → keys_before ≤ length keys → values_before ≤ length values → Names keys values tags attributes
      → FirstUsesSoFar keys values attributes tags keys_before values_before keys_before values_before
  uses_start tags few_keys few_values names = record {
    done = [];
    to_come = attributes;
    parts = refl;
    named = related_from_names keys values tags attributes names;
    keys_within = few_keys;
    values_within = few_values;
    tags = [];
    so_far = tags_start (take keys_before keys) (take values_before values) (distinct_front keys keys_before few_keys apart_keys)
        (distinct_front values values_before few_values apart_values);
  }

  pub uses_step : (rest left : List ℕ) (used_keys used_values more_keys more_values : ℕ)
      → FirstUsesSoFar keys values attributes rest keys_before values_before used_keys used_values → 2 ≤ length rest
      → left ≡ drop 2 rest → IsUseOf used_keys (get_or rest 0 0) more_keys → IsUseOf used_values (get_or rest 1 0) more_values
      → FirstUsesSoFar keys values attributes left keys_before values_before more_keys more_values
  uses_step rest left used_keys used_values more_keys more_values so_far some is key value =
      let front = named_front keys values rest so_far.to_come some so_far.named in
      let a = front.0 in
      let of_key = use_step keys apart_keys used_keys so_far.keys_within (get_or rest 0 0) more_keys a.key front.3.0 key in
      let of_value = use_step values apart_values used_values so_far.values_within (get_or rest 1 0) more_values a.value front.3.1 value in
      record {
        done = so_far.done ++ a ∷ [];
        to_come = front.1;
        parts = so_far.parts ∙ ap (λ as'. so_far.done ++ as') front.2 ∙ sym (append_assoc so_far.done (a ∷ []) front.1);
        named = subst (λ l. AreRelated (NamesOne keys values) (pairs_of l) front.1) (sym is) front.4;
        keys_within = of_key.2;
        values_within = of_value.2;
        tags = so_far.tags ++ get_or rest 0 0 ∷ (get_or rest 1 0 ∷ []);
        so_far = tags_step so_far.done (take keys_before keys) (take used_keys keys) (take more_keys keys) (take values_before values)
            (take used_values values) (take more_values values) so_far.tags a (get_or rest 0 0) (get_or rest 1 0) so_far.so_far of_key.0
            of_value.0 of_key.1 of_value.1;
      }

  pub uses_end : (rest : List ℕ) (used_keys used_values : ℕ)
      → FirstUsesSoFar keys values attributes rest keys_before values_before used_keys used_values → length rest < 2
      → AreFirstUses keys values attributes keys_before values_before (used_keys, used_values)
  uses_end rest used_keys used_values so_far none =
      let all : so_far.done ≡ attributes =
      sym (so_far.parts
      ∙ ap (λ as'. so_far.done ++ as') (named_none keys values rest so_far.to_come none so_far.named) ∙ append-nil so_far.done) in
      record {
        keys_within = so_far.keys_within;
        values_within = so_far.values_within;
        keys_are = ap (key_pool (take keys_before keys)) (sym all) ∙ sym so_far.so_far.keys_are;
        values_are = ap (value_pool (take values_before values)) (sym all) ∙ sym so_far.so_far.values_are;
      }

  in_order : (rest : List ℕ) (used after : ℕ × ℕ) → AreInOrder used rest after
      → FirstUsesSoFar keys values attributes rest keys_before values_before used.0 used.1
      → AreFirstUses keys values attributes keys_before values_before after
  in_order [] used after is so_far =
      subst (AreFirstUses keys values attributes keys_before values_before) is (uses_end [] used.0 used.1 so_far (omega arith))
  in_order (k ∷ []) used after is so_far = absurd is
  in_order (k ∷ (v ∷ tags)) used after (next, key, value, more) so_far =
      in_order tags next after more (uses_step (k ∷ (v ∷ tags)) tags used.0 used.1 next.0 next.1 so_far (omega arith) refl key value)

-- tags in order
pub uses_in_order : (keys : List (List ℕ)) (values : List Value) (attributes : List Attribute) (tags : List ℕ) (before after : ℕ × ℕ)
    → AreDistinct keys → AreDistinct values → before.0 ≤ length keys → before.1 ≤ length values → Names keys values tags attributes
    → AreInOrder before tags after → AreFirstUses keys values attributes before.0 before.1 after
uses_in_order keys values attributes tags before after apart_keys apart_values few_keys few_values names is =
    in_order keys values attributes apart_keys apart_values before.0 before.1 tags before after is
    (uses_start keys values attributes apart_keys apart_values before.0 before.1 tags few_keys few_values names)

pub order_more : (tags : List ℕ) (before at after : ℕ × ℕ) (key value : ℕ) → AreInOrder before tags at → IsUseOf at.0 key after.0
    → IsUseOf at.1 value after.1 → AreInOrder before (tags ++ key ∷ (value ∷ [])) after
order_more [] before at after key value is use_key use_value = rw is (after, use_key, use_value, refl)
order_more (k ∷ []) before at after key value is use_key use_value = absurd is
order_more (k ∷ (v ∷ tags)) before at after key value (next, first, second, more) use_key use_value =
    (next, first, second, order_more tags next at after key value more use_key use_value)
