-- The feature in which the first fault of a layer stands is there: a fault of other rules stands in none.
use Rattle.std.proofs.Common.{◌≡◌, ℕ, ◌+◌, Bool, true, false, List, [], ◌∷◌, ◌++◌, length, slice_get, Option, Some, None, refl, sym, ap, ◌∙◌, subst, append_assoc, if◌then◌else◌}
use Rattle.std.specs.Prelude.{IfSome, is_none, not}
use Rattle.std.specs.Option.{option_or, option_map}
use Rattle.std.proofs.lemmas.Option.{none-some, same_Some}
use Rattle.mvt_base.specs.Rules.{Rules, when, each, first}
use Rattle.mvt_base.proofs.RuleLemmas.{each_first, first-map_faults, option_or-none, option_or-right, option_or-some}
use Rattle.mvt_base.proofs.TableLemmas.{first-rows_all}
use Rattle.mvt_attrs.specs.Values.{Value}
use Rattle.mvt_wire.specs.Field.{Entry}
use Rattle.mvt_wire.specs.Split.{Parts, split}
use Rattle.mvt_feature.specs.declared.cause.Cause.{Cause}
use Rattle.mvt_feature.specs.declared.cause.Cause.TheVariants.{NoName, ValueKind}
use Rattle.mvt_feature.specs.Faults.{MessageFault, fault_at, in_feature, rest_rules, rest_rules_at}
use Rattle.mvt_feature.specs.FeatureRules.{feature_rules}
use Rattle.mvt_feature.specs.Forms.{Form, message, number_rules, forms_rules, HasForm}
use Rattle.mvt_feature.specs.Selection.{HaveForm, last_only, only}
use Rattle.mvt_feature.specs.ValueRules.{are_one_kind, kinds, value_field_rules, value_rules, value_table}
use Rattle.mvt_feature.specs.Values.{value_forms}
use Rattle.mvt_message.specs.declared.numbers.layer.TheConstants.{NAME, FEATURES, VALUES}
use Rattle.mvt_message.specs.Inner.{features_fault, forms_fault, header_fault, layer_fault, values_fault}
use Rattle.mvt_message.specs.ItemRules.{feature_rules_of, item_fault, layer_field_rules, value_rules_of, version_rules}
use Rattle.mvt_message.specs.LayerFields.{bytes_of, is_two, keys_in, layer_forms, values_in, version_forms, version_in}
use Rattle.mvt_message.proofs.ChainLemmas.{item_chain, layer_chain}
use Rattle.mvt_message.proofs.FormLemmas.{layer_have}

abbrev IsOutside : Option MessageFault → Type 0
IsOutside o = IfSome o (λ fault. fault.feature ≡ None)

either_outside : (a b : Option MessageFault) → IsOutside a → IsOutside b → IsOutside (option_or a b)
either_outside None b h k = k
either_outside (Some f) b h k = h

mapped_outside : (at : ℕ) (o : Option Cause) → IsOutside (option_map (fault_at at) o)
mapped_outside at None = tt
mapped_outside at (Some c) = refl

when_outside : (b : Bool) (at : ℕ) (c : Cause) → IsOutside (first (when b (fault_at at c)))
when_outside true at c = refl
when_outside false at c = tt

nothing_outside : IsOutside None
nothing_outside = tt

each_outside : (rules : Entry → Rules MessageFault) → ((x : Entry) → IsOutside (first (rules x))) → (front xs : List Entry)
    → IsOutside (first (each (λ _. rules) front xs))
each_outside rules out front [] = tt
each_outside rules out front (x ∷ xs) =
    subst IsOutside (sym (each_first (λ _. rules) front x xs))
    (either_outside _ _ (out x) (each_outside rules out (front ++ x ∷ []) xs))

forms_outside : (forms : List (ℕ × Form)) (payload_at : ℕ) (x : Entry) → IsOutside (first (forms_rules forms payload_at x))
forms_outside forms payload_at x =
    subst IsOutside (sym (first-map_faults (fault_at (payload_at + x.at)) (number_rules forms x.number x.content)))
    (mapped_outside (payload_at + x.at) (first (number_rules forms x.number x.content)))

rest_outside : (payload_at : ℕ) (parts : Parts) → IsOutside (first (rest_rules payload_at parts))
unfolding rest_rules
rest_outside payload_at parts = by_rest parts.rest
  where
    by_rest : (rest : List ℕ) → IsOutside (first (rest_rules_at (payload_at + parts.rest_at) rest))
    by_rest [] = tt
    by_rest (b ∷ bs) = refl

value_outside : (payload : List ℕ) (payload_at tag_at : ℕ) → IsOutside (first (value_rules payload payload_at tag_at))
unfolding value_rules value_field_rules
value_outside payload payload_at tag_at =
    subst IsOutside (sym (first-rows_all (value_table payload payload_at tag_at)))
    (either_outside _ _ (rest_outside payload_at (split payload))
    (either_outside _ _ (each_outside (forms_rules value_forms payload_at) (forms_outside value_forms payload_at) [] (split payload).fields)
    (either_outside (first (when (not (are_one_kind (kinds (split payload).fields))) (fault_at tag_at ValueKind))) None
    (when_outside (not (are_one_kind (kinds (split payload).fields))) tag_at ValueKind) nothing_outside)))

header_outside : (payload : List ℕ) (payload_at tag_at : ℕ) → IsOutside (header_fault payload payload_at tag_at)
unfolding version_rules
header_outside payload payload_at tag_at =
    either_outside _ _ (rest_outside payload_at (split payload))
    (either_outside _ _ (each_outside (forms_rules version_forms payload_at) (forms_outside version_forms payload_at) [] (split payload).fields)
    (when_outside _ _ _))

layer_forms_outside : (payload_at : ℕ) (xs : List Entry) → IsOutside (forms_fault payload_at xs)
unfolding layer_field_rules
layer_forms_outside payload_at xs = each_outside (forms_rules layer_forms payload_at) (forms_outside layer_forms payload_at) [] xs

values_outside : (payload_at : ℕ) (xs : List Entry) → IsOutside (values_fault payload_at xs)
values_outside payload_at xs =
    each_outside (value_rules_of payload_at)
    (λ x. value_outside (bytes_of x.content) (payload_at + x.body) (payload_at + x.at)) [] (only VALUES xs)

-- a fault in a feature isn't that of rules outside of features
passed : (a b : Option MessageFault) (fault : MessageFault) (j : ℕ) → IsOutside a → option_or a b ≡ Some fault → fault.feature ≡ Some j
    → (a ≡ None) × (b ≡ Some fault)
passed None b fault j out is at = (refl, is)
passed (Some f) b fault j out is at =
    let same : f ≡ fault = same_Some f fault is in
    absurd (none-some j (sym (subst (λ (g : MessageFault). g.feature ≡ None) same out) ∙ at))

behind : {X : Type 0} → (front : List X) (x : X) (xs : List X) → slice_get (front ++ x ∷ xs) (length front) ≡ Some x
behind [] x xs = refl
behind (y ∷ ys) x xs = behind ys x xs

abbrev IsThere : List Entry → ℕ → Type 0
IsThere xs j = (x : Entry) × (slice_get xs j ≡ Some x)

module _ (payload_at : ℕ) (keys : List (List ℕ)) (values : List Value) where
  feature_there : (front xs : List Entry) (fault : MessageFault) (j : ℕ)
      → first (each (feature_rules_of payload_at keys values) front xs) ≡ Some fault → fault.feature ≡ Some j → IsThere (front ++ xs) j
  feature_there front [] fault j is at = cc
  feature_there front (x ∷ xs) fault j is at =
      by_first (first (feature_rules (bytes_of x.content) (payload_at + x.body) keys values)) refl
      (λ rest. feature_there (front ++ x ∷ []) xs fault j rest at)
    where
      told : first (feature_rules_of payload_at keys values front x)
          ≡ option_map (in_feature (length front)) (first (feature_rules (bytes_of x.content) (payload_at + x.body) keys values))
      told = first-map_faults (in_feature (length front)) (feature_rules (bytes_of x.content) (payload_at + x.body) keys values)

      by_first : (o : Option MessageFault) → first (feature_rules (bytes_of x.content) (payload_at + x.body) keys values) ≡ o
          → (first (each (feature_rules_of payload_at keys values) (front ++ x ∷ []) xs) ≡ Some fault → IsThere ((front ++ x ∷ []) ++ xs) j)
          → IsThere (front ++ x ∷ xs) j
      by_first (Some m) e later =
          let here = told ∙ ap (option_map (in_feature (length front))) e in
          let same : in_feature (length front) m ≡ fault =
          same_Some _ _ (sym (option_or-some _ _ _ here) ∙ sym (each_first (feature_rules_of payload_at keys values) front x xs) ∙ is) in
          let index : length front ≡ j = same_Some _ _ (ap (λ (g : MessageFault). g.feature) same ∙ at) in
          (x, subst (λ i. slice_get (front ++ x ∷ xs) i ≡ Some x) index (behind front x xs))
      by_first None e later =
          let none = told ∙ ap (option_map (in_feature (length front))) e in
          let rest = sym (option_or-none _ _ none) ∙ sym (each_first (feature_rules_of payload_at keys values) front x xs) ∙ is in
          subst (λ l. IsThere l j) (append_assoc front (x ∷ []) xs) (later rest)

pub fault_feature_there : (payload : List ℕ) (payload_at tag_at : ℕ) (fault : MessageFault) (j : ℕ)
    → item_fault payload payload_at tag_at ≡ Some fault → fault.feature ≡ Some j
    → HaveForm FEATURES (HasForm message) (split payload).fields
    × (x : Entry) × (slice_get (only FEATURES (split payload).fields) j ≡ Some x)
fault_feature_there payload payload_at tag_at fault j is at =
    by_two (is_two (version_in (split payload).fields))
    (passed _ _ fault j (header_outside payload payload_at tag_at) (sym (item_chain payload payload_at tag_at) ∙ is) at).1
  where
    by_two : (b : Bool) → (if b then layer_fault payload_at tag_at (split payload).fields else None) ≡ Some fault
        → HaveForm FEATURES (HasForm message) (split payload).fields × (x : Entry)
        × (slice_get (only FEATURES (split payload).fields) j ≡ Some x)
    by_two false h = cc
    by_two true h =
        let forms = passed _ _ fault j (layer_forms_outside payload_at (split payload).fields) (sym (layer_chain payload_at tag_at (split payload).fields) ∙ h) at in
        let named = passed _ _ fault j (when_outside (is_none (last_only NAME (split payload).fields)) tag_at NoName) forms.1 at in
        let values = passed _ _ fault j (values_outside payload_at (split payload).fields) named.1 at in
        let features : features_fault payload_at (keys_in (split payload).fields) (values_in (split payload).fields) (split payload).fields
        ≡ Some fault = sym (option_or-right _) ∙ values.1 in
        let there =
        feature_there payload_at (keys_in (split payload).fields) (values_in (split payload).fields) []
        (only FEATURES (split payload).fields) fault j features at in
        ((layer_have payload_at (split payload).fields forms.0).1.0, there.0, there.1)
