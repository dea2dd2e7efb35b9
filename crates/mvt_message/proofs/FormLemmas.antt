-- The forms of a layer's fields, and rules that are told by the elements before.
use Rattle.std.proofs.Common.{◌≡◌, ℕ, List, [], ◌∷◌, ◌++◌, length, None, refl, sym, ap, ◌∙◌}
use Rattle.std.specs.List.{AllByRecursion}
use Rattle.std.specs.Option.{option_map}
use Rattle.mvt_base.specs.Rules.{Rules, AreOrdered, map_faults, each, first}
use Rattle.mvt_base.proofs.RuleLemmas.{first-append, first-under, first-map_faults, option_or-nones, option_or-none}
use Rattle.mvt_base.proofs.TableLemmas.{none_mapped}
use Rattle.mvt_wire.specs.Field.{Entry}
use Rattle.mvt_feature.proofs.FeatureLaws.{forms_clean, forms_have, forms_ordered}
use Rattle.mvt_message.specs.declared.numbers.layer.TheConstants.{VERSION}
use Rattle.mvt_feature.specs.Forms.{uint32, HasForm, HaveForms}
use Rattle.mvt_feature.specs.Selection.{HaveForm}
use Rattle.mvt_message.specs.LayerFields.{version_forms, layer_forms}
use Rattle.mvt_message.specs.ItemRules.{version_rules, layer_field_rules}
use Rattle.mvt_message.specs.Inner.{versions_fault, forms_fault}

-- the fields of a layer
pub versions_form : (payload_at : ℕ) (xs : List Entry) → versions_fault payload_at xs ≡ None → HaveForm VERSION (HasForm uint32) xs
unfolding version_rules
versions_form payload_at xs clean = (forms_have version_forms payload_at xs (λ c. refl, tt) clean).0

pub form_versions : (payload_at : ℕ) (xs : List Entry) → HaveForm VERSION (HasForm uint32) xs → versions_fault payload_at xs ≡ None
unfolding version_rules
form_versions payload_at xs h = forms_clean version_forms payload_at xs (h, tt)

pub layer_have : (payload_at : ℕ) (xs : List Entry) → forms_fault payload_at xs ≡ None → HaveForms layer_forms xs
unfolding layer_field_rules
layer_have payload_at xs clean =
    forms_have layer_forms payload_at xs (λ c. refl, (λ c. refl, (λ c. refl, (λ c. refl, (λ c. refl, tt))))) clean

pub have_layer : (payload_at : ℕ) (xs : List Entry) → HaveForms layer_forms xs → forms_fault payload_at xs ≡ None
unfolding layer_field_rules
have_layer payload_at xs h = forms_clean layer_forms payload_at xs h

pub version_ordered : (payload_at : ℕ) (x : Entry) → AreOrdered (version_rules payload_at x)
unfolding version_rules
version_ordered payload_at x = forms_ordered version_forms payload_at x

pub layer_field_ordered : (payload_at : ℕ) (x : Entry) → AreOrdered (layer_field_rules payload_at x)
unfolding layer_field_rules
layer_field_ordered payload_at x = forms_ordered layer_forms payload_at x

-- rules of elements that are told by those before them
pub none_each_reported : {X F G : Type 0} → (report : List X → F → G) (rules : X → Rules F) (front xs : List X)
    → first (each (λ f x. map_faults (report f) (rules x)) front xs) ≡ None → AllByRecursion (λ x. first (rules x) ≡ None) xs
none_each_reported report rules front [] h = tt
none_each_reported report rules front (x ∷ xs) h =
    let parts = option_or-nones _ _ (sym (first-append _ (each (λ f y. map_faults (report f) (rules y)) (front ++ x ∷ []) xs)) ∙ h) in (
      none_mapped (report front) (first (rules x))
          (sym (first-map_faults (report front) (rules x)) ∙ sym (first-under (length front) (map_faults (report front) (rules x)))
          ∙ parts.0),
      none_each_reported report rules (front ++ x ∷ []) xs parts.1,
    )

pub each_reported_none : {X F G : Type 0} → (report : List X → F → G) (rules : X → Rules F) (front xs : List X)
    → AllByRecursion (λ x. first (rules x) ≡ None) xs → first (each (λ f x. map_faults (report f) (rules x)) front xs) ≡ None
each_reported_none report rules front [] h = refl
each_reported_none report rules front (x ∷ xs) h =
    first-append _ (each (λ f y. map_faults (report f) (rules y)) (front ++ x ∷ []) xs)
    ∙ option_or-none _ _ (first-under (length front) (map_faults (report front) (rules x)) ∙ first-map_faults (report front) (rules x)
    ∙ ap (option_map (report front)) h.0) ∙ each_reported_none report rules (front ++ x ∷ []) xs h.1
