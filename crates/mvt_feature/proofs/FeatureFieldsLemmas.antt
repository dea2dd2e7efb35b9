-- What is known of a feature, field by field.
use Rattle.std.proofs.Common.{◌≡◌, ℕ, ◌+◌, ◌==◌, Bool, true, false, List, [], ◌∷◌, ◌++◌, Some, None, Result, Ok, Err, refl, sym, ap, ◌∙◌, append_assoc, append-nil, if◌then◌else◌}
use Rattle.std.specs.Prelude.{OnOk, IfOk, IfErr}
use Rattle.std.specs.List.{flat_map}
use Rattle.std.specs.Option.{option_map}
use Rattle.std.proofs.lemmas.Grind.{flat_map-append}
use Rattle.std.proofs.lemmas.List.Elements.{filter-append}
use Rattle.mvt_base.specs.Reports.{Reports}
use Rattle.mvt_base.specs.Rules.{each, first}
use Rattle.mvt_base.proofs.ReportsLemmas.{reports_as}
use Rattle.mvt_base.proofs.RuleLemmas.{each_more, each_stops, first-map_faults}
use Rattle.mvt_base.proofs.SelectionLemmas.{last_only-more}
use Rattle.mvt_wire.specs.Field.{Entry}
use Rattle.mvt_feature.specs.declared.numbers.feature.TheConstants.{ID, TAGS, TYPE, GEOMETRY}
use Rattle.mvt_feature.specs.declared.feature_fields.FeatureFields.{FeatureFields}
use Rattle.mvt_feature.specs.declared.message_error.MessageError.{MessageError}
use Rattle.mvt_feature.specs.Faults.{MessageFault, fault_at, fault_of}
use Rattle.mvt_feature.specs.Features.{number_of, number_in, kind_of_type}
use Rattle.mvt_feature.specs.FeatureRules.{numbers_of, joined, kind_in, feature_form_rules, feature_field_rules}
use Rattle.mvt_feature.specs.Selection.{only, last_only}
use Rattle.mvt_feature.specs.Inner.{id_after, kind_after, numbers_at, AreFeatureFields, AreFeatureFieldsSoFar}

pub joined_more : (k : ℕ) (xs : List Entry) (x : Entry) → joined k (xs ++ x ∷ []) ≡ joined k xs ++ numbers_at k x.number x.content
joined_more k xs x =
    ap (flat_map (λ (y : Entry). numbers_of y.content)) (filter-append (λ (y : Entry). y.number == k) xs (x ∷ []))
    ∙ flat_map-append (λ (y : Entry). numbers_of y.content) (only k xs) (only k (x ∷ []))
    ∙ ap (λ l. joined k xs ++ l) (by_test (x.number == k))
  where
    by_test : (b : Bool)
        → flat_map (λ (y : Entry). numbers_of y.content) (if b then x ∷ [] else []) ≡ (if b then numbers_of x.content else [])
    by_test true = append-nil (numbers_of x.content)
    by_test false = refl

pub number_more : (k : ℕ) (xs : List Entry) (x : Entry)
    → number_in (last_only k (xs ++ x ∷ [])) ≡ (if x.number == k then number_of x.content else number_in (last_only k xs))
number_more k xs x = ap number_in (last_only-more (λ (y : Entry). y.number) k xs x) ∙ by_test (x.number == k)
  where
    by_test : (b : Bool)
        → number_in (if b then Some x else last_only k xs) ≡ (if b then number_of x.content else number_in (last_only k xs))
    by_test true = refl
    by_test false = refl

kind_more : (xs : List Entry) (x : Entry) → kind_in (xs ++ x ∷ []) ≡ kind_after (kind_in xs) x.number x.content
kind_more xs x = ap kind_of_type (number_more TYPE xs x) ∙ by_test (x.number == TYPE)
  where
    by_test : (b : Bool)
        → kind_of_type (if b then number_of x.content else number_in (last_only TYPE xs))
        ≡ (if b then kind_of_type (number_of x.content) else kind_in xs)
    by_test true = refl
    by_test false = refl

known_more : (done : List Entry) (x : Entry) (old new : FeatureFields) (tags integers new_tags new_integers : List ℕ)
    → AreFeatureFields done old tags integers
    → new.id ≡ id_after old.id x.number x.content → new.kind ≡ kind_after old.kind x.number x.content
    → new_tags ≡ tags ++ numbers_at TAGS x.number x.content → new_integers ≡ integers ++ numbers_at GEOMETRY x.number x.content
    → AreFeatureFields (done ++ x ∷ []) new new_tags new_integers
known_more done x old new tags integers new_tags new_integers known id kind tags_are integers_are = record {
  id = id ∙ ap (λ o. id_after o x.number x.content) known.id ∙ sym (number_more ID done x);
  kind = kind ∙ ap (λ k. kind_after k x.number x.content) known.kind ∙ sym (kind_more done x);
  tags_are = tags_are ∙ ap (λ l. l ++ numbers_at TAGS x.number x.content) known.tags_are ∙ sym (joined_more TAGS done x);
  integers_are =
      integers_are ∙ ap (λ l. l ++ numbers_at GEOMETRY x.number x.content) known.integers_are
      ∙ sym (joined_more GEOMETRY done x);
}

pub field_first : (payload_at : ℕ) (x : Entry)
    → first (feature_field_rules payload_at x)
    ≡ option_map (fault_at (payload_at + x.at)) (first (feature_form_rules x.number x.content))
unfolding feature_field_rules
field_first payload_at x = first-map_faults (fault_at (payload_at + x.at)) (feature_form_rules x.number x.content)

one_more : (payload_at : ℕ) (done : List Entry) (x : Entry) (more : List Entry) (f : MessageFault)
    → first (each (λ _. feature_field_rules payload_at) [] done) ≡ None
    → option_map (fault_at (payload_at + x.at)) (first (feature_form_rules x.number x.content)) ≡ Some f
    → first (each (λ _. feature_field_rules payload_at) [] ((done ++ x ∷ []) ++ more)) ≡ Some f
one_more payload_at done x more f clean broken =
    rw append_assoc (each_stops (λ _. feature_field_rules payload_at) done x more f clean (field_first payload_at x ∙ broken))

-- the step of the walk
pub known_with : (payload_at : ℕ) (done : List Entry) (x : Entry) (old : FeatureFields)
    (tags integers new_tags new_integers : List ℕ) (r : Result FeatureFields MessageError)
    → AreFeatureFieldsSoFar payload_at done (Ok old) tags integers
    → OnOk r (first (feature_form_rules x.number x.content) ≡ None)
    → IfOk r (λ (k : FeatureFields). k.id ≡ id_after old.id x.number x.content)
    → IfOk r (λ (k : FeatureFields). k.kind ≡ kind_after old.kind x.number x.content)
    → OnOk r (new_tags ≡ tags ++ numbers_at TAGS x.number x.content)
    → OnOk r (new_integers ≡ integers ++ numbers_at GEOMETRY x.number x.content)
    → IfErr r (λ e. Reports (fault_of e) (option_map (fault_at (payload_at + x.at)) (first (feature_form_rules x.number x.content))))
    → AreFeatureFieldsSoFar payload_at (done ++ x ∷ []) r new_tags new_integers
known_with payload_at done x old tags integers new_tags new_integers (Ok new) so_far clean id kind tags_are integers_are reported_here = (
  each_more (λ _. feature_field_rules payload_at) done x so_far.0 ∙ field_first payload_at x
      ∙ ap (option_map (fault_at (payload_at + x.at))) clean,
  known_more done x old new tags integers new_tags new_integers so_far.1 id kind tags_are integers_are,
)
known_with payload_at done x old tags integers new_tags new_integers (Err e) so_far clean id kind tags_are integers_are reported_here =
    λ more. reports_as (fault_of e) (option_map (fault_at (payload_at + x.at)) (first (feature_form_rules x.number x.content)))
    (first (each (λ _. feature_field_rules payload_at) [] ((done ++ x ∷ []) ++ more)))
    (λ f broken. one_more payload_at done x more f so_far.0 broken) reported_here
