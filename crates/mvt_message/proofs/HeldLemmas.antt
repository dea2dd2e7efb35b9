-- Values and features that are counted, and that a visitor has.
use Rattle.std.proofs.Common.{◌≡◌, ◌≢◌, ℕ, ◌+◌, ◌^◌, ◌<◌, ◌==◌, List, [], ◌∷◌, ◌++◌, length, map, Option, None, sym, ap, subst, ◌∙◌, arith, append-nil, if◌then◌else◌}
use Rattle.std.specs.Option.{option_map}
use Rattle.std.proofs.lemmas.Bool.{eq-eqb, ne_eqb}
use Rattle.std.proofs.lemmas.List.{length_push, map-append}
use Rattle.std.proofs.lemmas.List.Elements.{filter-append}
use Rattle.mvt_base.specs.Related.{AreRelated}
use Rattle.mvt_base.specs.Reports.{Reports}
use Rattle.mvt_base.specs.Rules.{each, first}
use Rattle.mvt_base.proofs.ListLemmas.{length-related}
use Rattle.mvt_attrs.specs.Values.{Value}
use Rattle.mvt_wire.specs.Field.{Entry}
use Rattle.mvt_wire.specs.Split.{Parts, split}
use Rattle.mvt_feature.specs.declared.message_error.MessageError.{MessageError}
use Rattle.mvt_feature.specs.Faults.{MessageFault, fault_of, in_feature}
use Rattle.mvt_feature.specs.Selection.{only}
use Rattle.mvt_feature.specs.Walks.{Walk}
use Rattle.mvt_feature.specs.declared.feature.Feature.{Feature}
use Rattle.mvt_feature.specs.Features.{IsFeatureOf}
use Rattle.mvt_feature.specs.FeatureRules.{feature_fault}
use Rattle.mvt_feature.specs.Values.{IsValueOf}
use Rattle.mvt_feature.specs.ValueRules.{value_fault}
use Rattle.mvt_message.specs.declared.numbers.layer.TheConstants.{FEATURES, VALUES}
use Rattle.mvt_message.specs.LayerFields.{bytes_of, payloads_in}
use Rattle.mvt_message.specs.Inner.{values_fault, features_fault, AreValuesHeld, AreFeaturesHeld}
use Rattle.mvt_message.specs.Items.{HoldsValue, HoldsFeature}
use Rattle.mvt_message.specs.ItemRules.{value_rules_of, feature_rules_of}
use Rattle.mvt_message.proofs.OrFaultLemmas.{value_first}
use Rattle.mvt_message.proofs.ReadLemmas.{none_left, selected_few, selected_stops, so_far_skip, so_far_take, feature_reported}

-- the fault of the value of a field
abbrev fault_of_value : ℕ → Entry → Option MessageFault
fault_of_value payload_at x = value_fault (bytes_of x.content) (payload_at + x.body) (payload_at + x.at)

module _ {Has : List Value → Type 0} {payload_at : ℕ} {done : List Entry} {count : ℕ} (x : Entry)
    (so_far : AreValuesHeld Has payload_at done count) where
  pub value_skipped : x.number ≢ VALUES → AreValuesHeld Has payload_at (done ++ x ∷ []) count
  value_skipped other = record {
    values = so_far.values;
    so_far = so_far_skip VALUES (λ _. value_rules_of payload_at) HoldsValue done so_far.values x so_far.so_far other;
    counted = so_far.counted;
    has = so_far.has;
  }

  pub value_stops : (more : List Entry) (e : MessageError) → x.number ≡ VALUES → Reports (fault_of e) (fault_of_value payload_at x)
      → Reports (fault_of e) (values_fault payload_at ((done ++ x ∷ []) ++ more))
  value_stops more e is reported_here =
      let here = subst (Reports (fault_of e)) (value_first _ _ _) reported_here in
      selected_stops VALUES (λ _. value_rules_of payload_at) e done x more is so_far.so_far.0 here

  pub value_held : (New : List Value → Type 0) (value : Value) → x.number ≡ VALUES → IsValueOf (bytes_of x.content) value
      → fault_of_value payload_at x ≡ None → New (so_far.values ++ value ∷ [])
      → AreValuesHeld New payload_at (done ++ x ∷ []) (count + 1)
  value_held New value is holds clean has =
      let none = sym (value_first _ _ _) ∙ clean in
      record {
        values = so_far.values ++ value ∷ [];
        so_far = so_far_take VALUES (λ _. value_rules_of payload_at) HoldsValue done so_far.values x value so_far.so_far is none holds;
        counted = omega (arith, length_push so_far.values value, so_far.counted);
        has = has;
      }

pub values_few : {Has : List Value → Type 0} {payload_at : ℕ} {done : List Entry} {count : ℕ} (payload : List ℕ) (to_come : Parts)
    → AreValuesHeld Has payload_at done count → Walk payload to_come done → length payload < 2 ^ 32 → count < 2 ^ 32
values_few {Has} {payload_at} {done} payload to_come so_far walk small =
    let few = selected_few payload to_come done VALUES walk small in
    omega (arith, so_far.counted, length-related HoldsValue (only VALUES done) so_far.values so_far.so_far.1)

-- the payloads of features, with one field more
payloads_skipped : (done : List Entry) (x : Entry) → x.number ≢ FEATURES → payloads_in (done ++ x ∷ []) ≡ payloads_in done
payloads_skipped done x other =
    ap (map (λ (y : Entry). bytes_of y.content))
    (filter-append (λ (y : Entry). y.number == FEATURES) done (x ∷ [])
    ∙ ap (λ b. only FEATURES done ++ (if b then x ∷ [] else [])) (ne_eqb x.number FEATURES other) ∙ append-nil (only FEATURES done))

payloads_more : (done : List Entry) (x : Entry) → x.number ≡ FEATURES
    → payloads_in (done ++ x ∷ []) ≡ payloads_in done ++ bytes_of x.content ∷ []
payloads_more done x is =
    ap (map (λ (y : Entry). bytes_of y.content))
    (filter-append (λ (y : Entry). y.number == FEATURES) done (x ∷ [])
    ∙ ap (λ b. only FEATURES done ++ (if b then x ∷ [] else [])) (eq-eqb x.number FEATURES is))
    ∙ map-append (λ (y : Entry). bytes_of y.content) (only FEATURES done) (x ∷ [])

module _ {Has : List (List ℕ) → List Feature
    → Type 0} {payload_at : ℕ} {keys : List (List ℕ)} {values : List Value} {done : List Entry} {count : ℕ}
    (x : Entry) (so_far : AreFeaturesHeld Has payload_at keys values done count) where
  pub feature_skipped : x.number ≢ FEATURES → AreFeaturesHeld Has payload_at keys values (done ++ x ∷ []) count
  feature_skipped other = record {
    features = so_far.features;
    so_far = so_far_skip FEATURES (feature_rules_of payload_at keys values) (HoldsFeature keys values) done
        so_far.features x so_far.so_far other;
    counted = so_far.counted;
    has = subst (λ payloads. Has payloads so_far.features) (sym (payloads_skipped done x other)) so_far.has;
  }

  pub features_few : (payload : List ℕ) (to_come : Parts) → Walk payload to_come done → length payload < 2 ^ 32 → count < 2 ^ 32
  features_few payload to_come walk small =
      let few = selected_few payload to_come done FEATURES walk small in
      omega (arith, so_far.counted, length-related (HoldsFeature keys values) (only FEATURES done) so_far.features so_far.so_far.1)

  pub feature_stops : (more : List Entry) (index : ℕ) (e : MessageError) → x.number ≡ FEATURES → index ≡ count
      → Reports (fault_of e) (option_map (in_feature index) (feature_fault (bytes_of x.content) (payload_at + x.body) keys values))
      → Reports (fault_of e) (features_fault payload_at keys values ((done ++ x ∷ []) ++ more))
  feature_stops more index e is index_is reported_here =
      let earlier = only FEATURES done in
      let count_is : index ≡ length earlier =
      index_is ∙ so_far.counted ∙ sym (length-related (HoldsFeature keys values) earlier so_far.features so_far.so_far.1) in
      let fault = feature_fault (bytes_of x.content) (payload_at + x.body) keys values in
      let reported = ap (λ n. option_map (in_feature n) fault) count_is ∙ sym (feature_reported payload_at keys values earlier x) in
      selected_stops FEATURES (feature_rules_of payload_at keys values) e done x more is so_far.so_far.0
      (subst (Reports (fault_of e)) reported reported_here)

  pub feature_held : (New : List (List ℕ) → List Feature → Type 0) (feature : Feature) → x.number ≡ FEATURES
      → IsFeatureOf (bytes_of x.content) keys values feature
      → feature_fault (bytes_of x.content) (payload_at + x.body) keys values ≡ None
      → New (payloads_in done ++ bytes_of x.content ∷ []) (so_far.features ++ feature ∷ [])
      → AreFeaturesHeld New payload_at keys values (done ++ x ∷ []) (count + 1)
  feature_held New feature is holds clean has =
      let earlier = only FEATURES done in
      let none = feature_reported payload_at keys values earlier x ∙ ap (option_map (in_feature (length earlier))) clean in
      record {
        features = so_far.features ++ feature ∷ [];
        so_far = so_far_take FEATURES (feature_rules_of payload_at keys values) (HoldsFeature keys values) done so_far.features x feature
            so_far.so_far is none holds;
        counted = omega (arith, length_push so_far.features feature, so_far.counted);
        has = subst (λ payloads. New payloads (so_far.features ++ feature ∷ [])) (sym (payloads_more done x is)) has;
      }

-- when all are counted, the fields to come hold none
pub features_end : {Has : List (List ℕ) → List Feature
    → Type 0} {payload_at : ℕ} {keys : List (List ℕ)} {values : List Value} {payload : List ℕ}
    {to_come : Parts}
    {done : List Entry} {count features : ℕ} → Walk payload to_come done → AreFeaturesHeld Has payload_at keys values done count
    → count ≡ features
    → features ≡ length (only FEATURES (split payload).fields) → AreFeaturesHeld Has payload_at keys values (split payload).fields count
features_end {Has} {payload_at} {keys} {values} {payload} {to_come} {done} walk so_far all counted =
    let related = length-related (HoldsFeature keys values) (only FEATURES done) so_far.features so_far.so_far.1 in
    let fields = walk.fields in
    let whole = ap (λ xs. length (only FEATURES xs)) fields in
    let same = ap (only FEATURES) fields
    ∙ none_left FEATURES done to_come.fields (related ∙ sym so_far.counted ∙ all ∙ counted ∙ whole) in
    record {
      features = so_far.features;
      so_far =
          subst (λ xs. (first (each (feature_rules_of payload_at keys values) [] xs) ≡ None)
          × AreRelated (HoldsFeature keys values) xs so_far.features)
          (sym same) so_far.so_far;
      counted = so_far.counted;
      has = subst (λ xs. Has (map (λ (x : Entry). bytes_of x.content) xs) so_far.features) (sym same) so_far.has;
    }
