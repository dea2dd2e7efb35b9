-- The laws of features, from those of tags and of geometries.
use Rattle.std.proofs.Common.{◌≡◌, ℕ, ◌+◌, ◌^◌, ◌==◌, ◌↔◌, true, not, nat_lt, List, [], ◌∷◌, Some, None, refl, sym, ◌∙◌, subst, arith}
use Rattle.std.specs.List.{AllByRecursion}
use Rattle.mvt_base.specs.Rules.{AreOrdered, IsLeast, when, map_faults, first}
use Rattle.mvt_base.proofs.OrderLemmas.{first_is_least, least_is_first, AreRowsFrom, rows_ordered, each_ordered, map_faults_ordered, under_ordered, when_ordered}
use Rattle.mvt_base.proofs.RuleLemmas.{first-under, option_or-nones}
use Rattle.mvt_base.proofs.TableLemmas.{none_mapped, each_none, by_number, if_ordered}
use Rattle.mvt_base.proofs.SelectionLemmas.{all_only}
use Rattle.mvt_attrs.specs.Values.{Value}
use Rattle.mvt_attrs.specs.Tags.{Resolved}
use Rattle.mvt_geometry.specs.Drawing.{Draws}
use Rattle.mvt_wire.specs.Field.{Content, varint, fixed64, bytes, fixed32, Entry}
use Rattle.mvt_wire.specs.Packed.{packed_rules}
use Rattle.mvt_wire.specs.Split.{split}
use Rattle.mvt_feature.specs.declared.numbers.feature.TheConstants.{ID, TAGS, GEOMETRY}
use Rattle.mvt_feature.specs.declared.cause.Cause.TheVariants.{WrongType, NumberRange}
use Rattle.mvt_feature.specs.declared.feature.Feature.{Feature}
use Rattle.mvt_feature.specs.declared.feature_fields.FeatureFields.{FeatureFields}
use Rattle.mvt_feature.specs.Causes.{of_packed}
use Rattle.mvt_feature.specs.Faults.{MessageFault, fault_at}
use Rattle.mvt_feature.specs.Features.{feature_forms, Joined, number_in, IsFeature, IsFeatureOf}
use Rattle.mvt_feature.specs.FeatureRules.{joined, list_rules, feature_form_rules, feature_field_rules, tag_reported, geometry_reported, kind_in, feature_table, feature_rules, feature_fault}
use Rattle.mvt_feature.specs.Forms.{Form, HasForm, HaveForms, number_rules}
use Rattle.mvt_feature.specs.Selection.{only, last_only, HaveForm}
use Rattle.mvt_feature.proofs.ValueLemmas.{rest_ordered, split_of}
use Rattle.mvt_feature.proofs.FormLemmas.{number_clean, number_ordered, forms_split}
use Rattle.mvt_feature.proofs.FeatureLemmas.{FieldsClean, Says, feature_chain, feature_clean, feature_from, field_clean, all_joined_are, joined_small, joined_is, IsListOf}
use Rattle.mvt_feature.proofs.WalkLemmas.{none_rest}
use Rattle.mvt_wire.proofs.WireLaws.{packed_is_least_ordered}
use Rattle.mvt_attrs.proofs.AttrsLaws.{attributes_or_fault_clean, attributes_or_fault_once, attributes_or_fault_there, rules_in_order_count, rules_in_order_pairs}
use Rattle.mvt_geometry.proofs.GeometryLaws.{drawn_is_faultless, faultless_draws, geometry_ordered, one_geometry}

-- no fault: the payload is a feature
pub feature_there : (payload : List ℕ) (payload_at : ℕ) (keys : List (List ℕ)) (values : List Value)
    → feature_fault payload payload_at keys values ≡ None → (f : Feature) × IsFeatureOf payload keys values f
feature_there payload payload_at keys values h =
    let xs = (split payload).fields in
    let parts = option_or-nones _ _ (sym (feature_chain payload payload_at keys values) ∙ h) in
    let later = option_or-nones _ _ parts.1 in
    let last = option_or-nones _ _ later.1 in
    let rest = none_rest payload_at (split payload) parts.0 in
    let attributes = attributes_or_fault_there keys values (joined TAGS xs) (none_mapped tag_reported _ last.0) in
    let small = joined_small (only GEOMETRY xs) (joined GEOMETRY xs) (joined_is payload_at GEOMETRY xs (λ c e. e) later.0) in
    let geometry = faultless_draws (kind_in xs) (joined GEOMETRY xs) small (none_mapped geometry_reported _ last.1) in
    let known : FeatureFields = record { id = number_in (last_only ID xs); kind = kind_in xs } in
    let says : Says payload payload_at known (joined TAGS xs) (joined GEOMETRY xs) = record {
      whole = rest;
      clean = later.0;
      known_is = record { id = refl; kind = refl; tags_are = refl; integers_are = refl };
    } in
    let f : Feature = record { id = known.id; attributes = attributes.0; geometry = geometry.0 } in
    (f, feature_from says keys values f refl attributes.1 geometry.1)

-- the grammar keeps the rules
pub numbers_clean : (x : Entry) → (x.number ≡ TAGS → IsListOf x) → (x.number ≡ GEOMETRY → IsListOf x)
    → AllByRecursion (λ (known : ℕ × Form). x.number ≡ known.0 → HasForm known.1 x.content) feature_forms
    → first (feature_form_rules x.number x.content) ≡ None
numbers_clean x tags integers known =
    by_number x.number _ _ TAGS tags
    (by_number x.number _ _ GEOMETRY integers
    (first-under 0 (number_rules feature_forms x.number x.content) ∙ number_clean feature_forms x.number x.content known))

all_clean : (payload_at : ℕ) (xs : List Entry) → HaveForm TAGS (λ c. first (list_rules c) ≡ None) xs
    → HaveForm GEOMETRY (λ c. first (list_rules c) ≡ None) xs → HaveForms feature_forms xs
    → AllByRecursion (λ (x : Entry). first (feature_field_rules payload_at x) ≡ None) xs
all_clean payload_at [] tags integers forms = tt
all_clean payload_at (x ∷ xs) tags integers forms =
    let parts = forms_split feature_forms x xs forms in
    (field_clean payload_at x (numbers_clean x tags.0 integers.0 parts.0), all_clean payload_at xs tags.1 integers.1 parts.1)

pub fields_clean : (payload_at : ℕ) (xs : List Entry) (keys : List (List ℕ)) (values : List Value) (f : Feature)
    → IsFeature xs keys values f → FieldsClean payload_at xs
fields_clean payload_at xs keys values f is =
    let lists =
    λ (k : ℕ) (ns : List ℕ) (are : Joined (only k xs) ns).
    all_only (λ (x : Entry). x.number) (λ (x : Entry). first (list_rules x.content) ≡ None) k xs
    (all_joined_are (only k xs) ns are).0 in
    each_none (feature_field_rules payload_at) [] xs
    (all_clean payload_at xs (lists TAGS is.tags is.tags_are) (lists GEOMETRY is.integers is.integers_are) is.forms)

pub feature_keeps : (payload : List ℕ) (payload_at : ℕ) (keys : List (List ℕ)) (values : List Value) (f : Feature)
    → IsFeatureOf payload keys values f → feature_fault payload payload_at keys values ≡ None
feature_keeps payload payload_at keys values f (xs, whole, is) =
    let only_split = split_of payload xs whole in
    let known : FeatureFields = record { id = f.id; kind = kind_in xs } in
    let says : Says payload payload_at known is.tags is.integers = record {
      whole = only_split.1;
      clean = rw only_split.0 (fields_clean payload_at xs keys values f is);
      known_is = rw only_split.0 (record {
        id = is.id;
        kind = refl;
        tags_are = (all_joined_are (only TAGS xs) is.tags is.tags_are).1;
        integers_are = (all_joined_are (only GEOMETRY xs) is.integers is.integers_are).1;
      });
    } in
    feature_clean says keys values (attributes_or_fault_clean keys values is.tags f.attributes is.attributes)
    (drawn_is_faultless (kind_in xs) is.integers f.geometry is.geometry)

-- at most one feature
same_features : (f g : Feature) → f.id ≡ g.id → f.attributes ≡ g.attributes → f.geometry ≡ g.geometry → f ≡ g
same_features f g id attributes geometry = rw (← id, ← attributes, ← geometry) refl

pub feature_same : (xs : List Entry) (keys : List (List ℕ)) (values : List Value) (f g : Feature)
    → IsFeature xs keys values f → IsFeature xs keys values g → f ≡ g
feature_same xs keys values f g a b =
    let tags : b.tags ≡ a.tags =
    (all_joined_are (only TAGS xs) b.tags b.tags_are).1 ∙ sym (all_joined_are (only TAGS xs) a.tags a.tags_are).1 in
    let integers : b.integers ≡ a.integers =
    (all_joined_are (only GEOMETRY xs) b.integers b.integers_are).1
    ∙ sym (all_joined_are (only GEOMETRY xs) a.integers a.integers_are).1 in
    same_features f g (a.id ∙ sym b.id)
    (attributes_or_fault_once keys values a.tags f.attributes g.attributes a.attributes
    (subst (λ t. Resolved keys values t g.attributes) tags b.attributes))
    (one_geometry (kind_in xs) a.integers f.geometry g.geometry a.geometry
    (subst (λ i. Draws (kind_in xs) i g.geometry) integers b.geometry))

pub feature_once : (payload : List ℕ) (keys : List (List ℕ)) (values : List Value) (f g : Feature)
    → IsFeatureOf payload keys values f → IsFeatureOf payload keys values g → f ≡ g
feature_once payload keys values f g (xs, whole, is) (ys, also_whole, also_is) =
    let a = split_of payload xs whole in
    let b = split_of payload ys also_whole in
    feature_same xs keys values f g is (subst (λ zs. IsFeature zs keys values g) (sym b.0 ∙ a.0) also_is)

-- the table is in order
list_ordered : (c : Content) → AreOrdered (list_rules c)
list_ordered (varint n) = under_ordered 1 _ (under_ordered 0 _ (when_ordered (not (nat_lt n (2 ^ 32))) NumberRange))
list_ordered (bytes d) =
    under_ordered 1 (map_faults of_packed (packed_rules d)) (map_faults_ordered of_packed (packed_rules d) (packed_is_least_ordered d))
list_ordered (fixed64 n) = under_ordered 0 (when true WrongType) (when_ordered true WrongType)
list_ordered (fixed32 n) = under_ordered 0 (when true WrongType) (when_ordered true WrongType)

rules_ordered : (n : ℕ) (c : Content) → AreOrdered (feature_form_rules n c)
rules_ordered n c =
    if_ordered (n == TAGS) _ _ (list_ordered c)
    (if_ordered (n == GEOMETRY) _ _ (list_ordered c)
    (under_ordered 0 (number_rules feature_forms n c) (number_ordered feature_forms n c)))

field_ordered : (payload_at : ℕ) (x : Entry) → AreOrdered (feature_field_rules payload_at x)
unfolding feature_field_rules
field_ordered payload_at x =
    map_faults_ordered (fault_at (payload_at + x.at)) (feature_form_rules x.number x.content) (rules_ordered x.number x.content)

feature_rows : (payload : List ℕ) (payload_at : ℕ) (keys : List (List ℕ)) (values : List Value)
    → AreRowsFrom 0 (feature_table payload payload_at keys values)
feature_rows payload payload_at keys values = (
  omega arith,
  (
    rest_ordered payload_at (split payload),
    (
      omega arith,
      (
        each_ordered (λ _. feature_field_rules payload_at) [] (split payload).fields (λ seen x. field_ordered payload_at x),
        (
          omega arith,
          (
            map_faults_ordered tag_reported _ (rules_in_order_count (joined TAGS (split payload).fields)),
            (
              omega arith,
              (
                map_faults_ordered tag_reported _ (rules_in_order_pairs keys values (joined TAGS (split payload).fields)),
                (
                  omega arith,
                  (
                    map_faults_ordered geometry_reported _
                        (geometry_ordered (kind_in (split payload).fields) (joined GEOMETRY (split payload).fields)),
                    tt,
                  ),
                ),
              ),
            ),
          ),
        ),
      ),
    ),
  ),
)

pub feature_ordered : (payload : List ℕ) (payload_at : ℕ) (keys : List (List ℕ)) (values : List Value)
    → AreOrdered (feature_rules payload payload_at keys values)
unfolding feature_rules
feature_ordered payload payload_at keys values =
    rows_ordered 0 (feature_table payload payload_at keys values) (feature_rows payload payload_at keys values)

pub feature_least : (payload : List ℕ) (payload_at : ℕ) (keys : List (List ℕ)) (values : List Value) (fault : MessageFault)
    → (feature_fault payload payload_at keys values ≡ Some fault) ↔ IsLeast (feature_rules payload payload_at keys values) fault
unfolding feature_fault
feature_least payload payload_at keys values fault =
    let ordered = feature_ordered payload payload_at keys values in (
      λ h. first_is_least (feature_rules payload payload_at keys values) fault ordered h,
      λ h. least_is_first (feature_rules payload payload_at keys values) fault ordered h,
    )
