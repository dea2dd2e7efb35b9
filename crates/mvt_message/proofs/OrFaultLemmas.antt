-- The laws of items, from those of values and of features.
use Rattle.std.proofs.Common.{◌≡◌, ◌≢◌, ℕ, ◌+◌, Bool, true, false, List, [], ◌∷◌, length, Option, Some, None, refl, sym, ap, ap₂, ◌∙◌, subst, arith, if◌then◌else◌}
use Rattle.std.specs.Prelude.{is_none}
use Rattle.std.specs.List.{AllByRecursion}
use Rattle.std.specs.Option.{option_map, option_to_list}
use Rattle.std.proofs.lemmas.Bool.{eqb-true, eqb-false, ne_eqb}
use Rattle.mvt_base.specs.Related.{AreRelated}
use Rattle.mvt_base.specs.Rules.{Rules, AreOrdered, first}
use Rattle.mvt_base.proofs.ListLemmas.{related_once}
use Rattle.mvt_base.proofs.OrderLemmas.{AreRowsFrom, rows_ordered, each_ordered, map_faults_ordered, when_ordered}
use Rattle.mvt_base.proofs.RuleLemmas.{first-when_not, option_or-none, option_or-nones}
use Rattle.mvt_base.proofs.TableLemmas.{when_none, none_each, each_none}
use Rattle.mvt_base.proofs.SelectionLemmas.{last_selected}
use Rattle.mvt_attrs.specs.Values.{Value}
use Rattle.mvt_wire.specs.Field.{Content, varint, fixed64, bytes, fixed32, Entry}
use Rattle.mvt_wire.specs.Split.{split}
use Rattle.mvt_feature.specs.declared.cause.Cause.TheVariants.{NoVersion, NoName}
use Rattle.mvt_feature.specs.declared.feature.Feature.{Feature}
use Rattle.mvt_feature.specs.Faults.{MessageFault, fault_at, in_feature}
use Rattle.mvt_feature.specs.Features.{number_in, number_of}
use Rattle.mvt_feature.specs.FeatureRules.{feature_rules, feature_fault}
use Rattle.mvt_feature.specs.Forms.{uint32, HasForm}
use Rattle.mvt_feature.specs.Selection.{only, last_only, HaveForm}
use Rattle.mvt_feature.specs.ValueRules.{value_rules, value_fault}
use Rattle.mvt_wire.proofs.WireLaws.{one_split, split_function_only, split_function_whole}
use Rattle.mvt_feature.proofs.FeatureLaws.{feature_fault_is_least_ordered, feature_or_fault_clean, feature_or_fault_once, feature_or_fault_there, rests_none, rests_nothing, rests_ordered, value_fault_is_least_ordered, value_or_fault_clean, value_or_fault_once, value_or_fault_there}
use Rattle.mvt_message.specs.declared.numbers.layer.TheConstants.{NAME, FEATURES, VALUES, VERSION}
use Rattle.mvt_message.specs.declared.item.Item.{Item as AnItem}
use Rattle.mvt_message.specs.declared.item.Layer.{Layer as ALayer}
use Rattle.mvt_message.specs.declared.item.Item.TheVariants.{Layer, Foreign}
use Rattle.mvt_message.specs.LayerFields.{bytes_of, version_in, is_two, name_in, extent_in, keys_in, values_in}
use Rattle.mvt_message.specs.ItemRules.{version_rules, layer_field_rules, value_rules_of, feature_rules_of, layer_table, item_table, item_rules, item_fault, payload_names}
use Rattle.mvt_message.specs.Items.{HoldsValue, HoldsFeature, IsLayer, AreItem, IsItem, names_in}
use Rattle.mvt_message.specs.Inner.{forms_fault, no_name_fault, values_fault, features_fault, header_fault, layer_fault}
use Rattle.mvt_message.proofs.ChainLemmas.{item_chain, layer_chain}
use Rattle.mvt_message.proofs.FormLemmas.{versions_form, form_versions, layer_have, have_layer, none_each_reported, each_reported_none, version_ordered, layer_field_ordered}
use Rattle.mvt_message.proofs.SaidLemmas.{values_said}

-- the faults of one value and of one feature are the first of their tables
pub value_first : (payload : List ℕ) (payload_at tag_at : ℕ)
    → value_fault payload payload_at tag_at ≡ first (value_rules payload payload_at tag_at)
unfolding value_fault
value_first payload payload_at tag_at = refl

pub feature_first : (payload : List ℕ) (payload_at : ℕ) (keys : List (List ℕ)) (values : List Value)
    → feature_fault payload payload_at keys values ≡ first (feature_rules payload payload_at keys values)
unfolding feature_fault
feature_first payload payload_at keys values = refl

-- options
pub some_there : {A : Type 0} → (o : Option A) → is_none o ≡ false → (x : A) × (o ≡ Some x)
some_there None h = cc
some_there (Some x) h = (x, refl)

pub two_there : (o : Option ℕ) → is_two o ≡ true → o ≡ Some 2
two_there None h = cc
two_there (Some n) h = ap Some (eqb-true n 2 h)

pub version_there : (xs : List Entry) → HaveForm VERSION (HasForm uint32) xs → is_none (last_only VERSION xs) ≡ false
    → (n : ℕ) × (version_in xs ≡ Some n)
version_there xs forms some =
    let last = some_there (last_only VERSION xs) some in
    let number = of_form last.0.content
    (last_selected (λ (x : Entry). x.number) (λ (x : Entry). HasForm uint32 x.content) VERSION xs last.0 forms last.1) in
    (number.0, ap number_in last.1 ∙ number.1)
  where
    of_form : (c : Content) → HasForm uint32 c → (n : ℕ) × (number_of c ≡ Some n)
    of_form (varint n) h = (n, refl)
    of_form (bytes d) h = absurd h
    of_form (fixed64 n) h = absurd h
    of_form (fixed32 n) h = absurd h

-- what is there for each element
pub related_there : {X Y : Type 0} → (P : X → Type 0) (R : X → Y → Type 0) → ((x : X) → P x → (y : Y) × R x y) → (xs : List X)
    → AllByRecursion P xs → (ys : List Y) × AreRelated R xs ys
related_there P R there [] h = ([], tt)
related_there P R there (x ∷ xs) h =
    let here = there x h.0 in
    let later = related_there P R there xs h.1 in
    (here.0 ∷ later.0, (here.1, later.1))

pub related_left : {X Y : Type 0} → (R : X → Y → Type 0) (P : X → Type 0) → ((x : X) (y : Y) → R x y → P x) → (xs : List X) (ys : List Y)
    → AreRelated R xs ys → AllByRecursion P xs
related_left R P gives [] [] h = tt
related_left R P gives [] (y ∷ ys) h = absurd h
related_left R P gives (x ∷ xs) [] h = absurd h
related_left R P gives (x ∷ xs) (y ∷ ys) h = (gives x y h.0, related_left R P gives xs ys h.1)

-- the rows of values and of features
pub values_there : (payload_at : ℕ) (xs : List Entry) → values_fault payload_at xs ≡ None
    → (values : List Value) × AreRelated HoldsValue (only VALUES xs) values
values_there payload_at xs clean =
    related_there (λ (x : Entry). first (value_rules_of payload_at x) ≡ None) HoldsValue
    (λ x none. value_or_fault_there (bytes_of x.content) (payload_at + x.body) (payload_at + x.at) (value_first _ _ _ ∙ none))
    (only VALUES xs) (none_each (value_rules_of payload_at) [] (only VALUES xs) clean)

pub values_clean : (payload_at : ℕ) (xs : List Entry) (values : List Value) → AreRelated HoldsValue (only VALUES xs) values
    → values_fault payload_at xs ≡ None
values_clean payload_at xs values are =
    each_none (value_rules_of payload_at) [] (only VALUES xs)
    (related_left HoldsValue (λ (x : Entry). first (value_rules_of payload_at x) ≡ None)
    (λ x v is. sym (value_first _ _ _) ∙ value_or_fault_clean (bytes_of x.content) (payload_at + x.body) (payload_at + x.at) v is)
    (only VALUES xs) values are)

abbrev feature_rules_at : ℕ → List (List ℕ) → List Value → Entry → Rules MessageFault
feature_rules_at payload_at keys values x = feature_rules (bytes_of x.content) (payload_at + x.body) keys values

pub features_there : (payload_at : ℕ) (keys : List (List ℕ)) (values : List Value) (xs : List Entry)
    → features_fault payload_at keys values xs ≡ None
    → (features : List Feature) × AreRelated (HoldsFeature keys values) (only FEATURES xs) features
features_there payload_at keys values xs clean =
    related_there (λ (x : Entry). first (feature_rules_at payload_at keys values x) ≡ None) (HoldsFeature keys values)
    (λ x none. feature_or_fault_there (bytes_of x.content) (payload_at + x.body) keys values (feature_first _ _ _ _ ∙ none))
    (only FEATURES xs) (none_each_reported (λ (earlier : List Entry). in_feature (length earlier))
    (feature_rules_at payload_at keys values) [] (only FEATURES xs) clean)

pub features_clean : (payload_at : ℕ) (keys : List (List ℕ)) (values : List Value) (xs : List Entry) (features : List Feature)
    → AreRelated (HoldsFeature keys values) (only FEATURES xs) features → features_fault payload_at keys values xs ≡ None
features_clean payload_at keys values xs features are =
    each_reported_none (λ (earlier : List Entry). in_feature (length earlier)) (feature_rules_at payload_at keys values) []
    (only FEATURES xs)
    (related_left (HoldsFeature keys values) (λ (x : Entry). first (feature_rules_at payload_at keys values x) ≡ None)
    (λ x f is. sym (feature_first _ _ _ _) ∙ feature_or_fault_clean (bytes_of x.content) (payload_at + x.body) keys values f is)
    (only FEATURES xs) features are)

-- a layer without a fault is there
pub layer_from : (payload_at : ℕ) (xs : List Entry) (layer : ALayer) (values : List Value) → forms_fault payload_at xs ≡ None
    → name_in xs ≡ Some layer.name → layer.extent ≡ extent_in xs → AreRelated HoldsValue (only VALUES xs) values
    → AreRelated (HoldsFeature (keys_in xs) values) (only FEATURES xs) layer.features → IsLayer xs layer
layer_from payload_at xs layer values clean name extent values_are features =
    record {
      forms = layer_have payload_at xs clean;
      name = name;
      extent = extent;
      values = values;
      values_are = values_are;
      features = features;
    }

layer_there : (payload_at tag_at : ℕ) (xs : List Entry) → layer_fault payload_at tag_at xs ≡ None → (layer : ALayer) × IsLayer xs layer
layer_there payload_at tag_at xs none =
    let parts = option_or-nones _ _ (sym (layer_chain payload_at tag_at xs) ∙ none) in
    let later = option_or-nones _ _ parts.1 in
    let last = option_or-nones _ _ later.1 in
    let end = option_or-nones _ _ last.1 in
    let name = some_there (last_only NAME xs) (when_none (is_none (last_only NAME xs)) (fault_at tag_at NoName) later.0) in
    let values = values_there payload_at xs last.0 in
    let same : values_in xs ≡ values.0 = values_said (only VALUES xs) values.0 values.1 in
    let features = features_there payload_at (keys_in xs) values.0 xs
    (subst (λ vs. features_fault payload_at (keys_in xs) vs xs ≡ None) same end.0) in
    let layer : ALayer = record { name = bytes_of name.0.content; extent = extent_in xs; features = features.0 } in (
      layer,
      layer_from payload_at xs layer values.0 parts.0
          (ap (option_map (λ (x : Entry). bytes_of x.content)) name.1) refl values.1 features.1,
    )

pub name_there : (xs : List Entry) (name : List ℕ) → name_in xs ≡ Some name → is_none (last_only NAME xs) ≡ false
name_there xs name is = of_option (last_only NAME xs) is
  where
    of_option : (o : Option Entry) → option_map (λ (x : Entry). bytes_of x.content) o ≡ Some name → is_none o ≡ false
    of_option None h = cc
    of_option (Some x) h = refl

pub layer_clean : (payload_at tag_at : ℕ) (xs : List Entry) → forms_fault payload_at xs ≡ None → no_name_fault tag_at xs ≡ None
    → values_fault payload_at xs ≡ None → features_fault payload_at (keys_in xs) (values_in xs) xs ≡ None
    → layer_fault payload_at tag_at xs ≡ None
layer_clean payload_at tag_at xs forms name values features =
    layer_chain payload_at tag_at xs ∙ option_or-none _ _ forms ∙ option_or-none _ _ name ∙ option_or-none _ _ values
    ∙ option_or-none _ _ features

layer_keeps : (payload_at tag_at : ℕ) (xs : List Entry) (layer : ALayer) → IsLayer xs layer → layer_fault payload_at tag_at xs ≡ None
layer_keeps payload_at tag_at xs layer is =
    let same : values_in xs ≡ is.values = values_said (only VALUES xs) is.values is.values_are in
    layer_clean payload_at tag_at xs (have_layer payload_at xs is.forms) (first-when_not _ _ (name_there xs layer.name is.name))
    (values_clean payload_at xs is.values is.values_are)
    (subst (λ vs. features_fault payload_at (keys_in xs) vs xs ≡ None) (sym same)
    (features_clean payload_at (keys_in xs) is.values xs layer.features is.features))

-- no fault: the payload is an item
abbrev FaultAfter : ℕ → ℕ → List Entry → Bool → Option MessageFault
FaultAfter payload_at tag_at xs two = if two then layer_fault payload_at tag_at xs else None

pub head_clean : (payload : List ℕ) (payload_at tag_at : ℕ) → header_fault payload payload_at tag_at ≡ None
    → ((split payload).rest ≡ []) × HaveForm VERSION (HasForm uint32) (split payload).fields
    × ((n : ℕ) × (version_in (split payload).fields ≡ Some n))
head_clean payload payload_at tag_at none =
    let xs = (split payload).fields in
    let parts = option_or-nones _ _ none in
    let later = option_or-nones _ _ parts.1 in
    let forms = versions_form payload_at xs later.0 in (
      rests_nothing payload_at (split payload) parts.0,
      forms,
      version_there xs forms
          (when_none (is_none (last_only VERSION xs)) (fault_at tag_at NoVersion) later.1),
    )

pub item_from : (payload : List ℕ) (item : AnItem) → (split payload).rest ≡ [] → HaveForm VERSION (HasForm uint32) (split payload).fields
    → AreItem (split payload).fields payload item → IsItem payload item
unfolding IsItem
item_from payload item rest forms are = ((split payload).fields, split_function_whole payload rest, forms, are)

pub item_there : (payload : List ℕ) (payload_at tag_at : ℕ) → item_fault payload payload_at tag_at ≡ None
    → (item : AnItem) × IsItem payload item
item_there payload payload_at tag_at none =
    let parts = option_or-nones _ _ (sym (item_chain payload payload_at tag_at) ∙ none) in
    let head = head_clean payload payload_at tag_at parts.0 in
    by_version (is_two (version_in (split payload).fields)) refl head.0 head.1 head.2 parts.1
  where
    by_version : (two : Bool) → is_two (version_in (split payload).fields) ≡ two → (split payload).rest ≡ []
        → HaveForm VERSION (HasForm uint32) (split payload).fields → ((n : ℕ) × (version_in (split payload).fields ≡ Some n))
        → FaultAfter payload_at tag_at (split payload).fields two ≡ None → (item : AnItem) × IsItem payload item
    by_version true is rest forms version behind =
        let layer = layer_there payload_at tag_at (split payload).fields behind in
        (Layer layer.0, item_from payload (Layer layer.0) rest forms (two_there _ is, layer.1))
    by_version false is rest forms version behind =
        let other : version.0 ≢ 2 = eqb-false version.0 2 (sym (ap is_two version.1) ∙ is) in
        (Foreign version.0 payload, item_from payload (Foreign version.0 payload) rest forms (version.1, other, refl))

-- and a payload that is an item has none
pub last_there : (xs : List Entry) (n : ℕ) → version_in xs ≡ Some n → is_none (last_only VERSION xs) ≡ false
last_there xs n is = of_option (last_only VERSION xs) is
  where
    of_option : (o : Option Entry) → number_in o ≡ Some n → is_none o ≡ false
    of_option None h = cc
    of_option (Some x) h = refl

pub head_keeps : (payload : List ℕ) (payload_at tag_at n : ℕ) → (split payload).rest ≡ []
    → HaveForm VERSION (HasForm uint32) (split payload).fields → version_in (split payload).fields ≡ Some n
    → header_fault payload payload_at tag_at ≡ None
head_keeps payload payload_at tag_at n rest forms version =
    option_or-none _ _ (rests_none payload_at (split payload) rest)
    ∙ option_or-none _ _ (form_versions payload_at (split payload).fields forms)
    ∙ first-when_not _ _ (last_there (split payload).fields n version)

pub item_of_layer : (payload : List ℕ) (payload_at tag_at : ℕ) → header_fault payload payload_at tag_at ≡ None
    → version_in (split payload).fields ≡ Some 2
    → item_fault payload payload_at tag_at ≡ layer_fault payload_at tag_at (split payload).fields
item_of_layer payload payload_at tag_at head version =
    item_chain payload payload_at tag_at ∙ option_or-none _ _ head
    ∙ ap (FaultAfter payload_at tag_at (split payload).fields) (ap is_two version)

pub item_of_other : (payload : List ℕ) (payload_at tag_at n : ℕ) → header_fault payload payload_at tag_at ≡ None
    → version_in (split payload).fields ≡ Some n → n ≢ 2 → item_fault payload payload_at tag_at ≡ None
item_of_other payload payload_at tag_at n head version other =
    item_chain payload payload_at tag_at ∙ option_or-none _ _ head
    ∙ ap (FaultAfter payload_at tag_at (split payload).fields) (ap is_two version ∙ ne_eqb n 2 other)

pub item_keeps : (payload : List ℕ) (payload_at tag_at : ℕ) (item : AnItem) → IsItem payload item
    → item_fault payload payload_at tag_at ≡ None
unfolding IsItem
item_keeps payload payload_at tag_at item (xs, whole, forms, are) =
    let only_split = split_function_only payload [] xs whole in
    let here : AreItem (split payload).fields payload item = subst (λ fs. AreItem fs payload item) only_split.0 are in
    by_item item (sym only_split.1) (subst (HaveForm VERSION (HasForm uint32)) only_split.0 forms) here
  where
    by_item : (i : AnItem) → (split payload).rest ≡ [] → HaveForm VERSION (HasForm uint32) (split payload).fields
        → AreItem (split payload).fields payload i → item_fault payload payload_at tag_at ≡ None
    by_item (Layer layer) rest form is =
        item_of_layer payload payload_at tag_at (head_keeps payload payload_at tag_at 2 rest form is.0) is.0
        ∙ layer_keeps payload_at tag_at (split payload).fields layer is.1
    by_item (Foreign version content) rest form is =
        item_of_other payload payload_at tag_at version (head_keeps payload payload_at tag_at version rest form is.0) is.0 is.1

-- at most one item
same_layers : (k l : ALayer) → k.name ≡ l.name → k.extent ≡ l.extent → k.features ≡ l.features → k ≡ l
same_layers k l name extent features = rw (← name, ← extent, ← features) refl

layer_same : (xs : List Entry) (k l : ALayer) → IsLayer xs k → IsLayer xs l → k ≡ l
layer_same xs k l a b =
    let names : Some k.name ≡ Some l.name = sym a.name ∙ b.name in
    let name : k.name ≡ l.name = cc in
    let values : a.values ≡ b.values =
    related_once HoldsValue (λ x v w is also_is. value_or_fault_once (bytes_of x.content) v w is also_is)
    (only VALUES xs) a.values b.values a.values_are b.values_are in
    same_layers k l name (a.extent ∙ sym b.extent)
    (related_once (HoldsFeature (keys_in xs) b.values)
    (λ x f g is also_is. feature_or_fault_once (bytes_of x.content) (keys_in xs) b.values f g is also_is)
    (only FEATURES xs) k.features l.features
    (subst (λ vs. AreRelated (HoldsFeature (keys_in xs) vs) (only FEATURES xs) k.features) values a.features) b.features)

same_items : (xs : List Entry) (payload : List ℕ) (i j : AnItem) → AreItem xs payload i → AreItem xs payload j → i ≡ j
same_items xs payload (Layer k) (Layer l) a b = ap Layer (layer_same xs k l a.1 b.1)
same_items xs payload (Layer k) (Foreign n d) a b = let e : Some 2 ≡ Some n = sym a.0 ∙ b.0 in let f : n ≡ 2 = cc in absurd (b.1 f)
same_items xs payload (Foreign n d) (Layer l) a b = let e : Some n ≡ Some 2 = sym a.0 ∙ b.0 in let f : n ≡ 2 = cc in absurd (a.1 f)
same_items xs payload (Foreign m c) (Foreign n d) a b =
    let e : Some m ≡ Some n = sym a.0 ∙ b.0 in
    let f : m ≡ n = cc in
    ap₂ Foreign f (a.2 ∙ sym b.2)

pub item_once : (payload : List ℕ) (i j : AnItem) → IsItem payload i → IsItem payload j → i ≡ j
unfolding IsItem
item_once payload i j (xs, whole, forms, are) (ys, also_whole, also_forms, also_are) =
    same_items xs payload i j are (subst (λ zs. AreItem zs payload j) (sym (one_split payload xs ys [] [] whole also_whole).0) also_are)

-- the names
pub names_same : (payload : List ℕ) (item : AnItem) → IsItem payload item → names_in item ≡ payload_names payload
unfolding IsItem payload_names
names_same payload item (xs, whole, forms, are) =
    by_item item (subst (λ fs. AreItem fs payload item) (split_function_only payload [] xs whole).0 are)
  where
    by_item : (i : AnItem) → AreItem (split payload).fields payload i
        → names_in i ≡ (if is_two (version_in (split payload).fields) then option_to_list (name_in (split payload).fields) else [])
    by_item (Layer layer) is =
        sym (ap (λ (t : Bool). if t then option_to_list (name_in (split payload).fields) else []) (ap is_two is.0)
        ∙ ap option_to_list is.1.name)
    by_item (Foreign version content) is =
        sym (ap (λ (t : Bool). if t then option_to_list (name_in (split payload).fields) else []) (ap is_two is.0 ∙ ne_eqb version 2 is.1))

-- the table is in order
layer_rows : (payload_at tag_at : ℕ) (xs : List Entry) (two : Bool) → AreRowsFrom 5 (if two then layer_table payload_at tag_at xs else [])
layer_rows payload_at tag_at xs false = tt
layer_rows payload_at tag_at xs true = (
  omega arith,
  (
    each_ordered (λ _. layer_field_rules payload_at) [] xs (λ seen x. layer_field_ordered payload_at x),
    (
      omega arith,
      (
        when_ordered (is_none (last_only NAME xs)) (fault_at tag_at NoName),
        (
          omega arith,
          (
            each_ordered (λ _. value_rules_of payload_at) [] (only VALUES xs)
                (λ seen x. value_fault_is_least_ordered (bytes_of x.content) (payload_at + x.body) (payload_at + x.at)),
            (
              omega arith,
              (
                each_ordered (feature_rules_of payload_at (keys_in xs) (values_in xs)) [] (only FEATURES xs)
                    (λ seen x. map_faults_ordered (in_feature (length seen)) _
                    (feature_fault_is_least_ordered (bytes_of x.content) (payload_at + x.body) (keys_in xs) (values_in xs))),
                tt,
              ),
            ),
          ),
        ),
      ),
    ),
  ),
)

item_rows : (payload : List ℕ) (payload_at tag_at : ℕ) → AreRowsFrom 0 (item_table payload payload_at tag_at)
item_rows payload payload_at tag_at = (
  omega arith,
  (
    rests_ordered payload_at (split payload),
    (
      omega arith,
      (
        each_ordered (λ _. version_rules payload_at) [] (split payload).fields (λ seen x. version_ordered payload_at x),
        (
          omega arith,
          (
            when_ordered (is_none (last_only VERSION (split payload).fields)) (fault_at tag_at NoVersion),
            layer_rows payload_at tag_at (split payload).fields (is_two (version_in (split payload).fields)),
          ),
        ),
      ),
    ),
  ),
)

pub item_ordered : (payload : List ℕ) (payload_at tag_at : ℕ) → AreOrdered (item_rules payload payload_at tag_at)
unfolding item_rules
item_ordered payload payload_at tag_at = rows_ordered 0 (item_table payload payload_at tag_at) (item_rows payload payload_at tag_at)

pub item_first : (payload : List ℕ) (payload_at tag_at : ℕ)
    → item_fault payload payload_at tag_at ≡ first (item_rules payload payload_at tag_at)
unfolding item_fault
item_first payload payload_at tag_at = refl
