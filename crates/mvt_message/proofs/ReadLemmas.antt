-- The steps of the walks over a layer's fields.
use Rattle.std.proofs.Common.{◌≡◌, ◌≢◌, ℕ, ◌+◌, ◌^◌, ◌<◌, ◌≤◌, ◌==◌, Bool, true, false, List, [], ◌∷◌, ◌++◌, length, map, Option, Some, None, Result, Ok, Err, refl, sym, ap, ap₂, ◌∙◌, subst, append_assoc, append-nil, arith, if◌then◌else◌, length-append}
use Rattle.std.specs.Prelude.{is_none, unwrap_or}
use Rattle.std.specs.Option.{option_map, option_copied}
use Rattle.std.specs.Result.{is_err}
use Rattle.std.proofs.lemmas.Bool.{eq-eqb, eqb-true, ne_eqb}
use Rattle.std.proofs.lemmas.List.{map-append}
use Rattle.std.proofs.lemmas.List.Elements.{filter-append}
use Rattle.mvt_attrs.specs.FirstUses.{lent}
use Rattle.mvt_base.specs.Reports.{Reports}
use Rattle.mvt_base.specs.Related.{AreRelated}
use Rattle.mvt_base.specs.Rules.{Rules, each, first}
use Rattle.mvt_base.proofs.ReportsLemmas.{reports_as, reports_or, or_reports}
use Rattle.mvt_base.proofs.ListLemmas.{related-append}
use Rattle.mvt_base.proofs.RuleLemmas.{each_more, each_stops, first-map_faults, first-when, first-when_not, option_or-none, option_or-nones, option_or-some}
use Rattle.mvt_base.proofs.SelectionLemmas.{last_only-more}
use Rattle.mvt_attrs.specs.Values.{Value}
use Rattle.mvt_wire.specs.declared.fault.WireFault.{WireFault}
use Rattle.mvt_wire.specs.Field.{Entry}
use Rattle.mvt_wire.specs.Fields.{GivesEntry}
use Rattle.mvt_wire.specs.Split.{Parts, split}
use Rattle.mvt_feature.specs.declared.cause.Cause.TheVariants.{NoVersion, NoName}
use Rattle.mvt_feature.specs.declared.message_error.MessageError.{MessageError}
use Rattle.mvt_feature.specs.Faults.{MessageFault, fault_at, in_feature, fault_of}
use Rattle.mvt_feature.specs.Features.{number_in, number_of}
use Rattle.mvt_feature.specs.FeatureRules.{feature_rules, feature_fault}
use Rattle.mvt_feature.specs.Forms.{uint32, form_rules, number_rules}
use Rattle.mvt_feature.specs.Selection.{only, last_only}
use Rattle.mvt_feature.specs.Walks.{Walk}
use Rattle.mvt_wire.proofs.WireLaws.{split_function_count}
use Rattle.mvt_feature.proofs.FeatureLaws.{number_more, rests_none, rests_nothing, walks_end, walks_fault}
use Rattle.mvt_feature.specs.Causes.{of_wire}
use Rattle.mvt_message.specs.declared.numbers.layer.TheConstants.{NAME, FEATURES, KEYS, VALUES, EXTENT, VERSION}
use Rattle.mvt_message.specs.declared.layer_header.LayerHeader.{LayerHeader}
use Rattle.mvt_message.specs.declared.item.Layer.{Layer as ALayer}
use Rattle.mvt_message.specs.declared.item.Item.TheVariants.{Layer, Foreign}
use Rattle.mvt_message.specs.LayerFields.{version_forms, layer_forms, bytes_of, version_in, name_in, extent_in, keys_in, values_in}
use Rattle.mvt_message.specs.ItemRules.{version_rules, layer_field_rules, feature_rules_of, item_fault}
use Rattle.mvt_message.specs.Items.{HoldsValue, HoldsFeature, IsLayer, IsItem}
use Rattle.mvt_message.specs.Inner.{rest_fault, versions_fault, forms_fault, no_name_fault, values_fault, features_fault, header_fault, layer_fault, IsVersionSoFar, IsLayerHeader, header_forms, version_after, name_after, extent_after, keys_at, features_after, AreValuesSoFar}
use Rattle.mvt_message.proofs.ChainLemmas.{item_chain, layer_chain}
use Rattle.mvt_message.proofs.FormLemmas.{versions_form}
use Rattle.mvt_message.proofs.SaidLemmas.{values_said}
use Rattle.mvt_message.proofs.OrFaultLemmas.{last_there, name_there, feature_first, version_there, head_clean, layer_from, layer_clean, item_of_layer, item_from}

-- the selected fields with one more
only_take : (k : ℕ) (done : List Entry) (x : Entry) → x.number ≡ k → only k (done ++ x ∷ []) ≡ only k done ++ x ∷ []
only_take k done x is =
    filter-append (λ (y : Entry). y.number == k) done (x ∷ []) ∙ ap (λ b. only k done ++ (if b then x ∷ [] else [])) (eq-eqb x.number k is)

only_skip : (k : ℕ) (done : List Entry) (x : Entry) → x.number ≢ k → only k (done ++ x ∷ []) ≡ only k done
only_skip k done x not_is =
    filter-append (λ (y : Entry). y.number == k) done (x ∷ [])
    ∙ ap (λ b. only k done ++ (if b then x ∷ [] else [])) (ne_eqb x.number k not_is) ∙ append-nil (only k done)

-- an element's fault stays whatever fields follow
pub selected_stops : (k : ℕ) (rules : List Entry → Entry → Rules MessageFault) (e : MessageError) (done : List Entry) (x : Entry)
    (more : List Entry) → x.number ≡ k → first (each rules [] (only k done)) ≡ None → Reports (fault_of e) (first (rules (only k done) x))
    → Reports (fault_of e) (first (each rules [] (only k ((done ++ x ∷ []) ++ more))))
selected_stops k rules e done x more is clean reported_here =
    let parts : only k ((done ++ x ∷ []) ++ more) ≡ only k done ++ (x ∷ [] ++ only k more) =
    filter-append (λ (y : Entry). y.number == k) (done ++ x ∷ []) more ∙ ap (λ xs. xs ++ only k more) (only_take k done x is)
    ∙ append_assoc (only k done) (x ∷ []) (only k more) in
    reports_as (fault_of e) (first (rules (only k done) x)) _
    (λ f broken. ap (λ xs. first (each rules [] xs)) parts ∙ each_stops rules (only k done) x (only k more) f clean broken) reported_here

each_reported : (rules : Entry → Rules MessageFault) (e : MessageError) (done : List Entry) (x : Entry) (more : List Entry)
    → first (each (λ _. rules) [] done) ≡ None → Reports (fault_of e) (first (rules x))
    → Reports (fault_of e) (first (each (λ _. rules) [] ((done ++ x ∷ []) ++ more)))
each_reported rules e done x more clean reported_here =
    reports_as (fault_of e) (first (rules x)) _ (λ f broken. rw append_assoc (each_stops (λ _. rules) done x more f clean broken))
    reported_here

-- the elements of a number so far break no rule, and are these
abbrev pub AreSoFar : {Y : Type 0} → ℕ → (List Entry → Entry → Rules MessageFault) → (Entry → Y → Type 0) → List Entry → List Y → Type 0
AreSoFar k rules Holds done ys = (first (each rules [] (only k done)) ≡ None) × AreRelated Holds (only k done) ys

pub so_far_skip : {Y : Type 0} → (k : ℕ) (rules : List Entry → Entry → Rules MessageFault) (Holds : Entry → Y → Type 0)
    (done : List Entry) (ys : List Y) (x : Entry) → AreSoFar k rules Holds done ys → x.number ≢ k
    → AreSoFar k rules Holds (done ++ x ∷ []) ys
so_far_skip k rules Holds done ys x so_far other =
    subst (λ xs. (first (each rules [] xs) ≡ None) × AreRelated Holds xs ys) (sym (only_skip k done x other)) so_far

pub so_far_take : {Y : Type 0} → (k : ℕ) (rules : List Entry → Entry → Rules MessageFault) (Holds : Entry → Y → Type 0)
    (done : List Entry) (ys : List Y) (x : Entry) (y : Y) → AreSoFar k rules Holds done ys → x.number ≡ k
    → first (rules (only k done) x) ≡ None → Holds x y → AreSoFar k rules Holds (done ++ x ∷ []) (ys ++ y ∷ [])
so_far_take k rules Holds done ys x y so_far is clean holds =
    let related = related-append Holds (only k done) ys (x ∷ []) (y ∷ []) so_far.1 (holds, tt) in
    let none = each_more rules (only k done) x so_far.0 ∙ clean in
    subst (λ xs. (first (each rules [] xs) ≡ None) × AreRelated Holds xs (ys ++ y ∷ [])) (sym (only_take k done x is)) (none, related)

-- versions
version_first : (payload_at : ℕ) (x : Entry) (b : Bool) → (x.number == VERSION) ≡ b
    → first (version_rules payload_at x) ≡ option_map (fault_at (payload_at + x.at)) (first (if b then form_rules uint32 x.content else []))
unfolding version_rules
version_first payload_at x b test =
    first-map_faults (fault_at (payload_at + x.at)) (number_rules version_forms x.number x.content)
    ∙ ap (λ (t : Bool). option_map (fault_at (payload_at + x.at)) (first (if t then form_rules uint32 x.content else []))) test

version_of_forms : (payload_at : ℕ) (x : Entry)
    → first (version_rules payload_at x) ≡ option_map (fault_at (payload_at + x.at)) (first (number_rules version_forms x.number x.content))
unfolding version_rules
version_of_forms payload_at x = first-map_faults (fault_at (payload_at + x.at)) (number_rules version_forms x.number x.content)

version_more : (done : List Entry) (x : Entry) (b : Bool) → (x.number == VERSION) ≡ b
    → version_in (done ++ x ∷ []) ≡ (if b then number_of x.content else version_in done)
version_more done x b test = number_more VERSION done x ∙ ap (λ (t : Bool). if t then number_of x.content else version_in done) test

pub version_skip : (payload_at : ℕ) (done : List Entry) (v : Option ℕ) (x : Entry) → IsVersionSoFar payload_at done (Ok v)
    → x.number ≢ VERSION → IsVersionSoFar payload_at (done ++ x ∷ []) (Ok v)
version_skip payload_at done v x so_far other =
    let test = ne_eqb x.number VERSION other in (
      each_more (λ _. version_rules payload_at) done x so_far.0 ∙ version_first payload_at x false test,
      so_far.1 ∙ sym (version_more done x false test),
    )

pub version_take : (payload_at : ℕ) (done : List Entry) (v : Option ℕ) (x : Entry) (n : ℕ) → IsVersionSoFar payload_at done (Ok v)
    → x.number ≡ VERSION → number_of x.content ≡ Some n → first (form_rules uint32 x.content) ≡ None
    → IsVersionSoFar payload_at (done ++ x ∷ []) (Ok (Some n))
version_take payload_at done v x n so_far is number clean =
    let test = eq-eqb x.number VERSION is in
    let none = version_first payload_at x true test ∙ ap (option_map (fault_at (payload_at + x.at))) clean in
    (each_more (λ _. version_rules payload_at) done x so_far.0 ∙ none, sym (version_more done x true test ∙ number))

pub version_stops : (payload_at : ℕ) (done : List Entry) (v : Option ℕ) (x : Entry) (e : MessageError)
    → IsVersionSoFar payload_at done (Ok v) → x.number ≡ VERSION
    → Reports (fault_of e) (option_map (fault_at (payload_at + x.at)) (first (form_rules uint32 x.content))) → (more : List Entry)
    → Reports (fault_of e) (versions_fault payload_at ((done ++ x ∷ []) ++ more))
version_stops payload_at done v x e so_far is reported_here more =
    let here = subst (Reports (fault_of e)) (sym (version_first payload_at x true (eq-eqb x.number VERSION is))) reported_here in
    each_reported (version_rules payload_at) e done x more so_far.0 here

-- a fault stays
pub fault_stays : (fault : List Entry → Option MessageFault) (done : List Entry) (x : Entry) (e : MessageError)
    → ((more : List Entry) → Reports (fault_of e) (fault (done ++ more))) → (more : List Entry)
    → Reports (fault_of e) (fault ((done ++ x ∷ []) ++ more))
fault_stays fault done x e stays more = subst (λ xs. Reports (fault_of e) (fault xs))
    (sym (append_assoc done (x ∷ []) more)) (stays (x ∷ more))

-- at the end of a walk a fault is that of all fields
pub or_reported : (fault : List Entry → Option MessageFault) (done : List Entry) (e : MessageError)
    → ((more : List Entry) → Reports (fault_of e) (fault (done ++ more))) → Reports (fault_of e) (fault done)
or_reported fault done e stays = subst (λ xs. Reports (fault_of e) (fault xs)) (append-nil done) (stays [])

-- the version so far with a field of another number, or after a fault
pub version_passes : (payload_at : ℕ) (done : List Entry) (v : Result (Option ℕ) MessageError) (x : Entry)
    → IsVersionSoFar payload_at done v → x.number ≢ VERSION → IsVersionSoFar payload_at (done ++ x ∷ []) v
version_passes payload_at done (Ok v) x so_far other = version_skip payload_at done v x so_far other
version_passes payload_at done (Err e) x stays other = fault_stays (versions_fault payload_at) done x e stays

pub version_stays : (payload_at : ℕ) (done : List Entry) (v : Result (Option ℕ) MessageError) (x : Entry) → true ≡ is_err v
    → IsVersionSoFar payload_at done v → IsVersionSoFar payload_at (done ++ x ∷ []) v
version_stays payload_at done (Ok v) x broken so_far = absurd (let clash : true ≡ false = broken in cc)
version_stays payload_at done (Err e) x broken stays = fault_stays (versions_fault payload_at) done x e stays

pub version_clean : (payload_at : ℕ) (done : List Entry) (v : Result (Option ℕ) MessageError) → false ≡ is_err v
    → IsVersionSoFar payload_at done v → (o : Option ℕ) × IsVersionSoFar payload_at done (Ok o)
version_clean payload_at done (Ok v) whole so_far = (v, so_far)
version_clean payload_at done (Err e) whole stays = absurd (let clash : false ≡ true = whole in cc)

-- the head
form_first : (payload_at : ℕ) (x : Entry)
    → first (layer_field_rules payload_at x)
    ≡ option_map (fault_at (payload_at + x.at)) (first (number_rules layer_forms x.number x.content))
unfolding layer_field_rules
form_first payload_at x = first-map_faults (fault_at (payload_at + x.at)) (number_rules layer_forms x.number x.content)

name_more : (done : List Entry) (x : Entry) → name_in (done ++ x ∷ []) ≡ name_after (name_in done) x.number x.content
name_more done x =
    ap (option_map (λ (y : Entry). bytes_of y.content)) (last_only-more (λ (y : Entry). y.number) NAME done x) ∙ by_test (x.number == NAME)
  where
    by_test : (b : Bool) → option_map (λ (y : Entry). bytes_of y.content) (if b then Some x else last_only NAME done)
        ≡ (if b then Some (bytes_of x.content) else name_in done)
    by_test true = refl
    by_test false = refl

extent_more : (done : List Entry) (x : Entry) → extent_in (done ++ x ∷ []) ≡ extent_after (extent_in done) x.number x.content
extent_more done x = ap (λ o. unwrap_or o 4096) (number_more EXTENT done x) ∙ by_test (x.number == EXTENT)
  where
    by_test : (b : Bool) → unwrap_or (if b then number_of x.content else number_in (last_only EXTENT done)) 4096
        ≡ (if b then unwrap_or (number_of x.content) 4096 else extent_in done)
    by_test true = refl
    by_test false = refl

keys_more : (done : List Entry) (x : Entry) → keys_in (done ++ x ∷ []) ≡ keys_in done ++ keys_at x.number x.content
keys_more done x =
    ap (map (λ (y : Entry). bytes_of y.content)) (filter-append (λ (y : Entry). y.number == KEYS) done (x ∷ []))
    ∙ map-append (λ (y : Entry). bytes_of y.content) (only KEYS done) (only KEYS (x ∷ []))
    ∙ ap (λ l. keys_in done ++ l) (by_test (x.number == KEYS))
  where
    by_test : (b : Bool) → map (λ (y : Entry). bytes_of y.content) (if b then x ∷ [] else []) ≡ (if b then bytes_of x.content ∷ [] else [])
    by_test true = refl
    by_test false = refl

head_stops : (payload_at : ℕ) (done : List Entry) (x : Entry) (e : MessageError) → forms_fault payload_at done ≡ None
    → Reports (fault_of e) (option_map (fault_at (payload_at + x.at)) (first (number_rules layer_forms x.number x.content)))
    → (more : List Entry) → Reports (fault_of e) (forms_fault payload_at ((done ++ x ∷ []) ++ more))
head_stops payload_at done x e clean reported_here more =
    each_reported (layer_field_rules payload_at) e done x more clean
    (subst (Reports (fault_of e)) (sym (form_first payload_at x)) reported_here)

features_more : (done : List Entry) (x : Entry)
    → length (only FEATURES (done ++ x ∷ [])) ≡ features_after (length (only FEATURES done)) x.number
features_more done x =
    ap length (filter-append (λ (y : Entry). y.number == FEATURES) done (x ∷ []))
    ∙ length-append (only FEATURES done) (only FEATURES (x ∷ []))
    ∙ by_test (x.number == FEATURES)
  where
    by_test : (b : Bool) → length (only FEATURES done) + length (if b then x ∷ [] else [])
        ≡ (if b then length (only FEATURES done) + 1 else length (only FEATURES done))
    by_test true = refl
    by_test false = omega arith

-- with the version
header_forms_clean : (x : Entry) (b : Bool) → (x.number == VERSION) ≡ b → first (number_rules header_forms x.number x.content) ≡ None
    → (first (number_rules version_forms x.number x.content) ≡ None) × (first (number_rules layer_forms x.number x.content) ≡ None)
header_forms_clean x true test clean =
    let is = eqb-true x.number VERSION test in (
      ap (λ (t : Bool). first (if t then form_rules uint32 x.content else [])) test
          ∙ sym (ap (λ (t : Bool). first (if t then form_rules uint32 x.content else number_rules layer_forms x.number x.content)) test)
          ∙ clean,
      ap (λ n. first (number_rules layer_forms n x.content)) is,
    )
header_forms_clean x false test clean = (
  ap (λ (t : Bool). first (if t then form_rules uint32 x.content else [])) test,
  sym (ap (λ (t : Bool). first (if t then form_rules uint32 x.content else number_rules layer_forms x.number x.content)) test) ∙ clean,
)

pub header_start : (payload_at : ℕ) (header : LayerHeader) → header.version ≡ None → option_copied header.name ≡ None
    → header.extent ≡ 4096 → lent header.keys.items ≡ [] → header.features ≡ 0 → IsLayerHeader payload_at [] header
header_start payload_at header version name extent keys features = record {
  version = (refl, version);
  clean = refl;
  name_is = name;
  extent_is = extent;
  keys_are = keys;
  features_are = features;
}

pub header_step : {payload_at : ℕ} {done : List Entry} {old : LayerHeader} (new : LayerHeader) (x : Entry)
    → IsLayerHeader payload_at done old → first (number_rules header_forms x.number x.content) ≡ None
    → new.version ≡ version_after old.version x.number x.content
    → option_copied new.name ≡ name_after (option_copied old.name) x.number x.content
    → new.extent ≡ extent_after old.extent x.number x.content → lent new.keys.items ≡ lent old.keys.items ++ keys_at x.number x.content
    → new.features ≡ features_after old.features x.number → IsLayerHeader payload_at (done ++ x ∷ []) new
header_step {payload_at} {done} new x so_far clean version name extent keys features =
    let forms = header_forms_clean x (x.number == VERSION) refl clean in
    let at = fault_at (payload_at + x.at) in
    record {
      version = (
        each_more (λ _. version_rules payload_at) done x so_far.version.0 ∙ version_of_forms payload_at x ∙ ap (option_map at) forms.0,
        version ∙ ap (λ v. version_after v x.number x.content) so_far.version.1 ∙ sym (number_more VERSION done x),
      );
      clean = each_more (λ _. layer_field_rules payload_at) done x so_far.clean ∙ form_first payload_at x ∙ ap (option_map at) forms.1;
      name_is = name ∙ ap (λ o. name_after o x.number x.content) so_far.name_is ∙ sym (name_more done x);
      extent_is = extent ∙ ap (λ n. extent_after n x.number x.content) so_far.extent_is ∙ sym (extent_more done x);
      keys_are = keys ∙ ap (λ l. l ++ keys_at x.number x.content) so_far.keys_are ∙ sym (keys_more done x);
      features_are = features ∙ ap (λ n. features_after n x.number) so_far.features_are ∙ sym (features_more done x);
    }

-- a fault that is told of none is want of memory
told_of_none : (reported fault there : Option MessageFault) → fault ≡ None → Reports reported fault → Reports reported there
told_of_none reported fault there none h =
    reports_as reported fault there (λ f is. let clash : None ≡ Some f = sym none ∙ is in absurd (cc)) h

pub header_stops : {payload_at : ℕ} {done : List Entry} {old : LayerHeader} (x : Entry) (e : MessageError)
    → IsLayerHeader payload_at done old
    → Reports (fault_of e) (option_map (fault_at (payload_at + x.at)) (first (number_rules header_forms x.number x.content)))
    → (more : List Entry) → versions_fault payload_at ((done ++ x ∷ []) ++ more) ≡ None
    → Reports (fault_of e) (forms_fault payload_at ((done ++ x ∷ []) ++ more))
header_stops {payload_at} {done} {old} x e so_far reported_here more none = by_test (x.number == VERSION) refl
  where
    told : (b : Bool) → (x.number == VERSION) ≡ b
        → Reports (fault_of e) (option_map (fault_at (payload_at + x.at))
        (first (if b then form_rules uint32 x.content else number_rules layer_forms x.number x.content)))
    told b test = subst (λ t. Reports (fault_of e) (option_map (fault_at (payload_at + x.at))
        (first (if t then form_rules uint32 x.content else number_rules layer_forms x.number x.content)))) test reported_here

    by_test : (b : Bool) → (x.number == VERSION) ≡ b → Reports (fault_of e) (forms_fault payload_at ((done ++ x ∷ []) ++ more))
    by_test true test =
        told_of_none (fault_of e) _ _ none
        (version_stops payload_at done old.version x e so_far.version (eqb-true x.number VERSION test) (told true test) more)
    by_test false test = head_stops payload_at done x e so_far.clean (told false test) more

-- where all that are selected are done, the rest has none
pub none_left : (k : ℕ) (done more : List Entry) → length (only k done) ≡ length (only k (done ++ more))
    → only k (done ++ more) ≡ only k done
none_left k done more all =
    let parts = filter-append (λ (y : Entry). y.number == k) done more in
    let count = all ∙ ap length parts ∙ length-append (only k done) (only k more) in
    let none : length (only k more) ≡ 0 = omega arith in
    parts ∙ ap (λ l. only k done ++ l) (nil_of (only k more) none) ∙ append-nil (only k done)
  where
    nil_of : (l : List Entry) → length l ≡ 0 → l ≡ []
    nil_of [] e = refl
    nil_of (x ∷ xs) e = absurd (omega arith)

-- features
pub feature_reported : (payload_at : ℕ) (keys : List (List ℕ)) (values : List Value) (earlier : List Entry) (x : Entry)
    → first (feature_rules_of payload_at keys values earlier x)
    ≡ option_map (in_feature (length earlier)) (feature_fault (bytes_of x.content) (payload_at + x.body) keys values)
feature_reported payload_at keys values earlier x =
    first-map_faults (in_feature (length earlier)) (feature_rules (bytes_of x.content) (payload_at + x.body) keys values)
    ∙ ap (option_map (in_feature (length earlier))) (sym (feature_first (bytes_of x.content) (payload_at + x.body) keys values))

only_few : (k : ℕ) (xs : List Entry) → length (only k xs) ≤ length xs
only_few k [] = omega arith
only_few k (x ∷ xs) = by_test (x.number == k) (only_few k xs)
  where
    by_test : (b : Bool) → length (only k xs) ≤ length xs → length (if b then x ∷ only k xs else only k xs) ≤ length (x ∷ xs)
    by_test true h = omega arith
    by_test false h = omega arith

pub selected_few : (payload : List ℕ) (to_come : Parts) (done : List Entry) (k : ℕ) → Walk payload to_come done → length payload < 2 ^ 32
    → length (only k done) < 2 ^ 32
selected_few payload to_come done k walk small =
    let few = only_few k done in
    let all : length (split payload).fields ≡ length done + length to_come.fields =
    ap length walk.fields ∙ length-append done to_come.fields in
    let count = split_function_count payload in
    omega arith

-- the ends of a walk over the fields of a payload: at a rest, and after the last
pub rest_reported : {payload : List ℕ} {old : Parts} {done : List Entry} {fault : WireFault} (new : Parts) (payload_at tag_at : ℕ)
    → Walk payload old done → GivesEntry old (Some (Err fault)) new
    → header_fault payload payload_at tag_at ≡ Some (fault_at (payload_at + fault.at) (of_wire fault.cause))
rest_reported {payload} {old} {done} {fault} new payload_at tag_at walk step =
    option_or-some _ _ _ (walks_fault payload old new done fault payload_at walk step)

pub version_ends : {payload : List ℕ} {old new : Parts} {done : List Entry} (payload_at : ℕ) (v : Result (Option ℕ) MessageError)
    → Walk payload old done → GivesEntry old None new → IsVersionSoFar payload_at done v
    → IsVersionSoFar payload_at (split payload).fields v
version_ends {payload} {old} {new} {done} payload_at v walk step so_far =
    subst (λ xs. IsVersionSoFar payload_at xs v) (sym (walks_end payload old new done walk step).0) so_far

pub header_few : {payload : List ℕ} {to_come : Parts} {done : List Entry} {payload_at : ℕ} {header : LayerHeader}
    → Walk payload to_come done
    → IsLayerHeader payload_at done header → length payload < 2 ^ 32 → header.features < 2 ^ 32
header_few {payload} {to_come} {done} walk so_far small =
    let few = selected_few payload to_come done FEATURES walk small in
    omega (arith, so_far.features_are)

pub header_ends : {payload : List ℕ} {old new : Parts} {done : List Entry} {payload_at : ℕ} {header : LayerHeader} → Walk payload old done
    → GivesEntry old None new → IsLayerHeader payload_at done header → IsLayerHeader payload_at (split payload).fields header
header_ends {payload} {old} {new} {done} {payload_at} {header} walk step so_far =
    subst (λ xs. IsLayerHeader payload_at xs header) (sym (walks_end payload old new done walk step).0) so_far

-- the exits of `read_version`
pub head_some : (payload : List ℕ) (payload_at tag_at n : ℕ) → (split payload).rest ≡ []
    → versions_fault payload_at (split payload).fields ≡ None → Some n ≡ version_in (split payload).fields
    → header_fault payload payload_at tag_at ≡ None
head_some payload payload_at tag_at n rest clean version =
    option_or-none _ _ (rests_none payload_at (split payload) rest) ∙ option_or-none _ _ clean
    ∙ first-when_not _ _ (last_there (split payload).fields n (sym version))

pub head_none : (payload : List ℕ) (payload_at tag_at : ℕ) → (split payload).rest ≡ []
    → versions_fault payload_at (split payload).fields ≡ None → None ≡ version_in (split payload).fields
    → header_fault payload payload_at tag_at ≡ Some (fault_at tag_at NoVersion)
head_none payload payload_at tag_at rest clean version =
    option_or-none _ _ (rests_none payload_at (split payload) rest) ∙ option_or-none _ _ clean
    ∙ first-when _ _ (by_test (is_none (last_only VERSION (split payload).fields)) refl)
  where
    by_test : (b : Bool) → is_none (last_only VERSION (split payload).fields) ≡ b → b ≡ true
    by_test true e = refl
    by_test false e =
        let there = version_there (split payload).fields (versions_form payload_at (split payload).fields clean) e in
        let clash : None ≡ Some there.0 = version ∙ there.1 in
        cc

pub head_versions : (payload : List ℕ) (payload_at tag_at : ℕ) (e : MessageError) → (split payload).rest ≡ []
    → ((more : List Entry) → Reports (fault_of e) (versions_fault payload_at ((split payload).fields ++ more)))
    → Reports (fault_of e) (header_fault payload payload_at tag_at)
head_versions payload payload_at tag_at e rest stays =
    or_reports (fault_of e) (rest_fault payload payload_at) _ (rests_none payload_at (split payload) rest)
    (reports_or (fault_of e) (versions_fault payload_at (split payload).fields) _
    (or_reported (versions_fault payload_at) (split payload).fields e stays))

-- a walk that met a rest
pub never_whole : {payload : List ℕ} {old : Parts} {done : List Entry} {fault : WireFault} (new : Parts) (payload_at : ℕ)
    → Walk payload old done → GivesEntry old (Some (Err fault)) new → (split payload).rest ≡ [] → ⊥
never_whole {payload} {old} {done} {fault} new payload_at walk step whole =
    let there = walks_fault payload old new done fault payload_at walk step in
    let none = rests_none payload_at (split payload) whole in
    let clash : None ≡ Some (fault_at (payload_at + fault.at) (of_wire fault.cause)) = sym none ∙ there in
    absurd (cc)

-- the exits of a walk over a layer's fields
pub versions_clean : (payload : List ℕ) (payload_at tag_at : ℕ) → header_fault payload payload_at tag_at ≡ None
    → versions_fault payload_at (split payload).fields ≡ None
versions_clean payload payload_at tag_at none = (option_or-nones _ _ (option_or-nones _ _ none).1).0

pub forms_reported : (payload_at tag_at : ℕ) (xs : List Entry) (e : MessageError) → Reports (fault_of e) (forms_fault payload_at xs)
    → Reports (fault_of e) (layer_fault payload_at tag_at xs)
forms_reported payload_at tag_at xs e h =
    subst (Reports (fault_of e)) (sym (layer_chain payload_at tag_at xs)) (reports_or (fault_of e) (forms_fault payload_at xs) _ h)

name_some : (tag_at : ℕ) (xs : List Entry) (name : List ℕ) → Some name ≡ name_in xs → no_name_fault tag_at xs ≡ None
name_some tag_at xs name is = first-when_not _ _ (name_there xs name (sym is))

pub name_reported : (payload_at tag_at : ℕ) (xs : List Entry) → forms_fault payload_at xs ≡ None → None ≡ name_in xs
    → layer_fault payload_at tag_at xs ≡ Some (fault_at tag_at NoName)
name_reported payload_at tag_at xs forms is =
    layer_chain payload_at tag_at xs ∙ option_or-none _ _ forms ∙ option_or-some _ _ _ (first-when _ _ (by_option (last_only NAME xs) is))
  where
    by_option : (o : Option Entry) → None ≡ option_map (λ (x : Entry). bytes_of x.content) o → is_none o ≡ true
    by_option None h = refl
    by_option (Some x) h = cc

pub values_reported : (payload_at tag_at : ℕ) (xs : List Entry) {name : List ℕ} (e : MessageError)
    → forms_fault payload_at xs ≡ None → Some name ≡ name_in xs → Reports (fault_of e) (values_fault payload_at xs)
    → Reports (fault_of e) (layer_fault payload_at tag_at xs)
values_reported payload_at tag_at xs {name} e forms is h =
    let values = or_reports (fault_of e) (no_name_fault tag_at xs) _ (name_some tag_at xs name is)
    (reports_or (fault_of e) (values_fault payload_at xs) _ h) in
    subst (Reports (fault_of e)) (sym (layer_chain payload_at tag_at xs))
    (or_reports (fault_of e) (forms_fault payload_at xs) _ forms values)

-- fields that break no rule before those of the features: the name, the keys and the values
pub record IsClean (payload_at : ℕ) (xs : List Entry) (name : List ℕ) (keys : List (List ℕ)) (values : List Value) : Type 0 where
  pub forms : forms_fault payload_at xs ≡ None
  pub name_is : Some name ≡ name_in xs
  pub keys_are : keys ≡ keys_in xs
  pub none_broken : values_fault payload_at xs ≡ None
  pub values_are : AreRelated HoldsValue (only VALUES xs) values

pub front_clean : {payload_at : ℕ} {xs : List Entry} {header : LayerHeader} {name : List ℕ} {keys : List (List ℕ)} (values : List Value)
    → IsLayerHeader payload_at xs header → option_copied header.name ≡ Some name → keys ≡ lent header.keys.items
    → AreValuesSoFar payload_at xs values → IsClean payload_at xs name keys values
front_clean values head name keys so_far = record {
  forms = head.clean;
  name_is = sym name ∙ head.name_is;
  keys_are = keys ∙ head.keys_are;
  none_broken = so_far.0;
  values_are = so_far.1;
}

features_same : {payload_at : ℕ} {xs : List Entry} {name : List ℕ} {keys : List (List ℕ)} {values : List Value}
    → IsClean payload_at xs name keys values
    → features_fault payload_at keys values xs ≡ features_fault payload_at (keys_in xs) (values_in xs) xs
features_same {payload_at} {xs} {values} front =
    let same : values_in xs ≡ values = values_said (only VALUES xs) values front.values_are in
    ap₂ (λ ks vs. features_fault payload_at ks vs xs) front.keys_are (sym same)

pub features_reported : {payload_at : ℕ} {xs : List Entry} {name : List ℕ} {keys : List (List ℕ)} {values : List Value} (tag_at : ℕ)
    (e : MessageError) → IsClean payload_at xs name keys values → Reports (fault_of e) (features_fault payload_at keys values xs)
    → Reports (fault_of e) (layer_fault payload_at tag_at xs)
features_reported {payload_at} {xs} {name} tag_at e front h =
    let here = subst (Reports (fault_of e)) (features_same front) h in
    let features = reports_or (fault_of e) (features_fault payload_at (keys_in xs) (values_in xs) xs) None here in
    let behind = or_reports (fault_of e) (values_fault payload_at xs) _ front.none_broken features in
    let named = or_reports (fault_of e) (no_name_fault tag_at xs) _ (name_some tag_at xs name front.name_is) behind in
    subst (Reports (fault_of e)) (sym (layer_chain payload_at tag_at xs))
    (or_reports (fault_of e) (forms_fault payload_at xs) _ front.forms named)

pub layer_ok : {payload_at : ℕ} {xs : List Entry} {name : List ℕ} {keys : List (List ℕ)} {values : List Value} (tag_at : ℕ)
    → IsClean payload_at xs name keys values → features_fault payload_at keys values xs ≡ None
    → layer_fault payload_at tag_at xs ≡ None
layer_ok {payload_at} {xs} {name} tag_at front h =
    layer_clean payload_at tag_at xs front.forms (name_some tag_at xs name front.name_is) front.none_broken (sym (features_same front) ∙ h)

pub layer_read : {payload_at : ℕ} {xs : List Entry} {keys : List (List ℕ)} {values : List Value} (layer : ALayer)
    → IsClean payload_at xs layer.name keys values → layer.extent ≡ extent_in xs
    → AreRelated (HoldsFeature keys values) (only FEATURES xs) layer.features → IsLayer xs layer
layer_read {payload_at} {xs} {values} layer front extent features =
    let held = subst (λ ks. AreRelated (HoldsFeature ks values) (only FEATURES xs) layer.features) front.keys_are features in
    layer_from payload_at xs layer values front.forms (sym front.name_is) extent front.values_are held

-- the exits of `read_item`
pub as_two : (xs : List Entry) {n : ℕ} → version_in xs ≡ Some n → n ≡ 2 → version_in xs ≡ Some 2
as_two xs is two = is ∙ ap Some two

pub head_reported : (payload : List ℕ) (payload_at tag_at : ℕ) (e : MessageError)
    → Reports (fault_of e) (header_fault payload payload_at tag_at)
    → Reports (fault_of e) (item_fault payload payload_at tag_at)
head_reported payload payload_at tag_at e h =
    subst (Reports (fault_of e)) (sym (item_chain payload payload_at tag_at))
    (reports_or (fault_of e) (header_fault payload payload_at tag_at) _ h)

pub head_whole : (payload : List ℕ) (payload_at tag_at : ℕ) → header_fault payload payload_at tag_at ≡ None → (split payload).rest ≡ []
head_whole payload payload_at tag_at none = rests_nothing payload_at (split payload) (option_or-nones _ _ none).0

pub layer_reported : (payload : List ℕ) (payload_at tag_at : ℕ) (e : MessageError) → header_fault payload payload_at tag_at ≡ None
    → version_in (split payload).fields ≡ Some 2 → Reports (fault_of e) (layer_fault payload_at tag_at (split payload).fields)
    → Reports (fault_of e) (item_fault payload payload_at tag_at)
layer_reported payload payload_at tag_at e head version h =
    subst (Reports (fault_of e)) (sym (item_of_layer payload payload_at tag_at head version)) h

pub layer_item : (payload : List ℕ) (payload_at tag_at : ℕ) (layer : ALayer) → header_fault payload payload_at tag_at ≡ None
    → version_in (split payload).fields ≡ Some 2 → IsLayer (split payload).fields layer → IsItem payload (Layer layer)
layer_item payload payload_at tag_at layer head version is =
    let parts = head_clean payload payload_at tag_at head in
    item_from payload (Layer layer) parts.0 parts.1 (version, is)

pub other_item : (payload : List ℕ) (payload_at tag_at n : ℕ) (content : List ℕ) → header_fault payload payload_at tag_at ≡ None
    → version_in (split payload).fields ≡ Some n → n ≢ 2 → content ≡ payload → IsItem payload (Foreign n content)
other_item payload payload_at tag_at n content head version other is =
    let parts = head_clean payload payload_at tag_at head in
    item_from payload (Foreign n content) parts.0 parts.1 (version, other, is)
