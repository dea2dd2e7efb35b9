-- Features: the rules and the grammar say the same.
use Rattle.std.proofs.Common.{◌≡◌, ℕ, ◌+◌, ◌^◌, ◌<◌, ◌==◌, Bool, true, false, not, nat_lt, List, [], ◌∷◌, ◌++◌, Option, Some, None, refl, sym, ap, ap₂, ◌∙◌, subst, if◌then◌else◌}
use Rattle.std.specs.List.{AllByRecursion, flat_map}
use Rattle.std.specs.Option.{option_or, option_map}
use Rattle.std.proofs.lemmas.Bool.{eqb-true, ltb-true, lt-ltb, not-false}
use Rattle.mvt_base.specs.Reports.{Reports}
use Rattle.mvt_base.specs.Rules.{when, under, map_faults, each, first}
use Rattle.mvt_base.proofs.ListLemmas.{all_weaker, all_joined}
use Rattle.mvt_base.proofs.RuleLemmas.{first-under, first-map_faults, first-when_not, option_or-none, option_or-right, option_or-some}
use Rattle.mvt_base.proofs.TableLemmas.{first-rows_all, none_mapped, when_none, none_each}
use Rattle.mvt_attrs.specs.Values.{Value}
use Rattle.mvt_attrs.specs.declared.resolving.TagError.{TagError}
use Rattle.mvt_attrs.specs.declared.resolving.TagError.TheVariants as tag_errors
use Rattle.mvt_attrs.specs.Tags.{Resolved}
use Rattle.mvt_attrs.specs.TagRules.{count_rules, pair_rules, tag_fault, fault_of as fault_of_tags}
use Rattle.mvt_geometry.specs.declared.shape.Kind.{Kind}
use Rattle.mvt_geometry.specs.declared.fault.GeometryError.{GeometryError}
use Rattle.mvt_geometry.specs.declared.fault.GeometryError.TheVariants as geometry_errors
use Rattle.mvt_geometry.specs.Drawing.{Draws}
use Rattle.mvt_geometry.specs.Table.{geometry_rules, geometry_fault}
use Rattle.mvt_geometry.specs.Reports.{Reports as ReportsGeometry}
use Rattle.mvt_wire.specs.Field.{Content, varint, fixed64, bytes, fixed32, Entry}
use Rattle.mvt_wire.specs.Packed.{ArePacked, packed_rules}
use Rattle.mvt_wire.specs.Split.{split}
use Rattle.mvt_feature.specs.declared.numbers.feature.TheConstants.{ID, TAGS, TYPE, GEOMETRY}
use Rattle.mvt_feature.specs.declared.cause.Cause.TheVariants.{NumberRange}
use Rattle.mvt_feature.specs.declared.feature.Feature.{Feature}
use Rattle.mvt_feature.specs.declared.feature_fields.FeatureFields.{FeatureFields}
use Rattle.mvt_feature.specs.declared.message_error.MessageError.{MessageError}
use Rattle.mvt_feature.specs.Causes.{of_packed}
use Rattle.mvt_feature.specs.Faults.{MessageFault, fault_at, rest_rules, fault_of}
use Rattle.mvt_feature.specs.Features.{AreNumbers, Joined, IsFeatureOf}
use Rattle.mvt_feature.specs.FeatureRules.{numbers_of, joined, list_rules, feature_form_rules, feature_field_rules, tag_reported, geometry_reported, kind_in, feature_table, feature_rules, feature_fault}
use Rattle.mvt_feature.specs.Inner.{AreFeatureFields}
use Rattle.mvt_feature.specs.Selection.{only, HaveForm}
use Rattle.mvt_feature.specs.Forms.{any_varint, geom_type, HasForm, form_rules}
use Rattle.mvt_feature.specs.Faults.{of_tag_error, of_geometry_error}
use Rattle.mvt_feature.proofs.ValueLemmas.{reports_front}
use Rattle.mvt_feature.proofs.FormLemmas.{has_form}
use Rattle.mvt_feature.proofs.FeatureFieldsLemmas.{field_first}
use Rattle.mvt_feature.proofs.WalkLemmas.{rest_none}
use Rattle.mvt_attrs.proofs.AttrsLaws.{fault_is_least_parts}
use Rattle.mvt_wire.proofs.WireLaws.{packed_function_clean, packed_function_only, split_function_whole}

-- the fault of a feature from its parts
abbrev pub rest_fault : List ℕ → ℕ → Option MessageFault
rest_fault payload payload_at = first (rest_rules payload_at (split payload))

abbrev pub fields_fault : List ℕ → ℕ → Option MessageFault
fields_fault payload payload_at = first (each (λ _. feature_field_rules payload_at) [] (split payload).fields)

abbrev pub tags_fault : List ℕ → List (List ℕ) → List Value → Option MessageFault
tags_fault payload keys values = option_map tag_reported (tag_fault keys values (joined TAGS (split payload).fields))

abbrev pub drawing_fault : List ℕ → Option MessageFault
drawing_fault payload = option_map geometry_reported
    (geometry_fault (kind_in (split payload).fields) (joined GEOMETRY (split payload).fields))

mapped_or : {F G : Type 0} → (f : F → G) (a b : Option F) (o : Option G)
    → option_or (option_map f a) (option_or (option_map f b) o) ≡ option_or (option_map f (option_or a b)) o
mapped_or f None None o = refl
mapped_or f None (Some x) o = refl
mapped_or f (Some x) b o = refl

geometry_first : (kind : Kind) (integers : List ℕ) → first (geometry_rules kind integers) ≡ geometry_fault kind integers
unfolding geometry_fault
geometry_first kind integers = refl

tags_chain : (keys : List (List ℕ)) (values : List Value) (tags : List ℕ) (o : Option MessageFault)
    → option_or (first (map_faults tag_reported (count_rules tags)))
    (option_or (first (map_faults tag_reported (pair_rules keys values tags))) o)
    ≡ option_or (option_map tag_reported (tag_fault keys values tags)) o
tags_chain keys values tags o =
    ap₂ (λ a b. option_or a (option_or b o)) (first-map_faults tag_reported (count_rules tags))
    (first-map_faults tag_reported (pair_rules keys values tags))
    ∙ mapped_or tag_reported (first (count_rules tags)) (first (pair_rules keys values tags)) o
    ∙ ap (λ a. option_or (option_map tag_reported a) o) (sym (fault_is_least_parts keys values tags))

drawing_chain : (kind : Kind) (integers : List ℕ)
    → option_or (first (map_faults geometry_reported (geometry_rules kind integers))) None
    ≡ option_map geometry_reported (geometry_fault kind integers)
drawing_chain kind integers =
    option_or-right _ ∙ first-map_faults geometry_reported (geometry_rules kind integers)
    ∙ ap (option_map geometry_reported) (geometry_first kind integers)

pub feature_chain : (payload : List ℕ) (payload_at : ℕ) (keys : List (List ℕ)) (values : List Value)
    → feature_fault payload payload_at keys values
    ≡ option_or (rest_fault payload payload_at)
    (option_or (fields_fault payload payload_at) (option_or (tags_fault payload keys values) (drawing_fault payload)))
unfolding feature_fault feature_rules
feature_chain payload payload_at keys values =
    first-rows_all (feature_table payload payload_at keys values)
    ∙ ap (λ o. option_or (rest_fault payload payload_at) (option_or (fields_fault payload payload_at) o))
    (tags_chain keys values (joined TAGS (split payload).fields) _
    ∙ ap (λ o. option_or (tags_fault payload keys values) o)
    (drawing_chain (kind_in (split payload).fields) (joined GEOMETRY (split payload).fields)))

-- the exits of `read_feature_in`
pub known_reported : (payload : List ℕ) (payload_at : ℕ) (keys : List (List ℕ)) (values : List Value) (e : MessageError)
    → Reports (fault_of e) (option_or (rest_fault payload payload_at) (fields_fault payload payload_at))
    → Reports (fault_of e) (feature_fault payload payload_at keys values)
known_reported payload payload_at keys values e h =
    subst (λ o. Reports (fault_of e) o) (sym (feature_chain payload payload_at keys values))
    (reports_front e (rest_fault payload payload_at) (fields_fault payload payload_at)
    (option_or (tags_fault payload keys values) (drawing_fault payload)) h)

-- a payload that splits wholly into fields without a fault, and what these say
pub record Says (payload : List ℕ) (payload_at : ℕ) (known : FeatureFields) (tags integers : List ℕ) : Type 0 where
  pub whole : (split payload).rest ≡ []
  pub clean : fields_fault payload payload_at ≡ None
  pub known_is : AreFeatureFields (split payload).fields known tags integers

module _ {payload : List ℕ} {payload_at : ℕ} {known : FeatureFields} {tags integers : List ℕ}
    (says : Says payload payload_at known tags integers) (keys : List (List ℕ)) (values : List Value) where
  after_fields : feature_fault payload payload_at keys values ≡ option_or (tags_fault payload keys values) (drawing_fault payload)
  after_fields =
      feature_chain payload payload_at keys values ∙ option_or-none _ _ (rest_none payload_at (split payload) says.whole)
      ∙ option_or-none _ _ says.clean

  tags_are : tag_fault keys values (joined TAGS (split payload).fields) ≡ tag_fault keys values tags
  tags_are = ap (tag_fault keys values) (sym says.known_is.tags_are)

  after_tags : tag_fault keys values tags ≡ None
      → feature_fault payload payload_at keys values ≡ option_map geometry_reported (geometry_fault known.kind integers)
  after_tags resolved =
      after_fields ∙ option_or-none _ _ (ap (option_map tag_reported) (tags_are ∙ resolved))
      ∙ ap (option_map geometry_reported) (ap₂ geometry_fault (sym says.known_is.kind) (sym says.known_is.integers_are))

  pub tags_reported : (e : TagError) → Reports (fault_of_tags e) (tag_fault keys values tags)
      → Reports (fault_of (of_tag_error e)) (feature_fault payload payload_at keys values)
  tags_reported tag_errors.Memory h = tt
  tags_reported (tag_errors.Fault index cause) h = after_fields ∙ option_or-some _ _ _ (ap (option_map tag_reported) (tags_are ∙ h))

  pub drawing_reported : (e : GeometryError) → tag_fault keys values tags ≡ None → ReportsGeometry e (geometry_fault known.kind integers)
      → Reports (fault_of (of_geometry_error e)) (feature_fault payload payload_at keys values)
  drawing_reported geometry_errors.Memory resolved h = tt
  drawing_reported (geometry_errors.Fault index cause) resolved h = after_tags resolved ∙ ap (option_map geometry_reported) h

  pub feature_clean : tag_fault keys values tags ≡ None → geometry_fault known.kind integers ≡ None
      → feature_fault payload payload_at keys values ≡ None
  feature_clean resolved drawn = after_tags resolved ∙ ap (option_map geometry_reported) drawn

-- the fields of a feature have no fault
abbrev pub FieldsClean : ℕ → List Entry → Type 0
FieldsClean payload_at xs = first (each (λ _. feature_field_rules payload_at) [] xs) ≡ None

-- the form of a field and its rules
clean_field : (payload_at : ℕ) (x : Entry) → first (feature_field_rules payload_at x) ≡ None
    → first (feature_form_rules x.number x.content) ≡ None
clean_field payload_at x h =
    none_mapped (fault_at (payload_at + x.at)) (first (feature_form_rules x.number x.content))
    (sym (field_first payload_at x) ∙ h)

pub field_clean : (payload_at : ℕ) (x : Entry) → first (feature_form_rules x.number x.content) ≡ None
    → first (feature_field_rules payload_at x) ≡ None
field_clean payload_at x h = field_first payload_at x ∙ ap (option_map (fault_at (payload_at + x.at))) h

-- the rules of the fields of one number
of_number : (payload_at k : ℕ) (P : Content → Type 0) → ((c : Content) → first (feature_form_rules k c) ≡ None → P c)
    → (xs : List Entry) → FieldsClean payload_at xs → HaveForm k P xs
of_number payload_at k P form xs clean =
    all_weaker (λ (x : Entry). first (feature_field_rules payload_at x) ≡ None) (λ (x : Entry). x.number ≡ k → P x.content)
    (λ x none is. form x.content (subst (λ n. first (feature_form_rules n x.content) ≡ None) is (clean_field payload_at x none)))
    xs (none_each (feature_field_rules payload_at) [] xs clean)

id_form : (payload_at : ℕ) (xs : List Entry) → FieldsClean payload_at xs → HaveForm ID (HasForm any_varint) xs
id_form payload_at xs clean =
    of_number payload_at ID (HasForm any_varint)
    (λ c h. has_form any_varint c (sym (first-under 0 (form_rules any_varint c)) ∙ h)) xs clean

type_form : (payload_at : ℕ) (xs : List Entry) → FieldsClean payload_at xs → HaveForm TYPE (HasForm geom_type) xs
type_form payload_at xs clean =
    of_number payload_at TYPE (HasForm geom_type)
    (λ c h. has_form geom_type c (sym (first-under 0 (form_rules geom_type c)) ∙ h)) xs clean

list_numbers : (c : Content) → first (list_rules c) ≡ None → AreNumbers c (numbers_of c)
list_numbers (varint n) h =
    let none =
    sym (first-under 0 (when (not (nat_lt n (2 ^ 32))) NumberRange))
    ∙ sym (first-under 1 (under 0 (when (not (nat_lt n (2 ^ 32))) NumberRange))) ∙ h in
    (refl, ltb-true n (2 ^ 32) (not-false (nat_lt n (2 ^ 32)) (when_none (not (nat_lt n (2 ^ 32))) NumberRange none)))
list_numbers (bytes d) h =
    packed_function_clean d
    (none_mapped of_packed (first (packed_rules d))
    (sym (first-map_faults of_packed (packed_rules d)) ∙ sym (first-under 1 (map_faults of_packed (packed_rules d))) ∙ h))
list_numbers (fixed64 n) h = cc
list_numbers (fixed32 n) h = cc

pub numbers_list : (c : Content) (ns : List ℕ) → AreNumbers c ns → (first (list_rules c) ≡ None) × (ns ≡ numbers_of c)
numbers_list (varint n) ns h = (
  first-under 1 (under 0 (when (not (nat_lt n (2 ^ 32))) NumberRange))
      ∙ first-under 0 (when (not (nat_lt n (2 ^ 32))) NumberRange)
      ∙ first-when_not (not (nat_lt n (2 ^ 32))) NumberRange (ap not (lt-ltb n (2 ^ 32) h.1)),
  h.0,
)
numbers_list (bytes d) ns h =
    let are = packed_function_only d ns h in (
      first-under 1 (map_faults of_packed (packed_rules d)) ∙ first-map_faults of_packed (packed_rules d)
          ∙ ap (option_map of_packed) are.0,
      sym are.1,
    )
numbers_list (fixed64 n) ns h = absurd h
numbers_list (fixed32 n) ns h = absurd h

-- joined numbers
abbrev pub IsListOf : Entry → Type 0
IsListOf x = first (list_rules x.content) ≡ None

only_form : (k : ℕ) (P : Content → Type 0) (xs : List Entry) → HaveForm k P xs → AllByRecursion (λ (x : Entry). P x.content) (only k xs)
only_form k P [] h = tt
only_form k P (x ∷ xs) h = by_test (x.number == k) refl (only_form k P xs h.1)
  where
    by_test : (b : Bool) → (x.number == k) ≡ b → AllByRecursion (λ (y : Entry). P y.content) (only k xs)
        → AllByRecursion (λ (y : Entry). P y.content) (if b then x ∷ only k xs else only k xs)
    by_test true e more = (h.0 (eqb-true x.number k e), more)
    by_test false e more = more

joined_all : (xs : List Entry) → AllByRecursion IsListOf xs → Joined xs (flat_map (λ (x : Entry). numbers_of x.content) xs)
joined_all [] h = refl
joined_all (x ∷ xs) h = (
  numbers_of x.content,
  flat_map (λ (y : Entry). numbers_of y.content) xs,
  refl,
  list_numbers x.content h.0,
  joined_all xs h.1,
)

pub all_joined_are : (xs : List Entry) (ns : List ℕ) → Joined xs ns
    → AllByRecursion IsListOf xs × (ns ≡ flat_map (λ (x : Entry). numbers_of x.content) xs)
all_joined_are [] ns h = (tt, h)
all_joined_are (x ∷ xs) ns (front, back, is, numbers, more) =
    let here = numbers_list x.content front numbers in
    let later = all_joined_are xs back more in
    ((here.0, later.0), is ∙ ap₂ (λ f b. f ++ b) here.1 later.1)

pub packed_small : (d ns : List ℕ) → ArePacked d ns → AllByRecursion (λ n. n < 2 ^ 32) ns
packed_small d [] h = tt
packed_small d (n ∷ ns) (front, back, is, spells, small, more) = (small, packed_small back ns more)

numbers_small : (c : Content) (ns : List ℕ) → AreNumbers c ns → AllByRecursion (λ n. n < 2 ^ 32) ns
numbers_small (varint n) ns h =
    let one : AllByRecursion (λ m. m < 2 ^ 32) (n ∷ []) = (h.1, tt) in
    subst (AllByRecursion (λ m. m < 2 ^ 32)) (sym h.0) one
numbers_small (bytes d) ns h = packed_small d ns h
numbers_small (fixed64 n) ns h = absurd h
numbers_small (fixed32 n) ns h = absurd h

pub joined_small : (xs : List Entry) (ns : List ℕ) → Joined xs ns → AllByRecursion (λ n. n < 2 ^ 32) ns
joined_small [] ns h = subst (AllByRecursion (λ m. m < 2 ^ 32)) (sym h) tt
joined_small (x ∷ xs) ns (front, back, is, numbers, more) =
    subst (AllByRecursion (λ m. m < 2 ^ 32)) (sym is)
    (all_joined (λ m. m < 2 ^ 32) front back (numbers_small x.content front numbers) (joined_small xs back more))

pub joined_is : (payload_at k : ℕ) (xs : List Entry)
    → ((c : Content) → first (feature_form_rules k c) ≡ None → first (list_rules c) ≡ None) → FieldsClean payload_at xs
    → Joined (only k xs) (joined k xs)
joined_is payload_at k xs form clean =
    joined_all (only k xs)
    (only_form k (λ c. first (list_rules c) ≡ None) xs (of_number payload_at k (λ c. first (list_rules c) ≡ None) form xs clean))

-- what was read is the feature
pub feature_from : {payload : List ℕ} {payload_at : ℕ} {known : FeatureFields} {tags integers : List ℕ}
    → Says payload payload_at known tags integers → (keys : List (List ℕ)) (values : List Value) (f : Feature) → f.id ≡ known.id
    → Resolved keys values tags f.attributes → Draws known.kind integers f.geometry → IsFeatureOf payload keys values f
feature_from {payload} {payload_at} {known} {tags} {integers} says keys values f id resolved draws =
    let xs = (split payload).fields in
    let is = says.known_is in (
      xs,
      split_function_whole payload says.whole,
      record {
        forms = (id_form payload_at xs says.clean, (type_form payload_at xs says.clean, tt));
        id = id ∙ is.id;
        tags = tags;
        tags_are = rw is.tags_are (joined_is payload_at TAGS xs (λ c h. h) says.clean);
        attributes = resolved;
        integers = integers;
        integers_are = rw is.integers_are (joined_is payload_at GEOMETRY xs (λ c h. h) says.clean);
        geometry = rw is.kind at draws;
      },
    )
