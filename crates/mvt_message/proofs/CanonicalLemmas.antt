-- The canonical payload of a valid item is that item.
use Rattle.std.proofs.Common.{◌≡◌, ℕ, zero, suc, ◌+◌, ◌*◌, ◌^◌, ◌<◌, ◌≤◌, ◌==◌, Bool, true, false, List, [], ◌∷◌, ◌++◌, length, map, Some, None, ◌⊎◌, inl, inr, refl, sym, ap, ap₂, ◌∙◌, subst, arith, append_assoc, append-nil, length-append, lit<, lit≤, if◌then◌else◌}
use Rattle.std.specs.Prelude.{IsUtf8, Contains, unwrap_or, ⊤}
use Rattle.std.specs.List.{AllByRecursion, last_or}
use Rattle.std.specs.Option.{option_map}
use Rattle.std.proofs.lemmas.Bool.{eq-eqb, eqb-true}
use Rattle.std.proofs.lemmas.List.Elements.{Contains-append_left}
use Rattle.mvt_base.specs.declared.TheConstants.{LIMIT}
use Rattle.mvt_base.specs.Related.{AreRelated}
use Rattle.mvt_base.proofs.ListLemmas.{all_weaker, all_joined, all_left, all_right, all_mapped, all_unmapped, all_true, mapped_one}
use Rattle.mvt_base.proofs.SelectionLemmas.{all_only}
use Rattle.mvt_attrs.specs.declared.value.Attribute.{Attribute}
use Rattle.mvt_attrs.specs.Values.{Value}
use Rattle.mvt_attrs.specs.Pools.{key_pool, value_pool}
use Rattle.mvt_attrs.specs.TagPlaces.{tags_in, IsIn}
use Rattle.mvt_wire.specs.Field.{Content, varint, bytes, fixed64, fixed32, Entry}
use Rattle.mvt_wire.specs.Spelling.{Plain, plain_of, short_field, spelled, IsFit, FitsContent}
use Rattle.mvt_feature.specs.declared.feature.Feature.{Feature}
use Rattle.mvt_feature.specs.Canonical.{plain, value_fields, feature_fields}
use Rattle.mvt_feature.specs.Features.{IsFeatureOf, number_in, number_of}
use Rattle.mvt_feature.specs.Forms.{uint32, string, message, HasForm}
use Rattle.mvt_feature.specs.Selection.{only, AreAlike, contents_at, HaveForm}
use Rattle.mvt_feature.specs.Valid.{ValidValue, ValidAttribute, ValidFeature}
use Rattle.mvt_feature.specs.Values.{IsValueOf}
use Rattle.mvt_attrs.proofs.AttrsLaws.{places_name_names, places_name_small, pool_entries_from_keys, pool_entries_from_values, pools_hold}
use Rattle.mvt_wire.proofs.WireLaws.{short_lengths_bytes, spelled_parts, spelled_whole_whole}
use Rattle.mvt_feature.proofs.FeatureLaws.{canonical_reads_feature, canonical_reads_value, fields_in_any_order_joined}
use Rattle.mvt_message.specs.declared.numbers.layer.TheConstants.{NAME, FEATURES, KEYS, VALUES, EXTENT, VERSION}
use Rattle.mvt_message.specs.declared.item.Item.{Item as AnItem}
use Rattle.mvt_message.specs.declared.item.Layer.{Layer as ALayer}
use Rattle.mvt_message.specs.declared.item.Item.TheVariants.{Layer, Foreign}
use Rattle.mvt_message.specs.LayerFields.{bytes_of, version_in, keys_in}
use Rattle.mvt_message.specs.Items.{HoldsFeature, IsLayer, IsItem}
use Rattle.mvt_message.specs.CanonicalItems.{attributes_of, keys_of, values_of, head_fields, feature_field, key_field, value_field, extent_fields, fields_with, layer_fields, canonical_item}
use Rattle.mvt_message.specs.Copying.{core_with}
use Rattle.mvt_message.specs.ValidItems.{ValidLayer, AreOfVersion, ValidItem}

-- the contents of entries of a number
abbrev contents_of : ℕ → List Entry → List Content
contents_of k xs = map (λ (x : Entry). x.content) (only k xs)

only_contents : (k : ℕ) (xs : List Entry) → contents_of k xs ≡ contents_at k (map plain_of xs)
only_contents k [] = refl
only_contents k (x ∷ xs) = by_test (x.number == k) (only_contents k xs)
  where
    by_test : (b : Bool) → contents_of k xs ≡ contents_at k (map plain_of xs)
        → map (λ (y : Entry). y.content) (if b then x ∷ only k xs else only k xs)
        ≡ (if b then x.content ∷ contents_at k (map plain_of xs) else contents_at k (map plain_of xs))
    by_test true h = ap (λ l. x.content ∷ l) h
    by_test false h = h

-- fields of one number
abbrev all_of : {Y : Type 0} → ℕ → (Y → List ℕ) → List Y → List Plain
all_of k g ys = map (λ y. plain k (bytes (g y))) ys

contents_same : {Y : Type 0} → (k : ℕ) (g : Y → List ℕ) (ys : List Y) → contents_at k (all_of k g ys) ≡ map (λ y. bytes (g y)) ys
contents_same k g [] = refl
contents_same k g (y ∷ ys) =
    ap (λ (b : Bool). if b then bytes (g y) ∷ contents_at k (all_of k g ys) else contents_at k (all_of k g ys)) (eq-eqb k k refl)
    ∙ ap (λ l. bytes (g y) ∷ l) (contents_same k g ys)

contents_other : {Y : Type 0} → (j k : ℕ) (g : Y → List ℕ) (ys : List Y) → (j == k) ≡ false → contents_at k (all_of j g ys) ≡ []
contents_other j k g [] other = refl
contents_other j k g (y ∷ ys) other =
    ap (λ (b : Bool). if b then bytes (g y) ∷ contents_at k (all_of j g ys) else contents_at k (all_of j g ys)) other
    ∙ contents_other j k g ys other

abbrev pub feature_bytes : List (List ℕ) → List Value → Feature → List ℕ
feature_bytes keys values f = spelled (feature_fields (tags_in keys values f.attributes) f)

abbrev value_bytes : Value → List ℕ
value_bytes v = spelled (value_fields v)

abbrev same_bytes : List ℕ → List ℕ
same_bytes key = key

-- the fields of a layer whose features stand in these payloads, after its name
abbrev tail_by : {Y : Type 0} → (Y → List ℕ) → List Y → List (List ℕ) → List Value → ℕ → List Plain
tail_by g ys keys values extent =
    all_of FEATURES g ys ++ (all_of KEYS same_bytes keys ++ (all_of VALUES value_bytes values ++ extent_fields extent))

-- and all
abbrev fields_by : {Y : Type 0} → (Y → List ℕ) → List Y → List (List ℕ) → List Value → List ℕ → ℕ → List Plain
fields_by g ys keys values name extent = head_fields name ++ tail_by g ys keys values extent

-- the features, the keys and the values alone
abbrev pub core_by : {Y : Type 0} → (Y → List ℕ) → List Y → List (List ℕ) → List Value → List Plain
core_by g ys keys values = all_of FEATURES g ys ++ (all_of KEYS same_bytes keys ++ all_of VALUES value_bytes values)

-- with the features behind
abbrev pub tail_contents : {Y : Type 0} → (k : ℕ) (g : Y → List ℕ) (ys : List Y) (keys : List (List ℕ)) (values : List Value) (extent : ℕ)
    (a b c : List Content)
    → contents_at k (all_of FEATURES g ys) ≡ a → contents_at k (all_of KEYS same_bytes keys) ≡ b
    → contents_at k (all_of VALUES value_bytes values) ≡ c
    → contents_at k (tail_by g ys keys values extent) ≡ a ++ (b ++ (c ++ contents_at k (extent_fields extent)))
tail_contents k g ys keys values extent a b c ea eb ec =
    fields_in_any_order_joined k (all_of FEATURES g ys) _
    ∙ ap₂ (λ x y. x ++ y) ea (fields_in_any_order_joined k (all_of KEYS same_bytes keys) _
    ∙ ap₂ (λ x y. x ++ y) eb (fields_in_any_order_joined k (all_of VALUES value_bytes values) (extent_fields extent)
    ∙ ap (λ x. x ++ contents_at k (extent_fields extent)) ec))

-- no field of another number stands after the name
tail_none : {Y : Type 0} → (k : ℕ) (g : Y → List ℕ) (ys : List Y) (keys : List (List ℕ)) (values : List Value) (extent : ℕ)
    → (FEATURES == k) ≡ false → (KEYS == k) ≡ false → (VALUES == k) ≡ false
    → contents_at k (tail_by g ys keys values extent) ≡ contents_at k (extent_fields extent)
tail_none k g ys keys values extent two three four =
    tail_contents k g ys keys values extent [] [] [] (contents_other FEATURES k g ys two)
    (contents_other KEYS k same_bytes keys three) (contents_other VALUES k value_bytes values four)

form_contents : (k : ℕ) (P : Content → Type 0) (xs : List Entry) (cs : List Content) → contents_of k xs ≡ cs
    → AllByRecursion P cs → HaveForm k P xs
form_contents k P xs cs is all =
    let held = all_unmapped (λ (x : Entry). x.content) P (only k xs) (subst (AllByRecursion P) (sym is) all) in
    all_only (λ (x : Entry). x.number) (λ (x : Entry). P x.content) k xs held

-- bytes fields, and what each of them holds
related_contents : {Y : Type 0} → (g : Y → List ℕ) (R : List ℕ → Y → Type 0) (xs : List Entry) (ys : List Y)
    → map (λ (x : Entry). x.content) xs ≡ map (λ y. bytes (g y)) ys → AllByRecursion (λ y. R (g y) y) ys
    → AreRelated (λ (x : Entry) y. R (bytes_of x.content) y) xs ys
related_contents g R [] [] h all = tt
related_contents g R [] (y ∷ ys) h all = cc
related_contents g R (x ∷ xs) [] h all = cc
related_contents g R (x ∷ xs) (y ∷ ys) h all =
    let here : x.content ≡ bytes (g y) = cc in
    let later : map (λ (z : Entry). z.content) xs ≡ map (λ y'. bytes (g y')) ys = cc in
    (subst (λ c. R (bytes_of c) y) (sym here) all.0, related_contents g R xs ys later all.1)

keys_are : (xs : List Entry) (keys : List (List ℕ)) → map (λ (x : Entry). x.content) xs ≡ map (λ key. bytes (same_bytes key)) keys
    → map (λ (x : Entry). bytes_of x.content) xs ≡ keys
keys_are [] [] h = refl
keys_are [] (k ∷ ks) h = cc
keys_are (x ∷ xs) [] h = cc
keys_are (x ∷ xs) (k ∷ ks) h =
    let here : x.content ≡ bytes k = cc in
    let later : map (λ (z : Entry). z.content) xs ≡ map (λ key. bytes (same_bytes key)) ks = cc in
    ap₂ (λ c l. bytes_of c ∷ l) here (keys_are xs ks later)

bytes_all : {Y : Type 0} → (P : Content → Type 0) (g : Y → List ℕ) (ys : List Y) → AllByRecursion (λ y. P (bytes (g y))) ys
    → AllByRecursion P (map (λ y. bytes (g y)) ys)
bytes_all P g ys h = all_mapped (λ y. bytes (g y)) P ys h

-- what stands in the fields of each number
record AreContents {Y : Type 0} (g : Y → List ℕ) (ys : List Y) (keys : List (List ℕ)) (values : List Value) (own_name : List ℕ)
    (own_extent : ℕ)
    (xs : List Entry) : Type 0 where
  version : contents_of VERSION xs ≡ varint 2 ∷ []
  name : contents_of NAME xs ≡ bytes own_name ∷ []
  extent : contents_of EXTENT xs ≡ varint own_extent ∷ []
  features : contents_of FEATURES xs ≡ map (λ y. bytes (g y)) ys
  keys_are : contents_of KEYS xs ≡ map (λ key. bytes (same_bytes key)) keys
  values_are : contents_of VALUES xs ≡ map (λ v. bytes (value_bytes v)) values

-- the contents of the fields of each number are those of a layer with these parts
abbrev pub HasContents : {Y : Type 0} → (Y → List ℕ) → List Y → List (List ℕ) → List Value → List ℕ → ℕ → List Entry → Type 0
HasContents g ys keys values name extent xs = (k : ℕ) → contents_of k xs ≡ contents_at k (fields_by g ys keys values name extent)

-- no other field stands among them
core_none : {Y : Type 0} → (k : ℕ) (g : Y → List ℕ) (ys : List Y) (keys : List (List ℕ)) (values : List Value)
    → (FEATURES == k) ≡ false → (KEYS == k) ≡ false → (VALUES == k) ≡ false → contents_at k (core_by g ys keys values) ≡ []
core_none k g ys keys values two three four =
    fields_in_any_order_joined k (all_of FEATURES g ys) _
    ∙ ap₂ (λ x y. x ++ y) (contents_other FEATURES k g ys two) (fields_in_any_order_joined k (all_of KEYS same_bytes keys) _
    ∙ ap₂ (λ x y. x ++ y) (contents_other KEYS k same_bytes keys three) (contents_other VALUES k value_bytes values four))

core_or_around : {Y : Type 0} → (k : ℕ) (g : Y → List ℕ) (ys : List Y) (keys : List (List ℕ)) (values : List Value) (name : List ℕ)
    (extent : ℕ)
    → (contents_at k (core_by g ys keys values) ≡ []) ⊎ (contents_at k (head_fields name) ++ contents_at k (extent_fields extent) ≡ [])
core_or_around k g ys keys values name extent = by_tests (FEATURES == k) (KEYS == k) (VALUES == k) refl refl refl
  where
    around : (j : ℕ) → contents_at j (head_fields name) ++ contents_at j (extent_fields extent) ≡ [] → j ≡ k
        → contents_at k (head_fields name) ++ contents_at k (extent_fields extent) ≡ []
    around j none same =
        subst (λ i. contents_at i (head_fields name) ++ contents_at i (extent_fields extent) ≡ []) same none

    by_tests : (a b c : Bool) → (FEATURES == k) ≡ a → (KEYS == k) ≡ b → (VALUES == k) ≡ c
        → (contents_at k (core_by g ys keys values) ≡ []) ⊎ (contents_at k (head_fields name) ++ contents_at k (extent_fields extent) ≡ [])
    by_tests true b c two three four = inr (around FEATURES refl (eqb-true FEATURES k two))
    by_tests false true c two three four = inr (around KEYS refl (eqb-true KEYS k three))
    by_tests false false true two three four = inr (around VALUES refl (eqb-true VALUES k four))
    by_tests false false false two three four = inl (core_none k g ys keys values two three four)

nothing_left : {X : Type 0} → (xs ys : List X) → xs ++ ys ≡ [] → xs ≡ []
nothing_left [] ys none = refl
nothing_left (x ∷ xs) ys none = cc

nothing_right : {X : Type 0} → (xs ys : List X) → xs ++ ys ≡ [] → ys ≡ []
nothing_right [] ys none = none
nothing_right (x ∷ xs) ys none = cc

between : (head tail core front behind : List Content) → head ++ tail ≡ front ++ behind → (core ≡ []) ⊎ (front ++ behind ≡ [])
    → head ++ (core ++ tail) ≡ front ++ (core ++ behind)
between head tail core front behind same (inl none) =
    ap (λ c. head ++ (c ++ tail)) none ∙ same ∙ sym (ap (λ c. front ++ (c ++ behind)) none)
between head tail core front behind same (inr none) =
    ap₂ (λ h t. h ++ (core ++ t)) (nothing_left head tail (same ∙ none)) (nothing_right head tail (same ∙ none))
    ∙ sym (ap₂ (λ f b. f ++ (core ++ b)) (nothing_left front behind none) (nothing_right front behind none))

-- a list in four parts
in_four : {X : Type 0} → (a b c d : List X) → (a ++ (b ++ c)) ++ d ≡ a ++ (b ++ (c ++ d))
in_four a b c d = append_assoc a (b ++ c) d ∙ ap (λ r. a ++ r) (append_assoc b c d)

-- whatever the order of the fields around them
any_order : {Y : Type 0} → (g : Y → List ℕ) (ys : List Y) (keys : List (List ℕ)) (values : List Value) (name : List ℕ) (extent : ℕ)
    (head tail : List Plain) → AreAlike (head ++ tail) (head_fields name ++ extent_fields extent)
    → AreAlike (head ++ (core_by g ys keys values ++ tail)) (fields_by g ys keys values name extent)
any_order g ys keys values name extent head tail alike k =
    let core = core_by g ys keys values in
    let behind = extent_fields extent in
    let same = sym (fields_in_any_order_joined k head tail) ∙ alike k ∙ fields_in_any_order_joined k (head_fields name) behind in
    let split = ap (contents_at k) (sym (in_four (all_of FEATURES g ys) (all_of KEYS same_bytes keys) (all_of VALUES value_bytes values)
    behind)) ∙ fields_in_any_order_joined k core behind in
    fields_in_any_order_joined k head (core ++ tail) ∙ ap (λ r. contents_at k head ++ r) (fields_in_any_order_joined k core tail)
    ∙ between (contents_at k head) (contents_at k tail) (contents_at k core) (contents_at k (head_fields name)) (contents_at k behind) same
    (core_or_around k g ys keys values name extent)
    ∙ sym (fields_in_any_order_joined k (head_fields name) (tail_by g ys keys values extent)
    ∙ ap (λ r. contents_at k (head_fields name) ++ r) split)

are_contents : {Y : Type 0} → (g : Y → List ℕ) (ys : List Y) (keys : List (List ℕ)) (values : List Value) (name : List ℕ) (extent : ℕ)
    (xs : List Entry)
    → HasContents g ys keys values name extent xs → AreContents g ys keys values name extent xs
are_contents g ys keys values own_name own_extent xs at =
    let none = λ (k : ℕ). tail_none k g ys keys values own_extent in
    let parts = λ (k : ℕ). tail_contents k g ys keys values own_extent in
    let own = contents_same FEATURES g ys in
    let no_features = λ (k : ℕ). contents_other FEATURES k g ys in
    let no_keys = λ (k : ℕ). contents_other KEYS k same_bytes keys in
    let no_values = λ (k : ℕ). contents_other VALUES k value_bytes values in
    record {
      version = at VERSION ∙ ap (λ l. varint 2 ∷ l) (none VERSION refl refl refl);
      name = at NAME ∙ ap (λ l. bytes own_name ∷ l) (none NAME refl refl refl);
      extent = at EXTENT ∙ none EXTENT refl refl refl;
      features = at FEATURES ∙ parts FEATURES _ [] [] own (no_keys FEATURES refl) (no_values FEATURES refl) ∙ append-nil _;
      keys_are = at KEYS ∙ parts KEYS [] _ [] (no_features KEYS refl) (contents_same KEYS same_bytes keys) (no_values KEYS refl)
          ∙ append-nil _;
      values_are = at VALUES
          ∙ parts VALUES [] [] _ (no_features VALUES refl) (no_keys VALUES refl) (contents_same VALUES value_bytes values)
          ∙ append-nil _;
    }

-- the fields of a layer, wherever they stand, are the layer
pub layer_is : {Y : Type 0} → (g : Y → List ℕ) (ys : List Y) (xs : List Entry) (keys : List (List ℕ)) (values : List Value) (layer : ALayer)
    → HasContents g ys keys values layer.name layer.extent xs → IsUtf8 layer.name → layer.extent < 2 ^ 32 → AllByRecursion IsUtf8 keys
    → AllByRecursion (λ v. IsValueOf (value_bytes v) v) values
    → ((zs : List Entry) → map (λ (z : Entry). z.content) zs ≡ map (λ y. bytes (g y)) ys
    → AreRelated (HoldsFeature keys values) zs layer.features)
    → HaveForm VERSION (HasForm uint32) xs × (version_in xs ≡ Some 2) × IsLayer xs layer
layer_is g ys xs keys values layer is name extent texts hold features =
    let at = are_contents g ys keys values layer.name layer.extent xs is in
    let content_of = λ (x : Entry). x.content in
    let version = mapped_one content_of (only VERSION xs) (varint 2) at.version in
    let the_name = mapped_one content_of (only NAME xs) (bytes layer.name) at.name in
    let the_extent = mapped_one content_of (only EXTENT xs) (varint layer.extent) at.extent in
    let messages = bytes_all (HasForm message) g ys (all_true ys) in
    let values_form = bytes_all (HasForm message) value_bytes values (all_true values) in
    let same_keys : keys_in xs ≡ keys = keys_are (only KEYS xs) keys at.keys_are in
    let are = features (only FEATURES xs) at.features in (
      form_contents VERSION (HasForm uint32) xs (varint 2 ∷ []) at.version (lit< tt, tt),
      ap (λ l. number_in (last_or None l)) version.1 ∙ ap number_of version.2,
      record {
        forms = (
          form_contents NAME (HasForm string) xs (bytes layer.name ∷ []) at.name (name, tt),
          (
            form_contents FEATURES (HasForm message) xs _ at.features messages,
            (
              form_contents KEYS (HasForm string) xs _ at.keys_are (bytes_all (HasForm string) same_bytes keys texts),
              (
                form_contents VALUES (HasForm message) xs _ at.values_are values_form,
                (form_contents EXTENT (HasForm uint32) xs (varint layer.extent ∷ []) at.extent (extent, tt), tt),
              ),
            ),
          ),
        );
        name = ap (λ l. option_map (λ (x : Entry). bytes_of x.content) (last_or None l)) the_name.1
            ∙ ap (λ c. Some (bytes_of c)) the_name.2;
        extent = sym (ap (λ l. unwrap_or (number_in (last_or None l)) 4096) the_extent.1
            ∙ ap (λ c. unwrap_or (number_of c) 4096) the_extent.2);
        values = values;
        values_are = related_contents value_bytes (λ b v. IsValueOf b v) (only VALUES xs) values at.values_are hold;
        features = subst (λ ks. AreRelated (HoldsFeature ks values) (only FEATURES xs) layer.features) (sym same_keys) are;
      },
    )

-- fields that fit but for their sizes
abbrev FineContent : Content → Type 0
FineContent (varint n) = n < 2 ^ 64
FineContent (fixed64 n) = n < 2 ^ 64
FineContent (bytes d) = ⊤
FineContent (fixed32 n) = n < 2 ^ 32

record IsFine (p : Plain) : Type 0 where
  first : 1 ≤ p.number
  last : p.number < 2 ^ 29
  content : FineContent p.content

fit : (p : Plain) (n : ℕ) → IsFine p → length (short_field p.number p.content) ≤ n → n < 2 ^ 64 → IsFit p
fit p n fine within small = record { first = fine.first; last = fine.last; content = of_content p.content fine.content within }
  where
    of_content : (c : Content) → FineContent c → length (short_field p.number c) ≤ n → FitsContent c
    of_content (varint m) h le = h
    of_content (fixed64 m) h le = h
    of_content (bytes d) h le = let more = short_lengths_bytes p.number d in omega arith
    of_content (fixed32 m) h le = h

all_fit : (ps : List Plain) → AllByRecursion IsFine ps → length (spelled ps) < 2 ^ 64 → AllByRecursion IsFit ps
all_fit [] fine small = tt
all_fit (p ∷ ps) fine small =
    let size = length-append (short_field p.number p.content) (spelled ps) in
    (fit p (length (short_field p.number p.content)) fine.0 (omega arith) (omega (arith, size)), all_fit ps fine.1 (omega (arith, size)))

fine_bytes : {Y : Type 0} → (k : ℕ) (g : Y → List ℕ) (ys : List Y) → 1 ≤ k → k < 2 ^ 29 → AllByRecursion IsFine (all_of k g ys)
fine_bytes k g [] low high = tt
fine_bytes k g (y ∷ ys) low high = (record { first = low; last = high; content = tt }, fine_bytes k g ys low high)

core_fits : {Y : Type 0} → (g : Y → List ℕ) (ys : List Y) (keys : List (List ℕ)) (values : List Value)
    → length (spelled (core_by g ys keys values)) < 2 ^ 32 → AllByRecursion IsFit (core_by g ys keys values)
core_fits g ys keys values within =
    let features = fine_bytes FEATURES g ys (lit≤ tt) (lit< tt) in
    let key_fields = fine_bytes KEYS same_bytes keys (lit≤ tt) (lit< tt) in
    let value_fields = fine_bytes VALUES value_bytes values (lit≤ tt) (lit< tt) in
    let pools = all_joined IsFine (all_of KEYS same_bytes keys) _ key_fields value_fields in
    all_fit (core_by g ys keys values) (all_joined IsFine (all_of FEATURES g ys) _ features pools) (omega arith)

around_fit : (name : List ℕ) (extent : ℕ) → length name < 2 ^ 64 → extent < 2 ^ 32
    → AllByRecursion IsFit (head_fields name) × AllByRecursion IsFit (extent_fields extent)
around_fit name extent short small = (
  (
    record { first = lit≤ tt; last = lit< tt; content = lit< tt },
    (record { first = lit≤ tt; last = lit< tt; content = short }, tt),
  ),
  (record { first = lit≤ tt; last = lit< tt; content = omega arith }, tt),
)

-- the sizes of the payloads
sizes : {Y : Type 0} → (k : ℕ) (g : Y → List ℕ) (ys : List Y) → AllByRecursion IsFit (all_of k g ys)
    → AllByRecursion (λ y. length (g y) < 2 ^ 64) ys
sizes k g [] h = tt
sizes k g (y ∷ ys) h = (h.0.content, sizes k g ys h.1)

pub count_bytes : {Y : Type 0} → (k : ℕ) (g : Y → List ℕ) (ys : List Y) → 2 * length ys ≤ length (spelled (all_of k g ys))
count_bytes k g [] = omega arith
count_bytes k g (y ∷ ys) =
    let size = length-append (short_field k (bytes (g y))) (spelled (all_of k g ys)) in
    let more = short_lengths_bytes k (g y) in
    let rest = count_bytes k g ys in
    omega (arith, size)

pub spelled_length : (ps qs : List Plain) → length (spelled (ps ++ qs)) ≡ length (spelled ps) + length (spelled qs)
spelled_length ps qs = ap length (spelled_parts ps qs) ∙ length-append (spelled ps) (spelled qs)

-- each entry of the pools takes two bytes
pub pools_within : (keys : List (List ℕ)) (values : List Value) (layer : ALayer)
    → (2 * length keys ≤ length (spelled (fields_with keys values layer)))
    × (2 * length values ≤ length (spelled (fields_with keys values layer)))
pools_within keys values layer =
    let a = spelled_length (head_fields layer.name) (tail_by (feature_bytes keys values) layer.features keys values layer.extent) in
    let b = spelled_length (all_of FEATURES (feature_bytes keys values) layer.features)
    (all_of KEYS same_bytes keys ++ (all_of VALUES value_bytes values ++ extent_fields layer.extent)) in
    let c = spelled_length (all_of KEYS same_bytes keys) (all_of VALUES value_bytes values ++ extent_fields layer.extent) in
    let d = spelled_length (all_of VALUES value_bytes values) (extent_fields layer.extent) in
    let k = count_bytes KEYS same_bytes keys in
    let v = count_bytes VALUES value_bytes values in
    (omega (arith, a, b, c, d, k, v), omega (arith, a, b, c, d, k, v))

-- entries of a list
contained : {X : Type 0} → (P : X → Type 0) (xs : List X) (x : X) → AllByRecursion P xs → Contains xs x → P x
contained P [] x all (k, lt, e) = absurd (omega arith)
contained P (y ∷ ys) x all (zero, lt, e) = subst P e all.0
contained P (y ∷ ys) x all (suc k, lt, e) = contained P ys x all.1 (k, omega arith, e)

all_from : {X : Type 0} → (P : X → Type 0) (xs : List X) → ((x : X) → Contains xs x → P x) → AllByRecursion P xs
all_from P [] h = tt
all_from P (x ∷ xs) h = (h x (0, omega arith, refl), all_from P xs (λ y is. h y (suc is.0, omega (arith, is.1), is.2)))

-- the pools of valid features
attributes_valid : (features : List Feature) → AllByRecursion ValidFeature features → AllByRecursion ValidAttribute (attributes_of features)
attributes_valid [] h = tt
attributes_valid (f ∷ fs) h = all_joined ValidAttribute f.attributes (attributes_of fs) h.0.attributes (attributes_valid fs h.1)

-- what holds of each attribute's part holds of the entries that come from them
pool_valid : {X : Type 0} → (P : X → Type 0) (part : Attribute → X) (pool : List X) (attributes : List Attribute)
    → AllByRecursion (λ a. P (part a)) attributes → ((x : X) → Contains pool x → Contains (map part attributes) x)
    → AllByRecursion P pool
pool_valid P part pool attributes valid from =
    all_from P pool (λ x is. contained P (map part attributes) x (all_mapped part P attributes valid) (from x is))

pub keys_valid : (features : List Feature) → AllByRecursion ValidFeature features → AllByRecursion IsUtf8 (keys_of features)
unfolding keys_of
keys_valid features valid =
    let attributes = attributes_of features in
    let texts = all_weaker ValidAttribute (λ (a : Attribute). IsUtf8 a.key) (λ a h. h.0) attributes (attributes_valid features valid) in
    pool_valid IsUtf8 (λ (a : Attribute). a.key) (key_pool [] attributes) attributes texts (pool_entries_from_keys [] attributes)

pub values_valid : (features : List Feature) → AllByRecursion ValidFeature features → AllByRecursion ValidValue (values_of features)
unfolding values_of
values_valid features valid =
    let attributes = attributes_of features in
    let all = attributes_valid features valid in
    let parts = all_weaker ValidAttribute (λ (a : Attribute). ValidValue a.value) (λ a h. h.1) attributes all in
    pool_valid ValidValue (λ (a : Attribute). a.value) (value_pool [] attributes) attributes parts (pool_entries_from_values [] attributes)

-- attributes that are among the entries of the pools of a list
abbrev AreIn : List Attribute → Feature → Type 0
AreIn all f = AllByRecursion (IsIn (key_pool [] all) (value_pool [] all)) f.attributes

held_from : (front : List Attribute) (features : List Feature) → AllByRecursion (AreIn (front ++ attributes_of features)) features
held_from front [] = tt
held_from front (f ∷ fs) =
    let same = append_assoc front f.attributes (attributes_of fs) in (
      pools_hold [] [] front f.attributes (attributes_of fs),
      subst (λ all. AllByRecursion (AreIn all) fs) same (held_from (front ++ f.attributes) fs),
    )

pub features_held : (features : List Feature)
    → AllByRecursion (λ (f : Feature). AllByRecursion (IsIn (keys_of features) (values_of features)) f.attributes) features
unfolding keys_of values_of
features_held features = held_from [] features

-- the values and the features of a layer read as what they are
values_read : (values : List Value) → AllByRecursion ValidValue values
    → AllByRecursion (λ v. length (value_bytes v) < 2 ^ 64) values → AllByRecursion (λ v. IsValueOf (value_bytes v) v) values
values_read [] valid small = tt
values_read (v ∷ vs) valid small = (canonical_reads_value v valid.0 small.0, values_read vs valid.1 small.1)

pub features_read : (keys : List (List ℕ)) (values : List Value) (features : List Feature) → length keys ≤ 2 ^ 32 → length values ≤ 2 ^ 32
    → AllByRecursion ValidFeature features → AllByRecursion (λ (f : Feature). AllByRecursion (IsIn keys values) f.attributes) features
    → AllByRecursion (λ f. length (feature_bytes keys values f) < 2 ^ 64) features
    → AllByRecursion (λ f. IsFeatureOf (feature_bytes keys values f) keys values f) features
features_read keys values [] few_keys few_values valid held small = tt
features_read keys values (f ∷ fs) few_keys few_values valid held small =
    let names = places_name_names keys values f.attributes held.0 in
    let tags = places_name_small keys values f.attributes (2 ^ 32) held.0 few_keys few_values in (
      canonical_reads_feature keys values (tags_in keys values f.attributes) f valid.0 names tags small.0,
      features_read keys values fs few_keys few_values valid.1 held.1 small.1,
    )

-- entries of keys and of values, among which are those that the features use
pub record AreEnough (keys : List (List ℕ)) (values : List Value) (features : List Feature) : Type 0 where
  pub texts : AllByRecursion IsUtf8 keys
  pub valid : AllByRecursion ValidValue values
  pub held : AllByRecursion (λ (f : Feature). AllByRecursion (IsIn keys values) f.attributes) features

used_enough : (features : List Feature) → AllByRecursion ValidFeature features → AreEnough (keys_of features) (values_of features) features
used_enough features valid =
    record { texts = keys_valid features valid; valid = values_valid features valid; held = features_held features }

pub more_enough : (features : List Feature) (more_keys : List (List ℕ)) (more_values : List Value) → AllByRecursion ValidFeature features
    → AllByRecursion IsUtf8 more_keys → AllByRecursion ValidValue more_values
    → AreEnough (keys_of features ++ more_keys) (values_of features ++ more_values) features
more_enough features more_keys more_values valid texts valid_values =
    let keys = keys_of features in
    let values = values_of features in
    let all_keys = keys ++ more_keys in
    let all_values = values ++ more_values in
    record {
      texts = all_joined IsUtf8 keys more_keys (keys_valid features valid) texts;
      valid = all_joined ValidValue values more_values (values_valid features valid) valid_values;
      held =
          all_weaker (λ (f : Feature). AllByRecursion (IsIn keys values) f.attributes)
          (λ (f : Feature). AllByRecursion (IsIn all_keys all_values) f.attributes)
          (λ f held. all_weaker (IsIn keys values) (IsIn all_keys all_values)
          (λ a is. (Contains-append_left keys more_keys a.key is.0, Contains-append_left values more_values a.value is.1)) f.attributes
          held)
          features (features_held features);
    }

-- the core is no longer than the whole
core_within : (head core tail : List Plain) (b : List ℕ) → b ≡ spelled (head ++ (core ++ tail)) → length (spelled core) ≤ length b
core_within head core tail b is =
    let front = spelled_length head (core ++ tail) in
    let behind = spelled_length core tail in
    omega (arith, ap length is, front, behind)

-- fields of which those of each number are a layer's are this layer
item_alike : {Y : Type 0} → (g : Y → List ℕ) (ys : List Y) (keys : List (List ℕ)) (values : List Value) (layer : ALayer)
    (fields : List Plain) (b : List ℕ) → b ≡ spelled fields → length (spelled (core_by g ys keys values)) < 2 ^ 32 → AllByRecursion IsFit fields
    → AreAlike fields (fields_by g ys keys values layer.name layer.extent)
    → IsUtf8 layer.name → layer.extent < 2 ^ 32 → AllByRecursion IsUtf8 keys → AllByRecursion ValidValue values
    → ((zs : List Entry) → map (λ (z : Entry). z.content) zs ≡ map (λ y. bytes (g y)) ys
    → AreRelated (HoldsFeature keys values) zs layer.features)
    → IsItem b (Layer layer)
unfolding IsItem
item_alike g ys keys values layer fields b is within fit alike name extent texts valid features =
    let fits = core_fits g ys keys values within in
    let pool_fits = all_right IsFit (all_of KEYS same_bytes keys) _ (all_right IsFit (all_of FEATURES g ys) _ fits) in
    let value_sizes = sizes VALUES value_bytes values pool_fits in
    let whole = spelled_whole_whole fields fit in
    let at = λ (k : ℕ). only_contents k whole.0 ∙ ap (contents_at k) whole.2 ∙ alike k in
    let layer_read = layer_is g ys whole.0 keys values layer at name extent texts (values_read values valid value_sizes) features in
    subst (λ c. IsItem c (Layer layer)) (sym is) (whole.0, whole.1, layer_read.0, (layer_read.1, layer_read.2))

-- features, keys and values between fields that are alike the version, the name and the extent are this layer
pub item_around : {Y : Type 0} → (g : Y → List ℕ) (ys : List Y) (keys : List (List ℕ)) (values : List Value) (layer : ALayer)
    (head tail : List Plain) (b : List ℕ)
    → b ≡ spelled (head ++ (core_by g ys keys values ++ tail)) → length b < 2 ^ 32
    → AllByRecursion IsFit head → AllByRecursion IsFit tail → AreAlike (head ++ tail) (head_fields layer.name ++ extent_fields layer.extent)
    → IsUtf8 layer.name → layer.extent < 2 ^ 32 → AllByRecursion IsUtf8 keys → AllByRecursion ValidValue values
    → ((zs : List Entry) → map (λ (z : Entry). z.content) zs ≡ map (λ y. bytes (g y)) ys
    → AreRelated (HoldsFeature keys values) zs layer.features)
    → IsItem b (Layer layer)
item_around g ys keys values layer head tail b is within head_fit tail_fit alike name extent =
    let core = core_by g ys keys values in
    let small : length (spelled core) < 2 ^ 32 = omega (arith, core_within head core tail b is) in
    item_alike g ys keys values layer (head ++ (core ++ tail)) b is small
    (all_joined IsFit head (core ++ tail) head_fit (all_joined IsFit core tail (core_fits g ys keys values small) tail_fit))
    (any_order g ys keys values layer.name layer.extent head tail alike) name extent

-- features in their canonical payloads
pub features_are : (keys : List (List ℕ)) (values : List Value) (features : List Feature) → length keys ≤ 2 ^ 32 → length values ≤ 2 ^ 32
    → AllByRecursion ValidFeature features → AllByRecursion (λ (f : Feature). AllByRecursion (IsIn keys values) f.attributes) features
    → AllByRecursion (λ f. length (feature_bytes keys values f) < 2 ^ 64) features
    → (zs : List Entry) → map (λ (z : Entry). z.content) zs ≡ map (λ f. bytes (feature_bytes keys values f)) features
    → AreRelated (HoldsFeature keys values) zs features
features_are keys values features few_keys few_values valid held small zs is =
    related_contents (feature_bytes keys values) (λ b f. IsFeatureOf b keys values f) zs features is
    (features_read keys values features few_keys few_values valid held small)

core_pools : {Y : Type 0} → (g : Y → List ℕ) (ys : List Y) (keys : List (List ℕ)) (values : List Value)
    → (2 * length keys ≤ length (spelled (core_by g ys keys values))) × (2 * length values ≤ length (spelled (core_by g ys keys values)))
core_pools g ys keys values =
    let a = spelled_length (all_of FEATURES g ys) (all_of KEYS same_bytes keys ++ all_of VALUES value_bytes values) in
    let b = spelled_length (all_of KEYS same_bytes keys) (all_of VALUES value_bytes values) in
    let k = count_bytes KEYS same_bytes keys in
    let v = count_bytes VALUES value_bytes values in
    (omega (arith, a, b, k, v), omega (arith, a, b, k, v))

own_features : (keys : List (List ℕ)) (values : List Value) (features : List Feature) → AllByRecursion ValidFeature features
    → AreEnough keys values features → length (spelled (core_with keys values features)) < 2 ^ 32
    → (zs : List Entry) → map (λ (z : Entry). z.content) zs ≡ map (λ f. bytes (feature_bytes keys values f)) features
    → AreRelated (HoldsFeature keys values) zs features
own_features keys values features valid enough within =
    let g = feature_bytes keys values in
    let fits = core_fits g features keys values within in
    let feature_sizes = sizes FEATURES g features (all_left IsFit (all_of FEATURES g features) _ fits) in
    let pools = core_pools g features keys values in
    features_are keys values features (omega (arith, pools.0)) (omega (arith, pools.1)) valid enough.held feature_sizes

layer_between : (keys : List (List ℕ)) (values : List Value) (layer : ALayer) (head tail : List Plain) (b : List ℕ)
    → ValidLayer layer → AreEnough keys values layer.features
    → b ≡ spelled (head ++ (core_with keys values layer.features ++ tail)) → length b < 2 ^ 32
    → AllByRecursion IsFit head → AllByRecursion IsFit tail → AreAlike (head ++ tail) (head_fields layer.name ++ extent_fields layer.extent)
    → IsItem b (Layer layer)
unfolding ValidLayer
layer_between keys values layer head tail b valid enough is within head_fit tail_fit alike =
    let core = core_with keys values layer.features in
    item_around (feature_bytes keys values) layer.features keys values layer head tail b is within head_fit tail_fit alike
    valid.0 valid.1 enough.texts enough.valid
    (own_features keys values layer.features valid.2 enough (omega (arith, core_within head core tail b is)))

-- also with keys and values behind that no feature uses
pub layer_around : (layer : ALayer) (more_keys : List (List ℕ)) (more_values : List Value) (head tail : List Plain) (b : List ℕ)
    → ValidLayer layer → AllByRecursion IsUtf8 more_keys → AllByRecursion ValidValue more_values
    → b ≡ spelled (head ++ (core_with (keys_of layer.features ++ more_keys) (values_of layer.features ++ more_values) layer.features
    ++ tail))
    → length b < 2 ^ 32 → AllByRecursion IsFit head → AllByRecursion IsFit tail
    → AreAlike (head ++ tail) (head_fields layer.name ++ extent_fields layer.extent) → IsItem b (Layer layer)
unfolding ValidLayer
layer_around layer more_keys more_values head tail b valid texts valid_values =
    layer_between (keys_of layer.features ++ more_keys) (values_of layer.features ++ more_values) layer head tail b valid
    (more_enough layer.features more_keys more_values valid.2 texts valid_values)

-- the fields of a layer, and those between its head and its extent
pub layer_parts : (keys : List (List ℕ)) (values : List Value) (layer : ALayer)
    → spelled (fields_with keys values layer)
    ≡ spelled (head_fields layer.name ++ (core_with keys values layer.features ++ extent_fields layer.extent))
layer_parts keys values layer =
    ap (λ r. spelled (head_fields layer.name ++ r)) (sym (in_four (map (feature_field keys values) layer.features) (map key_field keys)
    (map value_field values) (extent_fields layer.extent)))

layer_canonical : (layer : ALayer) → ValidLayer layer → length (spelled (layer_fields layer)) < 2 ^ 32
    → IsItem (spelled (layer_fields layer)) (Layer layer)
unfolding ValidLayer
layer_canonical layer valid within =
    let keys = keys_of layer.features in
    let values = values_of layer.features in
    let short = short_lengths_bytes NAME layer.name in
    let version_size = spelled_length (head_fields layer.name)
    (tail_by (feature_bytes keys values) layer.features keys values layer.extent) in
    let head_size = spelled_length (plain VERSION (varint 2) ∷ []) (plain NAME (bytes layer.name) ∷ []) in
    let name_size = length-append (short_field NAME (bytes layer.name)) [] in
    let fits = around_fit layer.name layer.extent (omega (arith, short, version_size, head_size, name_size)) valid.1 in
    layer_between keys values layer (head_fields layer.name) (extent_fields layer.extent) (spelled (layer_fields layer)) valid
    (used_enough layer.features valid.2) (layer_parts keys values layer) within fits.0 fits.1 (λ k. refl)

foreign_canonical : (version : ℕ) (content : List ℕ) → AreOfVersion version content → IsItem content (Foreign version content)
unfolding IsItem
foreign_canonical version content (xs, whole, forms, is, other) = (xs, whole, forms, (is, other, refl))

pub item_canonical : (item : AnItem) → ValidItem item → length (canonical_item item) ≤ LIMIT → IsItem (canonical_item item) item
unfolding canonical_item ValidItem
item_canonical (Layer layer) valid within = layer_canonical layer valid (omega arith)
item_canonical (Foreign version content) valid within = foreign_canonical version content valid
