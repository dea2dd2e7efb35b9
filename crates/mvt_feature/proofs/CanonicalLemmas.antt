-- What is written reads as what it was written for.
use Rattle.std.proofs.Common.{◌≡◌, ℕ, ◌^◌, ◌<◌, ◌≤◌, ◌==◌, Bool, true, false, not, ℤ, pos, negsuc, List, [], ◌∷◌, ◌++◌, length, map, Option, Some, None, refl, sym, ap, ◌∙◌, subst, append-nil, length-append, arith, rules, lit<, lit≤, if◌then◌else◌}
use Rattle.std.specs.Prelude.{FitsSigned, IfSome}
use Rattle.std.specs.Int.{w64, cast_unsigned}
use Rattle.std.specs.List.{AllByRecursion, last_or}
use Rattle.std.proofs.Math.Facts.{Fits-of_z}
use Rattle.std.proofs.lemmas.Int.{ints, to_z-of_z}
use Rattle.mvt_base.specs.Rules.{first}
use Rattle.mvt_base.proofs.ListLemmas.{all_joined, mapped_one}
use Rattle.mvt_base.proofs.TableLemmas.{each_none}
use Rattle.mvt_base.proofs.SelectionLemmas.{all_only}
use Rattle.mvt_attrs.specs.Values.{Value}
use Rattle.mvt_attrs.specs.declared.value.ValueOf.TheVariants.{Text, Float, Double, Int, Uint, Sint, Bool as Truth}
use Rattle.mvt_attrs.specs.Tags.{Names, Resolved}
use Rattle.mvt_geometry.specs.declared.shape.Kind.{Kind}
use Rattle.mvt_geometry.specs.declared.shape.Kind.TheVariants as kinds
use Rattle.mvt_geometry.specs.Drawing.{drawn, Draws}
use Rattle.mvt_geometry.specs.Shape.{kind_of}
use Rattle.mvt_wire.specs.Field.{varint, bytes, Entry}
use Rattle.mvt_wire.specs.Spelling.{Plain, plain_of, short_field, short_numbers, spelled, IsFit}
use Rattle.mvt_wire.specs.Packed.{ArePacked, packed, packed_within}
use Rattle.mvt_wire.specs.Zigzag.{zig}
use Rattle.mvt_feature.specs.declared.numbers.feature.TheConstants.{ID, TAGS, TYPE, GEOMETRY}
use Rattle.mvt_feature.specs.declared.numbers.value.TheConstants.{STRING}
use Rattle.mvt_feature.specs.declared.feature.Feature.{Feature}
use Rattle.mvt_feature.specs.Canonical.{plain, field_of_value, value_fields, id_fields, tags_fields, type_fields, type_number, drawing_fields, feature_fields}
use Rattle.mvt_feature.specs.Copying.{packed_tags}
use Rattle.mvt_feature.specs.Features.{feature_forms, Joined, number_of, number_in, kind_numbered, kind_of_type, IsFeature, IsFeatureOf}
use Rattle.mvt_feature.specs.Forms.{any_varint, geom_type, HasForm, HaveForms, number_rules, string}
use Rattle.mvt_feature.specs.Selection.{only}
use Rattle.mvt_feature.specs.Valid.{ValidValue, ValidFeature}
use Rattle.mvt_feature.specs.Values.{value_forms, Means, IsValue, IsValueOf}
use Rattle.mvt_feature.specs.ValueRules.{kinds, are_one_kind, value_field_rules}
use Rattle.mvt_feature.proofs.ValueLemmas.{value_from, rules_clean}
use Rattle.mvt_feature.proofs.FormLemmas.{form_clean}
use Rattle.mvt_geometry.proofs.GeometryLaws.{drawn_small}
use Rattle.mvt_wire.proofs.WireLaws.{packed_function_only, short_lengths_bytes, short_lengths_numbers, short_packed_packed, spelled_parts, spelled_whole_whole}

none_of : (xs : List Entry) → map plain_of xs ≡ [] → xs ≡ []
none_of [] h = refl
none_of (x ∷ xs) h = cc

-- ---- values

value_clean : (v : Value) → ValidValue v → first (number_rules value_forms (field_of_value v).number (field_of_value v).content) ≡ None
value_clean (Text text) h = form_clean string (bytes text) h
value_clean (Float bits) h = refl
value_clean (Double bits) h = refl
value_clean (Int z) h = refl
value_clean (Uint n) h = refl
value_clean (Sint z) h = refl
value_clean (Truth b) h = refl

truth_of : (b : Bool) → b ≡ not ((if b then 1 else 0) == 0)
truth_of true = refl
truth_of false = refl

value_means : (v : Value) → ValidValue v → Means (field_of_value v).number (field_of_value v).content v
value_means (Text text) h = (refl, refl)
value_means (Float bits) h = (refl, refl)
value_means (Double bits) h = (refl, refl)
value_means (Int z) h = (refl, sym (to_z-of_z w64 z h))
value_means (Uint n) h = (refl, refl)
value_means (Sint z) h = (refl, refl)
value_means (Truth b) h = (refl, truth_of b)

-- a plain field that stands somewhere
abbrev plain_at : ℕ → ℕ → Plain → Entry
plain_at at body p = record { at = at; body = body; number = p.number; content = p.content }

value_kind : (at body : ℕ) (v : Value) → kinds (plain_at at body (field_of_value v) ∷ []) ≡ plain_at at body (field_of_value v) ∷ []
value_kind at body (Text text) = refl
value_kind at body (Float bits) = refl
value_kind at body (Double bits) = refl
value_kind at body (Int z) = refl
value_kind at body (Uint n) = refl
value_kind at body (Sint z) = refl
value_kind at body (Truth b) = refl

-- a value's own field is the value
value_at : (at body : ℕ) (v : Value) → ValidValue v → IsValue (plain_at at body (field_of_value v) ∷ []) v
value_at at body v h =
    let x : Entry = plain_at at body (field_of_value v) in
    let kind = value_kind at body v in
    value_from 0 (x ∷ []) x v (each_none (value_field_rules 0) [] (x ∷ []) (rules_clean 0 x (value_clean v h), tt))
    (ap are_one_kind kind) (ap (last_or None) kind) (value_means v h)

pub value_reads : (xs : List Entry) (v : Value) → map plain_of xs ≡ value_fields v → ValidValue v → IsValue xs v
value_reads xs v is h =
    let one = mapped_one plain_of xs (field_of_value v) is in
    let x = one.0 in
    let same : x ≡ plain_at x.at x.body (field_of_value v) =
    ap (λ (p : Plain). plain_at x.at x.body p) one.2 in
    subst (λ ys. IsValue ys v) (sym (one.1 ∙ ap (λ (y : Entry). y ∷ []) same)) (value_at x.at x.body v h)

zig_small : (z : ℤ) → FitsSigned w64 z → zig z < 2 ^ 64
zig_small (pos n) h = omega (arith, ints)
zig_small (negsuc n) h = omega (arith, ints)

truth_small : (b : Bool) → (if b then 1 else 0) < 2 ^ 64
truth_small true = lit< tt
truth_small false = lit< tt

code_small : (z : ℤ) → FitsSigned w64 z → cast_unsigned w64 z < 2 ^ 64
code_small z h = let fits = Fits-of_z h in search rules

pub value_fit : (v : Value) → ValidValue v → length (spelled (value_fields v)) < 2 ^ 64 → IsFit (field_of_value v)
value_fit (Text text) h small =
    let longer = short_lengths_bytes STRING text in
    let all : length (short_field STRING (bytes text)) < 2 ^ 64 =
    subst (λ l. length l < 2 ^ 64) (append-nil (short_field STRING (bytes text))) small in
    record { first = lit≤ tt; last = lit< tt; content = omega arith }
value_fit (Float bits) h small = record { first = lit≤ tt; last = lit< tt; content = h }
value_fit (Double bits) h small = record { first = lit≤ tt; last = lit< tt; content = h }
value_fit (Int z) h small = record { first = lit≤ tt; last = lit< tt; content = code_small z h }
value_fit (Uint n) h small = record { first = lit≤ tt; last = lit< tt; content = h }
value_fit (Sint z) h small = record { first = lit≤ tt; last = lit< tt; content = zig_small z h }
value_fit (Truth b) h small = record { first = lit≤ tt; last = lit< tt; content = truth_small b }

pub canonical_value : (v : Value) → ValidValue v → length (spelled (value_fields v)) < 2 ^ 64 → IsValueOf (spelled (value_fields v)) v
canonical_value v h small =
    let found = spelled_whole_whole (value_fields v) (value_fit v h small, tt) in
    (found.0, found.1, value_reads found.0 v found.2 h)

-- ---- features

-- the plain fields of a number
abbrev pub only_plain : ℕ → List Plain → List Plain
only_plain k [] = []
only_plain k (p ∷ ps) = if p.number == k then p ∷ only_plain k ps else only_plain k ps

only_of_plain : (k : ℕ) (xs : List Entry) → map plain_of (only k xs) ≡ only_plain k (map plain_of xs)
only_of_plain k [] = refl
only_of_plain k (x ∷ xs) = by_test (x.number == k) (only_of_plain k xs)
  where
    by_test : (b : Bool) → map plain_of (only k xs) ≡ only_plain k (map plain_of xs)
        → map plain_of (if b then x ∷ only k xs else only k xs)
        ≡ (if b then plain_of x ∷ only_plain k (map plain_of xs) else only_plain k (map plain_of xs))
    by_test true h = ap (λ l. plain_of x ∷ l) h
    by_test false h = h

-- fields of an id, of packed tags, of a type and of packed integers
abbrev all_fields : Option ℕ → List ℕ → Kind → List ℕ → List Plain
all_fields id d kind e = id_fields id ++ (packed_tags d ++ (type_fields kind ++ plain GEOMETRY (bytes e) ∷ []))

ids_only : (id : Option ℕ) (d : List ℕ) (kind : Kind) (e : List ℕ) → only_plain ID (all_fields id d kind e) ≡ id_fields id
ids_only None [] kind e = refl
ids_only None (b ∷ bs) kind e = refl
ids_only (Some n) [] kind e = refl
ids_only (Some n) (b ∷ bs) kind e = refl

tags_only : (id : Option ℕ) (d : List ℕ) (kind : Kind) (e : List ℕ) → only_plain TAGS (all_fields id d kind e) ≡ packed_tags d
tags_only None [] kind e = refl
tags_only None (b ∷ bs) kind e = refl
tags_only (Some n) [] kind e = refl
tags_only (Some n) (b ∷ bs) kind e = refl

type_only : (id : Option ℕ) (d : List ℕ) (kind : Kind) (e : List ℕ)
    → only_plain TYPE (all_fields id d kind e) ≡ plain TYPE (varint (type_number kind)) ∷ []
type_only None [] kind e = refl
type_only None (b ∷ bs) kind e = refl
type_only (Some n) [] kind e = refl
type_only (Some n) (b ∷ bs) kind e = refl

integers_only : (id : Option ℕ) (d : List ℕ) (kind : Kind) (e : List ℕ)
    → only_plain GEOMETRY (all_fields id d kind e) ≡ plain GEOMETRY (bytes e) ∷ []
integers_only None [] kind e = refl
integers_only None (b ∷ bs) kind e = refl
integers_only (Some n) [] kind e = refl
integers_only (Some n) (b ∷ bs) kind e = refl

-- the number of a last field
id_last : (xs : List Entry) (id : Option ℕ) → map plain_of xs ≡ id_fields id → number_in (last_or None xs) ≡ id
id_last xs None h = rw (none_of xs h) refl
id_last xs (Some n) h =
    let one = mapped_one plain_of xs (plain ID (varint n)) h in
    ap (λ l. number_in (last_or None l)) one.1 ∙ ap (λ (p : Plain). number_of p.content) one.2

id_forms : (xs : List Entry) (id : Option ℕ) → map plain_of xs ≡ id_fields id
    → AllByRecursion (λ (x : Entry). HasForm any_varint x.content) xs
id_forms xs None h = rw (none_of xs h) tt
id_forms xs (Some n) h =
    let one = mapped_one plain_of xs (plain ID (varint n)) h in
    let form : HasForm any_varint one.0.content = subst (λ (p : Plain). HasForm any_varint p.content) (sym one.2) tt in
    let all : AllByRecursion (λ (x : Entry). HasForm any_varint x.content) (one.0 ∷ []) = (form, tt) in
    subst (AllByRecursion (λ (x : Entry). HasForm any_varint x.content)) (sym one.1) all

type_small : (kind : Kind) → type_number kind ≤ 3
type_small kinds.Unknown = lit≤ tt
type_small kinds.Point = lit≤ tt
type_small kinds.LineString = lit≤ tt
type_small kinds.Polygon = lit≤ tt

kind_back : (kind : Kind) → kind_numbered (type_number kind) ≡ kind
kind_back kinds.Unknown = refl
kind_back kinds.Point = refl
kind_back kinds.LineString = refl
kind_back kinds.Polygon = refl

type_forms : (xs : List Entry) (kind : Kind) → map plain_of xs ≡ plain TYPE (varint (type_number kind)) ∷ []
    → AllByRecursion (λ (x : Entry). HasForm geom_type x.content) xs
type_forms xs kind h =
    let one = mapped_one plain_of xs (plain TYPE (varint (type_number kind))) h in
    let form : HasForm geom_type one.0.content = subst (λ (p : Plain). HasForm geom_type p.content) (sym one.2) (type_small kind) in
    let all : AllByRecursion (λ (x : Entry). HasForm geom_type x.content) (one.0 ∷ []) = (form, tt) in
    subst (AllByRecursion (λ (x : Entry). HasForm geom_type x.content)) (sym one.1) all

type_last : (xs : List Entry) (kind : Kind) → map plain_of xs ≡ plain TYPE (varint (type_number kind)) ∷ []
    → kind_of_type (number_in (last_or None xs)) ≡ kind
type_last xs kind h =
    let one = mapped_one plain_of xs (plain TYPE (varint (type_number kind))) h in
    ap (λ l. kind_of_type (number_in (last_or None l))) one.1 ∙ ap (λ (p : Plain). kind_of_type (number_of p.content)) one.2
    ∙ kind_back kind

-- the numbers of one packed field
packed_joined : (xs : List Entry) (k : ℕ) (d ns : List ℕ) → ArePacked d ns → map plain_of xs ≡ plain k (bytes d) ∷ [] → Joined xs ns
packed_joined xs k d ns are h =
    let one = mapped_one plain_of xs (plain k (bytes d)) h in
    let content : one.0.content ≡ bytes d = ap (λ (p : Plain). p.content) one.2 in
    let joined : Joined (one.0 ∷ []) ns = (ns, [], sym (append-nil ns), rw content are, refl) in
    subst (λ ys. Joined ys ns) (sym one.1) joined

packed_none : (packed []).numbers ≡ []
unfolding packed packed_within
packed_none = refl

tags_joined : (xs : List Entry) (d tags : List ℕ) → ArePacked d tags → map plain_of xs ≡ packed_tags d → Joined xs tags
tags_joined xs [] tags are h = rw (none_of xs h) (sym (packed_function_only [] tags are).1 ∙ packed_none)
tags_joined xs (b ∷ bs) tags are h = packed_joined xs TAGS (b ∷ bs) tags are h

-- the forms of fields
pub parts_forms : (xs : List Entry) (id : Option ℕ) (d : List ℕ) (kind : Kind) (e : List ℕ)
    → ((k : ℕ) → only_plain k (map plain_of xs) ≡ only_plain k (all_fields id d kind e)) → HaveForms feature_forms xs
parts_forms xs id d kind e is = (
  all_only (λ (x : Entry). x.number) (λ (x : Entry). HasForm any_varint x.content) ID xs
      (id_forms (only ID xs) id (only_of_plain ID xs ∙ is ID ∙ ids_only id d kind e)),
  (
    all_only (λ (x : Entry). x.number) (λ (x : Entry). HasForm geom_type x.content) TYPE xs
        (type_forms (only TYPE xs) kind (only_of_plain TYPE xs ∙ is TYPE ∙ type_only id d kind e)),
    tt,
  ),
)

-- the one field of integers
pub parts_integers : (xs : List Entry) (id : Option ℕ) (d : List ℕ) (kind : Kind) (e : List ℕ)
    → ((k : ℕ) → only_plain k (map plain_of xs) ≡ only_plain k (all_fields id d kind e))
    → (x : Entry) × (only GEOMETRY xs ≡ x ∷ []) × (x.content ≡ bytes e)
parts_integers xs id d kind e is =
    let one = mapped_one plain_of (only GEOMETRY xs) (plain GEOMETRY (bytes e))
    (only_of_plain GEOMETRY xs ∙ is GEOMETRY ∙ integers_only id d kind e) in
    (one.0, one.1, ap (λ (p : Plain). p.content) one.2)

-- a feature, whatever spellings its packed numbers have, and its tags
pub parts_read : (xs : List Entry) (keys : List (List ℕ)) (values : List Value) (kind : Kind) (d e tags integers : List ℕ) (f : Feature)
    → ((k : ℕ) → only_plain k (map plain_of xs) ≡ only_plain k (all_fields f.id d kind e)) → ArePacked d tags → ArePacked e integers
    → Resolved keys values tags f.attributes → Draws kind integers f.geometry
    → IsFeature xs keys values f × Joined (only TAGS xs) tags
parts_read xs keys values kind d e tags integers f is are integers_are resolved draws =
    let ids = only_of_plain ID xs ∙ is ID ∙ ids_only f.id d kind e in
    let types = only_of_plain TYPE xs ∙ is TYPE ∙ type_only f.id d kind e in
    let all_tags = tags_joined (only TAGS xs) d tags are (only_of_plain TAGS xs ∙ is TAGS ∙ tags_only f.id d kind e) in (
      record {
        forms = parts_forms xs f.id d kind e is;
        id = sym (id_last (only ID xs) f.id ids);
        tags = tags;
        tags_are = all_tags;
        attributes = resolved;
        integers = integers;
        integers_are = packed_joined (only GEOMETRY xs) GEOMETRY e integers integers_are
            (only_of_plain GEOMETRY xs ∙ is GEOMETRY ∙ integers_only f.id d kind e);
        geometry = subst (λ k. Draws k integers f.geometry) (sym (type_last (only TYPE xs) kind types)) draws;
      },
      all_tags,
    )

-- packed tags
pub tags_packed : (tags b : List ℕ) → b ≡ short_numbers tags → packed_tags b ≡ tags_fields tags
tags_packed [] b is = ap packed_tags is
tags_packed (tag ∷ tags) [] is = absurd (omega (arith, ap length is, short_lengths_numbers (tag ∷ tags)))
tags_packed (tag ∷ tags) (x ∷ xs) is = ap (λ d. plain TAGS (bytes d) ∷ []) is

pub feature_reads : (xs : List Entry) (keys : List (List ℕ)) (values : List Value) (tags : List ℕ) (f : Feature)
    → ((k : ℕ) → only_plain k (map plain_of xs) ≡ only_plain k (feature_fields tags f)) → Names keys values tags f.attributes
    → AllByRecursion (λ n. n < 2 ^ 32) tags → ValidFeature f → AllByRecursion (λ n. n < 2 ^ 32) (drawn f.geometry) → IsFeature xs keys values f
feature_reads xs keys values tags f is names small valid low =
    let kind = kind_of f.geometry in
    let integers = drawn f.geometry in
    let rest = type_fields kind ++ plain GEOMETRY (bytes (short_numbers integers)) ∷ [] in
    (parts_read xs keys values kind (short_numbers tags) (short_numbers integers) tags integers f
    (λ k. is k ∙ ap (λ ts. only_plain k (id_fields f.id ++ (ts ++ rest))) (sym (tags_packed tags (short_numbers tags) refl)))
    (short_packed_packed tags small) (short_packed_packed integers low) (record { named = names; distinct = valid.distinct })
    (record { same_kind = refl; valid = valid.drawn; spelled = refl })).0

-- the fields of a feature can be spelled
bytes_fit : (k : ℕ) (d : List ℕ) (n : ℕ) → 1 ≤ k → k < 2 ^ 29 → length (short_field k (bytes d)) ≤ n → n < 2 ^ 64
    → IsFit (plain k (bytes d))
bytes_fit k d n low high within small =
    let longer = short_lengths_bytes k d in
    record { first = low; last = high; content = omega arith }

drawing_fit : (kind : Kind) (integers : List ℕ) → length (spelled (drawing_fields kind integers)) < 2 ^ 64
    → AllByRecursion IsFit (drawing_fields kind integers)
drawing_fit kind integers small =
    let low = type_small kind in
    let size =
    length-append (short_field TYPE (varint (type_number kind)))
    (spelled (plain GEOMETRY (bytes (short_numbers integers)) ∷ [])) in
    let last = ap length (append-nil (short_field GEOMETRY (bytes (short_numbers integers)))) in
    let packed =
    bytes_fit GEOMETRY (short_numbers integers) (length (short_field GEOMETRY (bytes (short_numbers integers)))) (lit≤ tt)
    (lit< tt) (omega arith) (omega (arith, size, last)) in
    (record { first = lit≤ tt; last = lit< tt; content = omega arith }, (packed, tt))

tags_fit : (tags : List ℕ) → length (spelled (tags_fields tags)) < 2 ^ 64 → AllByRecursion IsFit (tags_fields tags)
tags_fit [] small = tt
tags_fit (t ∷ ts) small =
    let last = ap length (append-nil (short_field TAGS (bytes (short_numbers (t ∷ ts))))) in (
      bytes_fit TAGS (short_numbers (t ∷ ts)) (length (short_field TAGS (bytes (short_numbers (t ∷ ts))))) (lit≤ tt) (lit< tt)
          (omega arith) (omega (arith, last)),
      tt,
    )

id_fit : (id : Option ℕ) → IfSome id (λ n. n < 2 ^ 64) → AllByRecursion IsFit (id_fields id)
id_fit None h = tt
id_fit (Some n) h = (record { first = lit≤ tt; last = lit< tt; content = h }, tt)

both_small : (fs gs : List Plain) (n : ℕ) → length (spelled (fs ++ gs)) < n → (length (spelled fs) < n) × (length (spelled gs) < n)
both_small fs gs n small =
    let size = ap length (spelled_parts fs gs) ∙ length-append (spelled fs) (spelled gs) in
    (omega (arith, size), omega (arith, size))

pub feature_fit : (tags : List ℕ) (f : Feature) → IfSome f.id (λ n. n < 2 ^ 64)
    → length (spelled (feature_fields tags f)) < 2 ^ 64 → AllByRecursion IsFit (feature_fields tags f)
feature_fit tags f id small =
    let outer = both_small (id_fields f.id) (tags_fields tags ++ drawing_fields (kind_of f.geometry) (drawn f.geometry)) (2 ^ 64) small in
    let inner = both_small (tags_fields tags) (drawing_fields (kind_of f.geometry) (drawn f.geometry)) (2 ^ 64) outer.1 in
    all_joined IsFit (id_fields f.id) _ (id_fit f.id id)
    (all_joined IsFit (tags_fields tags) _ (tags_fit tags inner.0) (drawing_fit (kind_of f.geometry) (drawn f.geometry) inner.1))

pub canonical_feature : (keys : List (List ℕ)) (values : List Value) (tags : List ℕ) (f : Feature) → ValidFeature f
    → Names keys values tags f.attributes → AllByRecursion (λ n. n < 2 ^ 32) tags
    → length (spelled (feature_fields tags f)) < 2 ^ 64 → IsFeatureOf (spelled (feature_fields tags f)) keys values f
canonical_feature keys values tags f valid names small fits =
    let found = spelled_whole_whole (feature_fields tags f) (feature_fit tags f valid.id fits) in
    (found.0, found.1, feature_reads found.0 keys values tags f (λ k. ap (only_plain k) found.2) names small valid (drawn_small f.geometry valid.drawn))
