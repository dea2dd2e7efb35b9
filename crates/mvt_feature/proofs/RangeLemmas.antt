-- What is read is in the range of its type.
use Rattle.std.proofs.Common.{◌≡◌, ℕ, zero, suc, ◌+◌, ◌^◌, ◌<◌, ℤ, pos, negsuc, List, [], ◌∷◌, ◌++◌, length, Option, Some, None, refl, sym, ◌∙◌, subst, arith, rules, lit<}
use Rattle.mvt_base.proofs.SelectionLemmas.{only_number, only_all, last_of_all}
use Rattle.std.specs.Prelude.{IsUtf8, FitsSigned, IfSome, slice_get}
use Rattle.std.specs.Int.{w64, cast_signed}
use Rattle.std.specs.List.{AllByRecursion}
use Rattle.std.proofs.Math.Facts.{sfits_to_z, Fits-of_lt}
use Rattle.mvt_attrs.specs.Values.{Value}
use Rattle.mvt_attrs.specs.declared.value.ValueOf.TheVariants.{Text, Float, Double, Int, Uint, Sint, Bool as Truth}
use Rattle.mvt_attrs.specs.declared.value.Attribute.{Attribute}
use Rattle.mvt_attrs.specs.Tags.{Names}
use Rattle.mvt_wire.specs.Field.{Content, varint, fixed64, bytes, fixed32, Entry, IsField, IsPayload}
use Rattle.mvt_wire.specs.Split.{SplitFrom}
use Rattle.mvt_wire.specs.Zigzag.{zig}
use Rattle.mvt_feature.specs.declared.numbers.feature.TheConstants.{ID}
use Rattle.mvt_feature.specs.declared.numbers.value.TheConstants.{STRING}
use Rattle.mvt_feature.specs.declared.feature.Feature.{Feature}
use Rattle.mvt_feature.specs.Features.{number_of, number_in, IsFeatureOf}
use Rattle.mvt_feature.specs.Ranges.{AreBytes, IsInRange}
use Rattle.mvt_feature.specs.Selection.{only, last_only}
use Rattle.mvt_feature.specs.Valid.{ValidValue, ValidAttribute, ValidFeature}
use Rattle.mvt_feature.specs.Forms.{string, HasForm}
use Rattle.mvt_feature.specs.Values.{Means, IsValueOf}

pub bytes_front : (xs ys : List ℕ) → AreBytes (xs ++ ys) → AreBytes xs
bytes_front [] ys h k = lit< tt
bytes_front (x ∷ xs) ys h zero = h zero
bytes_front (x ∷ xs) ys h (suc k) = bytes_front xs ys (λ i. h (suc i)) k

pub bytes_back : (xs ys : List ℕ) → AreBytes (xs ++ ys) → AreBytes ys
bytes_back [] ys h = h
bytes_back (x ∷ xs) ys h = bytes_back xs ys (λ i. h (suc i))

payload_range : (b : List ℕ) (c : Content) → AreBytes b → IsPayload b c → IsInRange c
payload_range b (varint n) h is = is.fits
payload_range b (fixed64 n) h is = omega (arith, is.1, h 0, h 1, h 2, h 3, h 4, h 5, h 6, h 7)
payload_range b (bytes d) h is = bytes_back is.0 d (subst AreBytes is.2 h)
payload_range b (fixed32 n) h is = omega (arith, is.1, h 0, h 1, h 2, h 3)

field_range : (b : List ℕ) (number : ℕ) (c : Content) → AreBytes b → IsField b number c → IsInRange c
field_range b number c h is = payload_range is.payload c (bytes_back is.tag is.payload (subst AreBytes is.joined h)) is.carries

pub fields_range : (at : ℕ) (b : List ℕ) (xs : List Entry) (rest : List ℕ) → AreBytes b → SplitFrom at b xs rest
    → AllByRecursion (λ (x : Entry). IsInRange x.content) xs
fields_range at b [] rest h s = tt
fields_range at b (x ∷ xs) rest h (front, back, is, here, more) =
    let whole = subst AreBytes is h in (
      field_range front x.number x.content (bytes_front front back whole) here.field,
      fields_range (at + length front) back xs rest (bytes_back front back whole) more,
    )

-- values
pub signed_range : (z : ℤ) → zig z < 2 ^ 64 → FitsSigned w64 z
signed_range (pos n) h = search rules
signed_range (negsuc n) h = search rules

pub code_range : (n : ℕ) → n < 2 ^ 64 → FitsSigned w64 (cast_signed w64 n)
code_range n h = sfits_to_z (Fits-of_lt h)

means_range : (n : ℕ) (c : Content) (v : Value) → IsInRange c → (n ≡ 1 → HasForm string c) → Means n c v → ValidValue v
means_range n (bytes d) (Text t) h text m = subst IsUtf8 (sym m.1) (text m.0)
means_range n (fixed32 k) (Float b) h text m = subst (λ i. i < 2 ^ 32) (sym m.1) h
means_range n (fixed64 k) (Double b) h text m = subst (λ i. i < 2 ^ 64) (sym m.1) h
means_range n (varint k) (Int z) h text m = subst (FitsSigned w64) (sym m.1) (code_range k h)
means_range n (varint k) (Uint b) h text m = subst (λ i. i < 2 ^ 64) (sym m.1) h
means_range n (varint k) (Sint z) h text m = signed_range z (subst (λ i. i < 2 ^ 64) (sym m.1) h)
means_range n (varint k) (Truth b) h text m = tt
means_range n c v h text m = absurd (search rules)

pub value_valid : (payload : List ℕ) (v : Value) → AreBytes payload → IsValueOf payload v → ValidValue v
value_valid payload v h (xs, whole, is) =
    let ranges =
    only_all (λ (x : Entry). x.number) (λ (x : Entry). IsInRange x.content) is.kind xs
    (fields_range 0 payload xs [] h whole) in
    let range = last_of_all (λ (x : Entry). IsInRange x.content) (only is.kind xs) is.last ranges is.is_last in
    let named =
    last_of_all (λ (x : Entry). x.number ≡ is.kind) (only is.kind xs) is.last
    (only_number (λ (x : Entry). x.number) is.kind xs) is.is_last in
    let texts =
    last_of_all (λ (x : Entry). x.number ≡ STRING → HasForm string x.content) (only is.kind xs) is.last
    (only_all (λ (x : Entry). x.number) (λ (x : Entry). x.number ≡ STRING → HasForm string x.content) is.kind xs is.forms.0)
    is.is_last in
    means_range is.kind is.last.content v range (λ one. texts (named ∙ one)) is.means

-- features
all_from : {X : Type 0} → (P : X → Type 0) (xs : List X) → ((i : ℕ) (x : X) → slice_get xs i ≡ Some x → P x) → AllByRecursion P xs
all_from P [] h = tt
all_from P (x ∷ xs) h = (h 0 x refl, all_from P xs (λ i y e. h (suc i) y e))

all_at : {X : Type 0} → (P : X → Type 0) (xs : List X) (i : ℕ) (x : X) → AllByRecursion P xs → slice_get xs i ≡ Some x → P x
all_at P [] i x h e = cc
all_at P (y ∷ ys) zero x h e = let same : y ≡ x = cc in rw same at h.0
all_at P (y ∷ ys) (suc i) x h e = all_at P ys i x h.1 e

number_range : (o : Option Entry) (n : ℕ) → ((x : Entry) → o ≡ Some x → IsInRange x.content) → number_in o ≡ Some n → n < 2 ^ 64
number_range None n h e = cc
number_range (Some x) n h e = of_content x.content (h x refl) e
  where
    of_content : (c : Content) → IsInRange c → number_of c ≡ Some n → n < 2 ^ 64
    of_content (varint m) range e = let same : m ≡ n = cc in rw same at range
    of_content (bytes d) range e = cc
    of_content (fixed64 m) range e = cc
    of_content (fixed32 m) range e = cc

pub if_some : (o : Option ℕ) (P : ℕ → Type 0) → ((n : ℕ) → o ≡ Some n → P n) → IfSome o P
if_some None P h = tt
if_some (Some n) P h = h n refl

pub attributes_valid : (keys : List (List ℕ)) (values : List Value) (tags : List ℕ) (attributes : List Attribute)
    → AllByRecursion IsUtf8 keys → AllByRecursion ValidValue values → Names keys values tags attributes
    → AllByRecursion ValidAttribute attributes
attributes_valid keys values tags attributes utf8 valid named =
    all_from ValidAttribute attributes
    (λ i a at. (all_at IsUtf8 keys _ a.key utf8 (named.key i a at), all_at ValidValue values _ a.value valid (named.value i a at)))

pub feature_valid : (payload : List ℕ) (keys : List (List ℕ)) (values : List Value) (f : Feature) → AreBytes payload
    → AllByRecursion IsUtf8 keys → AllByRecursion ValidValue values → IsFeatureOf payload keys values f → ValidFeature f
feature_valid payload keys values f h utf8 valid (xs, whole, is) =
    let ranges = only_all (λ (x : Entry). x.number) (λ (x : Entry). IsInRange x.content) 1 xs (fields_range 0 payload xs [] h whole) in
    record {
      id =
          if_some f.id (λ n. n < 2 ^ 64)
          (λ n e. number_range (last_only ID xs) n (λ x at. last_of_all (λ (y : Entry). IsInRange y.content) (only ID xs) x ranges at)
          (sym is.id ∙ e));
      attributes = attributes_valid keys values _ f.attributes utf8 valid is.attributes.named;
      distinct = is.attributes.distinct;
      drawn = is.geometry.valid;
    }
