-- A layer that is canonical but for where its version stands, and for last keys and values that no feature uses.
use Rattle.std.proofs.Common.{◌≡◌, ℕ, zero, suc, ◌+◌, ◌-◌, ◌<◌, ◌≤◌, List, [], ◌∷◌, ◌++◌, length, map, take, drop, get_or, Bor, zero-add, refl, sym, ap, ap₂, subst, ◌∙◌, arith, append_assoc, append-nil, length-append, slice_get, Some}
use Rattle.std.proofs.lemmas.List.{drop-map, length-drop, map-append, take-append-drop}
use Rattle.std.proofs.lemmas.Option.{slice_get-get_or}
use Rattle.std.proofs.Math.Seq.{take-append_seam, take-length}
use Rattle.std.specs.Prelude.{IsUtf8}
use Rattle.std.specs.List.{AllByRecursion}
use Rattle.mvt_base.specs.declared.TheConstants.{LIMIT}
use Rattle.mvt_base.proofs.ListLemmas.{all_joined, all_right}
use Rattle.mvt_attrs.specs.Values.{Value}
use Rattle.mvt_attrs.specs.FirstUse.{AreDistinct}
use Rattle.mvt_attrs.specs.FirstUses.{lent}
use Rattle.mvt_attrs.specs.Pools.{key_pool, value_pool}
use Rattle.mvt_attrs.specs.TagPlaces.{tags_in, IsIn}
use Rattle.mvt_attrs.proofs.AttrsLaws.{places_name_names, tags_stay}
use Rattle.mvt_wire.specs.Field.{bytes, varint}
use Rattle.mvt_wire.specs.Spelling.{Plain, short_field, spelled}
use Rattle.mvt_wire.specs.Varint.{short, short_within}
use Rattle.mvt_feature.specs.declared.feature.Feature.{Feature}
use Rattle.mvt_feature.specs.Canonical.{plain, value_fields, feature_fields}
use Rattle.mvt_feature.specs.Copying.{AreReady, IsCanonicalFeature, IsCanonicalValue}
use Rattle.mvt_feature.specs.Valid.{ValidFeature, ValidValue}
use Rattle.mvt_wire.proofs.WireLaws.{spelled_parts}
use Rattle.mvt_message.specs.declared.item.Layer.{Layer as ALayer}
use Rattle.mvt_message.specs.declared.item.Item.TheVariants.{Layer}
use Rattle.mvt_message.specs.declared.numbers.layer.TheConstants.{NAME, FEATURES, KEYS, VALUES, VERSION}
use Rattle.mvt_message.specs.Around.{IsAround}
use Rattle.mvt_message.specs.CanonicalItems.{canonical_item, keys_of, values_of, head_fields, feature_field, key_field, value_field, extent_fields}
use Rattle.mvt_message.specs.Copying.{core_with, IsCoreOf, IsCanonicalLayer, IsCopied, AreFieldsFrom, AreKeysFrom, ArePayloadsFrom, AreValuesFrom, AreFeaturesFrom, lent_field, field_of}
use Rattle.mvt_message.specs.Items.{IsItem}
use Rattle.mvt_message.specs.ValidItems.{ValidItem, ValidLayer}
use Rattle.mvt_message.proofs.CanonicalLemmas.{features_held, layer_around, layer_parts}
use Rattle.mvt_message.proofs.PoolLemmas.{keys_distinct, keys_more, values_distinct, values_more}
use Rattle.mvt_message.proofs.PutLemmas.{entry_step}
use Rattle.mvt_message.proofs.RewriteLemmas.{keys_none, values_none}

-- one more field
pub fields_more : (start at after : List ℕ) (done : List Plain) (p : Plain) → start ≡ spelled done ++ at
    → at ≡ short_field p.number p.content ++ after → start ≡ spelled (done ++ p ∷ []) ++ after
fields_more start at after done p is front =
    is ∙ ap (λ r. spelled done ++ r) front ∙ sym (append_assoc (spelled done) (short_field p.number p.content) after)
    ∙ ap (λ l. l ++ after) (sym (spelled_parts done (p ∷ []) ∙ ap (λ l. spelled done ++ l) (append-nil (short_field p.number p.content))))

pub mapped_more : {Y : Type 0} → (f : Y → Plain) (start at after : List ℕ) (ys : List Y) (y : Y) → start ≡ spelled (map f ys) ++ at
    → at ≡ short_field (f y).number (f y).content ++ after → start ≡ spelled (map f (ys ++ y ∷ [])) ++ after
mapped_more f start at after ys y is front =
    fields_more start at after (map f ys) (f y) is front ∙ ap (λ fs. spelled fs ++ after) (sym (map-append f ys (y ∷ [])))

all_more : {Y : Type 0} → (P : Y → Type 0) (ys : List Y) (y : Y) → AllByRecursion P ys → P y → AllByRecursion P (ys ++ y ∷ [])
all_more P ys y all here = all_joined P ys (y ∷ []) all (here, tt)

pub payloads_from_more : (body : List ℕ) (start number at after : ℕ) (payloads longer : List (Bor (List ℕ))) (payload : Bor (List ℕ))
    → ArePayloadsFrom body start number payloads at → drop at body ≡ short_field number (bytes payload.now) ++ drop after body
    → after ≤ length body → longer ≡ payloads ++ payload ∷ [] → ArePayloadsFrom body start number longer after
payloads_from_more body start number at after payloads longer payload (_, is) front within grown =
    subst (λ ps. ArePayloadsFrom body start number ps after) (sym grown) (
      within,
      mapped_more (lent_field number) (drop start body) (drop at body) (drop after body) payloads payload is front,
    )

pub fields_from_more : (body : List ℕ) (start number count at after : ℕ) (payload : Bor (List ℕ)) → AreFieldsFrom body start number count at
    → drop at body ≡ short_field number (bytes payload.now) ++ drop after body → after ≤ length body
    → AreFieldsFrom body start number (count + 1) after
fields_from_more body start number count at after payload (payloads, from, counted) front within = (
  payloads ++ payload ∷ [],
  payloads_from_more body start number at after payloads (payloads ++ payload ∷ []) payload from front within refl,
  length-append payloads (payload ∷ []) ∙ ap (λ n. n + 1) counted,
)

abbrev value_bytes : Value → List ℕ
value_bytes v = spelled (value_fields v)

pub values_from_more : (body : List ℕ) (start at after : ℕ) (payloads longer : List (Bor (List ℕ))) (payload : Bor (List ℕ))
    → AreValuesFrom body start payloads at → drop at body ≡ short_field VALUES (bytes payload.now) ++ drop after body
    → (value : Value) × IsCanonicalValue payload.now value → after ≤ length body → longer ≡ payloads ++ payload ∷ []
    → AreValuesFrom body start longer after
values_from_more body start at after payloads longer payload (_, (values, is, valid, are)) front (value, (ok, spells)) within grown =
    subst (λ ps. AreValuesFrom body start ps after) (sym grown) (
      within,
      (
        values ++ value ∷ [],
        mapped_more value_field (drop start body) (drop at body) (drop after body) values value is
            (front ∙ ap (λ d. short_field VALUES (bytes d) ++ drop after body) spells),
        all_more ValidValue values value valid ok,
        map-append (λ (b : Bor (List ℕ)). b.now) payloads (payload ∷ [])
            ∙ ap₂ (λ a b. a ++ b ∷ []) are spells ∙ sym (map-append value_bytes values (value ∷ [])),
      ),
    )

pub features_from_none : (WereTold : List Feature → Type 0) (body : List ℕ) (start : ℕ) (keys : List (List ℕ)) (values : List Value)
    → AreReady keys values (0, 0) → WereTold [] → AreFeaturesFrom WereTold body start keys values start (0, 0)
features_from_none WereTold body start keys values ready told = record {
  features = [];
  fields = refl;
  valid = tt;
  keys_are = keys_none;
  values_are = values_none;
  ready = ready;
  told = told;
}

pub features_from_more : (WereTold AreTold : List Feature → Type 0) (body : List ℕ) (start at after : ℕ) (keys : List (List ℕ))
    (values : List Value) (used more : ℕ × ℕ) (payload : List ℕ) (from : AreFeaturesFrom WereTold body start keys values at used)
    → drop at body ≡ short_field FEATURES (bytes payload) ++ drop after body
    → (f : Feature) → IsCanonicalFeature payload keys values used more f
    → AreTold (from.features ++ f ∷ []) → AreFeaturesFrom AreTold body start keys values after more
features_from_more WereTold AreTold body start at after keys values used more payload from front f is told =
    let uses = is.uses in
    let own = feature_field keys values in
    record {
      features = from.features ++ f ∷ [];
      fields = mapped_more own (drop start body) (drop at body) (drop after body) from.features f from.fields
          (front ∙ ap (λ d. short_field FEATURES (bytes d) ++ drop after body) is.spelled_as);
      valid = all_more ValidFeature from.features f from.valid is.valid;
      keys_are = sym (keys_more from.features f) ∙ ap (λ ks. key_pool ks f.attributes) from.keys_are ∙ uses.keys_are;
      values_are = sym (values_more from.features f) ∙ ap (λ vs. value_pool vs f.attributes) from.values_are ∙ uses.values_are;
      ready = record {
        keys_apart = from.ready.keys_apart;
        values_apart = from.ready.values_apart;
        texts = from.ready.texts;
        valid = from.ready.valid;
        keys_within = uses.keys_within;
        values_within = uses.values_within;
      };
      told = told;
    }

-- values whose payloads are different are different
get_or-mapped : {X Y : Type 0} → (f : X → Y) (xs : List X) (i : ℕ) (d : X) → get_or (map f xs) i (f d) ≡ f (get_or xs i d)
get_or-mapped f [] i d = refl
get_or-mapped f (x ∷ xs) zero d = refl
get_or-mapped f (x ∷ xs) (suc i) d = get_or-mapped f xs i d

pub length-mapped : {X Y : Type 0} → (f : X → Y) (xs : List X) → length (map f xs) ≡ length xs
length-mapped f [] = refl
length-mapped f (x ∷ xs) = ap suc (length-mapped f xs)

pub values_apart : (payloads : List (Bor (List ℕ))) (values : List Value) → lent payloads ≡ map value_bytes values
    → AreDistinct (lent payloads)
    → AreDistinct values
values_apart payloads values are apart i j d before inside same =
    subst AreDistinct are apart i j (value_bytes d) before (omega (arith, length-mapped value_bytes values))
    (get_or-mapped value_bytes values i d ∙ ap value_bytes same ∙ sym (get_or-mapped value_bytes values j d))

pub ready_values : (keys : List (List ℕ)) (payloads : List (Bor (List ℕ))) (values : List Value) → lent payloads ≡ map value_bytes values
    → AreDistinct keys → AreDistinct (lent payloads) → AllByRecursion IsUtf8 keys → AllByRecursion ValidValue values
    → (length values ≡ length payloads) × AreReady keys values (0, 0)
ready_values keys payloads values are keys_apart payloads_apart texts valid = (
  sym (length-mapped value_bytes values) ∙ ap length (sym are) ∙ length-mapped (λ (b : Bor (List ℕ)). b.now) payloads,
  record {
    keys_apart = keys_apart;
    values_apart = values_apart payloads values are payloads_apart;
    texts = texts;
    valid = valid;
    keys_within = omega arith;
    values_within = omega arith;
  },
)

-- fields of payloads that are lent
lent_keys : (texts : List (Bor (List ℕ))) → map (lent_field KEYS) texts ≡ map key_field (lent texts)
lent_keys [] = refl
lent_keys (b ∷ bs) = ap (λ fs. key_field b.now ∷ fs) (lent_keys bs)

keys_as_lent : (texts : List (Bor (List ℕ))) (keys : List (List ℕ)) → lent texts ≡ keys → map (lent_field KEYS) texts ≡ map key_field keys
keys_as_lent texts keys are = lent_keys texts ∙ ap (map key_field) are

lent_values : (payloads : List (Bor (List ℕ))) → map (lent_field VALUES) payloads ≡ map (λ d. plain VALUES (bytes d)) (lent payloads)
lent_values [] = refl
lent_values (b ∷ bs) = ap (λ fs. plain VALUES (bytes b.now) ∷ fs) (lent_values bs)

spelled_values : (values : List Value) → map (λ d. plain VALUES (bytes d)) (map value_bytes values) ≡ map value_field values
spelled_values [] = refl
spelled_values (v ∷ vs) = ap (λ fs. value_field v ∷ fs) (spelled_values vs)

values_as_lent : (payloads : List (Bor (List ℕ))) (values : List Value) → lent payloads ≡ map value_bytes values
    → map (lent_field VALUES) payloads ≡ map value_field values
values_as_lent payloads values are = lent_values payloads ∙ ap (map (λ d. plain VALUES (bytes d))) are ∙ spelled_values values

pub keys_are_from : (body : List ℕ) (start at : ℕ) (payloads : List (Bor (List ℕ))) (keys : List (List ℕ))
    → ArePayloadsFrom body start KEYS payloads at → keys ≡ lent payloads → AllByRecursion IsUtf8 keys → AreKeysFrom body start keys at
keys_are_from body start at payloads keys (within, is) are texts =
    (within, is ∙ ap (λ fs. spelled fs ++ drop at body) (keys_as_lent payloads keys (sym are)), texts)

-- where fields end
pub fields_end : (body fields : List ℕ) (start at : ℕ) → drop start body ≡ fields ++ drop at body → start ≤ length body → at ≤ length body
    → start + length fields ≡ at
fields_end body fields start at is from within =
    let size = ap length is ∙ length-append fields (drop at body) in
    omega (arith, size, length-drop start body, length-drop at body)

split_spelled : {Y : Type 0} → (f : Y → Plain) (n : ℕ) (ys : List Y)
    → spelled (map f ys) ≡ spelled (map f (take n ys)) ++ spelled (map f (drop n ys))
split_spelled f n ys =
    ap (λ l. spelled (map f l)) (sym (take-append-drop n ys)) ∙ ap spelled (map-append f (take n ys) (drop n ys))
    ∙ spelled_parts (map f (take n ys)) (map f (drop n ys))

pub rest_of : {Y : Type 0} → (n : ℕ) (ys : List Y) → take (length ys - n) (drop n ys) ≡ drop n ys
rest_of n ys = ap (λ m. take m (drop n ys)) (sym (length-drop n ys)) ∙ take-length (drop n ys)

-- one more field of a list, by lengths
len_step : {Y : Type 0} → (g : Y → Plain) (ys : List Y) (i : ℕ) {y : Y} (start old new : ℕ) → Some y ≡ slice_get ys i
    → old ≡ start + length (spelled (map g (take i ys))) → new ≡ old + length (short_field (g y).number (g y).content)
    → new ≡ start + length (spelled (map g (take (i + 1) ys)))
len_step g ys i {y} start old new at was more =
    let front = spelled (map g (take i ys)) in
    let one = short_field (g y).number (g y).content in
    let joined : front ++ one ≡ spelled (map g (take (i + 1) ys)) = entry_step g ys i [] at refl refl in
    let size = length-append front one in
    let same = ap length joined in
    omega (arith, size, same)

-- one more field of those that no feature uses
pub unused_step : {A : Type 0} (content : A → List ℕ) (number used : ℕ) (payloads : List A) (i at end size : ℕ) (rest : List A)
    (entry : A)
    → rest ≡ drop used payloads → i < length rest → entry ≡ get_or rest i entry
    → ((d : List ℕ) → length d ≡ length (content entry) → size ≡ length (short_field number (bytes d)))
    → length (spelled (map (field_of content number) payloads)) ≤ end
    → at + length (spelled (map (field_of content number) (take i rest))) ≡ end
    → (size ≤ at) × ((at - size) + length (spelled (map (field_of content number) (take (i + 1) rest))) ≡ end)
unused_step {A} content number used payloads i at end size rest entry rest_is within is_entry field room so_far =
    let done = length (spelled (map (field_of content number) (take i rest))) in
    let step =
    len_step (field_of content number) rest i 0 done (done + length (short_field number (bytes (content entry))))
    (ap Some is_entry ∙ sym (slice_get-get_or rest i entry within)) (sym (zero-add done)) refl in
    let is = field (content entry) refl in
    let more = all_length (i + 1) rest in
    let all = all_length used payloads in
    let same = ap (λ l. length (spelled (map (field_of content number) l))) rest_is in
    (omega (arith, step, is, more, all, same), omega (arith, step, is))
  where
    all_length : (n : ℕ) (xs : List A)
        → length (spelled (map (field_of content number) xs))
        ≡ length (spelled (map (field_of content number) (take n xs))) + length (spelled (map (field_of content number) (drop n xs)))
    all_length n xs =
        ap length (split_spelled (field_of content number) n xs)
        ∙ length-append (spelled (map (field_of content number) (take n xs))) (spelled (map (field_of content number) (drop n xs)))

-- two parts of a body
cut : (body f k more_k v more_v : List ℕ) (features_at keys_at values_at end_at keys_end values_end : ℕ)
    → drop features_at body ≡ f ++ drop keys_at body → drop keys_at body ≡ (k ++ more_k) ++ drop values_at body
    → drop values_at body ≡ (v ++ more_v) ++ drop end_at body → features_at ≤ length body → values_at ≤ length body → end_at ≤ length body
    → keys_end + length more_k ≡ values_at → values_end + length more_v ≡ end_at
    → take (keys_end - features_at) (drop features_at body) ++ take (values_end - values_at) (drop values_at body) ≡ (f ++ k) ++ v
cut body f k more_k v more_v features_at keys_at values_at end_at keys_end values_end features keys values start_within keys_within within
    keys_are values_are =
    let front = f ++ k in
    let rest = more_k ++ drop values_at body in
    let whole : drop features_at body ≡ front ++ rest =
    features ∙ ap (λ d. f ++ d) keys ∙ regroup f k more_k (drop values_at body) in
    let last = more_v ++ drop end_at body in
    let part : drop values_at body ≡ v ++ last = values ∙ append_assoc v more_v (drop end_at body) in
    let size = ap length whole ∙ length-append front rest in
    let rest_size = length-append more_k (drop values_at body) in
    let front_end : keys_end - features_at ≡ length front =
    omega (arith, size, rest_size, length-drop features_at body, length-drop values_at body, keys_are, start_within, keys_within) in
    let part_size = ap length part ∙ length-append v last in
    let last_size = length-append more_v (drop end_at body) in
    let part_end : values_end - values_at ≡ length v =
    omega (arith, part_size, last_size, length-drop values_at body, length-drop end_at body, values_are, within) in
    ap₂ (λ a b. a ++ b)
    (ap (λ m. take m (drop features_at body)) front_end ∙ ap (take (length front)) whole ∙ take-append_seam front rest)
    (ap (λ m. take m (drop values_at body)) part_end ∙ ap (take (length v)) part ∙ take-append_seam v last)
  where
    regroup : (f k m d : List ℕ) → f ++ ((k ++ m) ++ d) ≡ (f ++ k) ++ (m ++ d)
    regroup f k m d = simp append_assoc

-- where the fields of keys and of values end
pub payloads_room : (body : List ℕ) (start number at : ℕ) (payloads : List (Bor (List ℕ))) → start ≤ length body
    → ArePayloadsFrom body start number payloads at → start + length (spelled (map (lent_field number) payloads)) ≡ at
payloads_room body start number at payloads within (from, is) =
    fields_end body (spelled (map (lent_field number) payloads)) start at is within from

pub values_room : (body : List ℕ) (values_at end_at : ℕ) (payloads : List (Bor (List ℕ))) → values_at ≤ length body
    → AreValuesFrom body values_at payloads end_at → values_at + length (spelled (map (lent_field VALUES) payloads)) ≡ end_at
values_room body values_at end_at payloads within (from, (values, is, _, are)) =
    let end = fields_end body (spelled (map value_field values)) values_at end_at is within from in
    omega (arith, end, ap (λ fs. length (spelled fs)) (values_as_lent payloads values are))

pub keys_past : (keys_at values_at keys_end n : ℕ) (payloads : List (Bor (List ℕ)))
    → keys_at + length (spelled (map (lent_field KEYS) payloads)) ≡ values_at
    → keys_end + length (spelled (map (lent_field KEYS) (drop n payloads))) ≡ values_at → keys_at ≤ keys_end
keys_past keys_at values_at keys_end n payloads all unused =
    let parts = ap length (split_spelled (lent_field KEYS) n payloads)
    ∙ length-append (spelled (map (lent_field KEYS) (take n payloads))) (spelled (map (lent_field KEYS) (drop n payloads))) in
    omega (arith, all, unused, parts)

pub values_past : (values_at end_at values_end n : ℕ) (payloads : List (Bor (List ℕ)))
    → values_at + length (spelled (map (lent_field VALUES) payloads)) ≡ end_at
    → values_end + length (spelled (map (lent_field VALUES) (drop n payloads))) ≡ end_at → values_at ≤ values_end
values_past values_at end_at values_end n payloads all unused =
    let parts = ap length (split_spelled (lent_field VALUES) n payloads)
    ∙ length-append (spelled (map (lent_field VALUES) (take n payloads))) (spelled (map (lent_field VALUES) (drop n payloads))) in
    omega (arith, all, unused, parts)

-- the keys, the values and the features of a body
pub record IsRead (WereTold : List Feature → Type 0) (body : List ℕ) (features_at keys_at values_at end_at : ℕ) (keys : List (List ℕ))
    (payloads : List (Bor (List ℕ)))
    (used : ℕ × ℕ) : Type 0 where
  pub values : List Value
  pub fields : drop values_at body ≡ spelled (map value_field values) ++ drop end_at body
  pub are : lent payloads ≡ map value_bytes values
  pub count : length values ≡ length payloads
  pub from : AreFeaturesFrom WereTold body features_at keys values keys_at used

pub is_read : (WereTold : List Feature → Type 0) (body : List ℕ) (features_at keys_at values_at end_at count : ℕ)
    (keys : List (List ℕ)) (payloads : List (Bor (List ℕ)))
    (used : ℕ × ℕ) → AreKeysFrom body keys_at keys values_at → AreValuesFrom body values_at payloads end_at → AreDistinct keys
    → AreDistinct (lent payloads) → count ≡ length payloads
    → ((held : List Value) → length held ≡ count → AreReady keys held (0, 0)
    → AreFeaturesFrom WereTold body features_at keys held keys_at used)
    → IsRead WereTold body features_at keys_at values_at end_at keys payloads used
is_read WereTold body features_at keys_at values_at end_at count keys payloads used (_, _, texts) (_, (values, is, valid, are))
    keys_apart payloads_apart
    counted from =
    let ready = ready_values keys payloads values are keys_apart payloads_apart texts valid in
    record { values = values; fields = is; are = are; count = ready.0; from = from values (ready.0 ∙ sym counted) ready.1 }

-- the fields of features, where keys and values stand behind those that they use
field_stays : (keys more_keys : List (List ℕ)) (values more_values : List Value) (f : Feature) → AreDistinct keys → AreDistinct values
    → AllByRecursion (IsIn keys values) f.attributes
    → feature_field (keys ++ more_keys) (values ++ more_values) f ≡ feature_field keys values f
field_stays keys more_keys values more_values f keys_apart values_apart held =
    ap (λ t. plain FEATURES (bytes (spelled (feature_fields t f))))
    (sym (tags_stay keys more_keys values more_values (tags_in keys values f.attributes) f.attributes keys_apart values_apart
    (places_name_names keys values f.attributes held)))

fields_stay : (keys more_keys : List (List ℕ)) (values more_values : List Value) (features : List Feature) → AreDistinct keys
    → AreDistinct values
    → AllByRecursion (λ (f : Feature). AllByRecursion (IsIn keys values) f.attributes) features
    → map (feature_field (keys ++ more_keys) (values ++ more_values)) features ≡ map (feature_field keys values) features
fields_stay keys more_keys values more_values [] keys_apart values_apart held = refl
fields_stay keys more_keys values more_values (f ∷ fs) keys_apart values_apart held =
    ap₂ (λ p ps. p ∷ ps) (field_stays keys more_keys values more_values f keys_apart values_apart held.0)
    (fields_stay keys more_keys values more_values fs keys_apart values_apart held.1)

pub features_stay : (features : List Feature) (more_keys : List (List ℕ)) (more_values : List Value)
    → map (feature_field (keys_of features ++ more_keys) (values_of features ++ more_values)) features
    ≡ map (feature_field (keys_of features) (values_of features)) features
features_stay features more_keys more_values =
    fields_stay (keys_of features) more_keys (values_of features) more_values features (keys_distinct features) (values_distinct features)
    (features_held features)

-- what stands between the fields around
pub parts_spelled : (features keys values : List Plain)
    → spelled (features ++ (keys ++ values)) ≡ spelled features ++ (spelled keys ++ spelled values)
parts_spelled features keys values =
    spelled_parts features (keys ++ values) ∙ ap (λ r. spelled features ++ r) (spelled_parts keys values)

pub all_dropped : {Y : Type 0} → (P : Y → Type 0) (n : ℕ) (ys : List Y) → AllByRecursion P ys → AllByRecursion P (drop n ys)
all_dropped P n ys all = all_right P (take n ys) (drop n ys) (subst (AllByRecursion P) (sym (take-append-drop n ys)) all)

core_is : (WereTold : List Feature → Type 0) (body : List ℕ) (features_at keys_at values_at end_at keys_end values_end : ℕ)
    (keys : List (List ℕ))
    (values : List Value) (used : ℕ × ℕ)
    → AreFeaturesFrom WereTold body features_at keys values keys_at used → features_at ≤ length body
    → drop keys_at body ≡ spelled (map key_field keys) ++ drop values_at body → values_at ≤ length body
    → drop values_at body ≡ spelled (map value_field values) ++ drop end_at body → end_at ≤ length body
    → keys_end + length (spelled (map key_field (drop used.0 keys))) ≡ values_at
    → values_end + length (spelled (map value_field (drop used.1 values))) ≡ end_at
    → IsCoreOf WereTold body features_at end_at
    (take (keys_end - features_at) (drop features_at body) ++ take (values_end - values_at) (drop values_at body))
core_is WereTold body features_at keys_at values_at end_at keys_end values_end keys values used from start_within keys_are keys_within
    values_are within keys_end_is values_end_is =
    let features = from.features in
    let own_keys = take used.0 keys in
    let more_keys = drop used.0 keys in
    let own_values = take used.1 values in
    let more_values = drop used.1 values in
    let all_keys : keys_of features ++ more_keys ≡ keys = ap (λ ks. ks ++ more_keys) from.keys_are ∙ take-append-drop used.0 keys in
    let all_values : values_of features ++ more_values ≡ values = ap (λ vs. vs ++ more_values) from.values_are
    ∙ take-append-drop used.1 values in
    let own = spelled (map (feature_field keys values) features) in
    let key_bytes = spelled (map key_field keys) in
    let value_part = spelled (map value_field values) in
    let cuts =
    cut body own (spelled (map key_field own_keys)) (spelled (map key_field more_keys)) (spelled (map value_field own_values))
    (spelled (map value_field more_values)) features_at keys_at values_at end_at keys_end values_end from.fields
    (keys_are ∙ ap (λ k. k ++ drop values_at body) (split_spelled key_field used.0 keys))
    (values_are ∙ ap (λ v. v ++ drop end_at body) (split_spelled value_field used.1 values)) start_within keys_within within keys_end_is
    values_end_is in
    let stays : map (feature_field keys values) features ≡ map (feature_field (keys_of features) (values_of features)) features =
    ap₂ (λ ks vs. map (feature_field ks vs) features) (sym all_keys) (sym all_values) ∙ features_stay features more_keys more_values in
    let whole : drop features_at body ≡ spelled (core_with keys values features) ++ drop end_at body =
    from.fields ∙ ap (λ r. own ++ r) (keys_are ∙ ap (λ r. key_bytes ++ r) values_are)
    ∙ regroup own key_bytes value_part (drop end_at body)
    ∙ ap (λ l. l ++ drop end_at body)
    (sym (parts_spelled (map (feature_field keys values) features) (map key_field keys) (map value_field values))) in
    record {
      features = features;
      more_keys = more_keys;
      more_values = more_values;
      valid = from.valid;
      texts = all_dropped IsUtf8 used.0 keys from.ready.texts;
      valid_values = all_dropped ValidValue used.1 values from.ready.valid;
      stand = whole ∙ ap₂ (λ ks vs. spelled (core_with ks vs features) ++ drop end_at body) (sym all_keys) (sym all_values);
      canonical_is =
          cuts ∙ append_assoc own (spelled (map key_field own_keys)) (spelled (map value_field own_values))
          ∙ ap₂ (λ ks vs. own ++ (spelled (map key_field ks) ++ spelled (map value_field vs))) (sym from.keys_are) (sym from.values_are)
          ∙ ap (λ fs. spelled fs ++ (spelled (map key_field (keys_of features)) ++ spelled (map value_field (values_of features)))) stays
          ∙ sym (parts_spelled (map (feature_field (keys_of features) (values_of features)) features)
          (map key_field (keys_of features)) (map value_field (values_of features)));
      told = from.told;
    }
  where
    regroup : (f k v d : List ℕ) → f ++ (k ++ (v ++ d)) ≡ (f ++ (k ++ v)) ++ d
    regroup f k v d = simp append_assoc

pub read_is : (WereTold : List Feature → Type 0) (body : List ℕ) (features_at keys_at values_at end_at keys_end values_end : ℕ)
    (keys : List (List ℕ))
    (texts payloads : List (Bor (List ℕ))) (used : ℕ × ℕ) → IsRead WereTold body features_at keys_at values_at end_at keys payloads used
    → features_at ≤ length body → AreKeysFrom body keys_at keys values_at → lent texts ≡ keys → end_at ≤ length body
    → keys_end + length (spelled (map (lent_field KEYS) (drop used.0 texts))) ≡ values_at
    → values_end + length (spelled (map (lent_field VALUES) (drop used.1 payloads))) ≡ end_at
    → IsCoreOf WereTold body features_at end_at
    (take (keys_end - features_at) (drop features_at body) ++ take (values_end - values_at) (drop values_at body))
read_is WereTold body features_at keys_at values_at end_at keys_end values_end keys texts payloads used read start_within
    (keys_within, keys_are, _) texts_are within keys_end_is values_end_is =
    let unused_keys : map (lent_field KEYS) (drop used.0 texts) ≡ map key_field (drop used.0 keys) =
    keys_as_lent (drop used.0 texts) (drop used.0 keys) (sym (drop-map (λ (b : Bor (List ℕ)). b.now) used.0 texts)
    ∙ ap (drop used.0) texts_are) in
    let unused_values : map (lent_field VALUES) (drop used.1 payloads) ≡ map value_field (drop used.1 read.values) =
    values_as_lent (drop used.1 payloads) (drop used.1 read.values)
    (sym (drop-map (λ (b : Bor (List ℕ)). b.now) used.1 payloads) ∙ ap (drop used.1) read.are ∙ drop-map value_bytes used.1 read.values) in
    core_is WereTold body features_at keys_at values_at end_at keys_end values_end keys read.values used read.from start_within keys_are
    keys_within read.fields within
    (ap (λ fs. keys_end + length (spelled fs)) (sym unused_keys) ∙ keys_end_is)
    (ap (λ fs. values_end + length (spelled fs)) (sym unused_values) ∙ values_end_is)

-- what has as many bytes as the canonical fields is these
nothing : {X : Type 0} → (xs : List X) → length xs ≡ 0 → xs ≡ []
nothing [] none = refl
nothing (x ∷ xs) none = absurd (omega (arith, none))

whole_core : (WereTold : List Feature → Type 0) (body : List ℕ) (start end : ℕ) (canonical : List ℕ)
    (is : IsCoreOf WereTold body start end canonical) → start ≤ length body → end ≤ length body → start + length canonical ≡ end
    → canonical ≡ spelled (core_with (keys_of is.features ++ is.more_keys) (values_of is.features ++ is.more_values) is.features)
whole_core WereTold body start end canonical is start_within within same =
    let features = is.features in
    let keys = keys_of features ++ is.more_keys in
    let values = values_of features ++ is.more_values in
    let own = spelled (map (feature_field (keys_of features) (values_of features)) features) in
    let k = spelled (map key_field (keys_of features)) in
    let more_k = spelled (map key_field is.more_keys) in
    let v = spelled (map value_field (values_of features)) in
    let more_v = spelled (map value_field is.more_values) in
    let keys_are : spelled (map key_field keys) ≡ k ++ more_k =
    ap spelled (map-append key_field (keys_of features) is.more_keys)
    ∙ spelled_parts (map key_field (keys_of features)) (map key_field is.more_keys) in
    let values_are : spelled (map value_field values) ≡ v ++ more_v =
    ap spelled (map-append value_field (values_of features) is.more_values)
    ∙ spelled_parts (map value_field (values_of features)) (map value_field is.more_values) in
    let whole : spelled (core_with keys values features) ≡ own ++ ((k ++ more_k) ++ (v ++ more_v)) =
    parts_spelled (map (feature_field keys values) features) (map key_field keys) (map value_field values)
    ∙ ap (λ fs. spelled fs ++ (spelled (map key_field keys) ++ spelled (map value_field values)))
    (features_stay features is.more_keys is.more_values)
    ∙ ap₂ (λ ks vs. own ++ (ks ++ vs)) keys_are values_are in
    let front : canonical ≡ own ++ (k ++ v) =
    is.canonical_is ∙ parts_spelled (map (feature_field (keys_of features) (values_of features)) features)
    (map key_field (keys_of features)) (map value_field (values_of features)) in
    let sizes = lengths own k more_k v more_v in
    let all_size = fields_end body (spelled (core_with keys values features)) start end is.stand start_within within in
    let none_k : more_k ≡ [] = nothing more_k (omega (arith, same, all_size, ap length whole, ap length front, sizes.0, sizes.1)) in
    let none_v : more_v ≡ [] = nothing more_v (omega (arith, same, all_size, ap length whole, ap length front, sizes.0, sizes.1)) in
    front
    ∙ sym (whole ∙ ap₂ (λ ks vs. own ++ ((k ++ ks) ++ (v ++ vs))) none_k none_v
    ∙ ap₂ (λ ks vs. own ++ (ks ++ vs)) (append-nil k) (append-nil v))
  where
    lengths : (o k mk v mv : List ℕ)
        → (length (o ++ ((k ++ mk) ++ (v ++ mv))) ≡ length o + ((length k + length mk) + (length v + length mv)))
        × (length (o ++ (k ++ v)) ≡ length o + (length k + length v))
    lengths o k mk v mv = (simp length-append, simp length-append)

-- the version and the name
version_field : short_field VERSION (varint 2) ≡ 120 ∷ (2 ∷ [])
unfolding short_field short short_within
version_field = refl

pub head_is : (body name : List ℕ) (after : ℕ) → body ≡ 120 ∷ (2 ∷ drop 2 body)
    → drop 2 body ≡ short_field NAME (bytes name) ++ drop after body → body ≡ spelled (head_fields name) ++ drop after body
head_is body name after begins named =
    begins ∙ ap (λ r. 120 ∷ (2 ∷ r)) named
    ∙ sym (ap₂ (λ v n. (v ++ n) ++ drop after body) version_field (append-nil (short_field NAME (bytes name))))

-- the canonical payload of a layer
pub canonical_from : (layer : ALayer) (core : List ℕ)
    → core ≡ spelled (core_with (keys_of layer.features) (values_of layer.features) layer.features)
    → canonical_item (Layer layer) ≡ spelled (head_fields layer.name) ++ (core ++ spelled (extent_fields layer.extent))
unfolding canonical_item
canonical_from layer core is =
    let own = core_with (keys_of layer.features) (values_of layer.features) layer.features in
    layer_parts (keys_of layer.features) (values_of layer.features) layer
    ∙ spelled_parts (head_fields layer.name) (own ++ extent_fields layer.extent)
    ∙ ap (λ r. spelled (head_fields layer.name) ++ r)
    (spelled_parts own (extent_fields layer.extent) ∙ ap (λ c. c ++ spelled (extent_fields layer.extent)) (sym is))

-- what stands around such a core makes it a layer
module _ (WereTold : List Feature → Type 0) (body name : List ℕ) (extent start end : ℕ) (canonical : List ℕ) (few : length body ≤ LIMIT)
    (around : IsAround body name extent start end) (is : IsCoreOf WereTold body start end canonical) where
  abbrev the_layer : ALayer
  the_layer = record { name = name; extent = extent; features = is.features }

  valid_layer : ValidItem (Layer the_layer)
  unfolding ValidItem ValidLayer
  valid_layer = (around.text, around.small, is.valid)

  item : IsItem body (Layer the_layer)
  unfolding ValidLayer
  item =
      let core = core_with (keys_of is.features ++ is.more_keys) (values_of is.features ++ is.more_values) is.features in
      let whole : body ≡ spelled (around.head ++ (core ++ around.tail)) =
      around.begins ∙ ap (λ r. spelled around.head ++ r) (is.stand ∙ ap (λ r. spelled core ++ r) around.ends
      ∙ sym (spelled_parts core around.tail)) ∙ sym (spelled_parts around.head (core ++ around.tail)) in
      layer_around the_layer is.more_keys is.more_values around.head around.tail body (around.text, around.small, is.valid) is.texts
      is.valid_values whole (omega (arith, few)) around.head_fit around.tail_fit around.alike

  pub copied_is : IsCopied body name (spelled (head_fields name) ++ (canonical ++ spelled (extent_fields extent)))
  copied_is = (the_layer, item, valid_layer, refl, canonical_from the_layer canonical is.canonical_is)

  pub canonical_is : body ≡ spelled (head_fields name) ++ drop start body → drop end body ≡ spelled (extent_fields extent)
      → start ≤ length body → end ≤ length body → start + length canonical ≡ end → IsCanonicalLayer WereTold body name
  canonical_is front behind start_within within same = (
    the_layer,
    item,
    valid_layer,
    refl,
    canonical_from the_layer canonical is.canonical_is
        ∙ ap (λ r. spelled (head_fields name) ++ r)
        (ap₂ (λ c e. c ++ e) (whole_core WereTold body start end canonical is start_within within same) (sym behind)
        ∙ sym is.stand) ∙ sym front,
    is.told,
  )
