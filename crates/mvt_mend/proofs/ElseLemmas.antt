-- What stays of a feature, a layer and a tile that are mended.
use Rattle.std.proofs.Common.{arith, ◌≡◌, ℕ, ◌==◌, ◌^◌, ◌<◌, ◌&&◌, not, Bool, true, false, List, [], ◌∷◌, ◌++◌, length, map, Option, Some, None, refl, sym, ap, subst, ◌∙◌, eqb-true, append-nil, inl, inr}
use Rattle.std.specs.Prelude.{cond, if◌then◌else◌, ◌⊎◌, option_and_then, unwrap_or}
use Rattle.std.specs.List.{AllByRecursion, last_or, flat_map}
use Rattle.std.specs.Option.{option_map, option_to_list}
use Rattle.std.proofs.lemmas.List.Elements.{filter-append}
use Rattle.mvt_wire.specs.Field.{Content, bytes, Entry}
use Rattle.mvt_wire.specs.Packed.{is_nil}
use Rattle.mvt_wire.specs.Spelling.{Plain, plain_of, spelled, short_field, short_numbers}
use Rattle.mvt_wire.specs.Split.{split}
use Rattle.mvt_feature.specs.Ranges.{AreBytes}
use Rattle.mvt_feature.specs.Selection.{only, last_only, contents_at}
use Rattle.mvt_feature.specs.Canonical.{plain}
use Rattle.mvt_feature.specs.declared.numbers.feature.TheConstants.{ID, TAGS, TYPE, GEOMETRY}
use Rattle.mvt_feature.specs.Features.{number_of, number_in, kind_of_type}
use Rattle.mvt_feature.specs.FeatureRules.{joined, numbers_of}
use Rattle.mvt_message.specs.declared.numbers.layer.TheConstants.{FEATURES, NAME, KEYS, VALUES, EXTENT, VERSION}
use Rattle.mvt_message.specs.LayerFields.{bytes_of, values_in}
use Rattle.mvt_feature.specs.ValueIn.{value_in}
use Rattle.mvt_mend.specs.Features.{integers_after, integers_of, others, with_integers, mended_integers, feature_with, mended_feature}
use Rattle.mvt_mend.specs.declared.change.Change.{Change}
use Rattle.mvt_tile_value.specs.declared.numbers.tile.TheConstants.{LAYERS}
use Rattle.mvt_mend.specs.Tiles.{as_layer, changes_in, fields_with, has_layers, is_layer, is_long_winded, mended, mended_by, mended_layer}
use Rattle.mvt_mend.specs.Stays.{AreBut, IsFeatureBut, IsLayerBut, besides, fields_of}
use Rattle.mvt_mend.proofs.FieldListLemmas.{HasFields, all_fit, all_sized, besides_with, fields_spelled, fields_suit, mended_fields, Suits}
use Rattle.mvt_wire.proofs.WireLaws.{spelled_parts}
use Rattle.mvt_mend.proofs.MendedTileLemmas.{unchanged}

-- ---- the contents of the fields of a number

abbrev pub contents : ℕ → List Entry → List Content
contents k xs = map (λ (x : Entry). x.content) (only k xs)

pub contents_plain : (k : ℕ) (xs : List Entry) → contents k xs ≡ contents_at k (map plain_of xs)
contents_plain k [] = refl
contents_plain k (x ∷ xs) = by_test (x.number == k) (contents_plain k xs)
  where
    by_test : (b : Bool) → contents k xs ≡ contents_at k (map plain_of xs)
        → map (λ (x : Entry). x.content) (cond b (x ∷ only k xs) (only k xs))
        ≡ (if b then x.content ∷ contents_at k (map plain_of xs) else contents_at k (map plain_of xs))
    by_test true rest = ap (λ cs. x.content ∷ cs) rest
    by_test false rest = rest

contents_besides : (number k : ℕ) (ps : List Plain) → (number == k) ≡ false → contents_at k (besides number ps) ≡ contents_at k ps
contents_besides number k [] other = refl
contents_besides number k (p ∷ ps) other = by_test (p.number == number) refl (contents_besides number k ps other)
  where
    by_test : (b : Bool) → (p.number == number) ≡ b → contents_at k (besides number ps) ≡ contents_at k ps
        → contents_at k (cond (not b) (p ∷ besides number ps) (besides number ps))
        ≡ (if p.number == k then p.content ∷ contents_at k ps else contents_at k ps)
    by_test true is rest =
        let same : (p.number == k) ≡ false = ap (λ n. n == k) (eqb-true p.number number is) ∙ other in rw same rest
    by_test false is rest = ap (λ cs. if p.number == k then p.content ∷ cs else cs) rest

-- fields of other numbers hold the same
same_contents : (number k : ℕ) (old new : List ℕ) → AreBut number old new → (number == k) ≡ false
    → contents k (split new).fields ≡ contents k (split old).fields
same_contents number k old new are other =
    contents_plain k (split new).fields ∙ sym (contents_besides number k (fields_of new) other) ∙ ap (contents_at k) are.fields
    ∙ contents_besides number k (fields_of old) other ∙ sym (contents_plain k (split old).fields)

-- what the fields of a number say is what their contents say
last_content : (o : Option Entry) (xs : List Entry)
    → option_map (λ (x : Entry). x.content) (last_or o xs) ≡ last_or (option_map (λ (x : Entry). x.content) o) (map (λ (x : Entry). x.content) xs)
last_content o [] = refl
last_content o (x ∷ xs) = last_content (Some x) xs

number_content : (o : Option Entry) → number_in o ≡ option_and_then number_of (option_map (λ (x : Entry). x.content) o)
number_content None = refl
number_content (Some x) = refl

mapped_content : {X : Type 0} → (f : Content → X) (o : Option Entry)
    → option_map (λ (x : Entry). f x.content) o ≡ option_map f (option_map (λ (x : Entry). x.content) o)
mapped_content f None = refl
mapped_content f (Some x) = refl

all_contents : {X : Type 0} → (f : Content → X) (xs : List Entry)
    → map (λ (x : Entry). f x.content) xs ≡ map f (map (λ (x : Entry). x.content) xs)
all_contents f [] = refl
all_contents f (x ∷ xs) = ap (λ ys. f x.content ∷ ys) (all_contents f xs)

flat_contents : {X : Type 0} → (f : Content → List X) (xs : List Entry)
    → flat_map (λ (x : Entry). f x.content) xs ≡ flat_map f (map (λ (x : Entry). x.content) xs)
flat_contents f [] = refl
flat_contents f (x ∷ xs) = ap (λ ys. f x.content ++ ys) (flat_contents f xs)

module _ (number : ℕ) (old new : List ℕ) (are : AreBut number old new) (k : ℕ) (other : (number == k) ≡ false) where
  same_last : option_map (λ (x : Entry). x.content) (last_only k (split new).fields)
      ≡ option_map (λ (x : Entry). x.content) (last_only k (split old).fields)
  same_last =
      last_content None (only k (split new).fields) ∙ ap (last_or None) (same_contents number k old new are other)
      ∙ sym (last_content None (only k (split old).fields))

  same_number_in : number_in (last_only k (split new).fields) ≡ number_in (last_only k (split old).fields)
  same_number_in =
      number_content (last_only k (split new).fields) ∙ ap (option_and_then number_of) same_last
      ∙ sym (number_content (last_only k (split old).fields))

  same_joined : joined k (split new).fields ≡ joined k (split old).fields
  same_joined =
      flat_contents numbers_of (only k (split new).fields) ∙ ap (flat_map numbers_of) (same_contents number k old new are other)
      ∙ sym (flat_contents numbers_of (only k (split old).fields))

  same_bytes : map (λ (x : Entry). bytes_of x.content) (only k (split new).fields)
      ≡ map (λ (x : Entry). bytes_of x.content) (only k (split old).fields)
  same_bytes =
      all_contents bytes_of (only k (split new).fields) ∙ ap (map bytes_of) (same_contents number k old new are other)
      ∙ sym (all_contents bytes_of (only k (split old).fields))

  same_last_bytes : option_map (λ (x : Entry). bytes_of x.content) (last_only k (split new).fields)
      ≡ option_map (λ (x : Entry). bytes_of x.content) (last_only k (split old).fields)
  same_last_bytes =
      mapped_content bytes_of (last_only k (split new).fields) ∙ ap (option_map bytes_of) same_last
      ∙ sym (mapped_content bytes_of (last_only k (split old).fields))

same_values : (old new : List ℕ) → AreBut FEATURES old new → values_in (split new).fields ≡ values_in (split old).fields
same_values old new are =
    flat_contents (λ c. option_to_list (value_in (bytes_of c))) (only VALUES (split new).fields)
    ∙ ap (flat_map (λ (c : Content). option_to_list (value_in (bytes_of c)))) (same_contents FEATURES VALUES old new are refl)
    ∙ sym (flat_contents (λ c. option_to_list (value_in (bytes_of c))) (only VALUES (split old).fields))

-- ---- features

others_besides : (xs : List Entry) → others xs ≡ besides GEOMETRY (map plain_of xs)
others_besides [] = refl
others_besides (x ∷ xs) = by_test (x.number == GEOMETRY) (others_besides xs)
  where
    by_test : (b : Bool) → others xs ≡ besides GEOMETRY (map plain_of xs)
        → (if b then others xs else plain_of x ∷ others xs)
        ≡ cond (not b) (plain_of x ∷ besides GEOMETRY (map plain_of xs)) (besides GEOMETRY (map plain_of xs))
    by_test true rest = rest
    by_test false rest = ap (λ ps. plain_of x ∷ ps) rest

besides_twice : (number : ℕ) (ps : List Plain) → besides number (besides number ps) ≡ besides number ps
besides_twice number [] = refl
besides_twice number (p ∷ ps) = by_test (p.number == number) refl (besides_twice number ps)
  where
    by_test : (b : Bool) → (p.number == number) ≡ b → besides number (besides number ps) ≡ besides number ps
        → besides number (cond (not b) (p ∷ besides number ps) (besides number ps)) ≡ cond (not b) (p ∷ besides number ps) (besides number ps)
    by_test true is rest = rest
    by_test false is rest = rw is (ap (λ qs. p ∷ qs) rest)

-- the field of these integers
abbrev pub geometry_field : List ℕ → Plain
geometry_field ints = plain GEOMETRY (bytes (short_numbers ints))

abbrev pub feature_fields : List ℕ → List ℕ → List Plain
feature_fields payload ints = others (split payload).fields ++ geometry_field ints ∷ []

made_spelled : (payload ints : List ℕ) → with_integers payload ints ≡ spelled (feature_fields payload ints)
unfolding with_integers
made_spelled payload ints =
    sym (spelled_parts (others (split payload).fields) (geometry_field ints ∷ [])
    ∙ ap (λ b. spelled (others (split payload).fields) ++ b) (append-nil (short_field GEOMETRY (bytes (short_numbers ints)))))

suits_others : (xs : List Entry) → AllByRecursion (λ x. Suits (plain_of x)) xs → (ints : List ℕ)
    → AllByRecursion Suits (others xs ++ geometry_field ints ∷ [])
suits_others [] suit ints = (record { first = omega arith; last = omega arith; content = tt }, tt)
suits_others (x ∷ xs) suit ints = by_test (x.number == GEOMETRY) (suits_others xs suit.1 ints)
  where
    by_test : (b : Bool) → AllByRecursion Suits (others xs ++ geometry_field ints ∷ [])
        → AllByRecursion Suits ((if b then others xs else plain_of x ∷ others xs) ++ geometry_field ints ∷ [])
    by_test true rest = rest
    by_test false rest = (suit.0, rest)

-- what is made of a feature has the fields of the feature, and then that of its integers
pub made_fields : (payload ints : List ℕ) → AreBytes payload → (split payload).rest ≡ []
    → length (with_integers payload ints) < 2 ^ 64 → HasFields (with_integers payload ints) (feature_fields payload ints)
made_fields payload ints are whole small =
    let new = feature_fields payload ints in
    let is = made_spelled payload ints in
    let short : length (spelled new) < 2 ^ 64 = subst (λ b. length b < 2 ^ 64) is small in
    subst (λ b. HasFields b new) (sym is)
    (fields_spelled new (all_fit new (suits_others (split payload).fields (fields_suit payload are whole) ints) (all_sized new short)))

made_besides : (payload ints : List ℕ) → besides GEOMETRY (feature_fields payload ints) ≡ besides GEOMETRY (fields_of payload)
made_besides payload ints =
    filter-append (λ (f : Plain). not (f.number == GEOMETRY)) (others (split payload).fields) (geometry_field ints ∷ [])
    ∙ append-nil (besides GEOMETRY (others (split payload).fields)) ∙ ap (besides GEOMETRY) (others_besides (split payload).fields)
    ∙ besides_twice GEOMETRY (fields_of payload)

feature_but : (old new : List ℕ) → AreBut GEOMETRY old new → IsFeatureBut old new
feature_but old new are = record {
  id = same_number_in GEOMETRY old new are ID refl;
  tags = same_joined GEOMETRY old new are TAGS refl;
  kind = ap kind_of_type (same_number_in GEOMETRY old new are TYPE refl);
  others = are;
}

pub made_but : (payload ints : List ℕ) → AreBytes payload → (split payload).rest ≡ [] → length (with_integers payload ints) < 2 ^ 64
    → IsFeatureBut payload (with_integers payload ints)
made_but payload ints are whole small =
    let has = made_fields payload ints are whole small in
    feature_but payload (with_integers payload ints)
    (record { fields = ap (besides GEOMETRY) has.fields ∙ made_besides payload ints; rest = has.rest ∙ sym whole })

same_but : (number : ℕ) (b : List ℕ) → AreBut number b b
same_but number b = record { fields = refl; rest = refl }

nil_is : (xs : List ℕ) → is_nil xs ≡ true → xs ≡ []
nil_is [] is = refl
nil_is (x ∷ xs) is = absurd (cc)

-- integers are read where the payload is fields and nothing else
pub read_whole : (payload ints : List ℕ) → integers_of payload ≡ Some ints → (split payload).rest ≡ []
unfolding integers_of
read_whole payload ints read = by_test (is_nil (split payload).rest) refl read
  where
    by_test : (b : Bool) → is_nil (split payload).rest ≡ b
        → (if b then integers_after [] (split payload).fields else None) ≡ Some ints → (split payload).rest ≡ []
    by_test true is read = nil_is (split payload).rest is
    by_test false is read = absurd (cc)

pub some_read : {X : Type 0} → (f : List ℕ → Option X) (read : Option (List ℕ)) (x : X) → option_and_then f read ≡ Some x
    → (ints : List ℕ) × (read ≡ Some ints) × (f ints ≡ Some x)
some_read f None x is = absurd (cc)
some_read f (Some ints) x is = (ints, refl, is)

pub mended_whole : (payload new : List ℕ) → mended_integers payload ≡ Some new → (split payload).rest ≡ []
unfolding mended_integers
mended_whole payload new is =
    let found = some_read _ (integers_of payload) new is in read_whole payload found.0 found.1

pub feature_else : (payload made : List ℕ) → AreBytes payload → mended_feature payload ≡ made ∷ [] → length made < 2 ^ 64
    → IsFeatureBut payload made
unfolding mended_feature
feature_else payload made are is small = by_case (mended_integers payload) refl is
  where
    one : (a b : List ℕ) → a ∷ [] ≡ b ∷ [] → a ≡ b
    one a b same = cc

    by_case : (new : Option (List ℕ)) → mended_integers payload ≡ new → feature_with payload new ≡ made ∷ [] → IsFeatureBut payload made
    by_case None mends is = subst (IsFeatureBut payload) (one payload made is) (feature_but payload payload (same_but GEOMETRY payload))
    by_case (Some []) mends is = absurd (cc)
    by_case (Some (n ∷ ints)) mends is =
        let same = one (with_integers payload (n ∷ ints)) made is in
        let short : length (with_integers payload (n ∷ ints)) < 2 ^ 64 = subst (λ b. length b < 2 ^ 64) (sym same) small in
        subst (IsFeatureBut payload) same (made_but payload (n ∷ ints) are (mended_whole payload (n ∷ ints) mends) short)

-- ---- layers

layer_but : (old new : List ℕ) → AreBut FEATURES old new → IsLayerBut old new
layer_but old new are = record {
  version = same_number_in FEATURES old new are VERSION refl;
  name = same_last_bytes FEATURES old new are NAME refl;
  extent = ap (λ n. unwrap_or n 4096) (same_number_in FEATURES old new are EXTENT refl);
  keys = same_bytes FEATURES old new are KEYS refl;
  values = same_values old new are;
  others = are;
}

and_back : (a b : Bool) → (a && b) ≡ true → b ≡ true
and_back true b is = is
and_back false b is = absurd (cc)

pub layer_whole : (payload : List ℕ) → is_layer payload ≡ true → (split payload).rest ≡ []
unfolding is_layer
layer_whole payload is = nil_is (split payload).rest (and_back _ (is_nil (split payload).rest) is)

pub layer_fields : (payload : List ℕ) → AreBytes payload → is_layer payload ≡ true → length (mended_layer payload) < 2 ^ 64
    → HasFields (mended_layer payload) (fields_with mended_feature FEATURES (split payload).fields)
unfolding mended_layer
layer_fields payload are is small =
    rw is (mended_fields mended_feature FEATURES payload (omega arith) (omega arith) are (layer_whole payload is) (rw is at small))

pub not_layer : (payload : List ℕ) → is_layer payload ≡ false → mended_layer payload ≡ payload
unfolding mended_layer
not_layer payload not = rw not refl

pub layer_else : (payload : List ℕ) → AreBytes payload → length (mended_layer payload) < 2 ^ 64 → IsLayerBut payload (mended_layer payload)
layer_else payload are small = by_case (is_layer payload) refl
  where
    by_case : (b : Bool) → is_layer payload ≡ b → IsLayerBut payload (mended_layer payload)
    by_case true is =
        let has = layer_fields payload are is small in
        layer_but payload (mended_layer payload) (record {
          fields = ap (besides FEATURES) has.fields ∙ besides_with mended_feature FEATURES (split payload).fields;
          rest = has.rest ∙ sym (layer_whole payload is);
        })
    by_case false not =
        subst (IsLayerBut payload) (sym (not_layer payload not)) (layer_but payload payload (same_but FEATURES payload))

-- ---- tiles

changes_if : (a b : Bool) (found : List Change) (change : Change) (changes : List Change)
    → (if a && b then found else []) ≡ change ∷ changes → a ≡ true
changes_if true b found change changes is = refl
changes_if false b found change changes is = absurd (cc)

changes_whole : (input : List ℕ) (change : Change) (changes : List Change) → changes_in input ≡ change ∷ changes → (split input).rest ≡ []
unfolding changes_in
changes_whole input change changes is =
    nil_is (split input).rest
    (and_back _ (is_nil (split input).rest) (changes_if (has_layers input) (not (is_long_winded input)) _ change changes is))

-- nothing is changed of a tile, or its layers are mended in their places
pub tile_fields : (input : List ℕ) → AreBytes input → length (mended input) < 2 ^ 64
    → (changes_in input ≡ [])
    ⊎ (HasFields (mended input) (fields_with as_layer LAYERS (split input).fields) × ((split input).rest ≡ []))
unfolding mended
tile_fields input are small = by_case (changes_in input) refl small
  where
    by_case : (changes : List Change) → changes_in input ≡ changes → length (mended_by input changes) < 2 ^ 64
        → (changes_in input ≡ [])
        ⊎ (HasFields (mended_by input changes) (fields_with as_layer LAYERS (split input).fields) × ((split input).rest ≡ []))
    by_case [] is small = inl is
    by_case (change ∷ changes) is small =
        let whole = changes_whole input change changes is in
        inr (mended_fields as_layer LAYERS input (omega arith) (omega arith) are whole small, whole)

pub tile_else : (input : List ℕ) → AreBytes input → length (mended input) < 2 ^ 64 → AreBut LAYERS input (mended input)
tile_else input are small = elim (tile_fields input are small) [
  | inl none ↦ subst (AreBut LAYERS input) (sym (unchanged input none)) (same_but LAYERS input)
  | inr (has, whole) ↦ record {
    fields = ap (besides LAYERS) has.fields ∙ besides_with as_layer LAYERS (split input).fields;
    rest = has.rest ∙ sym whole;
  }
]

-- ---- in their places

pub layer_places : (payload : List ℕ) → AreBytes payload → length (mended_layer payload) < 2 ^ 64 → is_layer payload ≡ true
    → fields_of (mended_layer payload) ≡ fields_with mended_feature FEATURES (split payload).fields
layer_places payload are small is = let has = layer_fields payload are is small in has.fields

pub tile_places : (input : List ℕ) → AreBytes input → length (mended input) < 2 ^ 64
    → (mended input ≡ input) ⊎ (fields_of (mended input) ≡ fields_with as_layer LAYERS (split input).fields)
tile_places input are small = by_fields (tile_fields input are small)
  where
    by_fields : (changes_in input ≡ [])
        ⊎ (HasFields (mended input) (fields_with as_layer LAYERS (split input).fields) × ((split input).rest ≡ []))
        → (mended input ≡ input) ⊎ (fields_of (mended input) ≡ fields_with as_layer LAYERS (split input).fields)
    by_fields (inl none) = inl (unchanged input none)
    by_fields (inr (has, whole)) = inr has.fields
