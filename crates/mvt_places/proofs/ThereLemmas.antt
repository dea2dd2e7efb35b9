-- The layer and the feature of a first fault are there.
use Rattle.std.proofs.Common.{arith, ◌≡◌, ℕ, ◌==◌, Bool, true, false, List, [], ◌∷◌, ◌++◌, length, take, Some, refl, sym, ap, ◌∙◌, subst, if◌then◌else◌}
use Rattle.std.specs.Prelude.{filter, slice_get}
use Rattle.std.specs.List.{AllByRecursion}
use Rattle.std.specs.Option.{option_map}
use Rattle.std.proofs.lemmas.Bool.{eqb-true}
use Rattle.mvt_wire.specs.Field.{Content, varint, fixed64, bytes, fixed32, Entry}
use Rattle.mvt_wire.specs.Split.{split}
use Rattle.mvt_feature.specs.Forms.{message, HasForm}
use Rattle.mvt_feature.specs.Selection.{HaveForm, only}
use Rattle.mvt_message.specs.declared.numbers.layer.TheConstants.{FEATURES}
use Rattle.mvt_message.specs.LayerFields.{bytes_of}
use Rattle.mvt_message.proofs.MessageLaws.{feature_of_a_fault}
use Rattle.mvt_tile.specs.declared.fault.Fault.{Fault}
use Rattle.mvt_tile.specs.FaultPlaces.{StandsIn}
use Rattle.mvt_tile.specs.TileRules.{fault_within, is_bytes}
use Rattle.mvt_tile.proofs.TileLaws.{layer_of_a_fault}
use Rattle.mvt_tile_value.specs.declared.numbers.tile.TheConstants.{LAYERS}
use Rattle.mvt_tile_value.specs.Tiles.{layers_of}
use Rattle.mvt_places.specs.declared.message.Form.TheVariants.{Bytes}
use Rattle.mvt_places.specs.Messages.{Message, formed, has_form, inside}
use Rattle.mvt_places.specs.Places.{asked, feature_of, front, layer_of}

-- ---- what is picked twice

module _ {X : Type 0} (p q : X → Bool) where
  -- the element that is picked behind others that are picked
  picked_at : (before : List X) (x : X) (behind : List X) → AllByRecursion (λ y. q y ≡ true) (filter p before) → p x ≡ true → q x ≡ true
      → slice_get (filter q (filter p (before ++ x ∷ behind))) (length (filter p before)) ≡ Some x
  picked_at [] x behind all is has =
      ap (λ (b : Bool). slice_get (filter q (if b then x ∷ filter p behind else filter p behind)) 0) is
      ∙ ap (λ (b : Bool). slice_get (if b then x ∷ filter q (filter p behind) else filter q (filter p behind)) 0) has
  picked_at (y ∷ ys) x behind all is has = by_test (p y) all (λ rest. picked_at ys x behind rest is has)
    where
      by_test : (b : Bool) → AllByRecursion (λ z. q z ≡ true) (if b then y ∷ filter p ys else filter p ys)
          → (AllByRecursion (λ z. q z ≡ true) (filter p ys)
          → slice_get (filter q (filter p (ys ++ x ∷ behind))) (length (filter p ys)) ≡ Some x)
          → slice_get (filter q (if b then y ∷ filter p (ys ++ x ∷ behind) else filter p (ys ++ x ∷ behind)))
          (length (if b then y ∷ filter p ys else filter p ys))
          ≡ Some x
      by_test true both next =
          ap
          (λ (b : Bool). slice_get (if b then y ∷ filter q (filter p (ys ++ x ∷ behind)) else filter q (filter p (ys ++ x ∷ behind)))
          (length (y ∷ filter p ys)))
          both.0
          ∙ next both.1
      by_test false all next = next all

  picked_all : (xs : List X) → AllByRecursion (λ y. q y ≡ true) xs → filter q xs ≡ xs
  picked_all [] all = refl
  picked_all (x ∷ xs) all =
      ap (λ (b : Bool). if b then x ∷ filter q xs else filter q xs) all.0 ∙ ap (λ ys. x ∷ ys) (picked_all xs all.1)

-- ---- the layer

layers_are : (xs : List Entry) → layers_of xs ≡ only LAYERS xs
layers_are [] = refl
layers_are (x ∷ xs) = ap (λ (ys : List Entry). if x.number == LAYERS then x ∷ ys else ys) (layers_are xs)

has_bytes : (c : Content) → is_bytes c ≡ true → has_form Bytes c ≡ true
has_bytes (varint n) is = cc
has_bytes (fixed64 n) is = cc
has_bytes (bytes d) is = refl
has_bytes (fixed32 n) is = cc

all_have : (xs : List Entry) → AllByRecursion (λ (e : Entry). is_bytes e.content ≡ true) xs
    → AllByRecursion (λ (e : Entry). has_form Bytes e.content ≡ true) xs
all_have [] all = tt
all_have (x ∷ xs) all = (has_bytes x.content all.0, all_have xs all.1)

same_number : (n k : ℕ) → n ≡ k → (n == k) ≡ true
same_number n k is = grind (arith, is)

layer_found : (fields : List Entry) (n : ℕ) (fault : Fault) → (h : StandsIn fields n fault)
    → slice_get (formed Bytes LAYERS fields) n ≡ Some h.x
layer_found fields n fault h =
    let before = subst (AllByRecursion (λ (e : Entry). has_form Bytes e.content ≡ true)) (layers_are h.front) (all_have (layers_of h.front) h.forms) in
    let found =
    picked_at (λ (e : Entry). e.number == LAYERS) (λ (e : Entry). has_form Bytes e.content) h.front h.x h.back before
    (same_number h.x.number LAYERS h.is_layer) (ap (has_form Bytes) h.holds) in
    ap (λ l. slice_get (formed Bytes LAYERS l) n) h.of_fields
    ∙ ap (λ i. slice_get (formed Bytes LAYERS (h.front ++ h.x ∷ h.back)) i) (sym h.index ∙ ap length (layers_are h.front)) ∙ found

pub layer_is : (limit : ℕ) (input : List ℕ) (fault : Fault) (n : ℕ) → fault.layer ≡ Some n
    → (h : StandsIn (split (take limit input)).fields n fault)
    → layer_of limit input fault ≡ Some (inside (front limit input) h.x)
layer_is limit input fault n at h =
    ap (λ o. asked LAYERS o (Some (front limit input))) at
    ∙ ap (option_map (inside (front limit input))) (layer_found (split (take limit input)).fields n fault h)

pub first_layer_there : (limit : ℕ) (input : List ℕ) (fault : Fault) (n : ℕ) → fault_within limit input ≡ Some fault → fault.layer ≡ Some n
    → (m : Message) × (layer_of limit input fault ≡ Some m)
first_layer_there limit input fault n is at =
    let h = layer_of_a_fault limit input fault n is at in
    (inside (front limit input) h.x, layer_is limit input fault n at h)

-- ---- the feature

formed_message : (c : Content) → HasForm message c → has_form Bytes c ≡ true
formed_message (varint n) is = absurd is
formed_message (fixed64 n) is = absurd is
formed_message (bytes d) is = refl
formed_message (fixed32 n) is = absurd is

messages_have : (k : ℕ) (xs : List Entry) → HaveForm k (HasForm message) xs
    → AllByRecursion (λ (e : Entry). has_form Bytes e.content ≡ true) (only k xs)
messages_have k [] all = tt
messages_have k (x ∷ xs) all = by_number (x.number == k) refl (messages_have k xs all.1)
  where
    by_number : (b : Bool) → (x.number == k) ≡ b → AllByRecursion (λ (e : Entry). has_form Bytes e.content ≡ true) (only k xs)
        → AllByRecursion (λ (e : Entry). has_form Bytes e.content ≡ true) (if b then x ∷ only k xs else only k xs)
    by_number true is rest = (formed_message x.content (all.0 (eqb-true x.number k is)), rest)
    by_number false is rest = rest

pub first_feature_there : (limit : ℕ) (input : List ℕ) (fault : Fault) (n j : ℕ) → fault_within limit input ≡ Some fault
    → fault.layer ≡ Some n → fault.feature ≡ Some j → (m : Message) × (feature_of limit input fault ≡ Some m)
first_feature_there limit input fault n j is layer feature =
    let h = layer_of_a_fault limit input fault n is layer in
    let m = inside (front limit input) h.x in
    let (inner, first, of_feature) = h.inside j feature in
    let (forms, y, found) = feature_of_a_fault h.content h.x.body h.x.at inner j first of_feature in
    let content : bytes_of h.x.content ≡ h.content = ap bytes_of h.holds in
    let picked : slice_get (formed Bytes FEATURES (split h.content).fields) j ≡ Some y =
    ap (λ l. slice_get l j)
    (picked_all (λ (e : Entry). true) (λ (e : Entry). has_form Bytes e.content) (only FEATURES (split h.content).fields)
    (messages_have FEATURES (split h.content).fields forms)) ∙ found in (
      inside m y,
      ap (λ o. asked FEATURES o (layer_of limit input fault)) feature
          ∙ ap (asked FEATURES (Some j)) (layer_is limit input fault n layer h)
          ∙ ap (λ c. option_map (inside m) (slice_get (formed Bytes FEATURES (split c).fields) j)) content
          ∙ ap (option_map (inside m)) picked,
    )
