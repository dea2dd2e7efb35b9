-- Mending bytes that are mended changes nothing.
use Rattle.std.proofs.Common.{arith, ◌≡◌, ℕ, ◌+◌, ◌==◌, ◌^◌, ◌<◌, ◌&&◌, not, nat_le, Bool, true, false, List, [], ◌∷◌, ◌++◌, length, map, Option, Some, None, refl, sym, ap, ap₂, subst, ◌∙◌, append-nil, inl, inr}
use Rattle.std.specs.Prelude.{if◌then◌else◌, option_and_then, ◌⊎◌}
use Rattle.std.specs.List.{AllByRecursion}
use Rattle.std.proofs.lemmas.Bool.{both_ways, leb-true}
use Rattle.mvt_base.proofs.ListLemmas.{all_both, all_mapped, all_weaker, mapped_one}
use Rattle.mvt_wire.specs.Field.{Content, varint, fixed64, bytes, fixed32, Entry}
use Rattle.mvt_wire.specs.Spelling.{Plain, plain_of, short_numbers}
use Rattle.mvt_wire.specs.Split.{split}
use Rattle.mvt_feature.specs.Ranges.{AreBytes, IsInRange}
use Rattle.mvt_feature.specs.Selection.{only, contents_at}
use Rattle.mvt_feature.specs.Canonical.{plain}
use Rattle.mvt_wire.specs.Packed.{ArePacked}
use Rattle.mvt_feature.specs.Features.{AreNumbers}
use Rattle.mvt_geometry.specs.declared.shape.Kind.{Kind}
use Rattle.mvt_feature.specs.Features.{Joined}
use Rattle.mvt_feature.specs.FeatureRules.{kind_in}
use Rattle.mvt_message.specs.declared.numbers.layer.TheConstants.{FEATURES}
use Rattle.mvt_mend.specs.declared.change.Change.{Change}
use Rattle.mvt_feature.specs.declared.numbers.feature.TheConstants.{GEOMETRY}
use Rattle.mvt_mend.specs.declared.geometry.Outcome.{Outcome}
use Rattle.mvt_mend.specs.declared.geometry.Outcome.TheVariants.{Stays, Crosses, Becomes}
use Rattle.mvt_mend.specs.Changes.{changes_of}
use Rattle.mvt_mend.specs.Geometry.{new_integers, outcome, mended_geometry}
use Rattle.mvt_mend.specs.Features.{feature_changes, feature_outcome, feature_with, integers_of, mended_feature, mended_integers, others, outcome_with, with_integers}
use Rattle.mvt_tile_value.specs.declared.numbers.tile.TheConstants.{LAYERS}
use Rattle.mvt_base.specs.declared.TheConstants.{LIMIT}
use Rattle.mvt_mend.specs.Tiles.{as_layer, changes_from, changes_in, fields_with, has_layers, is_layer, is_long_winded, layer_changes, mended, mended_layer, told_at}
use Rattle.mvt_mend.proofs.FieldListLemmas.{HasFields, HasSize, HoldsOf, all_with, fields_sized, in_range}
use Rattle.mvt_mend.proofs.ElseLemmas.{contents, contents_plain, geometry_field, layer_fields, layer_whole, made_but, made_fields, mended_whole, not_layer, some_read, tile_fields}
use Rattle.mvt_mend.proofs.MendedTileLemmas.{unchanged}
use Rattle.mvt_mend.proofs.StayLemmas.{joined_listed}
use Rattle.mvt_mend.proofs.FieldsLemmas.{listed}
use Rattle.mvt_wire.proofs.WireLaws.{short_packed_packed}
use Rattle.mvt_geometry.proofs.GeometryLaws.{drawn_small}
use Rattle.mvt_mend.proofs.SmallLemmas.{mended_draws}
use Rattle.mvt_mend.proofs.OnceLemmas.{mended_once}

-- ---- features

untold_outcome : (layer n : ℕ) (found : Outcome) → new_integers found ≡ None → changes_of layer n found ≡ []
untold_outcome layer n Stays none = refl
untold_outcome layer n (Crosses crossing) none = refl
untold_outcome layer n (Becomes remade) none = absurd (cc)

-- nothing is changed of a feature whose integers stay
pub feature_untold : (payload : List ℕ) → mended_integers payload ≡ None → (layer n : ℕ) → feature_changes layer n payload ≡ []
unfolding mended_integers feature_changes feature_outcome
feature_untold payload none layer n = by_case (integers_of payload) none
  where
    by_case : (read : Option (List ℕ)) → option_and_then (mended_geometry (kind_in (split payload).fields)) read ≡ None
        → changes_of layer n (outcome_with (split payload).fields read) ≡ []
    by_case None none = refl
    by_case (Some ints) none = untold_outcome layer n (outcome (kind_in (split payload).fields) ints) none

geometry_alone : (xs : List Entry) (ints : List ℕ)
    → contents_at GEOMETRY (others xs ++ geometry_field ints ∷ []) ≡ bytes (short_numbers ints) ∷ []
geometry_alone [] ints = refl
geometry_alone (x ∷ xs) ints = by_test (x.number == GEOMETRY) refl (geometry_alone xs ints)
  where
    by_test : (b : Bool) → (x.number == GEOMETRY) ≡ b
        → contents_at GEOMETRY (others xs ++ geometry_field ints ∷ []) ≡ bytes (short_numbers ints) ∷ []
        → contents_at GEOMETRY ((if b then others xs else plain_of x ∷ others xs) ++ geometry_field ints ∷ [])
        ≡ bytes (short_numbers ints) ∷ []
    by_test true is rest = rest
    by_test false is rest = rw is rest

one_joined : (xs : List Entry) (d ints : List ℕ) → contents GEOMETRY xs ≡ bytes d ∷ []
    → ArePacked d ints → Joined (only GEOMETRY xs) ints
one_joined xs d ints is packed =
    let found = mapped_one (λ (x : Entry). x.content) (only GEOMETRY xs) (bytes d) is in
    subst (λ ys. Joined ys ints) (sym found.1)
    (ints, [], sym (append-nil ints), subst (λ c. AreNumbers c ints) (sym found.2) packed, refl)

-- what is made of a feature has the integers that it was made with
pub made_integers : (payload ints : List ℕ) → AreBytes payload → (split payload).rest ≡ [] → length (with_integers payload ints) < 2 ^ 64
    → AllByRecursion (λ n. n < 2 ^ 32) ints → integers_of (with_integers payload ints) ≡ Some ints
made_integers payload ints are whole small fit =
    let made = with_integers payload ints in
    let has = made_fields payload ints are whole small in
    let one : contents GEOMETRY (split made).fields ≡ bytes (short_numbers ints) ∷ [] =
    contents_plain GEOMETRY (split made).fields ∙ ap (contents_at GEOMETRY) has.fields ∙ geometry_alone (split payload).fields ints in
    let joins = one_joined (split made).fields (short_numbers ints) ints one (short_packed_packed ints fit) in
    sym (listed made (split made).rest ints refl has.rest (sym (joined_listed [] (split made).fields ints joins)))

mended_small : (kind : Kind) (ints : List ℕ) (n : ℕ) (new : List ℕ) → mended_geometry kind ints ≡ Some (n ∷ new)
    → AllByRecursion (λ m. m < 2 ^ 32) (n ∷ new)
mended_small kind ints n new is =
    let found = mended_draws kind ints n new is in
    let draws = found.1 in subst (AllByRecursion (λ m. m < 2 ^ 32)) (sym draws.spelled) (drawn_small found.0 draws.valid)

-- they stay
pub feature_again : (payload : List ℕ) (n : ℕ) (ints : List ℕ) → AreBytes payload → mended_integers payload ≡ Some (n ∷ ints)
    → length (with_integers payload (n ∷ ints)) < 2 ^ 64 → mended_integers (with_integers payload (n ∷ ints)) ≡ None
unfolding mended_integers
feature_again payload n ints are mends small =
    let made = with_integers payload (n ∷ ints) in
    let kind = kind_in (split payload).fields in
    let whole = mended_whole payload (n ∷ ints) mends in
    let found = some_read (mended_geometry kind) (integers_of payload) (n ∷ ints) mends in
    let read = made_integers payload (n ∷ ints) are whole small (mended_small kind found.0 n ints found.2) in
    let same : kind_in (split made).fields ≡ kind = (made_but payload (n ∷ ints) are whole small).kind in
    ap₂ (λ k r. option_and_then (mended_geometry k) r) same read ∙ mended_once kind found.0 (n ∷ ints) found.2

-- a field of which nothing is changed
abbrev IsUntold : (ℕ → List ℕ → List Change) → ℕ → Plain → Type 0
IsUntold told number p = (p.number == number) ≡ true → (n : ℕ) → told_at (told n) p.content ≡ []

-- nothing is changed of fields of each of which nothing is changed
untold_all : (told : ℕ → List ℕ → List Change) (number n : ℕ) (xs : List Entry) → AllByRecursion (IsUntold told number) (map plain_of xs)
    → changes_from told number n xs ≡ []
untold_all told number n [] untold = refl
untold_all told number n (x ∷ xs) untold = by_test (x.number == number) untold.0 (λ m. untold_all told number m xs untold.1)
  where
    by_test : (b : Bool) → (b ≡ true → (m : ℕ) → told_at (told m) x.content ≡ []) → ((m : ℕ) → changes_from told number m xs ≡ [])
        → (if b then told_at (told n) x.content ++ changes_from told number (n + 1) xs else changes_from told number n xs) ≡ []
    by_test true here rest = rw (here refl n, rest (n + 1)) refl
    by_test false here rest = rest n

-- so of what stands in place of features, if memory can hold it
abbrev IsUntoldFeature : ℕ → Plain → Type 0
IsUntoldFeature layer p = HasSize p.content → IsUntold (feature_changes layer) FEATURES p

features_of : (layer : ℕ) (d : List ℕ) → AreBytes d
    → AllByRecursion (λ q. IsUntoldFeature layer (plain FEATURES (bytes q))) (mended_feature d)
unfolding mended_feature
features_of layer d are = by_case (mended_integers d) refl
  where
    by_case : (new : Option (List ℕ)) → mended_integers d ≡ new
        → AllByRecursion (λ q. IsUntoldFeature layer (plain FEATURES (bytes q))) (feature_with d new)
    by_case None mends = (λ size is n. feature_untold d mends layer n, tt)
    by_case (Some []) mends = tt
    by_case (Some (i ∷ ints)) mends =
        (λ size is n. feature_untold (with_integers d (i ∷ ints)) (feature_again d i ints are mends size) layer n, tt)

feature_field : (layer : ℕ) (c : Content) → IsInRange c → HoldsOf (IsUntoldFeature layer) mended_feature FEATURES c
feature_field layer (varint n) range = λ size is m. refl
feature_field layer (fixed64 n) range = λ size is m. refl
feature_field layer (bytes d) range = features_of layer d range
feature_field layer (fixed32 n) range = λ size is m. refl

pub features_again : (layer : ℕ) (xs : List Entry) → AllByRecursion (λ (x : Entry). IsInRange x.content) xs
    → AllByRecursion (IsUntoldFeature layer) (fields_with mended_feature FEATURES xs)
features_again layer xs range =
    all_with (IsUntoldFeature layer) mended_feature FEATURES xs
    (all_weaker (λ (x : Entry). IsInRange x.content)
    (λ x. (x.number == FEATURES) ≡ true → HoldsOf (IsUntoldFeature layer) mended_feature FEATURES x.content)
    (λ x range _. feature_field layer x.content range) xs range)
    (all_weaker (λ (x : Entry). IsInRange x.content) (λ x. (x.number == FEATURES) ≡ false → IsUntoldFeature layer (plain_of x))
    (λ x range other size is. absurd (both_ways (x.number == FEATURES) other is)) xs range)

-- ---- layers

sized_untold : (told : ℕ → List ℕ → List Change) (number : ℕ) (b : List ℕ) (ps : List Plain) → HasFields b ps
    → AllByRecursion (λ p. HasSize p.content → IsUntold told number p) ps → changes_from told number 0 (split b).fields ≡ []
sized_untold told number b ps has untold =
    let sized = subst (AllByRecursion (λ p. HasSize p.content)) has.fields
    (all_mapped plain_of (λ p. HasSize p.content) (split b).fields (fields_sized b)) in
    untold_all told number 0 (split b).fields
    (subst (AllByRecursion (IsUntold told number)) (sym has.fields)
    (all_weaker (λ p. HasSize p.content × (HasSize p.content → IsUntold told number p)) (IsUntold told number) (λ p both. both.1 both.0) ps
    (all_both (λ p. HasSize p.content) (λ p. HasSize p.content → IsUntold told number p) ps sized untold)))

no_layer : (n : ℕ) (d : List ℕ) → is_layer d ≡ false → layer_changes n d ≡ []
unfolding layer_changes
no_layer n d not = rw not refl

if_same : (b : Bool) (found : List Change) → found ≡ [] → (if b then found else []) ≡ []
if_same true found none = none
if_same false found none = refl

layer_none : (n : ℕ) (d : List ℕ) → changes_from (feature_changes n) FEATURES 0 (split d).fields ≡ [] → layer_changes n d ≡ []
unfolding layer_changes
layer_none n d none = if_same (is_layer d) _ none

pub layer_again : (d : List ℕ) → AreBytes d → length (mended_layer d) < 2 ^ 64 → (n : ℕ) → layer_changes n (mended_layer d) ≡ []
layer_again d are small n = by_case (is_layer d) refl
  where
    by_case : (b : Bool) → is_layer d ≡ b → layer_changes n (mended_layer d) ≡ []
    by_case true is =
        layer_none n (mended_layer d)
        (sized_untold (feature_changes n) FEATURES (mended_layer d) (fields_with mended_feature FEATURES (split d).fields)
        (layer_fields d are is small) (features_again n (split d).fields (in_range d are (layer_whole d is))))
    by_case false not = ap (layer_changes n) (not_layer d not) ∙ no_layer n d not

-- ---- tiles

abbrev IsUntoldLayer : Plain → Type 0
IsUntoldLayer p = HasSize p.content → IsUntold layer_changes LAYERS p

layer_field : (c : Content) → IsInRange c → HoldsOf IsUntoldLayer as_layer LAYERS c
layer_field (varint n) range = λ size is m. refl
layer_field (fixed64 n) range = λ size is m. refl
layer_field (bytes d) range = (λ size is m. layer_again d range size m, tt)
layer_field (fixed32 n) range = λ size is m. refl

layers_again : (xs : List Entry) → AllByRecursion (λ (x : Entry). IsInRange x.content) xs
    → AllByRecursion IsUntoldLayer (fields_with as_layer LAYERS xs)
layers_again xs range =
    all_with IsUntoldLayer as_layer LAYERS xs
    (all_weaker (λ (x : Entry). IsInRange x.content) (λ x. (x.number == LAYERS) ≡ true → HoldsOf IsUntoldLayer as_layer LAYERS x.content)
    (λ x range _. layer_field x.content range) xs range)
    (all_weaker (λ (x : Entry). IsInRange x.content) (λ x. (x.number == LAYERS) ≡ false → IsUntoldLayer (plain_of x))
    (λ x range other size is. absurd (both_ways (x.number == LAYERS) other is)) xs range)

tile_none : (b : List ℕ) → (has_layers b ≡ true → changes_from layer_changes LAYERS 0 (split b).fields ≡ []) → changes_in b ≡ []
unfolding changes_in
tile_none b none = by_test (has_layers b) none
  where
    by_test : (h : Bool) → (h ≡ true → changes_from layer_changes LAYERS 0 (split b).fields ≡ [])
        → (if h && not (is_long_winded b) then changes_from layer_changes LAYERS 0 (split b).fields else []) ≡ []
    by_test true none = if_same (not (is_long_winded b)) _ (none refl)
    by_test false none = refl

and_front : (a b : Bool) → (a && b) ≡ true → a ≡ true
and_front true b is = refl
and_front false b is = absurd (cc)

within : (b : List ℕ) → has_layers b ≡ true → length b < 2 ^ 64
within b has =
    let few = leb-true (length b) LIMIT (and_front (nat_le (length b) LIMIT) _ has) in omega arith

-- nothing is changed of a tile that is mended
pub again_changes : (input : List ℕ) → AreBytes input → changes_in (mended input) ≡ []
again_changes input are = by_case (has_layers (mended input)) refl
  where
    by_fields : (changes_in input ≡ []) ⊎ (HasFields (mended input) (fields_with as_layer LAYERS (split input).fields) × ((split input).rest ≡ []))
        → changes_in (mended input) ≡ []
    by_fields (inl none) = ap changes_in (unchanged input none) ∙ none
    by_fields (inr (made, whole)) =
        tile_none (mended input) (λ _. sized_untold layer_changes LAYERS (mended input) (fields_with as_layer LAYERS (split input).fields) made
        (layers_again (split input).fields (in_range input are whole)))

    by_case : (h : Bool) → has_layers (mended input) ≡ h → changes_in (mended input) ≡ []
    by_case true has = by_fields (tile_fields input are (within (mended input) has))
    by_case false none = tile_none (mended input) (λ has. absurd (both_ways (has_layers (mended input)) none has))

pub again_bytes : (input : List ℕ) → AreBytes input → mended (mended input) ≡ mended input
again_bytes input are = unchanged (mended input) (again_changes input are)

-- and of a tile that mending leaves as it is nothing is changed
pub same_changes : (input : List ℕ) → AreBytes input → mended input ≡ input → changes_in input ≡ []
same_changes input are same = ap changes_in (sym same) ∙ again_changes input are
