-- What draws a geometry stays: features, layers and tiles that keep every rule.
use Rattle.std.proofs.Common.{◌≡◌, ℕ, ◌+◌, ◌&&◌, not, ◌==◌, Bool, true, false, List, [], ◌∷◌, ◌++◌, Some, None, if◌then◌else◌, append_assoc, append-nil, refl, sym, ap, ◌∙◌, arith}
use Rattle.std.proofs.lemmas.Bool.Decides.{nat_tests}
use Rattle.mvt_base.specs.declared.TheConstants.{LIMIT}
use Rattle.mvt_base.specs.Related.{AreRelated}
use Rattle.mvt_attrs.specs.Values.{Value}
use Rattle.mvt_wire.proofs.WireLaws.{packed_function_only, split_function_only}
use Rattle.mvt_wire.specs.Field.{Content, varint, fixed64, bytes, fixed32, Entry}
use Rattle.mvt_wire.specs.Split.{split}
use Rattle.mvt_feature.specs.declared.feature.Feature.{Feature}
use Rattle.mvt_feature.specs.declared.numbers.feature.TheConstants.{GEOMETRY}
use Rattle.mvt_feature.specs.Features.{AreNumbers, IsFeatureOf, Joined}
use Rattle.mvt_feature.specs.FeatureRules.{kind_in, numbers_of}
use Rattle.mvt_feature.specs.Selection.{only}
use Rattle.mvt_message.specs.declared.item.Item.{Item as AnItem}
use Rattle.mvt_message.specs.declared.item.Item.TheVariants.{Layer, Foreign}
use Rattle.mvt_message.specs.declared.numbers.layer.TheConstants.{FEATURES}
use Rattle.mvt_message.specs.ItemRules.{payload_names}
use Rattle.mvt_message.specs.Items.{HoldsFeature, IsItem}
use Rattle.mvt_message.specs.LayerFields.{bytes_of, is_two, keys_in, version_in}
use Rattle.mvt_tile_value.specs.declared.numbers.tile.TheConstants.{LAYERS}
use Rattle.mvt_tile_value.specs.declared.tile.Tile.{Tile}
use Rattle.mvt_tile_value.specs.Tiles.{HoldsItem, IsTile, layers_of}
use Rattle.mvt_mend.specs.Changes.{changes_of}
use Rattle.mvt_mend.specs.Features.{feature_changes, feature_outcome, integers_after, integers_of, is_list}
use Rattle.mvt_mend.specs.Tiles.{changes_from, changes_in, has_layers, is_layer, is_long_winded, layer_changes, mended, told_at}
use Rattle.mvt_mend.proofs.FieldsLemmas.{list_number, list_numbers, listed}
use Rattle.mvt_mend.proofs.OnceLemmas.{drawn_stays_whole}
use Rattle.mvt_mend.proofs.MendedTileLemmas.{unchanged}

numbers_listed : (c : Content) (numbers : List ℕ) → AreNumbers c numbers → (is_list c ≡ true) × (numbers_of c ≡ numbers)
numbers_listed (varint n) numbers (is, small) = (sym (list_number n) ∙ grind (arith, small), sym is)
numbers_listed (fixed64 n) numbers are = elim are [ ]
numbers_listed (bytes d) numbers are =
    let found = packed_function_only d numbers are in
    (sym (list_numbers d) ∙ rw found.0 refl, found.1)
numbers_listed (fixed32 n) numbers are = elim are [ ]

pub joined_listed : (before : List ℕ) (fields : List Entry) (numbers : List ℕ) → Joined (only GEOMETRY fields) numbers
    → integers_after before fields ≡ Some (before ++ numbers)
joined_listed before [] numbers are = rw (are, append-nil) refl
joined_listed before (x ∷ xs) numbers are =
    by_test (x.number == GEOMETRY) (λ front. joined_listed front xs) are
  where
    by_test : (b : Bool)
        → ((front back : List ℕ) → Joined (only GEOMETRY xs) back → integers_after front xs ≡ Some (front ++ back))
        → Joined (if b then x ∷ only GEOMETRY xs else only GEOMETRY xs) numbers
        → (if b then (if is_list x.content then integers_after (before ++ numbers_of x.content) xs else None) else integers_after before xs)
        ≡ Some (before ++ numbers)
    by_test true rest (front, back, joined, here, more) =
        let found = numbers_listed x.content front here in
        rw (found.0, found.1, joined) (rest (before ++ front) back more ∙ ap Some (append_assoc before front back))
    by_test false rest more = rest before numbers more

-- nothing is changed of a feature
pub feature_stays : (layer n : ℕ) (payload : List ℕ) (keys : List (List ℕ)) (values : List Value) (f : Feature)
    → IsFeatureOf payload keys values f → feature_changes layer n payload ≡ []
unfolding feature_changes feature_outcome
feature_stays layer n payload keys values f (fields, whole, is) =
    let found = split_function_only payload [] fields whole in
    let ints = is.integers in
    let read : Some ints ≡ integers_of payload =
    listed payload (split payload).rest ints refl (sym found.1)
    (sym (ap (integers_after []) (sym found.0) ∙ joined_listed [] fields ints is.integers_are)) in
    let drawn = drawn_stays_whole (kind_in fields) ints f.geometry is.geometry in
    rw (← read, ← found.0) (ap (changes_of layer n) drawn)

-- nothing is changed of the features of a layer
features_stay : (layer n : ℕ) (keys : List (List ℕ)) (values : List Value) (fields : List Entry) (features : List Feature)
    → AreRelated (HoldsFeature keys values) (only FEATURES fields) features → changes_from (feature_changes layer) FEATURES n fields ≡ []
features_stay layer n keys values [] features are = refl
features_stay layer n keys values (x ∷ xs) features are =
    by_test (x.number == FEATURES) (λ m more. features_stay layer m keys values xs more) features are
  where
    held : (c : Content) (f : Feature) → IsFeatureOf (bytes_of c) keys values f → told_at (feature_changes layer n) c ≡ []
    held (varint number) f is = refl
    held (fixed64 number) f is = refl
    held (bytes d) f is = feature_stays layer n d keys values f is
    held (fixed32 number) f is = refl

    by_test : (b : Bool)
        → ((m : ℕ) (more : List Feature) → AreRelated (HoldsFeature keys values) (only FEATURES xs) more
        → changes_from (feature_changes layer) FEATURES m xs ≡ [])
        → (features : List Feature) → AreRelated (HoldsFeature keys values) (if b then x ∷ only FEATURES xs else only FEATURES xs) features
        → (if b then told_at (feature_changes layer n) x.content ++ changes_from (feature_changes layer) FEATURES (n + 1) xs
        else changes_from (feature_changes layer) FEATURES n xs) ≡ []
    by_test true rest [] are = elim are [ ]
    by_test true rest (f ∷ more) are = rw (held x.content f are.0, rest (n + 1) more are.1) refl
    by_test false rest features are = rest n features are

-- nor of a layer
layer_stays : (n : ℕ) (payload : List ℕ) (item : AnItem) → IsItem payload item → layer_changes n payload ≡ []
unfolding layer_changes is_layer payload_names IsItem
layer_stays n payload (Layer layer) (fields, whole, form, item) =
    let is = item.1 in
    let found = split_function_only payload [] fields whole in
    by_test (is_layer payload) (rw (← found.0) (features_stay n 0 (keys_in fields) is.values fields layer.features is.features))
  where
    by_test : (b : Bool) → changes_from (feature_changes n) FEATURES 0 (split payload).fields ≡ []
        → (if b then changes_from (feature_changes n) FEATURES 0 (split payload).fields else []) ≡ []
    by_test true none = none
    by_test false none = refl
layer_stays n payload (Foreign version content) (fields, whole, form, item) =
    let is = item.0 in
    let other = item.1 in
    let found = split_function_only payload [] fields whole in
    let not_two : (version == 2) ≡ false = grind (arith, nat_tests) in
    let two : is_two (version_in (split payload).fields) ≡ false =
    ap (λ (xs : List Entry). is_two (version_in xs)) (sym found.0) ∙ ap is_two is ∙ not_two in
    rw two refl

-- nor of the layers of a tile
layers_stay : (n : ℕ) (fields : List Entry) (items : List AnItem) → AreRelated HoldsItem (layers_of fields) items
    → changes_from layer_changes LAYERS n fields ≡ []
layers_stay n [] items are = refl
layers_stay n (x ∷ xs) items are = by_test (x.number == LAYERS) (λ m more. layers_stay m xs more) items are
  where
    by_test : (b : Bool)
        → ((m : ℕ) (more : List AnItem) → AreRelated HoldsItem (layers_of xs) more → changes_from layer_changes LAYERS m xs ≡ [])
        → (items : List AnItem) → AreRelated HoldsItem (if b then x ∷ layers_of xs else layers_of xs) items
        → (if b then told_at (layer_changes n) x.content ++ changes_from layer_changes LAYERS (n + 1) xs
        else changes_from layer_changes LAYERS n xs) ≡ []
    by_test true rest [] are = elim are [ ]
    by_test true rest (item ∷ more) ((d, content, is), others) =
        rw (content, layer_stays n d item is, rest (n + 1) more others) refl
    by_test false rest items are = rest n items are

pub tile_stays_changes : (input : List ℕ) (tile : Tile) → IsTile LIMIT input tile → changes_in input ≡ []
unfolding changes_in
tile_stays_changes input tile is =
    let found = split_function_only input [] is.fields is.whole in
    by_test (has_layers input && not (is_long_winded input)) (rw (← found.0) (layers_stay 0 is.fields tile.items is.items))
  where
    by_test : (b : Bool) → changes_from layer_changes LAYERS 0 (split input).fields ≡ []
        → (if b then changes_from layer_changes LAYERS 0 (split input).fields else []) ≡ []
    by_test true none = none
    by_test false none = refl

pub tile_stays_bytes : (input : List ℕ) (tile : Tile) → IsTile LIMIT input tile → mended input ≡ input
tile_stays_bytes input tile is = unchanged input (tile_stays_changes input tile is)
