-- The rows that a tile's bytes are read as are that tile.
use Rattle.std.proofs.Common.{◌≡◌, ℕ, ◌==◌, Bool, true, false, List, [], ◌∷◌, ◌++◌, map, IsUtf8, refl, sym, ap, ap₂, subst, append-nil, append_assoc, if◌then◌else◌}
use Rattle.std.specs.List.{AllByRecursion, flat_map, fold}
use Rattle.std.specs.Option.{option_to_list}
use Rattle.std.proofs.lemmas.Bool.{eqb-true}
use Rattle.mvt_base.specs.declared.TheConstants.{LIMIT}
use Rattle.mvt_base.specs.Related.{AreRelated}
use Rattle.mvt_attrs.specs.Values.{Value}
use Rattle.mvt_wire.specs.Field.{Content, varint, fixed64, bytes, fixed32, Entry}
use Rattle.mvt_wire.specs.Split.{split}
use Rattle.mvt_wire.proofs.WireLaws.{split_function_only}
use Rattle.mvt_geometry.specs.Shape.{kind_of}
use Rattle.mvt_feature.specs.declared.feature.Feature.{Feature}
use Rattle.mvt_feature.specs.declared.numbers.feature.TheConstants.{TAGS}
use Rattle.mvt_feature.specs.FeatureRules.{joined}
use Rattle.mvt_feature.specs.Forms.{HasForm, string, message}
use Rattle.mvt_feature.specs.Ranges.{AreBytes, IsInRange}
use Rattle.mvt_feature.specs.Selection.{only}
use Rattle.mvt_feature.specs.Valid.{ValidValue}
use Rattle.mvt_feature.specs.ValueIn.{value_in}
use Rattle.mvt_feature.specs.Values.{IsValueOf}
use Rattle.mvt_feature.proofs.FeatureLaws.{read_is_valid_fields, read_is_valid_value, value_function}
use Rattle.mvt_message.specs.declared.item.Item.{Item}
use Rattle.mvt_message.specs.declared.item.Item.TheVariants.{Layer, Foreign}
use Rattle.mvt_message.specs.declared.item.Layer.{Layer as ALayer}
use Rattle.mvt_message.specs.declared.numbers.layer.TheConstants.{FEATURES, KEYS, VALUES}
use Rattle.mvt_message.specs.Items.{HoldsFeature, HoldsValue, IsItem, IsLayer}
use Rattle.mvt_message.specs.LayerFields.{bytes_of, keys_in, values_in}
use Rattle.mvt_message.specs.ValidItems.{ValidItem, ValidLayer}
use Rattle.mvt_message.proofs.MessageLaws.{read_items_are_valid}
use Rattle.mvt_tile_value.specs.declared.numbers.tile.TheConstants.{LAYERS}
use Rattle.mvt_tile_value.specs.declared.tile.Tile.{Tile}
use Rattle.mvt_tile_value.specs.Tiles.{layers_of, HoldsItem, IsTile}
use Rattle.mvt_tile.specs.TileRules.{bytes_in, payload_of}
use Rattle.mvt_rows.specs.declared.places.Places.{Places}
use Rattle.mvt_rows.specs.ReadTables.{places_of, read_table, with_feature, with_features, with_item, with_items}
use Rattle.mvt_rows.specs.Tables.{Table, no_rows, with_key, with_value}
use Rattle.mvt_rows.specs.TileRows.{IsTileOf}
use Rattle.mvt_rows.specs.Visiting.{AreItemRows, AreLayerRows}
use Rattle.mvt_rows.proofs.ReadTableLemmas.{joined_tags}
use Rattle.mvt_rows.proofs.VisitLemmas.{feature_visited, foreign_visited, keys_visited, layer_opened, layer_visited, value_visited}

-- what each field of a number has

selected : (k : ℕ) (P : Entry → Type 0) (xs : List Entry) → AllByRecursion (λ (x : Entry). x.number ≡ k → P x) xs
    → AllByRecursion P (only k xs)
selected k P [] all = tt
selected k P (x ∷ xs) all = by_test (x.number == k) refl (selected k P xs all.1)
  where
    by_test : (b : Bool) → (x.number == k) ≡ b → AllByRecursion P (only k xs)
        → AllByRecursion P (if b then x ∷ only k xs else only k xs)
    by_test true is rest = (all.0 (eqb-true x.number k is), rest)
    by_test false is rest = rest

ranged : (k : ℕ) (xs : List Entry) → AllByRecursion (λ (x : Entry). IsInRange x.content) xs
    → AllByRecursion (λ (x : Entry). x.number ≡ k → IsInRange x.content) xs
ranged k [] all = tt
ranged k (x ∷ xs) all = (λ is. all.0, ranged k xs all.1)

text_is : (content : Content) → HasForm string content → IsUtf8 (bytes_of content)
text_is (varint n) form = absurd form
text_is (fixed64 n) form = absurd form
text_is (bytes d) form = form
text_is (fixed32 n) form = absurd form

texts_are : (xs : List Entry) → AllByRecursion (λ (x : Entry). HasForm string x.content) xs
    → AllByRecursion IsUtf8 (map (λ (x : Entry). bytes_of x.content) xs)
texts_are [] all = tt
texts_are (x ∷ xs) all = (text_is x.content all.0, texts_are xs all.1)

value_is : (content : Content) (v : Value) → HasForm message content → IsInRange content → IsValueOf (bytes_of content) v → ValidValue v
value_is (varint n) v form range is = absurd form
value_is (fixed64 n) v form range is = absurd form
value_is (bytes d) v form range is = read_is_valid_value d v range is
value_is (fixed32 n) v form range is = absurd form

values_valid : (xs : List Entry) (values : List Value) → AllByRecursion (λ (x : Entry). HasForm message x.content) xs
    → AllByRecursion (λ (x : Entry). IsInRange x.content) xs → AreRelated HoldsValue xs values → AllByRecursion ValidValue values
values_valid [] [] forms ranges are = tt
values_valid [] (v ∷ values) forms ranges are = absurd are
values_valid (x ∷ xs) [] forms ranges are = absurd are
values_valid (x ∷ xs) (v ∷ values) forms ranges are =
    (value_is x.content v forms.0 ranges.0 are.0, values_valid xs values forms.1 ranges.1 are.1)

values_are : (xs : List Entry) (values : List Value) → AreRelated HoldsValue xs values
    → flat_map (λ (x : Entry). option_to_list (value_in (bytes_of x.content))) xs ≡ values
values_are [] [] are = refl
values_are [] (v ∷ values) are = absurd are
values_are (x ∷ xs) [] are = absurd are
values_are (x ∷ xs) (v ∷ values) are =
    ap₂ (λ a b. a ++ b) (ap option_to_list (value_function (bytes_of x.content) v are.0)) (values_are xs values are.1)

-- values and features, one after the other

module _ (open_at : Places) (items : List Item) where
  values_visited : (t : Table) (done more : List Value) → AllByRecursion ValidValue more → AreLayerRows t open_at items [] done []
      → AreLayerRows (fold with_value t more) open_at items [] (done ++ more) []
  values_visited t done [] valid are = subst (λ vs. AreLayerRows t open_at items [] vs []) (sym (append-nil done)) are
  values_visited t done (v ∷ more) valid are =
      subst (λ vs. AreLayerRows (fold with_value (with_value t v) more) open_at items [] vs []) (append_assoc done (v ∷ []) more)
      (values_visited (with_value t v) (done ++ v ∷ []) more valid.1 (value_visited t open_at items done v valid.0 are))

  features_visited : (keys : List (List ℕ)) (values : List Value) (t : Table) (xs : List Entry) (done more : List Feature)
      → AreRelated (HoldsFeature keys values) xs more → AreLayerRows t open_at items keys values done
      → AreLayerRows (with_features t (map (λ (x : Entry). bytes_of x.content) xs) more) open_at items keys values (done ++ more)
  features_visited keys values t [] done [] related are =
      subst (λ fs. AreLayerRows t open_at items keys values fs) (sym (append-nil done)) are
  features_visited keys values t [] done (f ∷ more) related are = absurd related
  features_visited keys values t (x ∷ xs) done [] related are = absurd related
  features_visited keys values t (x ∷ xs) done (f ∷ more) related are =
      let payload = bytes_of x.content in
      let next = feature_visited t open_at items keys values done (joined TAGS (split payload).fields)
      (record { id = f.id; kind = kind_of f.geometry }) (places_of t) f.attributes f.geometry refl refl refl
      (joined_tags payload keys values f related.0) are in
      let rest = features_visited keys values (with_feature t payload f) xs (done ++ f ∷ []) more related.1 next in
      subst (λ fs. AreLayerRows (with_features t (payload ∷ map (λ (x : Entry). bytes_of x.content) xs) (f ∷ more)) open_at items keys
      values fs)
      (append_assoc done (f ∷ []) more) rest

-- a layer, by its fields
layer_is : (t : Table) (items : List Item) (fields : List Entry) (layer : ALayer)
    → AllByRecursion (λ (x : Entry). IsInRange x.content) fields
    → IsLayer fields layer → IsUtf8 layer.name → (payload : List ℕ) → (split payload).fields ≡ fields → AreItemRows t items
    → AreItemRows (with_item t payload (Layer layer)) (items ++ Layer layer ∷ [])
layer_is t items fields layer ranges is utf8 payload split_is are =
    let own = (split payload).fields in
    let ranges_now = subst (AllByRecursion (λ (x : Entry). IsInRange x.content)) (sym split_is) ranges in
    let now : IsLayer own layer = subst (λ xs. IsLayer xs layer) (sym split_is) is in
    let messages = selected VALUES (λ (x : Entry). HasForm message x.content) own now.forms.1.1.1.0 in
    let sizes = selected VALUES (λ (x : Entry). IsInRange x.content) own (ranged VALUES own ranges_now) in
    let valid = values_valid (only VALUES own) now.values messages sizes now.values_are in
    let said : values_in own ≡ now.values = values_are (only VALUES own) now.values now.values_are in
    let valid_now = subst (AllByRecursion ValidValue) (sym said) valid in
    let keys = texts_are (only KEYS own) (selected KEYS (λ (x : Entry). HasForm string x.content) own now.forms.1.1.0) in
    let related : AreRelated (HoldsFeature (keys_in own) (values_in own)) (only FEATURES own) layer.features =
    subst (λ vs. AreRelated (HoldsFeature (keys_in own) vs) (only FEATURES own) layer.features) (sym said) now.features in
    let opened = layer_opened t (places_of t) items refl refl refl are in
    let valued = values_visited (places_of t) items t [] (values_in own) valid_now opened in
    let keyed = keys_visited (fold with_value t (values_in own)) (places_of t) items (values_in own) (keys_in own) keys valued in
    let told = features_visited (places_of t) items (keys_in own) (values_in own)
    (fold with_key (fold with_value t (values_in own)) (keys_in own)) (only FEATURES own) [] layer.features related keyed in
    layer_visited _ (places_of t) items (keys_in own) (values_in own) layer layer.name layer.extent utf8 refl refl told

-- an item, and the items of a tile
named_in_utf8 : (layer : ALayer) → ValidItem (Layer layer) → IsUtf8 layer.name
unfolding ValidItem ValidLayer
named_in_utf8 layer valid = valid.0

item_is : (t : Table) (items : List Item) (payload : List ℕ) (item : Item) → AreBytes payload → IsItem payload item → ValidItem item
    → AreItemRows t items → AreItemRows (with_item t payload item) (items ++ item ∷ [])
unfolding IsItem
item_is t items payload (Layer layer) are_bytes (xs, whole, forms, is) valid are =
    layer_is t items xs layer (read_is_valid_fields payload xs are_bytes whole) is.1 (named_in_utf8 layer valid) payload
    (sym (split_function_only payload [] xs whole).0) are
item_is t items payload (Foreign version content) are_bytes (xs, whole, forms, is) valid are =
    foreign_visited t (places_of t) items version content is.1 are

items_are : (t : Table) (done : List Item) (xs : List Entry) (more : List Item) → AllByRecursion (λ (x : Entry). IsInRange x.content) xs
    → AreRelated HoldsItem xs more → AreItemRows t done → AreItemRows (with_items t (map payload_of xs) more) (done ++ more)
items_are t done [] [] ranges related are = subst (AreItemRows t) (sym (append-nil done)) are
items_are t done [] (item ∷ more) ranges related are = absurd related
items_are t done (x ∷ xs) [] ranges related are = absurd related
items_are t done (x ∷ xs) (item ∷ more) ranges related are =
    let (d, holds, is) = related.0 in
    let same : d ≡ payload_of x = sym (ap bytes_in holds) in
    let are_bytes : AreBytes d = subst IsInRange holds ranges.0 in
    let next = subst (λ p. AreItemRows (with_item t p item) (done ++ item ∷ [])) same
    (item_is t done d item are_bytes is (read_items_are_valid d item are_bytes is) are) in
    subst (AreItemRows (with_items (with_item t (payload_of x) item) (map payload_of xs) more)) (append_assoc done (item ∷ []) more)
    (items_are (with_item t (payload_of x) item) (done ++ item ∷ []) xs more ranges.1 related.1 next)

layers_ranged : (xs : List Entry) → AllByRecursion (λ (x : Entry). IsInRange x.content) xs
    → AllByRecursion (λ (x : Entry). IsInRange x.content) (layers_of xs)
layers_ranged [] all = tt
layers_ranged (x ∷ xs) all = by_test (x.number == LAYERS) (layers_ranged xs all.1)
  where
    by_test : (b : Bool) → AllByRecursion (λ (y : Entry). IsInRange y.content) (layers_of xs)
        → AllByRecursion (λ (y : Entry). IsInRange y.content) (if b then x ∷ layers_of xs else layers_of xs)
    by_test true rest = (all.0, rest)
    by_test false rest = rest

pub read_is_tile : (input : List ℕ) (tile : Tile) → AreBytes input → IsTile LIMIT input tile → IsTileOf (read_table input tile) tile
read_is_tile input tile are_bytes is =
    let fields = (split_function_only input [] is.fields is.whole).0 in
    let ranges = layers_ranged is.fields (read_is_valid_fields input is.fields are_bytes is.whole) in
    subst (λ xs. AreItemRows (with_items no_rows (map payload_of (layers_of xs)) tile.items) tile.items) fields
    (items_are no_rows [] (layers_of is.fields) tile.items ranges is.items tt)
