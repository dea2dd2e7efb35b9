-- The rows that are read are those of the bytes, step by step.
use Rattle.std.proofs.Common.{◌≡◌, ℕ, ◌≤◌, List, [], ◌∷◌, ◌++◌, length, take, refl, sym, ap, ap₂, ◌∙◌, subst, arith, length-append}
use Rattle.std.specs.List.{flat_map, fold}
use Rattle.std.proofs.lemmas.List.{take-append-le, take_all}
use Rattle.mvt_attrs.specs.declared.value.Attribute.{Attribute}
use Rattle.mvt_attrs.specs.Values.{Value}
use Rattle.mvt_attrs.specs.declared.value.ValueOf.TheVariants.{Text}
use Rattle.mvt_attrs.specs.Tags.{Resolved}
use Rattle.mvt_wire.specs.Field.{Content, varint, fixed64, bytes, fixed32, Entry}
use Rattle.mvt_wire.specs.Split.{split}
use Rattle.mvt_wire.proofs.WireLaws.{packed_function_only, split_function_only}
use Rattle.mvt_geometry.specs.declared.shape.Geometry.{Geometry}
use Rattle.mvt_geometry.specs.Shape.{kind_of}
use Rattle.mvt_feature.specs.declared.feature.Feature.{Feature}
use Rattle.mvt_feature.specs.declared.feature_fields.FeatureFields.{FeatureFields}
use Rattle.mvt_feature.specs.declared.numbers.feature.TheConstants.{TAGS}
use Rattle.mvt_feature.specs.FeatureRules.{joined, numbers_of}
use Rattle.mvt_feature.specs.Features.{AreNumbers, IsFeatureOf, Joined}
use Rattle.mvt_feature.specs.Selection.{only}
use Rattle.mvt_message.specs.declared.item.Item.{Item}
use Rattle.mvt_message.specs.declared.item.Item.TheVariants.{Layer}
use Rattle.mvt_message.specs.declared.item.Layer.{Layer as ALayer}
use Rattle.mvt_message.specs.LayerFields.{keys_in, payloads_in as features_in, values_in}
use Rattle.mvt_rows.specs.declared.places.Places.{Places}
use Rattle.mvt_rows.specs.declared.table.visiting.RowsVisitor.{RowsVisitor}
use Rattle.mvt_rows.specs.ReadTables.{places_of, with_feature, read_table, with_features, with_item, with_items}
use Rattle.mvt_rows.specs.Reading.{IsRead}
use Rattle.mvt_tile.proofs.TileLaws.{tile_or_fault_once}
use Rattle.mvt_rows.specs.Visiting.{HasRead, HasReadFeatures, HasReadValues, IsWithin}
use Rattle.mvt_rows.specs.Tables.{Table, no_rows, table_size, with_value, with_key, with_geometry, with_feature_row, with_layer_row, without_values}
use Rattle.mvt_rows.proofs.TableLemmas.{value_push, value_row}

-- the tags of a payload

numbers_are : (content : Content) (numbers : List ℕ) → AreNumbers content numbers → numbers ≡ numbers_of content
numbers_are (varint n) numbers are = are.0
numbers_are (bytes d) numbers are = sym (packed_function_only d numbers are).1
numbers_are (fixed64 n) numbers are = absurd are
numbers_are (fixed32 n) numbers are = absurd are

joined_is : (xs : List Entry) (numbers : List ℕ) → Joined xs numbers → numbers ≡ flat_map (λ (x : Entry). numbers_of x.content) xs
joined_is [] numbers are = are
joined_is (x ∷ xs) numbers (front, back, is, first, rest) =
    is ∙ ap₂ (λ a b. a ++ b) (numbers_are x.content front first) (joined_is xs back rest)

-- the tags of a payload name its feature's attributes
pub joined_tags : (payload : List ℕ) (keys : List (List ℕ)) (values : List Value) (f : Feature) → IsFeatureOf payload keys values f
    → Resolved keys values (joined TAGS (split payload).fields) f.attributes
joined_tags payload keys values f (fields, whole, is) =
    let of_fields = joined_is (only TAGS fields) is.tags is.tags_are in
    let all = (split_function_only payload [] fields whole).0 in
    subst (λ tags. Resolved keys values tags f.attributes) (of_fields ∙ ap (joined TAGS) all) is.attributes

-- the row of a feature with the tags of its payload
feature_is : (t : Table) (payload tags : List ℕ) (known : FeatureFields) (f : Feature) → tags ≡ joined TAGS (split payload).fields
    → known.id ≡ f.id → known.kind ≡ kind_of f.geometry
    → with_feature_row tags (with_geometry t f.geometry) known (places_of t) ≡ with_feature t payload f
feature_is t payload tags known f tagged id kind =
    ap₂ (λ own (k : FeatureFields). with_feature_row own (with_geometry t f.geometry) k (places_of t)) tagged (fields_are known id kind)
  where
    fields_are : (k : FeatureFields) → k.id ≡ f.id → k.kind ≡ kind_of f.geometry
        → k ≡ record { id = f.id; kind = kind_of f.geometry }
    fields_are k a b = ap₂ (λ i j. let made : FeatureFields = record { id = i; kind = j } in made) a b

-- one feature and one item more

features_more : (t : Table) (payloads : List (List ℕ)) (features : List Feature) (payload : List ℕ) (f : Feature)
    → length payloads ≡ length features
    → with_features t (payloads ++ payload ∷ []) (features ++ f ∷ []) ≡ with_feature (with_features t payloads features) payload f
features_more t [] [] payload f e = refl
features_more t [] (g ∷ features) payload f e = absurd (omega (arith, e))
features_more t (p ∷ payloads) [] payload f e = absurd (omega (arith, e))
features_more t (p ∷ payloads) (g ∷ features) payload f e = features_more (with_feature t p g) payloads features payload f
    (omega (arith, e))

items_more : (t : Table) (payloads : List (List ℕ)) (items : List Item) (payload : List ℕ) (item : Item)
    → length payloads ≡ length items
    → with_items t (payloads ++ payload ∷ []) (items ++ item ∷ []) ≡ with_item (with_items t payloads items) payload item
items_more t [] [] payload item e = refl
items_more t [] (i ∷ items) payload item e = absurd (omega (arith, e))
items_more t (p ∷ payloads) [] payload item e = absurd (omega (arith, e))
items_more t (p ∷ payloads) (i ∷ items) payload item e = items_more (with_item t p i) payloads items payload item (omega (arith, e))

-- the features of a layer so far, with one more
pub feature_read : (before t : Table) (open_at : Places) (keys : List (List ℕ)) (values : List Value) (payloads : List (List ℕ))
    (features : List Feature) (payload tags : List ℕ) (known : FeatureFields) (attributes : List Attribute) (geometry : Geometry)
    → HasReadFeatures before t open_at keys values payloads features → tags ≡ joined TAGS (split payload).fields
    → known.kind ≡ kind_of geometry
    → HasReadFeatures before (with_feature_row tags (with_geometry t geometry) known (places_of t)) open_at keys values
    (payloads ++ payload ∷ []) (features ++ record { id = known.id; attributes = attributes; geometry = geometry } ∷ [])
feature_read before t open_at keys values payloads features payload tags known attributes geometry has tagged kind =
    let f : Feature = record { id = known.id; attributes = attributes; geometry = geometry } in
    let start = fold with_key (fold with_value before values) keys in
    let even = has.even in
    record {
      opened = has.opened;
      even = omega (arith, length-append payloads (payload ∷ []), length-append features (f ∷ []), even);
      rows = feature_is t payload tags known f tagged refl kind ∙ ap (λ u. with_feature u payload f) has.rows
          ∙ sym (features_more start payloads features payload f even);
    }

-- the rows of items, with one item more
pub item_read : (t now : Table) (payloads : List (List ℕ)) (items : List Item) (payload : List ℕ) (item : Item)
    → HasRead t payloads items → now ≡ with_item t payload item
    → HasRead now (payloads ++ payload ∷ []) (items ++ item ∷ [])
item_read t now payloads items payload item has is =
    let even = has.even in
    record {
      even = omega (arith, length-append payloads (payload ∷ []), length-append items (item ∷ []), even);
      rows = is ∙ ap (λ u. with_item u payload item) has.rows ∙ sym (items_more no_rows payloads items payload item even);
    }

pub layer_read : (t now : Table) (payload name : List ℕ) (extent : ℕ) (layer : ALayer) → name ≡ layer.name → extent ≡ layer.extent
    → now ≡ with_features (fold with_key (fold with_value t (values_in (split payload).fields)) (keys_in (split payload).fields))
    (features_in (split payload).fields) layer.features
    → with_layer_row now name extent (places_of t) ≡ with_item t payload (Layer layer)
layer_read t now payload name extent layer name_is extent_is is =
    let fields = (split payload).fields in
    let told = with_features (fold with_key (fold with_value t (values_in fields)) (keys_in fields)) (features_in fields) layer.features in
    ap (λ u. with_layer_row u name extent (places_of t)) is
    ∙ ap₂ (λ n e. with_layer_row told n e (places_of t)) name_is extent_is

-- the values of a layer so far, with one more, and dropped again

fold_more : {X : Type 0} → (f : Table → X → Table) (t : Table) (xs : List X) (x : X) → fold f t (xs ++ x ∷ []) ≡ f (fold f t xs) x
fold_more f t [] x = refl
fold_more f t (y ∷ xs) x = fold_more f (f t y) xs x

pub value_read : (before t now : Table) (open_at : Places) (values : List Value) (v : Value) → HasReadValues before t open_at values
    → now ≡ with_value t v → HasReadValues before now open_at (values ++ v ∷ [])
value_read before t now open_at values v has is =
    (has.0, is ∙ ap (λ u. with_value u v) has.1 ∙ sym (fold_more with_value before values v))

pub values_dropped : (t : Table) (values : List Value) → without_values (fold with_value t values) (places_of t) ≡ t
values_dropped t values =
    dropped t values ∙ ap₂ (λ vs ts. let u : Table = record t { values = vs; texts = ts } in u)
    (take_all (length t.values) t.values (omega arith))
    (take_all (length t.texts) t.texts (omega arith))
  where
    one : (u : Table) (v : Value) → length t.values ≤ length u.values → length t.texts ≤ length u.texts
        → (without_values (with_value u v) (places_of t) ≡ without_values u (places_of t))
        × (length t.values ≤ length (with_value u v).values) × (length t.texts ≤ length (with_value u v).texts)
    one u (Text text) few short = (
      ap₂ (λ vs ts. let w : Table = record u { values = vs; texts = ts } in w)
          (take-append-le (length t.values) u.values _ few) (take-append-le (length t.texts) u.texts text short),
      omega (arith, few, ap length (value_push u (Text text)), length-append u.values (value_row u (Text text) ∷ [])),
      omega (arith, short, length-append u.texts text),
    )
    one u v few short = (
      ap (λ vs. let w : Table = record u { values = vs; texts = take (length t.texts) u.texts } in w)
          (take-append-le (length t.values) u.values _ few),
      omega (arith, few, ap length (value_push u v), length-append u.values (value_row u v ∷ [])),
      short,
    )

    all : (u : Table) (vs : List Value) → length t.values ≤ length u.values → length t.texts ≤ length u.texts
        → without_values (fold with_value u vs) (places_of t) ≡ without_values u (places_of t)
    all u [] few short = refl
    all u (v ∷ vs) few short =
        let next = one u v few short in
        all (with_value u v) vs next.1 next.2 ∙ next.0

    dropped : (u : Table) (vs : List Value) → without_values (fold with_value t vs) (places_of t) ≡ without_values t (places_of t)
    dropped u vs = all t vs (omega arith) (omega arith)

pub values_kept : (before t : Table) (open_at : Places) (values : List Value) → HasReadValues before t open_at values
    → without_values t open_at ≡ before
values_kept before t open_at values has = ap₂ without_values has.1 has.0 ∙ values_dropped before values

-- one table
pub read_once : (input : List ℕ) (table other : Table) → IsRead input table → IsRead input other → table ≡ other
read_once input table other (tile, is, valid, of, read) (twin, was, true_too, of_too, read_too) =
    let one = tile_or_fault_once input tile twin is was in read ∙ ap (read_table input) one ∙ sym read_too

-- lists that have no more bytes than they shall
pub is_within : (most : ℕ) (rows : RowsVisitor) → rows.most ≡ most → table_size rows.table ≤ rows.most → IsWithin most rows
is_within most rows same within = record { most_is = same; within = subst (λ n. table_size rows.table ≤ n) same within }
