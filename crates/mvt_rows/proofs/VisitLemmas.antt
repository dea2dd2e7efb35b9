-- The rows of an item as its values, its keys and its features come, and as it ends.
use Rattle.std.proofs.Common.{◌≡◌, ◌≢◌, ℕ, ◌+◌, ◌-◌, List, [], ◌∷◌, ◌++◌, length, Some, refl, sym, ap, ap₂, ◌∙◌, subst, arith, append-nil, append_assoc, length-append}
use Rattle.std.specs.Prelude.{IsUtf8}
use Rattle.std.specs.List.{fold, AllByRecursion}
use Rattle.std.specs.Option.{option_and_then}
use Rattle.mvt_base.specs.Related.{AreRelated}
use Rattle.mvt_base.proofs.ListLemmas.{related-append}
use Rattle.mvt_attrs.specs.declared.value.Attribute.{Attribute}
use Rattle.mvt_attrs.specs.Values.{Value}
use Rattle.mvt_attrs.specs.Tags.{Resolved}
use Rattle.mvt_wire.specs.Split.{split}
use Rattle.mvt_geometry.specs.declared.shape.Geometry.{Geometry}
use Rattle.mvt_geometry.specs.Shape.{kind_of}
use Rattle.mvt_feature.specs.declared.feature.Feature.{Feature}
use Rattle.mvt_feature.specs.declared.feature_fields.FeatureFields.{FeatureFields}
use Rattle.mvt_feature.specs.Valid.{ValidValue}
use Rattle.mvt_message.specs.declared.item.Item.{Item}
use Rattle.mvt_message.specs.declared.item.Item.TheVariants.{Layer, Foreign}
use Rattle.mvt_message.specs.declared.item.Layer.{Layer as ALayer}
use Rattle.mvt_message.specs.declared.visiting.Visited.{Visited}
use Rattle.mvt_message.specs.Items.{IsItem as IsItemOf, names_in}
use Rattle.mvt_message.specs.ValidItems.{ValidItem, ValidLayer}
use Rattle.mvt_message.specs.Visiting.{HasLayer, IsVisited, OfFeatures}
use Rattle.mvt_rows.specs.declared.places.Places.{Places}
use Rattle.mvt_rows.specs.Tables.{Table, behind, feature_row, foreign_row, open_row, with_feature_row, with_foreign, with_geometry, with_key, with_layer_row, with_value}
use Rattle.mvt_rows.specs.TileRows.{each, part_of, text_of, value_of, IsFeature, IsItem, IsLayer}
use Rattle.mvt_rows.specs.Visiting.{AreItemRows, AreLayerRows, AreRows, IsKey, IsValue}
use Rattle.mvt_rows.proofs.GrowthLemmas.{Grown, grown_more, grown_fold, more_features, more_texts, key_grows, value_grows, geometry_grows, text_stays, value_stays, feature_stays, item_stays}
use Rattle.mvt_rows.proofs.RowLemmas.{each_related, part_after, part_is, related_weaker}
use Rattle.mvt_rows.proofs.TableLemmas.{Pushes, drawn, fold_keeps, geometry_keeps, id_is, rows_pushed, text_after, value_holds, value_keeps, value_push, value_row}

-- rows from a place on
pub rows_start : {R X : Type 0} (Is : R → X → Type 0) (held : List R) (start : ℕ) → start ≡ length held → AreRows Is held start []
rows_start Is held start at = record { before = held; rows = []; held_are = sym (append-nil held); start_is = at; things_are = tt }

-- where there are none yet, the place is the list's end
rows_end : {R X : Type 0} (Is : R → X → Type 0) (held : List R) (start : ℕ) → AreRows Is held start [] → start ≡ length held
rows_end Is held start are = by_rows are.rows are.held_are are.things_are
  where
    by_rows : (rows : List _) → held ≡ are.before ++ rows → AreRelated Is rows [] → start ≡ length held
    by_rows [] e h = are.start_is ∙ sym (ap length (e ∙ append-nil are.before))
    by_rows (r ∷ rows) e h = absurd h

rows_stay : {R X : Type 0} (Is Now : R → X → Type 0) → ((r : R) (x : X) → Is r x → Now r x)
    → (held now : List R) (start : ℕ) (things : List X)
    → now ≡ held → AreRows Is held start things → AreRows Now now start things
rows_stay Is Now stays held now start things e are = record {
  before = are.before;
  rows = are.rows;
  held_are = e ∙ are.held_are;
  start_is = are.start_is;
  things_are = related_weaker Is Now stays are.rows things are.things_are;
}

rows_joined : {R X : Type 0} (Is Now : R → X → Type 0) → ((r : R) (x : X) → Is r x → Now r x) → (held now more : List R) (start : ℕ)
    (things others : List X) → now ≡ held ++ more → AreRelated Now more others → AreRows Is held start things
    → AreRows Now now start (things ++ others)
rows_joined Is Now stays held now more start things others e is are = record {
  before = are.before;
  rows = are.rows ++ more;
  held_are = e ∙ ap (λ l. l ++ more) are.held_are ∙ append_assoc are.before are.rows more;
  start_is = are.start_is;
  things_are = related-append Now are.rows things more others (related_weaker Is Now stays are.rows things are.things_are) is;
}

-- the part of the list from there
rows_part : {R X : Type 0} (Is : R → X → Type 0) (held : List R) (start : ℕ) (things : List X) (are : AreRows Is held start things)
    → part_of held (record { start = start; len = length held - start }) ≡ Some are.rows
rows_part Is held start things are =
    let size : length held ≡ length are.before + length are.rows = ap length are.held_are ∙ length-append are.before are.rows in
    part_is held are.before are.rows [] (are.held_are ∙ ap (λ l. are.before ++ l) (sym (append-nil are.rows))) start (length held - start)
    are.start_is (omega (arith, size, are.start_is))

-- the rows of items when the table has grown
items_stay : (t u : Table) → Grown t u → u.layers ≡ t.layers → (items : List Item) → AreItemRows t items → AreItemRows u items
items_stay t u grown same_layers items are =
    subst (λ rows. AreRelated (IsItem u) rows items) (sym same_layers)
    (related_weaker (IsItem t) (IsItem u) (item_stays t u grown) t.layers items are)

module _ (t : Table) (open_at : Places) (items : List Item) where
  -- a layer of which nothing came yet
  pub layer_opened : open_at.features ≡ length t.features → open_at.keys ≡ length t.keys → open_at.values ≡ length t.values
      → AreItemRows t items → AreLayerRows t open_at items [] [] []
  layer_opened features keys values are = record {
    items_are = are;
    keys_are = rows_start (IsKey t) t.keys open_at.keys keys;
    values_are = rows_start (IsValue t) t.values open_at.values values;
    features_are = rows_start (IsFeature t [] []) t.features open_at.features features;
  }

  -- one more value
  pub value_visited : (values : List Value) (v : Value) → ValidValue v → AreLayerRows t open_at items [] values []
      → AreLayerRows (with_value t v) open_at items [] (values ++ v ∷ []) []
  value_visited values v valid are =
      let now = with_value t v in
      let grown = value_grows t v in
      record {
        items_are = items_stay t now grown (value_keeps (λ (u : Table). u.layers) (λ u rows texts. refl) t v) items are.items_are;
        keys_are = rows_stay (IsKey t) (IsKey now) (text_stays t.texts now.texts grown.texts) t.keys now.keys open_at.keys []
            (value_keeps (λ (u : Table). u.keys) (λ u rows texts. refl) t v) are.keys_are;
        values_are = rows_joined (IsValue t) (IsValue now) (value_stays t.texts now.texts grown.texts) t.values now.values
            (value_row t v ∷ []) open_at.values values (v ∷ []) (value_push t v) (value_holds t v valid, tt) are.values_are;
        features_are = rows_start (IsFeature now [] (values ++ v ∷ [])) now.features open_at.features
            (rows_end (IsFeature t [] values) t.features open_at.features are.features_are
            ∙ ap length (sym (value_keeps (λ (u : Table). u.features) (λ u rows texts. refl) t v)));
      }

  -- all keys
  pub keys_visited : (values : List Value) (keys : List (List ℕ)) → AllByRecursion IsUtf8 keys → AreLayerRows t open_at items [] values []
      → AreLayerRows (fold with_key t keys) open_at items keys values []
  keys_visited values keys utf8 are =
      let now = fold with_key t keys in
      let grown = grown_fold with_key key_grows t keys in
      let pushes : Pushes with_key (λ (u : Table). u.keys) (λ u key. behind u.texts (length key)) IsUtf8 IsKey = record {
        grows = key_grows;
        stays = λ u w more span key is. text_stays u.texts w.texts more.texts span key is;
        push = λ u key. refl;
        holds = λ u key is. text_after u.texts key is;
      } in
      let made = rows_pushed pushes t keys utf8 in
      let features : now.features ≡ t.features = fold_keeps (λ (u : Table). u.features) with_key (λ u key. refl) t keys in
      record {
        items_are = items_stay t now grown (fold_keeps (λ (u : Table). u.layers) with_key (λ u key. refl) t keys) items are.items_are;
        keys_are = rows_joined (IsKey t) (IsKey now) (text_stays t.texts now.texts grown.texts) t.keys now.keys made.0 open_at.keys [] keys
            made.1 made.2 are.keys_are;
        values_are = rows_stay (IsValue t) (IsValue now) (value_stays t.texts now.texts grown.texts) t.values now.values open_at.values
            values (fold_keeps (λ (u : Table). u.values) with_key (λ u key. refl) t keys) are.values_are;
        features_are = rows_start (IsFeature now keys values) now.features open_at.features
            (rows_end (IsFeature t [] values) t.features open_at.features are.features_are ∙ ap length (sym features));
      }

  -- one more feature
  pub feature_visited : (keys : List (List ℕ)) (values : List Value) (features : List Feature) (tags : List ℕ) (known : FeatureFields)
      (opened : Places) (attributes : List Attribute) (geometry : Geometry) → opened.parts ≡ length t.parts
      → opened.integers ≡ length t.integers → known.kind ≡ kind_of geometry → Resolved keys values tags attributes
      → AreLayerRows t open_at items keys values features
      → AreLayerRows (with_feature_row tags (with_geometry t geometry) known opened) open_at items keys values
      (features ++ record { id = known.id; attributes = attributes; geometry = geometry } ∷ [])
  feature_visited keys values features tags known opened attributes geometry parts_are integers_are kind_is resolved are =
      let shown = with_geometry t geometry in
      let row = feature_row tags shown known opened in
      let now = with_feature_row tags shown known opened in
      let grown = grown_more t shown now (geometry_grows t geometry) (more_features shown (row ∷ []) tags) in
      let f : Feature = record { id = known.id; attributes = attributes; geometry = geometry } in
      let is : IsFeature now keys values row f = record {
        id = id_is known.id;
        tags = tags;
        tagged = part_after shown.tags tags (length tags) refl;
        attributes = resolved;
        geometry = drawn t geometry row.id row.has_id row.tags known.kind opened.parts opened.integers kind_is parts_are integers_are;
      } in
      let pushes : now.features ≡ t.features ++ row ∷ [] =
      ap (λ l. l ++ row ∷ []) (geometry_keeps (λ (u : Table). u.features) (λ u part. refl) (λ u integers. refl) t geometry) in
      record {
        items_are = items_stay t now grown
            (geometry_keeps (λ (u : Table). u.layers) (λ u part. refl) (λ u integers. refl) t geometry) items are.items_are;
        keys_are = rows_stay (IsKey t) (IsKey now) (text_stays t.texts now.texts grown.texts) t.keys now.keys open_at.keys keys
            (geometry_keeps (λ (u : Table). u.keys) (λ u part. refl) (λ u integers. refl) t geometry) are.keys_are;
        values_are = rows_stay (IsValue t) (IsValue now) (value_stays t.texts now.texts grown.texts) t.values now.values open_at.values
            values (geometry_keeps (λ (u : Table). u.values) (λ u part. refl) (λ u integers. refl) t geometry) are.values_are;
        features_are = rows_joined (IsFeature t keys values) (IsFeature now keys values) (feature_stays keys values t now grown)
            t.features now.features (row ∷ []) open_at.features features (f ∷ []) pushes (is, tt) are.features_are;
      }

  -- the end of a layer
  pub layer_visited : (keys : List (List ℕ)) (values : List Value) (layer : ALayer) (name : List ℕ) (extent : ℕ) → IsUtf8 name
      → name ≡ layer.name → extent ≡ layer.extent → AreLayerRows t open_at items keys values layer.features
      → AreItemRows (with_layer_row t name extent open_at) (items ++ Layer layer ∷ [])
  layer_visited keys values layer name extent utf8 name_is extent_is are =
      let now = with_layer_row t name extent open_at in
      let row = open_row t name extent open_at in
      let grown = more_texts t now.layers name in
      let keys_now = rows_stay (IsKey t) (IsKey now) (text_stays t.texts now.texts grown.texts) t.keys t.keys open_at.keys keys refl
      are.keys_are in
      let values_now = rows_stay (IsValue t) (IsValue now) (value_stays t.texts now.texts grown.texts) t.values t.values open_at.values
      values refl are.values_are in
      let features_now = rows_stay (IsFeature t keys values) (IsFeature now keys values) (feature_stays keys values t now grown)
      t.features t.features open_at.features layer.features refl are.features_are in
      let is : IsLayer now row layer = record {
        name = text_after t.texts name utf8 ∙ ap Some name_is;
        extent = sym extent_is;
        keys = keys;
        has_keys = ap (option_and_then (each (text_of now.texts))) (rows_part (IsKey now) t.keys open_at.keys keys keys_now)
            ∙ each_related (text_of now.texts) keys_now.rows keys keys_now.things_are;
        values = values;
        has_values = ap (option_and_then (each (value_of now.texts)))
            (rows_part (IsValue now) t.values open_at.values values values_now)
            ∙ each_related (value_of now.texts) values_now.rows values values_now.things_are;
        rows = features_now.rows;
        has_rows = rows_part (IsFeature now keys values) t.features open_at.features layer.features features_now;
        features = features_now.things_are;
      } in
      related-append (IsItem now) t.layers items (row ∷ []) (Layer layer ∷ [])
      (related_weaker (IsItem t) (IsItem now) (item_stays t now grown) t.layers items are.items_are) ((refl, is), tt)

  -- a layer of another version
  pub foreign_visited : (version : ℕ) (content : List ℕ) → version ≢ 2 → AreItemRows t items
      → AreItemRows (with_foreign t version content) (items ++ Foreign version content ∷ [])
  foreign_visited version content other are =
      let now = with_foreign t version content in
      let grown = more_texts t now.layers content in
      related-append (IsItem now) t.layers items (foreign_row t version (length content) ∷ []) (Foreign version content ∷ [])
      (related_weaker (IsItem t) (IsItem now) (item_stays t now grown) t.layers items are)
      ((other, refl, part_after t.texts content (length content) refl), tt)

-- what an item ends with
pub layer_ends : (t : Table) (open_at : Places) (items : List Item) (name text : List ℕ) (extent : ℕ) (layer : ALayer)
    (keys : List (List ℕ)) (values : List Value) → ValidItem (Layer layer) → name ≡ layer.name
    → extent ≡ layer.extent → text ≡ name → AreLayerRows t open_at items keys values layer.features
    → (names_in (Layer layer) ≡ text ∷ []) × AreItemRows (with_layer_row t name extent open_at) (items ++ Layer layer ∷ [])
unfolding ValidItem ValidLayer
layer_ends t open_at items name text extent layer keys values valid name_is extent_is text_is are = (
  ap (λ n. n ∷ []) (sym (text_is ∙ name_is)),
  layer_visited t open_at items keys values layer name extent (subst IsUtf8 (sym name_is) valid.0) name_is extent_is are,
)

pub foreign_ends : (payload : List ℕ) (t : Table) (items : List Item) (version number : ℕ) (content : List ℕ)
    → IsItemOf payload (Foreign number content) → ValidItem (Foreign number content) → version ≡ number → AreItemRows t items
    → AreItemRows (with_foreign t version payload) (items ++ Foreign number content ∷ [])
    × (with_foreign t version payload ≡ with_foreign t number content)
unfolding ValidItem IsItemOf
foreign_ends payload t items version number content is valid version_is are = (
  subst (λ v. AreItemRows (with_foreign t v payload) (items ++ Foreign number content ∷ [])) (sym version_is)
      (subst (λ c. AreItemRows (with_foreign t number payload) (items ++ Foreign number c ∷ [])) (sym is.3.2)
      (foreign_visited t (record { features = 0; keys = 0; values = 0; parts = 0; integers = 0; texts = 0 }) items number payload valid.4
      are)),
  ap₂ (with_foreign t) version_is (sym is.3.2),
)

-- whether a layer was visited, or a foreign item
module _ {V : Type 0} (HasGiven : V → Type 0) (HasFeatures : OfFeatures V) (payload : List ℕ) (visitor : V) (reported : Visited)
    (P : Item → Type 0) where
  pub was_layer : ((number : ℕ) (content : List ℕ) → IsVisited HasGiven HasFeatures payload visitor reported (Foreign number content) → ⊥)
      → (item : Item) → IsVisited HasGiven HasFeatures payload visitor reported item → P item
      → (layer : ALayer) × HasLayer HasFeatures (split payload).fields visitor reported layer × P (Layer layer)
  was_layer other (Layer layer) is p = (layer, is, p)
  was_layer other (Foreign number content) is p = absurd (other number content is)

  pub was_foreign : ((layer : ALayer) → IsVisited HasGiven HasFeatures payload visitor reported (Layer layer) → ⊥)
      → (item : Item) → IsVisited HasGiven HasFeatures payload visitor reported item → P item
      → (number : ℕ) × (content : List ℕ) × IsVisited HasGiven HasFeatures payload visitor reported (Foreign number content)
      × P (Foreign number content)
  was_foreign other (Layer layer) is p = absurd (other layer is)
  was_foreign other (Foreign number content) is p = (number, content, is, p)
