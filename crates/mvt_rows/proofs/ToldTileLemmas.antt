-- The rows of what a builder was told are the tile that it was told.
use Rattle.std.proofs.Common.{◌≡◌, ℕ, ◌+◌, ◌==◌, Bool, true, false, List, [], ◌∷◌, ◌++◌, length, map, Option, Some, None, refl, sym, ap, subst, ◌∙◌, append-nil, append_assoc, length-append, if◌then◌else◌}
use Rattle.std.specs.List.{fold}
use Rattle.std.specs.Option.{option_map, option_and_then}
use Rattle.mvt_base.specs.Related.{AreRelated}
use Rattle.mvt_attrs.specs.Values.{Value}
use Rattle.mvt_attrs.specs.declared.value.ValueOf.TheVariants.{Text}
use Rattle.mvt_geometry.specs.declared.shape.Polygon.{Polygon}
use Rattle.mvt_geometry.specs.declared.shape.Geometry.TheVariants.{Unknown, Points, Lines, Polygons}
use Rattle.mvt_message.specs.declared.item.Item.{Item}
use Rattle.mvt_message.specs.declared.item.Item.TheVariants as items
use Rattle.mvt_message.specs.declared.item.Layer.{Layer as ALayer}
use Rattle.mvt_tile_value.specs.declared.tile.Tile.{Tile}
use Rattle.mvt_tile_value.specs.CanonicalTiles.{canonical}
use Rattle.mvt_tile_value.specs.ValidTiles.{Valid}
use Rattle.mvt_rows.specs.declared.rows.LayerRow.{LayerRow}
use Rattle.mvt_rows.specs.declared.rows.PartRow.{PartRow}
use Rattle.mvt_rows.specs.declared.rows.PointRow.{PointRow}
use Rattle.mvt_rows.specs.declared.rows.ValueRow.{ValueRow}
use Rattle.mvt_rows.specs.declared.words.Given.{Given}
use Rattle.mvt_rows.specs.ReadTables.{places_of}
use Rattle.mvt_rows.specs.Tables.{Table, behind, foreign_row, no_rows, nowhere, number_row, open_row, with_key, with_number}
use Rattle.mvt_rows.specs.TileRows.{drawn_of, each, geometry_of, line_of, part_of, point_of, points_of, number_of, steps, text_of, truth_of, utf8_of, value_of, with_ring, with_ring_row, IsFeature, IsItem, IsLayer, IsTileOf}
use Rattle.mvt_rows.specs.Told.{ToldItem, ToldLayer, ToldFeature, ToldPart, Layer, Foreign}
use Rattle.mvt_rows.specs.ToldRows.{part_rows, points_of as points_in, rows_of, told_row, with_given, with_pools, with_told_feature, with_told_features, with_told_item, with_told_layer}
use Rattle.mvt_rows.specs.ToldTile.{drawn_told, geometry_told, given_value, line_of as line_told, points_told, with_ring_told, IsGiven, IsText, IsToldFeature, IsToldItem, IsToldLayer, IsToldTile}
use Rattle.mvt_rows.specs.Visiting.{IsKey, IsValue}
use Rattle.mvt_rows.specs.Written.{IsNoTile, IsWritten}
use Rattle.mvt_rows.proofs.BuildingLemmas.{length-part_rows}
use Rattle.mvt_rows.proofs.GrowthLemmas.{Grown, grown_fold, grown_more, key_grows, more_texts, pushed, same, feature_stays, item_stays, text_stays, value_stays}
use Rattle.mvt_rows.proofs.RowLemmas.{each_related, part_added, part_after, part_is, related_weaker}
use Rattle.mvt_rows.proofs.TileLemmas.{tile_once}
use Rattle.mvt_rows.proofs.TableLemmas.{fold_keeps, id_is, truth_back}

-- ---- steps that each add a row of one thing, which means another

pub record Adds {X Y R : Type 0} (f : Table → X → Table) (L : Table → List R) (row : Table → X → R) (V : X → Y → Type 0)
    (P : Table → R → Y → Type 0) : Type 0 where
  pub grows : (t : Table) (x : X) → Grown t (f t x)
  pub stays : (t u : Table) → Grown t u → (r : R) (y : Y) → P t r y → P u r y
  pub push : (t : Table) (x : X) → L (f t x) ≡ L t ++ row t x ∷ []
  pub holds : (t : Table) (x : X) (y : Y) → V x y → P (f t x) (row t x) y

rows_added : {X Y R : Type 0} {f : Table → X → Table} {L : Table → List R} {row : Table → X → R} {V : X → Y → Type 0}
    {P : Table → R → Y → Type 0}
    → Adds f L row V P → (t : Table) (xs : List X) (ys : List Y) → AreRelated V xs ys
    → (rows : List R) × (L (fold f t xs) ≡ L t ++ rows) × AreRelated (P (fold f t xs)) rows ys
rows_added {L = L} adds t [] [] all = ([], sym (append-nil (L t)), tt)
rows_added adds t [] (y ∷ ys) all = absurd all
rows_added adds t (x ∷ xs) [] all = absurd all
rows_added {f = f} {L = L} {row = row} adds t (x ∷ xs) (y ∷ ys) all =
    let rest = rows_added adds (f t x) xs ys all.1 in (
      row t x ∷ rest.0,
      rest.1 ∙ ap (λ l. l ++ rest.0) (adds.push t x) ∙ append_assoc (L t) (row t x ∷ []) rest.0,
      (
        adds.stays (f t x) (fold f (f t x) xs) (grown_fold f adds.grows (f t x) xs) (row t x) y (adds.holds t x y all.0),
        rest.2,
      ),
    )

-- ---- the parts of a feature

parts_are : (front : List PointRow) (parts : List ToldPart) (back : List PointRow)
    → AreRelated (λ row (p : ToldPart). line_of (front ++ (points_in parts ++ back)) row ≡ Some (line_told p))
    (part_rows (length front) parts) parts
parts_are front [] back = tt
parts_are front (p ∷ parts) back =
    let held = front ++ ((p.points ++ points_in parts) ++ back) in
    let split : held ≡ front ++ (p.points ++ (points_in parts ++ back)) =
    ap (λ l. front ++ l) (append_assoc p.points (points_in parts) back) in
    let first : line_of held (record { exterior = 0; points = record { start = length front; len = length p.points } })
    ≡ Some (line_told p) =
    ap (option_map (λ rows. map point_of rows))
    (part_is held front p.points (points_in parts ++ back) split (length front) (length p.points) refl refl) in
    let joined : (front ++ p.points) ++ (points_in parts ++ back) ≡ held =
    append_assoc front p.points (points_in parts ++ back) ∙ sym split in (
      first,
      subst (λ n. AreRelated (λ row (q : ToldPart). line_of held row ≡ Some (line_told q)) (part_rows n parts) parts)
          (length-append front p.points)
          (subst (λ l. AreRelated (λ row (q : ToldPart). line_of l row ≡ Some (line_told q))
          (part_rows (length (front ++ p.points)) parts) parts)
          joined (parts_are (front ++ p.points) parts back)),
    )

lines_are : (points : List PointRow) (rows : List PartRow) (parts : List ToldPart)
    → AreRelated (λ row (p : ToldPart). line_of points row ≡ Some (line_told p)) rows parts
    → AreRelated (λ row line. line_of points row ≡ Some line) rows (map line_told parts)
lines_are points [] [] h = tt
lines_are points [] (p ∷ parts) h = absurd h
lines_are points (row ∷ rows) [] h = absurd h
lines_are points (row ∷ rows) (p ∷ parts) h = (h.0, lines_are points rows parts h.1)

then_alike : {X Y : Type 0} (f g : X → Option Y) → ((x : X) → f x ≡ g x) → (o : Option X) → option_and_then f o ≡ option_and_then g o
then_alike f g alike None = refl
then_alike f g alike (Some x) = alike x

rings_are : (points : List PointRow) (start : ℕ) (polygons : List Polygon) (parts : List ToldPart)
    → AreRelated (λ row (p : ToldPart). line_of points row ≡ Some (line_told p)) (part_rows start parts) parts
    → steps (with_ring_row points) polygons (part_rows start parts) ≡ steps with_ring_told polygons parts
rings_are points start polygons [] h = refl
rings_are points start polygons (p ∷ parts) h =
    let row : PartRow = record { exterior = if p.exterior then 1 else 0; points = record { start = start; len = length p.points } } in
    let one : with_ring_row points polygons row ≡ with_ring_told polygons p =
    ap (option_and_then (λ ring. option_and_then (λ exterior. with_ring polygons exterior ring) (truth_of row.exterior))) h.0
    ∙ ap (option_and_then (λ exterior. with_ring polygons exterior (line_told p))) (truth_back p.exterior) in
    ap (option_and_then (λ next. steps (with_ring_row points) next (part_rows (start + length p.points) parts))) one
    ∙ then_alike (λ next. steps (with_ring_row points) next (part_rows (start + length p.points) parts))
    (λ next. steps with_ring_told next parts)
    (λ next. rings_are points (start + length p.points) next parts h.1) (with_ring_told polygons p)

points_are : (points : List PointRow) (start : ℕ) (parts : List ToldPart)
    → AreRelated (λ row (p : ToldPart). line_of points row ≡ Some (line_told p)) (part_rows start parts) parts
    → points_of points (part_rows start parts) ≡ points_told parts
points_are points start [] h = refl
points_are points start (p ∷ []) h = ap (option_map Points) h.0
points_are points start (p ∷ (q ∷ parts)) h = refl

geometry_is : (t : Table) (told : ToldFeature) → geometry_of (with_told_feature t told) (told_row t told) ≡ geometry_told told
geometry_is t told =
    let now = with_told_feature t told in
    let rows = part_rows (length t.points) told.parts in
    let at : part_of now.parts (behind t.parts (length told.parts)) ≡ Some rows =
    part_after t.parts rows (length told.parts) (sym (length-part_rows (length t.points) told.parts)) in
    let lines : AreRelated (λ row (p : ToldPart). line_of now.points row ≡ Some (line_told p)) rows told.parts =
    subst (λ l. AreRelated (λ row (p : ToldPart). line_of (t.points ++ l) row ≡ Some (line_told p)) rows told.parts)
    (append-nil (points_in told.parts)) (parts_are t.points told.parts []) in
    let drawn : option_and_then (drawn_of now.points told.kind) (part_of now.parts (behind t.parts (length told.parts)))
    ≡ drawn_told told.kind told.parts =
    ap (option_and_then (drawn_of now.points told.kind)) at
    ∙ (λ j. if told.kind == 1 then points_are now.points (length t.points) told.parts lines j
    else (if told.kind == 2
    then option_map Lines (each_related (line_of now.points) rows (map line_told told.parts) (lines_are now.points rows told.parts lines) j)
    else (if told.kind == 3 then option_map Polygons (rings_are now.points (length t.points) [] told.parts lines j) else None))) in
    λ j. if told.kind == 0
    then option_map Unknown (part_after t.integers told.integers (length told.integers) refl j)
    else drawn j

-- ---- features

feature_grows : (t : Table) (told : ToldFeature) → Grown t (with_told_feature t told)
feature_grows t told =
    record {
      features = pushed _ _;
      keys = same _;
      values = same _;
      tags = pushed _ told.tags;
      parts = pushed _ _;
      points = pushed _ _;
      integers = pushed _ told.integers;
      texts = same _;
    }

features_add : (keys : List (List ℕ)) (values : List Value)
    → Adds with_told_feature (λ (t : Table). t.features) told_row (IsToldFeature keys values) (λ t. IsFeature t keys values)
features_add keys values = record {
  grows = feature_grows;
  stays = λ t u grown row f is. feature_stays keys values t u grown row f is;
  push = λ t told. refl;
  holds = λ t told f is. record {
    id = id_is told.id ∙ ap Some is.id;
    tags = told.tags;
    tagged = part_after t.tags told.tags (length told.tags) refl;
    attributes = is.attributes;
    geometry = geometry_is t told ∙ is.geometry;
  };
}

-- ---- keys and values

text_is : (front told text : List ℕ) → IsText told text → text_of (front ++ told) (behind front (length told)) ≡ Some text
text_is front told text is = ap (option_and_then utf8_of) (part_after front told (length told) refl) ∙ is

keys_add : Adds with_key (λ (t : Table). t.keys) (λ t key. behind t.texts (length key)) IsText IsKey
keys_add = record {
  grows = key_grows;
  stays = λ t u grown span key is. text_stays t.texts u.texts grown.texts span key is;
  push = λ t key. refl;
  holds = λ t told key is. text_is t.texts told key is;
}

-- what holds of both tables that a test chooses from
by_test : (P : Table → Type 0) (c : Bool) (a b : Table) → P a → P b → P (if c then a else b)
by_test P true a b first second = first
by_test P false a b first second = second

abbrev with_text : Table → List ℕ → Table
with_text t text =
    record t { values = t.values ++ record { kind = 1; bits = 0; text = behind t.texts (length text) } ∷ []; texts = t.texts ++ text }

abbrev given_row : Table → Given → ValueRow
given_row t value =
    if value.kind == 1 then record { kind = 1; bits = 0; text = behind t.texts (length value.text) } else number_row value.kind value.bits

given_keeps : {B : Type 0} (L : Table → B) → ((t : Table) (values : List ValueRow) (texts : List ℕ)
    → L (record t { values = values; texts = texts }) ≡ L t) → (t : Table) (value : Given) → L (with_given t value) ≡ L t
given_keeps L keeps t value = by_test (λ u. L u ≡ L t) (value.kind == 1) _ _ (keeps t _ _) (keeps t _ t.texts)

given_grows : (t : Table) (value : Given) → Grown t (with_given t value)
given_grows t value =
    by_test (Grown t) (value.kind == 1) _ _
    (record {
      features = same _;
      keys = same _;
      values = pushed _ _;
      tags = same _;
      parts = same _;
      points = same _;
      integers = same _;
      texts = pushed _ value.text;
    })
    (record {
      features = same _;
      keys = same _;
      values = pushed _ _;
      tags = same _;
      parts = same _;
      points = same _;
      integers = same _;
      texts = same _;
    })

given_push : (t : Table) (value : Given) → (with_given t value).values ≡ t.values ++ given_row t value ∷ []
given_push t value = by (value.kind == 1)
  where
    by : (c : Bool)
        → (if c then with_text t value.text else with_number t value.kind value.bits).values
        ≡ t.values
        ++ (if c then record { kind = 1; bits = 0; text = behind t.texts (length value.text) } else number_row value.kind value.bits) ∷ []
    by true = refl
    by false = refl

given_is : (t : Table) (value : Given) → value_of (with_given t value).texts (given_row t value) ≡ given_value value
given_is t value = by (value.kind == 1) refl
  where
    by : (c : Bool) → (value.kind == 1) ≡ c
        → value_of (if c then with_text t value.text else with_number t value.kind value.bits).texts
        (if c then record { kind = 1; bits = 0; text = behind t.texts (length value.text) } else number_row value.kind value.bits)
        ≡ (if c then option_map Text (utf8_of value.text) else number_of value.kind value.bits)
    by true e = ap (option_map Text) (ap (option_and_then utf8_of) (part_after t.texts value.text (length value.text) refl))
    by false e = ap (λ b. if b then option_map Text (text_of t.texts nowhere) else number_of value.kind value.bits) e

values_add : Adds with_given (λ (t : Table). t.values) given_row IsGiven IsValue
values_add = record {
  grows = given_grows;
  stays = λ t u grown row value is. value_stays t.texts u.texts grown.texts row value is;
  push = given_push;
  holds = λ t told value is. given_is t told ∙ is;
}

-- ---- layers

pools_grow : (t : Table) (keys : List (List ℕ)) (values : List Given) → Grown t (with_pools t keys values)
pools_grow t keys values =
    grown_more t (fold with_given t values) (with_pools t keys values) (grown_fold with_given given_grows t values)
    (grown_fold with_key key_grows (fold with_given t values) keys)

abbrev filled : Table → ToldLayer → Table
filled t l = with_pools (with_told_features t l.features) l.keys l.values

filled_grows : (t : Table) (l : ToldLayer) → Grown t (filled t l)
filled_grows t l =
    grown_more t (with_told_features t l.features) (filled t l) (grown_fold with_told_feature feature_grows t l.features)
    (pools_grow (with_told_features t l.features) l.keys l.values)

abbrev told_layer_row : Table → ToldLayer → LayerRow
told_layer_row t l = open_row (filled t l) l.name l.extent (places_of t)

layer_is : (t : Table) (l : ToldLayer) (layer : ALayer) → IsToldLayer l layer → IsLayer (with_told_layer t l) (told_layer_row t l) layer
layer_is t l layer is =
    let featured = with_told_features t l.features in
    let valued = fold with_given featured l.values in
    let full = filled t l in
    let now = with_told_layer t l in
    let last = more_texts full now.layers l.name in
    let features = rows_added (features_add is.keys is.values) t l.features layer.features is.features in
    let values = rows_added values_add featured l.values is.values is.values_are in
    let keys = rows_added keys_add valued l.keys is.keys is.keys_are in
    let features_full : full.features ≡ t.features ++ features.0 =
    fold_keeps (λ (u : Table). u.features) with_key (λ u key. refl) valued l.keys
    ∙ fold_keeps (λ (u : Table). u.features) with_given (given_keeps (λ (u : Table). u.features) (λ u rows texts. refl)) featured
    l.values
    ∙ features.1 in
    let keys_full : full.keys ≡ t.keys ++ keys.0 =
    keys.1 ∙ ap (λ held. held ++ keys.0)
    (fold_keeps (λ (u : Table). u.keys) with_given (given_keeps (λ (u : Table). u.keys) (λ u rows texts. refl)) featured l.values
    ∙ fold_keeps (λ (u : Table). u.keys) with_told_feature (λ u told. refl) t l.features) in
    let values_full : full.values ≡ t.values ++ values.0 =
    fold_keeps (λ (u : Table). u.values) with_key (λ u key. refl) valued l.keys
    ∙ values.1
    ∙ ap (λ held. held ++ values.0) (fold_keeps (λ (u : Table). u.values) with_told_feature (λ u told. refl) t l.features) in
    let valued_to_now = grown_more valued full now (grown_fold with_key key_grows valued l.keys) last in
    let featured_to_now = grown_more featured full now (pools_grow featured l.keys l.values) last in
    record {
      name = text_is full.texts l.name layer.name is.name;
      extent = is.extent;
      keys = is.keys;
      has_keys = ap (option_and_then (each (text_of now.texts))) (part_added t.keys full.keys keys.0 keys_full)
          ∙ each_related (text_of now.texts) keys.0 is.keys
          (related_weaker (IsKey full) (IsKey now) (text_stays full.texts now.texts last.texts) keys.0 is.keys keys.2);
      values = is.values;
      has_values = ap (option_and_then (each (value_of now.texts))) (part_added t.values full.values values.0 values_full)
          ∙ each_related (value_of now.texts) values.0 is.values
          (related_weaker (IsValue valued) (IsValue now) (value_stays valued.texts now.texts valued_to_now.texts) values.0 is.values
          values.2);
      rows = features.0;
      has_rows = part_added t.features full.features features.0 features_full;
      features = related_weaker (IsFeature featured is.keys is.values) (IsFeature now is.keys is.values)
          (feature_stays is.keys is.values featured now featured_to_now) features.0 layer.features features.2;
    }

layers_kept : (t : Table) (l : ToldLayer) → (filled t l).layers ≡ t.layers
layers_kept t l =
    fold_keeps (λ (u : Table). u.layers) with_key (λ u key. refl) _ l.keys
    ∙ fold_keeps (λ (u : Table). u.layers) with_given (given_keeps (λ (u : Table). u.layers) (λ u rows texts. refl)) _ l.values
    ∙ fold_keeps (λ (u : Table). u.layers) with_told_feature (λ u told. refl) t l.features

-- ---- items

abbrev item_row : Table → ToldItem → LayerRow
item_row t (Layer l) = told_layer_row t l
item_row t (Foreign version content) = foreign_row t version (length content)

item_grows : (t : Table) (told : ToldItem) → Grown t (with_told_item t told)
item_grows t (Layer l) = grown_more t (filled t l) (with_told_layer t l) (filled_grows t l) (more_texts (filled t l) _ l.name)
item_grows t (Foreign version content) = more_texts t _ content

item_push : (t : Table) (told : ToldItem) → (with_told_item t told).layers ≡ t.layers ++ item_row t told ∷ []
item_push t (Layer l) = ap (λ layers. layers ++ told_layer_row t l ∷ []) (layers_kept t l)
item_push t (Foreign version content) = refl

item_is : (t : Table) (told : ToldItem) (item : Item) → IsToldItem told item → IsItem (with_told_item t told) (item_row t told) item
item_is t (Layer l) (items.Layer layer) is = (refl, layer_is t l layer is)
item_is t (Layer l) (items.Foreign number bytes) is = absurd is
item_is t (Foreign version content) (items.Layer layer) is = absurd is
item_is t (Foreign version content) (items.Foreign number bytes) is =
    (is.0, is.1, part_after t.texts content (length content) refl ∙ ap Some (sym is.2))

items_add : Adds with_told_item (λ (t : Table). t.layers) item_row IsToldItem IsItem
items_add = record { grows = item_grows; stays = item_stays; push = item_push; holds = item_is }

-- the rows of items are the tile that was told
pub told_rows_are_tile : (told : List ToldItem) (tile : Tile) → IsToldTile told tile → IsTileOf (rows_of told) tile
told_rows_are_tile told tile is =
    let added = rows_added items_add no_rows told tile.items is in
    subst (λ rows. AreRelated (IsItem (rows_of told)) rows tile.items) (sym added.1) added.2

pub told_tile_is_written : (told : List ToldItem) (tile : Tile) (made : List ℕ) → IsToldTile told tile → IsWritten (rows_of told) made
    → made ≡ canonical tile
told_tile_is_written told tile made is written =
    let one = tile_once (rows_of told) written.0 tile written.1 (told_rows_are_tile told tile is) in
    written.3 ∙ ap canonical one

pub told_tile_is_taken : (told : List ToldItem) (tile : Tile) → IsToldTile told tile → Valid tile → IsNoTile (rows_of told) → ⊥
told_tile_is_taken told tile is valid none = none tile (told_rows_are_tile told tile is) valid
