-- A table that grows: what its rows are stays.
use Rattle.std.proofs.Common.{◌≡◌, ℕ, ◌==◌, List, [], ◌∷◌, ◌++◌, map, refl, sym, ap, ◌∙◌, append-nil, append_assoc}
use Rattle.std.specs.List.{fold}
use Rattle.mvt_attrs.specs.Values.{Value}
use Rattle.mvt_attrs.specs.declared.value.ValueOf.TheVariants.{Text}
use Rattle.mvt_geometry.specs.declared.shape.Polygon.{Polygon}
use Rattle.mvt_geometry.specs.declared.shape.Geometry.{Geometry}
use Rattle.mvt_geometry.specs.declared.shape.Geometry.TheVariants.{Unknown, Points, Lines, Polygons}
use Rattle.mvt_geometry.specs.Visiting.{Part, parts_of}
use Rattle.mvt_feature.specs.declared.feature.Feature.{Feature}
use Rattle.mvt_message.specs.declared.item.Item.{Item}
use Rattle.mvt_message.specs.declared.item.Item.TheVariants.{Layer, Foreign}
use Rattle.mvt_message.specs.declared.item.Layer.{Layer as ALayer}
use Rattle.mvt_rows.specs.declared.rows.Span.{Span}
use Rattle.mvt_rows.specs.declared.rows.FeatureRow.{FeatureRow}
use Rattle.mvt_rows.specs.declared.rows.LayerRow.{LayerRow}
use Rattle.mvt_rows.specs.declared.rows.PartRow.{PartRow}
use Rattle.mvt_rows.specs.declared.rows.PointRow.{PointRow}
use Rattle.mvt_rows.specs.declared.rows.ValueRow.{ValueRow}
use Rattle.mvt_rows.specs.Tables.{Table, with_key, with_value, with_part, with_geometry}
use Rattle.mvt_rows.specs.TileRows.{each, part_of, steps, text_of, value_of, utf8_of, line_of, point_of, with_ring_row, points_of, drawn_of, geometry_of, IsFeature, IsLayer, IsItem}
use Rattle.mvt_rows.proofs.RowLemmas.{Stays, stays_then, stays_map, stays_if, each_stays, steps_stay, related_weaker, part_stays}

-- a list, and perhaps more after it
pub record Longer (X : Type 0) (old new : List X) : Type 0 where
  pub more : List X
  pub is : new ≡ old ++ more

pub same : {X : Type 0} → (xs : List X) → Longer X xs xs
same xs = record { more = []; is = sym (append-nil xs) }

pub pushed : {X : Type 0} → (xs more : List X) → Longer X xs (xs ++ more)
pushed xs more = record { more = more; is = refl }

pub longer_still : {X : Type 0} → (a b c : List X) → Longer X a b → Longer X b c → Longer X a c
longer_still a b c h k = record { more = h.more ++ k.more; is = k.is ∙ ap (λ l. l ++ k.more) h.is ∙ append_assoc a h.more k.more }

-- each list but that of the layers, whose rows no row names
pub record Grown (old new : Table) : Type 0 where
  pub features : Longer FeatureRow old.features new.features
  pub keys : Longer Span old.keys new.keys
  pub values : Longer ValueRow old.values new.values
  pub tags : Longer ℕ old.tags new.tags
  pub parts : Longer PartRow old.parts new.parts
  pub points : Longer PointRow old.points new.points
  pub integers : Longer ℕ old.integers new.integers
  pub texts : Longer ℕ old.texts new.texts

pub grown_not : (t : Table) → Grown t t
grown_not t =
    record {
      features = same _;
      keys = same _;
      values = same _;
      tags = same _;
      parts = same _;
      points = same _;
      integers = same _;
      texts = same _;
    }

pub grown_more : (a b c : Table) → Grown a b → Grown b c → Grown a c
grown_more a b c h k = record {
  features = longer_still a.features b.features c.features h.features k.features;
  keys = longer_still a.keys b.keys c.keys h.keys k.keys;
  values = longer_still a.values b.values c.values h.values k.values;
  tags = longer_still a.tags b.tags c.tags h.tags k.tags;
  parts = longer_still a.parts b.parts c.parts h.parts k.parts;
  points = longer_still a.points b.points c.points h.points k.points;
  integers = longer_still a.integers b.integers c.integers h.integers k.integers;
  texts = longer_still a.texts b.texts c.texts h.texts k.texts;
}

pub grown_fold : {X : Type 0} → (f : Table → X → Table) → ((t : Table) (x : X) → Grown t (f t x)) → (t : Table) (xs : List X)
    → Grown t (fold f t xs)
grown_fold f grows t [] = grown_not t
grown_fold f grows t (x ∷ xs) = grown_more t (f t x) (fold f (f t x) xs) (grows t x) (grown_fold f grows (f t x) xs)

-- more rows of features and more tags, and another text after other rows of layers
pub more_features : (t : Table) (rows : List FeatureRow) (tags : List ℕ)
    → Grown t (record t { features = t.features ++ rows; tags = t.tags ++ tags })
more_features t rows tags =
    record {
      features = pushed _ rows;
      keys = same _;
      values = same _;
      tags = pushed _ tags;
      parts = same _;
      points = same _;
      integers = same _;
      texts = same _;
    }

pub more_texts : (t : Table) (layers : List LayerRow) (text : List ℕ) → Grown t (record t { layers = layers; texts = t.texts ++ text })
more_texts t layers text =
    record {
      features = same _;
      keys = same _;
      values = same _;
      tags = same _;
      parts = same _;
      points = same _;
      integers = same _;
      texts = pushed _ text;
    }

pub key_grows : (t : Table) (key : List ℕ) → Grown t (with_key t key)
key_grows t key =
    record {
      features = same _;
      keys = pushed _ _;
      values = same _;
      tags = same _;
      parts = same _;
      points = same _;
      integers = same _;
      texts = pushed _ key;
    }

pub value_grows : (t : Table) (v : Value) → Grown t (with_value t v)
value_grows t (Text text) =
    record {
      features = same _;
      keys = same _;
      values = pushed _ _;
      tags = same _;
      parts = same _;
      points = same _;
      integers = same _;
      texts = pushed _ text;
    }
value_grows t v =
    record {
      features = same _;
      keys = same _;
      values = pushed _ _;
      tags = same _;
      parts = same _;
      points = same _;
      integers = same _;
      texts = same _;
    }

pub part_grows : (t : Table) (part : Part) → Grown t (with_part t part)
part_grows t part =
    record {
      features = same _;
      keys = same _;
      values = same _;
      tags = same _;
      parts = pushed _ _;
      points = pushed _ _;
      integers = same _;
      texts = same _;
    }

pub geometry_grows : (t : Table) (g : Geometry) → Grown t (with_geometry t g)
geometry_grows t (Unknown integers) =
    record {
      features = same _;
      keys = same _;
      values = same _;
      tags = same _;
      parts = same _;
      points = same _;
      integers = pushed _ integers;
      texts = same _;
    }
geometry_grows t (Points points) = grown_fold with_part part_grows t (parts_of (Points points))
geometry_grows t (Lines lines) = grown_fold with_part part_grows t (parts_of (Lines lines))
geometry_grows t (Polygons polygons) = grown_fold with_part part_grows t (parts_of (Polygons polygons))

-- what is there stays as it is
pub text_stays : (old new : List ℕ) → Longer ℕ old new → (span : Span) → Stays (text_of old span) (text_of new span)
text_stays old new h span =
    stays_then (part_of old span) (part_of new span) utf8_of utf8_of (part_stays old new h.more span h.is) (λ bytes s k. k)

pub value_stays : (old new : List ℕ) → Longer ℕ old new → (row : ValueRow) → Stays (value_of old row) (value_of new row)
value_stays old new h row =
    stays_if (row.kind == 1) _ _ _ _ (stays_map (text_of old row.text) (text_of new row.text) Text (text_stays old new h row.text))
    (λ v k. k)

pub line_stays : (old new : List PointRow) → Longer PointRow old new → (row : PartRow) → Stays (line_of old row) (line_of new row)
line_stays old new h row =
    stays_map (part_of old row.points) (part_of new row.points) (λ rows. map point_of rows) (part_stays old new h.more row.points h.is)

ring_stays : (old new : List PointRow) → Longer PointRow old new → (ps : List Polygon) (row : PartRow)
    → Stays (with_ring_row old ps row) (with_ring_row new ps row)
ring_stays old new h ps row = stays_then (line_of old row) (line_of new row) _ _ (line_stays old new h row) (λ ring q k. k)

points_stay : (old new : List PointRow) → Longer PointRow old new → (rows : List PartRow) → Stays (points_of old rows) (points_of new rows)
points_stay old new h [] = λ g k. k
points_stay old new h (row ∷ []) = stays_map (line_of old row) (line_of new row) Points (line_stays old new h row)
points_stay old new h (row ∷ (other ∷ rows)) = λ g k. k

drawn_stays : (old new : List PointRow) → Longer PointRow old new → (kind : ℕ) (rows : List PartRow)
    → Stays (drawn_of old kind rows) (drawn_of new kind rows)
drawn_stays old new h kind rows =
    stays_if (kind == 1) _ _ _ _ (points_stay old new h rows)
    (stays_if (kind == 2) _ _ _ _ (stays_map (each (line_of old) rows) (each (line_of new) rows) Lines
    (each_stays (line_of old) (line_of new) (line_stays old new h) rows))
    (stays_if (kind == 3) _ _ _ _ (stays_map (steps (with_ring_row old) [] rows) (steps (with_ring_row new) [] rows) Polygons
    (steps_stay (with_ring_row old) (with_ring_row new) (ring_stays old new h) [] rows)) (λ g k. k)))

geometry_stays : (t u : Table) → Grown t u → (row : FeatureRow) → Stays (geometry_of t row) (geometry_of u row)
geometry_stays t u h row =
    stays_if (row.kind == 0) _ _ _ _
    (stays_map (part_of t.integers row.integers) (part_of u.integers row.integers) Unknown
    (part_stays t.integers u.integers h.integers.more row.integers h.integers.is))
    (stays_then (part_of t.parts row.parts) (part_of u.parts row.parts) (drawn_of t.points row.kind) (drawn_of u.points row.kind)
    (part_stays t.parts u.parts h.parts.more row.parts h.parts.is) (drawn_stays t.points u.points h.points row.kind))

pub feature_stays : (keys : List (List ℕ)) (values : List Value) (t u : Table) → Grown t u → (row : FeatureRow) (f : Feature)
    → IsFeature t keys values row f → IsFeature u keys values row f
feature_stays keys values t u h row f is = record {
  id = is.id;
  tags = is.tags;
  tagged = part_stays t.tags u.tags h.tags.more row.tags h.tags.is is.tags is.tagged;
  attributes = is.attributes;
  geometry = geometry_stays t u h row f.geometry is.geometry;
}

layer_stays : (t u : Table) → Grown t u → (row : LayerRow) (layer : ALayer) → IsLayer t row layer → IsLayer u row layer
layer_stays t u h row layer is = record {
  name = text_stays t.texts u.texts h.texts row.name layer.name is.name;
  extent = is.extent;
  keys = is.keys;
  has_keys = stays_then (part_of t.keys row.keys) (part_of u.keys row.keys) (each (text_of t.texts)) (each (text_of u.texts))
      (part_stays t.keys u.keys h.keys.more row.keys h.keys.is)
      (each_stays (text_of t.texts) (text_of u.texts) (text_stays t.texts u.texts h.texts)) is.keys is.has_keys;
  values = is.values;
  has_values = stays_then (part_of t.values row.values) (part_of u.values row.values) (each (value_of t.texts)) (each (value_of u.texts))
      (part_stays t.values u.values h.values.more row.values h.values.is)
      (each_stays (value_of t.texts) (value_of u.texts) (value_stays t.texts u.texts h.texts)) is.values is.has_values;
  rows = is.rows;
  has_rows = part_stays t.features u.features h.features.more row.features h.features.is is.rows is.has_rows;
  features = related_weaker (IsFeature t is.keys is.values) (IsFeature u is.keys is.values)
      (feature_stays is.keys is.values t u h) is.rows layer.features is.features;
}

pub item_stays : (t u : Table) → Grown t u → (row : LayerRow) (item : Item) → IsItem t row item → IsItem u row item
item_stays t u h row (Layer layer) is = (is.0, layer_stays t u h row layer is.1)
item_stays t u h row (Foreign version content) is = (is.0, is.1, part_stays t.texts u.texts h.texts.more row.bytes h.texts.is content is.2)
