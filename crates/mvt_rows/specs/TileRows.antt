-- The tile that rows are. A row names what belongs to it by where it stands, so all that it names has to be there; a text
-- has to be UTF-8, and a number in its range. What no row names isn't looked at.
use Rattle.std.specs.Prelude.{◌≡◌, ◌≢◌, ◌==◌, ℕ, ◌+◌, ◌^◌, nat_le, nat_lt, Bool, true, false, List, [], ◌∷◌, ◌++◌, length, map, Option, Some, None, option_map, option_and_then, if◌then◌else◌}
use Rattle.std.specs.Int.{w64, cast_signed}
use Rattle.std.specs.List.{slice_range}
use Rattle.std.specs.Str.{is_utf8}
use Rattle.mvt_base.specs.Related.{AreRelated}
use Rattle.mvt_attrs.specs.Values.{Value}
use Rattle.mvt_attrs.specs.declared.value.ValueOf.TheVariants.{Text, Float, Double, Int, Uint, Sint, Bool as Truth}
use Rattle.mvt_attrs.specs.Tags.{Resolved}
use Rattle.mvt_geometry.specs.declared.shape.Point.{Point}
use Rattle.mvt_geometry.specs.declared.shape.Polygon.{Polygon}
use Rattle.mvt_geometry.specs.declared.shape.Geometry.{Geometry}
use Rattle.mvt_geometry.specs.declared.shape.Geometry.TheVariants.{Unknown, Points, Lines, Polygons}
use Rattle.mvt_feature.specs.declared.feature.Feature.{Feature}
use Rattle.mvt_message.specs.declared.item.Item.{Item}
use Rattle.mvt_message.specs.declared.item.Item.TheVariants.{Layer, Foreign}
use Rattle.mvt_message.specs.declared.item.Layer.{Layer as ALayer}
use Rattle.mvt_tile_value.specs.declared.tile.Tile.{Tile}
use Rattle.mvt_rows.specs.declared.rows.Span.{Span}
use Rattle.mvt_rows.specs.declared.rows.LayerRow.{LayerRow}
use Rattle.mvt_rows.specs.declared.rows.FeatureRow.{FeatureRow}
use Rattle.mvt_rows.specs.declared.rows.ValueRow.{ValueRow}
use Rattle.mvt_rows.specs.declared.rows.PartRow.{PartRow}
use Rattle.mvt_rows.specs.declared.rows.PointRow.{PointRow}
use Rattle.mvt_rows.specs.Tables.{Table}

-- what a step makes of each, where it makes something of all
abbrev pub each : {X Y : Type 0} → (X → Option Y) → List X → Option (List Y)
each f [] = Some []
each f (x ∷ xs) = option_and_then (λ y. option_map (λ ys. y ∷ ys) (each f xs)) (f x)

-- the part of a list that a span names, where all of it is there
abbrev pub part_of : {X : Type 0} → List X → Span → Option (List X)
part_of held span =
    if nat_le (span.start + span.len) (length held) then Some (slice_range held span.start (span.start + span.len)) else None

-- a text
abbrev pub utf8_of : List ℕ → Option (List ℕ)
utf8_of bytes = if is_utf8 bytes then Some bytes else None

-- the text of a span, where it lies within the texts and is UTF-8
abbrev pub text_of : List ℕ → Span → Option (List ℕ)
text_of texts span = option_and_then utf8_of (part_of texts span)

-- 0 or 1
abbrev pub truth_of : ℕ → Option Bool
truth_of n = if n == 0 then Some false else (if n == 1 then Some true else None)

-- the bits of a float
abbrev pub float_of : ℕ → Option ℕ
float_of bits = if nat_lt bits (2 ^ 32) then Some bits else None

-- a value that is no text, by its kind; negative numbers are in two's complement
abbrev pub number_of : ℕ → ℕ → Option Value
number_of kind bits =
    if kind == 2 then option_map Float (float_of bits)
    else (if kind == 3 then Some (Double bits)
    else (if kind == 4 then Some (Int (cast_signed w64 bits))
    else (if kind == 5 then Some (Uint bits)
    else (if kind == 6 then Some (Sint (cast_signed w64 bits))
    else (if kind == 7 then option_map Truth (truth_of bits)
    else None)))))

-- the value of a row, where it is one
abbrev pub value_of : List ℕ → ValueRow → Option Value
value_of texts row = if row.kind == 1 then option_map Text (text_of texts row.text) else number_of row.kind row.bits

-- a line, a ring or the points of a feature
abbrev pub point_of : PointRow → Point
point_of row = record { x = row.x; y = row.y }

-- the points of a part, where its span lies within them
abbrev pub line_of : List PointRow → PartRow → Option (List Point)
line_of points row = option_map (λ rows. map point_of rows) (part_of points row.points)

-- an interior ring belongs to the last polygon
abbrev pub with_inner : List Polygon → List Point → Option (List Polygon)
with_inner [] ring = None
with_inner (p ∷ []) ring = Some (record p { rest = p.rest ++ ring ∷ [] } ∷ [])
with_inner (p ∷ (q ∷ polygons)) ring = option_map (λ more. p ∷ more) (with_inner (q ∷ polygons) ring)

-- an exterior ring begins a polygon
abbrev pub with_ring : List Polygon → Bool → List Point → Option (List Polygon)
with_ring polygons true ring = Some (polygons ++ record { outer = ring; rest = [] } ∷ [])
with_ring polygons false ring = with_inner polygons ring

-- one ring more: a polygon of its own, or a hole of the last
abbrev pub with_ring_row : List PointRow → List Polygon → PartRow → Option (List Polygon)
with_ring_row points polygons row =
    option_and_then (λ ring. option_and_then (λ exterior. with_ring polygons exterior ring) (truth_of row.exterior)) (line_of points row)

-- what steps make of a list one after the other, where each makes something
abbrev pub steps : {X Y : Type 0} → (Y → X → Option Y) → Y → List X → Option Y
steps f y [] = Some y
steps f y (x ∷ xs) = option_and_then (λ next. steps f next xs) (f y x)

-- all points of a feature are one part
abbrev pub points_of : List PointRow → List PartRow → Option Geometry
points_of points [] = None
points_of points (row ∷ []) = option_map Points (line_of points row)
points_of points (row ∷ (other ∷ rows)) = None

-- what is drawn, by its kind (4.3.4)
abbrev pub drawn_of : List PointRow → ℕ → List PartRow → Option Geometry
drawn_of points kind parts =
    if kind == 1 then points_of points parts
    else (if kind == 2 then option_map Lines (each (line_of points) parts)
    else (if kind == 3 then option_map Polygons (steps (with_ring_row points) [] parts)
    else None))

-- the geometry of a feature's row, where it is one
abbrev pub geometry_of : Table → FeatureRow → Option Geometry
geometry_of t row =
    if row.kind == 0 then option_map Unknown (part_of t.integers row.integers)
    else option_and_then (drawn_of t.points row.kind) (part_of t.parts row.parts)

-- the id of a feature's row; none where it has none
abbrev pub id_of : FeatureRow → Option (Option ℕ)
id_of row = option_map (λ has. if has then Some row.id else None) (truth_of row.has_id)

-- a feature of a layer with these keys and values
pub record IsFeature (t : Table) (keys : List (List ℕ)) (values : List Value) (row : FeatureRow) (f : Feature) : Type 0 where
  pub id : id_of row ≡ Some f.id
  pub tags : List ℕ
  pub tagged : part_of t.tags row.tags ≡ Some tags
  pub attributes : Resolved keys values tags f.attributes
  pub geometry : geometry_of t row ≡ Some f.geometry

-- the keys and the values of a layer
abbrev pub keys_of : Table → Span → Option (List (List ℕ))
keys_of t span = option_and_then (each (text_of t.texts)) (part_of t.keys span)

-- the values of a span, where all are some
abbrev pub values_of : Table → Span → Option (List Value)
values_of t span = option_and_then (each (value_of t.texts)) (part_of t.values span)

-- a row of a layer of version 2 that is this layer
pub record IsLayer (t : Table) (row : LayerRow) (layer : ALayer) : Type 0 where
  pub name : text_of t.texts row.name ≡ Some layer.name
  pub extent : layer.extent ≡ row.extent
  pub keys : List (List ℕ)
  pub has_keys : keys_of t row.keys ≡ Some keys
  pub values : List Value
  pub has_values : values_of t row.values ≡ Some values
  pub rows : List FeatureRow
  pub has_rows : part_of t.features row.features ≡ Some rows
  pub features : AreRelated (IsFeature t keys values) rows layer.features

-- a row of a layer that is this item
abbrev pub IsItem : Table → LayerRow → Item → Type 0
IsItem t row (Layer layer) = (row.version ≡ 2) × IsLayer t row layer
IsItem t row (Foreign version content) =
    (row.version ≢ 2) × (version ≡ row.version) × (part_of t.texts row.bytes ≡ Some content)

-- the rows are this tile
abbrev pub IsTileOf : Table → Tile → Type 0
IsTileOf t tile = AreRelated (IsItem t) t.layers tile.items
