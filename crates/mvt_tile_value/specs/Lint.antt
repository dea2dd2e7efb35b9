-- What is found of a valid tile that viewers stumble over (Mapbox Vector Tile Specification 2.1).
use Rattle.std.specs.Prelude.{ℕ, ◌+◌, ◌-◌, ◌*◌, ◌/◌, ◌^◌, ◌==◌, ◌&&◌, ◌||◌, nat_lt, Bool, false, ℤ, unsigned_abs, List, [], ◌∷◌, ◌++◌, find, Option, Some, None, if◌then◌else◌}
use Rattle.std.specs.Int.{is_negative}
use Rattle.mvt_attrs.specs.declared.value.Attribute.{Attribute}
use Rattle.mvt_attrs.specs.Values.{Value}
use Rattle.mvt_attrs.specs.declared.value.ValueOf.TheVariants as values
use Rattle.mvt_feature.specs.declared.feature.Feature.{Feature}
use Rattle.mvt_geometry.specs.declared.shape.Point.{Point}
use Rattle.mvt_geometry.specs.declared.shape.Geometry.{Geometry}
use Rattle.mvt_geometry.specs.declared.shape.Geometry.TheVariants.{Unknown, Points, Lines, Polygons}
use Rattle.mvt_geometry.specs.Shape.{joined, rings_of}
use Rattle.mvt_message.specs.declared.item.Item.{Item}
use Rattle.mvt_message.specs.declared.item.Item.TheVariants as items
use Rattle.mvt_message.specs.declared.item.Layer.{Layer}
use Rattle.mvt_tile_value.specs.declared.finding.Finding.{Finding}
use Rattle.mvt_tile_value.specs.declared.finding.Finding.TheVariants.{ZeroExtent, NoGeometry, UnknownGeometry, FarPoint, LargeId, LargeNumber}
use Rattle.mvt_tile_value.specs.declared.tile.Tile.{Tile}
use Rattle.mvt_tile_value.specs.Notes.{numbered, note_if}

-- how far from 0 a coordinate lies in 8192ths of the extent, rounded to the nearest, halves away from 0
abbrev pub scaled : ℕ → ℤ → ℕ
scaled extent z = (unsigned_abs z * 16384 + extent) / (2 * extent)

-- 16 bits hold -32768 to 32767
abbrev pub widest : ℤ → ℕ
widest z = if is_negative z then 32768 else 32767

-- a coordinate that leaves 16 bits so scaled; none does where the extent is 0
abbrev pub is_far : ℕ → ℤ → Bool
is_far extent z = nat_lt 0 extent && nat_lt (widest z) (scaled extent z)

abbrev pub is_far_point : ℕ → Point → Bool
is_far_point extent p = is_far extent p.x || is_far extent p.y

abbrev pub far_finding : ℕ → ℕ → Option Point → List Finding
far_finding layer feature None = []
far_finding layer feature (Some p) = FarPoint layer feature p.x p.y ∷ []

-- 4.3.4.1: a feature of unknown type
abbrev pub unknown_finding : ℕ → ℕ → List ℕ → Finding
unknown_finding layer feature [] = NoGeometry layer feature
unknown_finding layer feature (integer ∷ integers) = UnknownGeometry layer feature

-- of an unknown type, or of the first position that leaves 16 bits
abbrev pub geometry_findings : ℕ → ℕ → ℕ → Geometry → List Finding
geometry_findings layer extent feature (Unknown integers) = unknown_finding layer feature integers ∷ []
geometry_findings layer extent feature (Points points) = far_finding layer feature (find (is_far_point extent) points)
geometry_findings layer extent feature (Lines lines) = far_finding layer feature (find (is_far_point extent) (joined lines))
geometry_findings layer extent feature (Polygons polygons) =
    far_finding layer feature (find (is_far_point extent) (joined (rings_of polygons)))

-- a number of JavaScript can't tell it from its neighbours
abbrev pub is_large : ℕ → Bool
is_large n = nat_lt (2 ^ 53 - 1) n

abbrev pub is_large_id : Option ℕ → Bool
is_large_id None = false
is_large_id (Some id) = is_large id

-- an int, a uint or a sint, to either side
abbrev pub is_large_value : Value → Bool
is_large_value (values.Text text) = false
is_large_value (values.Float bits) = false
is_large_value (values.Double bits) = false
is_large_value (values.Int z) = is_large (unsigned_abs z)
is_large_value (values.Uint n) = is_large n
is_large_value (values.Sint z) = is_large (unsigned_abs z)
is_large_value (values.Bool truth) = false

abbrev pub attribute_findings : ℕ → ℕ → ℕ → Attribute → List Finding
attribute_findings layer feature n a = note_if (is_large_value a.value) (LargeNumber layer feature n)

abbrev pub feature_findings : ℕ → ℕ → ℕ → Feature → List Finding
feature_findings layer extent n f =
    geometry_findings layer extent n f.geometry
    ++ (note_if (is_large_id f.id) (LargeId layer n) ++ numbered (attribute_findings layer n) 0 f.attributes)

abbrev pub layer_findings : ℕ → Layer → List Finding
layer_findings n layer = note_if (layer.extent == 0) (ZeroExtent n) ++ numbered (feature_findings n layer.extent) 0 layer.features

abbrev pub item_findings : ℕ → Item → List Finding
item_findings n (items.Layer layer) = layer_findings n layer
item_findings n (items.Foreign version bytes) = []

-- in the order of the layers, features and attributes
unfoldable pub findings_of : Tile → List Finding
findings_of tile = numbered item_findings 0 tile.items
