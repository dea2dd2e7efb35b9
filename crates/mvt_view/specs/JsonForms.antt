-- The JSON of a tile and of its parts. The members of each object stand in byte order of their keys.
use Rattle.std.specs.Prelude.{ℕ, ◌==◌, ◌&&◌, Bool as Truth, not, nat_lt, List, length, map, Option, Some, None, codes}
use Rattle.serde_json.specs.Data.{Data, null, boolean, number, string, array, object, unsigned, no_items, item, no_members, member}
use Rattle.serde_json.specs.Find.{of_integer}
use Rattle.serde_json.specs.View.{items_of}
use Rattle.mvt_attrs.specs.Values.{Value}
use Rattle.mvt_attrs.specs.declared.value.ValueOf.TheVariants.{Text, Float, Double, Int, Uint, Sint, Bool}
use Rattle.mvt_attrs.specs.declared.value.Attribute.{Attribute}
use Rattle.mvt_geometry.specs.declared.shape.Point.{Point}
use Rattle.mvt_geometry.specs.declared.shape.Polygon.{Polygon}
use Rattle.mvt_geometry.specs.declared.shape.Geometry.{Geometry}
use Rattle.mvt_geometry.specs.declared.shape.Geometry.TheVariants.{Unknown, Points, Lines, Polygons}
use Rattle.mvt_feature.specs.declared.feature.Feature.{Feature}
use Rattle.mvt_message.specs.declared.item.Layer.{Layer as ALayer}
use Rattle.mvt_message.specs.declared.item.Item.{Item}
use Rattle.mvt_message.specs.declared.item.Item.TheVariants.{Layer, Foreign}
use Rattle.mvt_tile_value.specs.declared.tile.Tile.{Tile}

-- an object of one member
abbrev pub alone : List ℕ → Data → Data
alone key d = object (member key d no_members)

-- an array of two
abbrev pub pair : Data → Data → Data
pair a b = array (item a (item b no_items))

-- the array of what each entry is
abbrev pub each : {A : Type 0} → (A → Data) → List A → Data
each f xs = array (items_of (map f xs))

abbrev pub number_json : ℕ → Data
number_json n = number (unsigned n)

-- an absent id is null
abbrev pub id_json : Option ℕ → Data
id_json None = null
id_json (Some n) = number_json n

-- a value under the name of its kind; a float or a double is its bit pattern (Mapbox Vector Tile Specification 2.1, 4.4)
abbrev pub value_json : Value → Data
value_json (Text s) = alone (codes "string") (string s)
value_json (Float bits) = alone (codes "float_bits") (number_json bits)
value_json (Double bits) = alone (codes "double_bits") (number_json bits)
value_json (Int z) = alone (codes "int") (number (of_integer z))
value_json (Uint n) = alone (codes "uint") (number_json n)
value_json (Sint z) = alone (codes "sint") (number (of_integer z))
value_json (Bool b) = alone (codes "bool") (boolean b)

-- the key and the value
abbrev pub attribute_json : Attribute → Data
attribute_json a = pair (string a.key) (value_json a.value)

abbrev pub point_json : Point → Data
point_json p = pair (number (of_integer p.x)) (number (of_integer p.y))

abbrev pub line_json : List Point → Data
line_json ps = each point_json ps

abbrev pub polygon_json : Polygon → Data
polygon_json p = object (member (codes "outer") (line_json p.outer) (member (codes "rest") (each line_json p.rest) no_members))

-- a geometry under the name of its type (4.3.4); one of unknown type is its integers
abbrev pub geometry_json : Geometry → Data
geometry_json (Unknown integers) = alone (codes "unknown") (each number_json integers)
geometry_json (Points ps) = alone (codes "points") (line_json ps)
geometry_json (Lines ls) = alone (codes "lines") (each line_json ls)
geometry_json (Polygons ps) = alone (codes "polygons") (each polygon_json ps)

abbrev pub feature_json : Feature → Data
feature_json f = object (member (codes "attributes") (each attribute_json f.attributes)
    (member (codes "geometry") (geometry_json f.geometry) (member (codes "id") (id_json f.id) no_members)))

abbrev pub layer_json : ALayer → Data
layer_json l = object (member (codes "extent") (number_json l.extent)
    (member (codes "features") (each feature_json l.features) (member (codes "name") (string l.name) no_members)))

-- a layer of another version: how many bytes its payload has, and the version
abbrev pub foreign_json : ℕ → ℕ → Data
foreign_json version size = object (member (codes "length") (number_json size) (member (codes "version") (number_json version) no_members))

abbrev pub item_json : Item → Data
item_json (Layer l) = layer_json l
item_json (Foreign version bytes) = alone (codes "foreign") (foreign_json version (length bytes))

abbrev pub json : Tile → Data
json t = alone (codes "layers") (each item_json t.items)

-- a byte that stands in a string of JSON as it is: not below 32, no quotation mark, no backslash
abbrev pub is_clean : ℕ → Truth
is_clean b = nat_lt 31 b && (not (b == 34) && not (b == 92))
