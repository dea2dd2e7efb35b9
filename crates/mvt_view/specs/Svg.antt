-- A picture of a tile (Scalable Vector Graphics 1.1). Coordinates stand as they are: y grows downwards in both.
use Rattle.std.specs.Prelude.{ℕ, ◌+◌, ◌%◌, ◌==◌, List, [], ◌∷◌, ◌++◌, codes, if◌then◌else◌}
use Rattle.std.specs.Fmt.{decimal, signed_decimal}
use Rattle.std.specs.List.{flat_map}
use Rattle.serde_json.specs.Data.{Data, object, no_members, member}
use Rattle.serde_json.specs.Written.{compact_text}
use Rattle.mvt_geometry.specs.declared.shape.Point.{Point}
use Rattle.mvt_geometry.specs.declared.shape.Polygon.{Polygon}
use Rattle.mvt_geometry.specs.declared.shape.Geometry.{Geometry}
use Rattle.mvt_geometry.specs.declared.shape.Geometry.TheVariants.{Unknown, Points, Lines, Polygons}
use Rattle.mvt_feature.specs.declared.feature.Feature.{Feature}
use Rattle.mvt_message.specs.declared.item.Layer.{Layer as ALayer}
use Rattle.mvt_message.specs.declared.item.Item.{Item}
use Rattle.mvt_message.specs.declared.item.Item.TheVariants.{Layer, Foreign}
use Rattle.mvt_tile_value.specs.declared.tile.Tile.{Tile}
use Rattle.mvt_view.specs.JsonForms.{each, attribute_json, id_json}
use Rattle.mvt_view.specs.Xml.{escaped}

-- the commands of a path (8.3): go to a point, and draw a line to a point
unfoldable pub move_to : Point → List ℕ
move_to p = codes "M" ++ (signed_decimal p.x ++ (codes " " ++ signed_decimal p.y))

unfoldable pub line_to : Point → List ℕ
line_to p = codes "L" ++ (signed_decimal p.x ++ (codes " " ++ signed_decimal p.y))

-- a stroke of no length, which round ends make a dot
unfoldable pub dot_path : Point → List ℕ
dot_path p = move_to p ++ codes "h0"

-- a line: moved to its first point, drawn to the others
abbrev pub line_path : List Point → List ℕ
line_path [] = []
line_path (p ∷ ps) = move_to p ++ flat_map line_to ps

-- a line that goes back to its first point
unfoldable pub ring_path : List Point → List ℕ
ring_path ps = line_path ps ++ codes "z"

unfoldable pub polygon_path : Polygon → List ℕ
polygon_path p = ring_path p.outer ++ flat_map ring_path p.rest

-- what is drawn of a geometry; of one of unknown type nothing
abbrev pub geometry_path : Geometry → List ℕ
geometry_path (Unknown integers) = []
geometry_path (Points ps) = flat_map dot_path ps
geometry_path (Lines ls) = flat_map line_path ls
geometry_path (Polygons ps) = flat_map polygon_path ps

-- the class of a geometry in the picture's style
abbrev pub class_of : Geometry → List ℕ
class_of (Unknown integers) = codes "unknown"
class_of (Points ps) = codes "points"
class_of (Lines ls) = codes "lines"
class_of (Polygons ps) = codes "polygons"

-- what is told of a feature: its attributes and its id
abbrev pub title_json : Feature → Data
title_json f = object (member (codes "attributes") (each attribute_json f.attributes) (member (codes "id") (id_json f.id) no_members))

unfoldable pub title_svg : List ℕ → List ℕ
title_svg text = codes "<title>" ++ (escaped text ++ codes "</title>")

unfoldable pub feature_svg : Feature → List ℕ
feature_svg f =
    codes "<path class=\"" ++ (class_of f.geometry
    ++ (codes "\" d=\"" ++ (geometry_path f.geometry
    ++ (codes "\">" ++ (title_svg (compact_text (title_json f)) ++ codes "</path>\n")))))

-- the colours of Okabe and Ito, black and yellow last
unfoldable pub colour_of : ℕ → List ℕ
colour_of n =
    if n == 0 then codes "#0072b2"
    else (if n == 1 then codes "#d55e00"
    else (if n == 2 then codes "#009e73"
    else (if n == 3 then codes "#cc79a7"
    else (if n == 4 then codes "#e69f00"
    else (if n == 5 then codes "#56b4e9"
    else (if n == 6 then codes "#000000"
    else codes "#f0e442"))))))

-- a square of so many units, in the colour of an index
unfoldable pub square_svg : ℕ → ℕ → List ℕ
square_svg n extent =
    codes "<svg color=\"" ++ (colour_of (n % 8)
    ++ (codes "\" viewBox=\"0 0 " ++ (decimal extent ++ (codes " " ++ (decimal extent ++ codes "\">")))))

-- the layer that stands at an index of the tile: its square, its name and its features
unfoldable pub layer_svg : ℕ → ALayer → List ℕ
layer_svg n l =
    square_svg n l.extent
    ++ (title_svg l.name ++ (codes "\n" ++ (flat_map feature_svg l.features ++ codes "</svg>\n")))

-- of a layer of another version nothing is drawn
abbrev pub item_svg : ℕ → Item → List ℕ
item_svg n (Layer l) = layer_svg n l
item_svg n (Foreign version bytes) = []

-- the picture's square, and how shapes are drawn in it
unfoldable pub head_svg : List ℕ
head_svg = codes "<svg xmlns=\"http://www.w3.org/2000/svg\" viewBox=\"0 0 1 1\">\n<style>path{fill:none;stroke:currentColor;stroke-width:.2%;stroke-linecap:round;stroke-linejoin:round}.points{stroke-width:1%}.polygons{fill:currentColor;fill-opacity:.2;fill-rule:evenodd}</style>\n"

-- the items from an index on
abbrev pub items_svg : ℕ → List Item → List ℕ
items_svg n [] = []
items_svg n (item ∷ items) = item_svg n item ++ items_svg (n + 1) items

unfoldable pub svg : Tile → List ℕ
svg t = head_svg ++ (items_svg 0 t.items ++ codes "</svg>")
