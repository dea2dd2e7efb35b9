-- A tile as flat rows. Each row names the parts that belong to it by where they stand in the list of their kind; parts are
-- appended in the order of the tile.
use Rattle.std.specs.Prelude.{ℕ, ◌+◌, ◌*◌, ◌-◌, Bool, List, [], ◌∷◌, ◌++◌, length, map, take, unwrap_or, is_some, if◌then◌else◌}
use Rattle.std.specs.Int.{w64, cast_unsigned}
use Rattle.std.specs.List.{fold}
use Rattle.mvt_attrs.specs.Values.{Value}
use Rattle.mvt_attrs.specs.declared.value.ValueOf.TheVariants.{Text, Float, Double, Int, Uint, Sint, Bool as Truth}
use Rattle.mvt_geometry.specs.declared.shape.Point.{Point}
use Rattle.mvt_geometry.specs.declared.shape.Geometry.{Geometry}
use Rattle.mvt_geometry.specs.declared.shape.Geometry.TheVariants.{Unknown, Points, Lines, Polygons}
use Rattle.mvt_geometry.specs.Visiting.{Part, parts_of}
use Rattle.mvt_feature.specs.declared.feature_fields.FeatureFields.{FeatureFields}
use Rattle.mvt_feature.specs.Canonical.{type_number}
use Rattle.mvt_rows.specs.declared.places.Places.{Places}
use Rattle.mvt_rows.specs.declared.rows.Span.{Span}
use Rattle.mvt_rows.specs.declared.rows.LayerRow.{LayerRow}
use Rattle.mvt_rows.specs.declared.rows.FeatureRow.{FeatureRow}
use Rattle.mvt_rows.specs.declared.rows.ValueRow.{ValueRow}
use Rattle.mvt_rows.specs.declared.rows.PartRow.{PartRow}
use Rattle.mvt_rows.specs.declared.rows.PointRow.{PointRow}

-- the lists of a tile's rows
pub record Table : Type 0 where
  pub layers : List LayerRow
  pub features : List FeatureRow
  pub keys : List Span
  pub values : List ValueRow
  pub tags : List ℕ
  pub parts : List PartRow
  pub points : List PointRow
  pub integers : List ℕ
  pub texts : List ℕ

-- a table without rows
abbrev pub no_rows : Table
no_rows = record { layers = []; features = []; keys = []; values = []; tags = []; parts = []; points = []; integers = []; texts = [] }

-- how many bytes the lists have
abbrev pub table_size : Table → ℕ
table_size t =
    88 * length t.layers + (64 * length t.features + (16 * length t.keys + (32 * length t.values + (4 * length t.tags
    + (24 * length t.parts + (8 * length t.points + (4 * length t.integers + length t.texts)))))))

-- where so many entries stand after a list
abbrev pub behind : {A : Type 0} → List A → ℕ → Span
behind held count = record { start = length held; len = count }

-- an empty span
abbrev pub nowhere : Span
nowhere = record { start = 0; len = 0 }

-- a key, and a value with its kind's number
abbrev pub with_key : Table → List ℕ → Table
with_key t key = record t { keys = t.keys ++ behind t.texts (length key) ∷ []; texts = t.texts ++ key }

-- the row of a value that is a number
abbrev pub number_row : ℕ → ℕ → ValueRow
number_row kind bits = record { kind = kind; bits = bits; text = nowhere }

-- a table and one number more
abbrev pub with_number : Table → ℕ → ℕ → Table
with_number t kind bits = record t { values = t.values ++ number_row kind bits ∷ [] }

-- a table and one value more, its text after the texts
abbrev pub with_value : Table → Value → Table
with_value t (Text text) = record t
    { values = t.values ++ record { kind = 1; bits = 0; text = behind t.texts (length text) } ∷ []; texts = t.texts ++ text }
with_value t (Float bits) = with_number t 2 bits
with_value t (Double bits) = with_number t 3 bits
with_value t (Int z) = with_number t 4 (cast_unsigned w64 z)
with_value t (Uint n) = with_number t 5 n
with_value t (Sint z) = with_number t 6 (cast_unsigned w64 z)
with_value t (Truth b) = with_number t 7 (if b then 1 else 0)

-- a line, a ring or the points of a feature
abbrev pub point_row : Point → PointRow
point_row p = record { x = p.x; y = p.y }

-- 1 where it is true
abbrev pub truth_number : Bool → ℕ
truth_number b = if b then 1 else 0

-- a table and one part more, with its points
abbrev pub with_part : Table → Part → Table
with_part t part = record t {
  parts = t.parts ++ record { exterior = truth_number part.exterior; points = behind t.points (length part.points) } ∷ [];
  points = t.points ++ map point_row part.points;
}

-- a table and these parts more, and points of one that isn't ended
abbrev pub with_parts : Table → List Part → List Point → Table
with_parts t parts begun = record (fold with_part t parts) { points = (fold with_part t parts).points ++ map point_row begun }

-- a table and the integers of a geometry of unknown type
abbrev pub with_integers : Table → List ℕ → Table
with_integers t integers = record t { integers = t.integers ++ integers }

abbrev pub with_geometry : Table → Geometry → Table
with_geometry t (Unknown integers) = with_integers t integers
with_geometry t (Points points) = fold with_part t (parts_of (Points points))
with_geometry t (Lines lines) = fold with_part t (parts_of (Lines lines))
with_geometry t (Polygons polygons) = fold with_part t (parts_of (Polygons polygons))

-- the row of a feature with these tags, whose parts and integers stand after these places
abbrev pub feature_row : List ℕ → Table → FeatureFields → Places → FeatureRow
feature_row tags t known open_at = record {
  id = unwrap_or known.id 0;
  has_id = truth_number (is_some known.id);
  kind = type_number known.kind;
  tags = behind t.tags (length tags);
  parts = record { start = open_at.parts; len = length t.parts - open_at.parts };
  integers = record { start = open_at.integers; len = length t.integers - open_at.integers };
}

abbrev pub with_feature_row : List ℕ → Table → FeatureFields → Places → Table
with_feature_row tags t known open_at =
    record t { features = t.features ++ feature_row tags t known open_at ∷ []; tags = t.tags ++ tags }

-- the row of a layer whose features, keys and values stand after these places
abbrev pub open_row : Table → List ℕ → ℕ → Places → LayerRow
open_row t name extent open_at = record {
  version = 2;
  extent = extent;
  name = behind t.texts (length name);
  features = record { start = open_at.features; len = length t.features - open_at.features };
  keys = record { start = open_at.keys; len = length t.keys - open_at.keys };
  values = record { start = open_at.values; len = length t.values - open_at.values };
  bytes = nowhere;
}

abbrev pub with_layer_row : Table → List ℕ → ℕ → Places → Table
with_layer_row t name extent open_at =
    record t { layers = t.layers ++ open_row t name extent open_at ∷ []; texts = t.texts ++ name }

-- the row of a layer of another version, with so many bytes
abbrev pub foreign_row : Table → ℕ → ℕ → LayerRow
foreign_row t version count = record {
  version = version;
  extent = 0;
  name = nowhere;
  features = nowhere;
  keys = nowhere;
  values = nowhere;
  bytes = behind t.texts count;
}

abbrev pub with_foreign : Table → ℕ → List ℕ → Table
with_foreign t version content =
    record t { layers = t.layers ++ foreign_row t version (length content) ∷ []; texts = t.texts ++ content }

-- a table without what stands behind these places of values and texts
abbrev pub without_values : Table → Places → Table
without_values t open_at = record t { values = take open_at.values t.values; texts = take open_at.texts t.texts }
