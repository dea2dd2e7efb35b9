-- The rows of what a builder was told. Each list has the parts of its kind in the order in which they came; of a layer its
-- features, its values, its keys and its name, so that texts stand as in the rows that bytes are read as.
use Rattle.std.specs.Prelude.{ℕ, ◌+◌, ◌==◌, List, [], ◌∷◌, ◌++◌, length, unwrap_or, is_some, if◌then◌else◌}
use Rattle.std.specs.List.{fold, flat_map}
use Rattle.mvt_rows.specs.declared.rows.FeatureRow.{FeatureRow}
use Rattle.mvt_rows.specs.declared.rows.PartRow.{PartRow}
use Rattle.mvt_rows.specs.declared.rows.PointRow.{PointRow}
use Rattle.mvt_rows.specs.declared.words.Given.{Given}
use Rattle.mvt_rows.specs.ReadTables.{places_of}
use Rattle.mvt_rows.specs.Tables.{Table, no_rows, behind, truth_number, with_foreign, with_key, with_layer_row, with_number}
use Rattle.mvt_rows.specs.Told.{Told, ToldItem, ToldLayer, ToldFeature, ToldPart, Layer, Foreign, all_told}

-- parts whose points stand from a place on
abbrev pub part_rows : ℕ → List ToldPart → List PartRow
part_rows start [] = []
part_rows start (p ∷ parts) =
    record { exterior = truth_number p.exterior; points = record { start = start; len = length p.points } }
    ∷ part_rows (start + length p.points) parts

abbrev pub points_of : List ToldPart → List PointRow
points_of parts = flat_map (λ (p : ToldPart). p.points) parts

-- a table and what a feature has more
abbrev pub with_drawn : Table → ToldFeature → Table
with_drawn t f = record t {
  tags = t.tags ++ f.tags;
  parts = t.parts ++ part_rows (length t.points) f.parts;
  points = t.points ++ points_of f.parts;
  integers = t.integers ++ f.integers;
}

abbrev pub told_row : Table → ToldFeature → FeatureRow
told_row t f = record {
  id = unwrap_or f.id 0;
  has_id = truth_number (is_some f.id);
  kind = f.kind;
  tags = behind t.tags (length f.tags);
  parts = behind t.parts (length f.parts);
  integers = behind t.integers (length f.integers);
}

-- and its row
abbrev pub with_told_feature : Table → ToldFeature → Table
with_told_feature t f = record (with_drawn t f) { features = t.features ++ told_row t f ∷ [] }

-- a table and one value more, its text after the texts
abbrev pub with_given : Table → Given → Table
with_given t value =
    if value.kind == 1
    then record t {
      values = t.values ++ record { kind = 1; bits = 0; text = behind t.texts (length value.text) } ∷ [];
      texts = t.texts ++ value.text;
    }
    else with_number t value.kind value.bits

-- a table and the features of a layer more
abbrev pub with_told_features : Table → List ToldFeature → Table
with_told_features t features = fold with_told_feature t features

-- and its values and its keys
abbrev pub with_pools : Table → List (List ℕ) → List Given → Table
with_pools t keys values = fold with_key (fold with_given t values) keys

abbrev pub with_told_layer : Table → ToldLayer → Table
with_told_layer t l = with_layer_row (with_pools (with_told_features t l.features) l.keys l.values) l.name l.extent (places_of t)

abbrev pub with_told_item : Table → ToldItem → Table
with_told_item t (Layer l) = with_told_layer t l
with_told_item t (Foreign version content) = with_foreign t version content

-- the rows of items
abbrev pub rows_of : List ToldItem → Table
rows_of items = fold with_told_item no_rows items

-- the rows of all that was told
abbrev pub told_rows : Told → Table
told_rows told = rows_of (all_told told)
