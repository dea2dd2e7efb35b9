-- The lists that C sees, as a table.
use Rattle.mvt_rows.specs.declared.rows.Rows.{Rows}
use Rattle.mvt_rows.specs.Tables.{Table}

-- the table whose lists are lent
abbrev pub table_of : Rows → Table
table_of rows = record {
  layers = rows.layers.now;
  features = rows.features.now;
  keys = rows.keys.now;
  values = rows.values.now;
  tags = rows.tags.now;
  parts = rows.parts.now;
  points = rows.points.now;
  integers = rows.integers.now;
  texts = rows.texts.now;
}
