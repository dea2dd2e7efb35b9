-- What is written of rows.
use Rattle.std.specs.Prelude.{◌≡◌, ℕ, ◌<◌, List, length, Option, Some, None, Result, Ok, Err, ⊤}
use Rattle.mvt_base.specs.declared.TheConstants.{LIMIT}
use Rattle.mvt_attrs.specs.declared.resolving.TagError.{TagError}
use Rattle.mvt_attrs.specs.declared.resolving.TagError.TheVariants as tags
use Rattle.mvt_tile_value.specs.declared.tile.Tile.{Tile}
use Rattle.mvt_tile_value.specs.CanonicalTiles.{canonical}
use Rattle.mvt_tile_value.specs.ValidTiles.{Valid}
use Rattle.mvt_rows.specs.declared.rows_cause.RowsCause.{RowsCause}
use Rattle.mvt_rows.specs.declared.rows_error.RowPartError.{RowPartError}
use Rattle.mvt_rows.specs.declared.rows_error.RowPartError.TheVariants as part
use Rattle.mvt_rows.specs.declared.rows_error.RowError.{RowError}
use Rattle.mvt_rows.specs.declared.rows_error.RowError.TheVariants as row
use Rattle.mvt_rows.specs.declared.rows_error.RowsError.{RowsError}
use Rattle.mvt_rows.specs.declared.rows_error.RowsError.TheVariants.{Memory, TooLarge, NoTile}
use Rattle.mvt_rows.specs.RowsFaults.{IsFaultOf, of_tag_cause}
use Rattle.mvt_rows.specs.Tables.{Table}
use Rattle.mvt_rows.specs.TileRows.{IsTileOf}

-- tags that can't be resolved are wrong
abbrev pub of_tags : TagError → RowError
of_tags tags.Memory = row.Memory
of_tags (tags.Fault index cause) = row.Wrong None (of_tag_cause cause)

-- why nothing is made of a part: there is none, as the fact says, or want of memory
abbrev pub IfNoPart : Type 0 → RowPartError → Type 0
IfNoPart fact part.Memory = ⊤
IfNoPart fact part.NoPart = fact

-- what was made, or nothing where there is no such part
abbrev pub if_any : {X : Type 0} → Result X RowPartError → Result (Option X) RowError
if_any (Ok x) = Ok (Some x)
if_any (Err part.Memory) = Err row.Memory
if_any (Err part.NoPart) = Ok None

-- an error tells what is wrong, at a feature or at none; want of memory tells nothing
abbrev pub IfWrong : (Option ℕ → RowsCause → Type 0) → RowError → Type 0
IfWrong Is row.Memory = ⊤
IfWrong Is (row.Wrong feature cause) = Is feature cause

-- an error tells this cause, at no feature
abbrev pub IsWrongAs : Option RowsCause → RowError → Type 0
IsWrongAs found error = IfWrong (λ feature cause. (feature ≡ None) × (found ≡ Some cause)) error

abbrev pub at_feature : ℕ → RowError → RowError
at_feature index row.Memory = row.Memory
at_feature index (row.Wrong feature cause) = row.Wrong (Some index) cause

abbrev pub at_layer : ℕ → RowError → RowsError
at_layer layer row.Memory = Memory
at_layer layer (row.Wrong feature cause) = NoTile (record { layer = layer; feature = feature; cause = cause })

-- the rows are a valid tile, and these are its canonical bytes
abbrev pub IsWritten : Table → List ℕ → Type 0
IsWritten t made = (tile : Tile) × IsTileOf t tile × Valid tile × (made ≡ canonical tile)

-- the rows are no valid tile
abbrev pub IsNoTile : Table → Type 0
IsNoTile t = (tile : Tile) → IsTileOf t tile → Valid tile → ⊥

-- the rows are a valid tile whose canonical bytes are more than the limit
abbrev pub IsTooLargeOfRows : Table → Type 0
IsTooLargeOfRows t = (tile : Tile) × IsTileOf t tile × Valid tile × (LIMIT < length (canonical tile))

-- why no bytes are made of rows
abbrev pub NotWritten : Table → RowsError → Type 0
NotWritten t Memory = ⊤
NotWritten t TooLarge = IsTooLargeOfRows t
NotWritten t (NoTile fault) = IsNoTile t × IsFaultOf t fault
