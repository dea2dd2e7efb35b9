-- Rows that were read are the tile that was read, and no other.
use Rattle.std.proofs.Common.{ℕ, ◌<◌, List, length, ap, ◌∙◌, subst}
use Rattle.mvt_base.specs.declared.TheConstants.{LIMIT}
use Rattle.mvt_tile_value.specs.CanonicalTiles.{canonical}
use Rattle.mvt_rows.specs.Reading.{IsRead, IsRewritten, IsTooLarge}
use Rattle.mvt_rows.specs.Tables.{Table}
use Rattle.mvt_rows.specs.Written.{IsNoTile, IsTooLargeOfRows, IsWritten}
use Rattle.mvt_rows.proofs.TileLemmas.{tile_once}

pub read_written : (input made : List ℕ) (table : Table) → IsRead input table → IsWritten table made → IsRewritten input made
read_written input made table read wrote =
    (read.0, read.1, wrote.3 ∙ ap canonical (tile_once table wrote.0 read.0 wrote.1 read.3))

pub read_too_large : (input : List ℕ) (table : Table) → IsRead input table → IsTooLargeOfRows table → IsTooLarge input
read_too_large input table read large = (
  read.0,
  read.1,
  subst (λ tile. LIMIT < length (canonical tile)) (tile_once table large.0 read.0 large.1 read.3) large.3,
)

pub read_taken : (input : List ℕ) (table : Table) → IsRead input table → IsNoTile table → ⊥
read_taken input table read none = none read.0 read.3 read.2
