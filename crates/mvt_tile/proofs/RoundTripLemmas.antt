-- Canonical bytes are read as the tile, and as no fault.
use Rattle.std.proofs.Common.{◌≡◌, ℕ, List, Option, Some, None, Result, Ok, Err, IfOk, IfErr, IfSome, subst}
use Rattle.std.specs.Prelude.{MatchResult}
use Rattle.mvt_base.specs.Reports.{Reports}
use Rattle.mvt_base.specs.declared.TheConstants.{LIMIT}
use Rattle.mvt_tile.specs.declared.fault.DecodeError.{DecodeError}
use Rattle.mvt_tile.specs.declared.fault.DecodeError.TheVariants.{Memory, Fault, Read}
use Rattle.mvt_tile_value.specs.declared.tile.Tile.{Tile}
use Rattle.mvt_tile.specs.Reading.{ReadsBack, fault_of}
use Rattle.mvt_tile.specs.TileRules.{fault_within}
use Rattle.mvt_tile_value.specs.Tiles.{IsTile}
use Rattle.mvt_tile.proofs.TileLemmas.{tile_clean, tile_once}

abbrev Reads : Result Tile DecodeError → Option (List ℕ) → Type 0
Reads r left = IfOk r (λ t. IfSome left (λ input. IsTile LIMIT input t))

abbrev ReportsOfLeft : Result Tile DecodeError → Option (List ℕ) → Type 0
ReportsOfLeft r left = IfErr r (λ e. IfSome left (λ input. Reports (fault_of e) (fault_within LIMIT input)))

pub reads_back : (bytes : List ℕ) (left : Option (List ℕ)) (tile : Tile) (r : Result Tile DecodeError)
    → IsTile LIMIT bytes tile → left ≡ Some bytes → Reads r left → ReportsOfLeft r left → ReadsBack r tile
reads_back bytes left tile (Ok t) is all read reported =
    tile_once LIMIT bytes t tile (subst (λ o. IfSome o (λ input. IsTile LIMIT input t)) all read) is
reads_back bytes left tile (Err Memory) is all read reported = tt
reads_back bytes left tile (Err (Fault f)) is all read reported =
    let some : fault_within LIMIT bytes ≡ Some f = subst (λ o. IfSome o (λ input. fault_within LIMIT input ≡ Some f)) all reported in
    let none = tile_clean LIMIT bytes tile is in
    cc
reads_back bytes left tile (Err (Read k)) is all read reported = tt

pub read_exactly : (left : Option (List ℕ)) (r : Result Tile DecodeError) → Reads r left → ReportsOfLeft r left
    → IfSome left (λ input. MatchResult r (IsTile LIMIT input) (λ e. Reports (fault_of e) (fault_within LIMIT input)))
read_exactly None r read reported = tt
read_exactly (Some input) (Ok t) read reported = read
read_exactly (Some input) (Err e) read reported = reported
