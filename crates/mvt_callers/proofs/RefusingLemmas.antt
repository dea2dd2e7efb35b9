-- A tile has no fault.
use Rattle.std.proofs.Common.{◌≡◌, ℕ, List, Option, Some, None, IfSome, sym}
use Rattle.mvt_base.specs.declared.TheConstants.{LIMIT}
use Rattle.mvt_tile_value.specs.declared.tile.Tile.{Tile}
use Rattle.mvt_tile_value.specs.Tiles.{IsTile}
use Rattle.mvt_tile.specs.TileRules.{fault_within}
use Rattle.mvt_tile.proofs.TileLaws.{tile_or_fault_clean}

pub no_fault : (left : Option (List ℕ)) (tile : Tile) → IfSome left (λ input. IsTile LIMIT input tile)
    → IfSome left (λ input. None ≡ fault_within LIMIT input)
no_fault None tile h = tt
no_fault (Some input) tile h = sym (tile_or_fault_clean input tile h)
