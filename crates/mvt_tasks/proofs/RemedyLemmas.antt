-- What is told of a tile that can be mended.
use Rattle.std.proofs.Common.{◌≡◌, rules, List, [], ap, sym, refl, codes}
use Rattle.std.specs.Prelude.{ℕ, Option, Some, None, IsSome, Vec}
use Rattle.std.specs.Global.{Global}
use Rattle.mvt_base.specs.declared.TheConstants.{LIMIT}
use Rattle.mvt_mend.specs.Mendable.{IsMended}
use Rattle.mvt_mend.specs.Tiles.{mended}
use Rattle.mvt_tile.specs.declared.fault.Fault.{Fault}
use Rattle.mvt_tile.specs.TileRules.{fault_within}
use Rattle.mvt_tile.proofs.TileLaws.{tile_or_fault_clean}
use Rattle.mvt_tasks.specs.Output.{mend_line}

pub mended_told : (input : List ℕ) (made : Option (Vec ℕ Global)) → IsMended LIMIT (mended input) made
    → codes "mvt mend mends this.\n" ≡ mend_line (fault_within LIMIT (mended input))
mended_told input made (tile, is_tile, valid, encoded) = sym (ap mend_line (tile_or_fault_clean (mended input) tile is_tile))

no_line : (fault : Option Fault) → IsSome fault → [] ≡ mend_line fault
no_line (Some fault) some = refl
no_line None none = search rules

pub unmended_untold : (input : List ℕ) → IsSome (fault_within LIMIT (mended input))
    → [] ≡ mend_line (fault_within LIMIT (mended input))
unmended_untold input some = no_line (fault_within LIMIT (mended input)) some
