-- The texts of a tile.
use Rattle.std.specs.Prelude.{◌≡◌, ◌≢◌, ℕ, ◌≤◌, List, bytes_eq}
use Rattle.mvt_tile_value.specs.declared.tile.Tile.{Tile}
use Rattle.mvt_tile_value.specs.CanonicalTiles.{canonical}
use Rattle.mvt_view.specs.Reports.{report_lines}
use Rattle.mvt_c.specs.declared.fault.Fault.{Fault}
use Rattle.mvt_c.specs.declared.lent.Bytes.{Bytes}
use Rattle.mvt_c.specs.Calls.{IsTextOf, IsReported}

-- what is said of a tile that is made of the bytes
abbrev pub report_of : List ℕ → Tile → List ℕ
report_of input tile = report_lines tile (bytes_eq input (canonical tile))

-- what a call that makes a text answers, and what it writes: the text where it is made, and the fault of a tile that is refused
pub record IsShown (text_of : Tile → List ℕ) (input : List ℕ) (status : ℕ) (out new_out : Bytes) (fault new_fault : Fault) : Type 0 where
  pub done : status ≡ 0 → IsTextOf text_of input new_out.bytes.now
  pub refused : status ≡ 1 → IsReported input new_fault
  pub few : status ≤ 2
  pub out_kept : status ≢ 0 → new_out ≡ out
  pub fault_kept : status ≢ 1 → new_fault ≡ fault
