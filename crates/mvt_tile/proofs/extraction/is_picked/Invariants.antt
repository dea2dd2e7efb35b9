use Rattle.std.proofs.Common.{◌≡◌, map, take, false, string_bytes}
use Rattle.std.specs.List.{list_any}
use Rattle.mvt_tile.specs.Extraction.{is_named}
use Rattle.mvt_tile.proofs.extraction.is_picked.Given as goal

abbrev pub invariant-loop-name : goal.invariant-loop-name
invariant-loop-name l = list_any (λ name. is_named name l.item) (map string_bytes (take l.name-index l.names)) ≡ false
