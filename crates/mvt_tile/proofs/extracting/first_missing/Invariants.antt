use Rattle.std.proofs.Common.{◌≡◌, map, take, not, None, bytes_eq, string_bytes}
use Rattle.std.specs.List.{list_any, position_from}
use Rattle.mvt_tile.proofs.extracting.first_missing.Given as goal

abbrev pub invariant-loop-index : goal.invariant-loop-index
invariant-loop-index l =
    position_from (λ name. not (list_any (bytes_eq name) l.there)) 0 (map string_bytes (take l.index l.names)) ≡ None
