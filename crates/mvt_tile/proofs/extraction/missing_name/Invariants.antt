use Rattle.std.proofs.Common.{◌≡◌, map, take, not, None, string_bytes}
use Rattle.std.specs.List.{list_any, position_from}
use Rattle.mvt_tile.specs.Extraction.{is_named}
use Rattle.mvt_tile.proofs.extraction.missing_name.Given as goal

abbrev pub invariant-loop-index : goal.invariant-loop-index
invariant-loop-index l = position_from (λ name. not (list_any (is_named name) l.items)) 0 (map string_bytes (take l.index l.names)) ≡ None
