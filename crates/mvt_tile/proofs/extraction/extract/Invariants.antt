use Rattle.std.proofs.Common.{◌≡◌, map, take, filter, string_bytes}
use Rattle.std.specs.List.{list_any}
use Rattle.mvt_tile.specs.Extraction.{is_named}
use Rattle.mvt_tile.proofs.extraction.extract.Given as goal

abbrev pub invariant-loop-item : goal.invariant-loop-item
invariant-loop-item l =
    l.picked.items ≡ filter (λ item. list_any (λ name. is_named name item) (map string_bytes l.names)) (take l.item-index l.items)
