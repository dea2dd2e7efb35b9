use Rattle.std.proofs.Common.{◌≡◌, ◌≤◌, length, take}
use Rattle.mvt_tile_value.proofs.WritingLemmas.{written}
use Rattle.mvt_tile_value.proofs.writing.items_len.Given as goal

abbrev pub invariant-loop-item : goal.invariant-loop-item
invariant-loop-item l = record {
  len : l.total ≡ length (written (take l.item-index l.items));
  small : l.total ≤ 67108864;
}
