use Rattle.std.proofs.Common.{◌≡◌, ◌+◌, ◌≤◌, take, drop}
use Rattle.mvt_wire.specs.Varint.{groups_from}
use Rattle.mvt_wire.specs.Fronts.{going_on}
use Rattle.mvt_wire.proofs.varint.long_varint_at.Given as goal

abbrev pub invariant-loop-i : goal.invariant-loop-i
invariant-loop-i l = record {
  within : l.i ≤ 9;
  goes_on : going_on l.bytes ≡ l.i + going_on (drop l.i l.bytes);
  sum : l.value ≡ groups_from 0 (take l.i l.bytes);
}
