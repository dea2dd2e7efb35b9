use Rattle.std.proofs.Common.{◌≡◌, ◌≤◌, ◌+◌, ◌*◌, length, take}
use Rattle.mvt_wire.specs.Spelling.{short_numbers}
use Rattle.mvt_wire.proofs.packed.packed_len.Given as goal

abbrev pub invariant-loop-number : goal.invariant-loop-number
invariant-loop-number l = record {
  sum : l.len + l.number-index ≡ length l.numbers + length (short_numbers (take l.number-index l.numbers));
  fits : l.len ≤ length l.numbers + 4 * l.number-index;
}
