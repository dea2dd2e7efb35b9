use Rattle.std.proofs.Common.{◌≡◌, ◌≤◌, ◌++◌, take, vec_capacity}
use Rattle.mvt_wire.specs.Spelling.{short_numbers}
use Rattle.mvt_wire.proofs.packed.put_packed_bytes.Given as goal

abbrev pub invariant-loop-number : goal.invariant-loop-number
invariant-loop-number l = record {
  items : l.out.items ≡ l.initial.out.items ++ short_numbers (take l.number-index l.numbers);
  capacity : vec_capacity l.initial.out ≤ vec_capacity l.out;
}
