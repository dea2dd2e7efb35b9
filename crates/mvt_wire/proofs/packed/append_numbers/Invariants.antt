use Rattle.std.proofs.Common.{◌≡◌, ℕ, ◌+◌, ◌≤◌, List, [], ◌++◌, length, None, vec_len, vec_capacity}
use Rattle.mvt_base.specs.Rules.{each, first}
use Rattle.mvt_wire.specs.Packed.{packed, small_rules}
use Rattle.mvt_wire.proofs.PackedLemmas.{all_ahead}
use Rattle.mvt_wire.proofs.packed.append_numbers.Given as goal

abbrev pub invariant-loop-rest : goal.invariant-loop-rest
invariant-loop-rest l = record {
  read : List ℕ;
  split : packed l.bytes ≡ all_ahead read (packed l.rest);
  clean : first (each small_rules [] read) ≡ None;
  items : l.out.items ≡ l.fn.out.items ++ read;
  room : vec_len l.out + length l.rest ≤ vec_capacity l.out;
}

abbrev pub decreases-loop-rest : goal.decreases-loop-rest
decreases-loop-rest l = length l.rest
