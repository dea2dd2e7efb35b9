use Rattle.std.proofs.Common.{◌≡◌, ◌-◌, ◌^◌, ◌<◌, ◌≤◌, ◌++◌, length, take}
use Rattle.mvt_wire.specs.Varint.{short_within}
use Rattle.mvt_wire.proofs.varint.short_bytes.Given as goal

abbrev pub invariant-loop-rest : goal.invariant-loop-rest
invariant-loop-rest l = record {
  size : length l.bytes ≡ 10;
  within : l.len ≤ 9;
  fits : l.rest < 128 ^ (10 - l.len);
  spelled : take l.len l.bytes ++ short_within (9 - l.len) l.rest ≡ short_within 9 l.fn.number;
}

abbrev pub decreases-loop-rest : goal.decreases-loop-rest
decreases-loop-rest l = l.rest
