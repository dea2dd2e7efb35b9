use Rattle.std.proofs.Common.{◌≡◌, ◌≤◌, length, reverse, take}
use Rattle.mvt_rings.specs.Repeats.{past}
use Rattle.mvt_rings.proofs.repeats.open_end.Given as goal

abbrev pub invariant-loop-first : goal.invariant-loop-first
invariant-loop-first l = record {
  few : length l.open ≤ length l.points;
  past : past l.first (reverse l.open) ≡ past l.first (reverse l.points);
  front : l.open ≡ take (length l.open) l.points;
}

abbrev pub decreases-loop-first : goal.decreases-loop-first
decreases-loop-first l = length l.open
