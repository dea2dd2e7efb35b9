use Rattle.std.proofs.Common.{◌≡◌, ◌≤◌, drop}
use Rattle.mvt_rings.specs.Holding.{held_after}
use Rattle.mvt_rings.proofs.holding.hold.Given as goal

abbrev pub invariant-loop-outer : goal.invariant-loop-outer
invariant-loop-outer l = record {
  few : l.holder.count ≤ l.outer-index;
  same : held_after l.ring l.holder (drop l.outer-index l.rings) ≡ held_after l.ring l.initial.holder l.rings;
}
