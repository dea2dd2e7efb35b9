use Rattle.std.proofs.Common.{◌≡◌, ◌+◌, ◌≤◌, length, drop}
use Rattle.std.specs.List.{filter}
use Rattle.mvt_rings.specs.Nesting.{edges_from}
use Rattle.mvt_rings.specs.Placing.{is_level_with}
use Rattle.mvt_rings.proofs.placing.band_len.Given as goal

abbrev pub invariant-loop-to : goal.invariant-loop-to
invariant-loop-to l = record {
  few : l.count ≤ l.to-index;
  same : l.count + length (filter (is_level_with l.bounds) (edges_from l.from (drop l.to-index l.ring)))
      ≡ length (filter (is_level_with l.bounds) (edges_from l.initial.from l.ring));
}
