use Rattle.std.proofs.Common.{◌≡◌, true, drop}
use Rattle.std.specs.List.{list_all}
use Rattle.mvt_rings.specs.Nesting.{edges_from, lies_after}
use Rattle.mvt_rings.specs.Clear.{is_clear_of, is_in, spot_of}
use Rattle.mvt_rings.proofs.clear.side_of.Given as goal

abbrev pub invariant-loop-to : goal.invariant-loop-to
invariant-loop-to l = record {
  clear : list_all (is_clear_of l.bounds) (edges_from l.from (drop l.to-index l.ring))
      ≡ list_all (is_clear_of l.bounds) (edges_from l.initial.from l.ring);
  lies : is_in l.bounds l.point ≡ true
      → lies_after 2 (spot_of l.point) l.odd (edges_from l.from (drop l.to-index l.ring))
      ≡ lies_after 2 (spot_of l.point) l.initial.odd (edges_from l.initial.from l.ring);
}
