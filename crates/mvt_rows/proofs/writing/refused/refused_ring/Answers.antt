use Rattle.std.proofs.Common.{Some, ap, map, sym, ◌∙◌}
use Rattle.mvt_rows.specs.TileRows.{point_of}
use Rattle.mvt_rows.specs.Undrawn.{of_part}
use Rattle.mvt_rows.proofs.UndrawnLemmas.{ring_by_area}
use Rattle.mvt_rows.proofs.writing.refused.refused_ring.Goals as goal

pub returns-in-None : goal.returns-in-None
returns-in-None c =
    ring_by_area c.args.part c.args.role c.args.from (map point_of c.args.ring.now) (sym c.stroke_fault.ensures ∙ c.in-None.is) c.requires
    ∙ sym (ap Some (c.of_part.ensures ∙ ap (of_part c.args.part) c.area_rule.ensures))
