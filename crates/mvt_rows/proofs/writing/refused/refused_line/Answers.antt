use Rattle.std.proofs.Common.{map, sym, ◌∙◌}
use Rattle.mvt_rows.specs.TileRows.{point_of}
use Rattle.mvt_rows.proofs.UndrawnLemmas.{stroke_none}
use Rattle.mvt_rows.proofs.writing.refused.refused_line.Goals as goal

pub unreachable-requires : goal.unreachable-requires
unreachable-requires c =
    c.requires (stroke_none c.args.part 2 c.args.from (map point_of c.args.line.now) (sym c.stroke_fault.ensures ∙ c.in-None.is))
