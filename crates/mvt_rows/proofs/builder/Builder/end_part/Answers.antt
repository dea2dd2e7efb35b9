use Rattle.mvt_rows.proofs.BuildingLemmas.{part_over}
use Rattle.mvt_rows.proofs.builder.Builder.end_part.Goals as goal

pub returns-in_ok-add_part_row-clause-holds : goal.returns-in_ok-add_part_row-clause-holds
returns-in_ok-add_part_row-clause-holds c = λ t begun holds.
    part_over c.args.self.now c.add_part_row.new.self t begun c.in-Part.is c.in_ok-add_part_row.ensures holds
