use Rattle.std.proofs.Common.{subst}
use Rattle.mvt_rows.specs.Building.{Holds}
use Rattle.mvt_rows.specs.Told.{part_ended}
use Rattle.mvt_rows.proofs.BuildingLemmas.{feature_over, ended_twice}
use Rattle.mvt_rows.proofs.builder.Builder.end_feature.Goals as goal

pub returns-in_ok-add_open_feature-clause-holds : goal.returns-in_ok-add_open_feature-clause-holds
returns-in_ok-add_open_feature-clause-holds c = λ t begun holds.
    subst (Holds _ t) (ended_twice begun)
    (feature_over c.end_part.new.self c.add_open_feature.new.self t (part_ended begun) c.in-Feature.is
    c.in_ok-add_open_feature.ensures (c.in_ok-end_part.ensures.holds t begun holds))
