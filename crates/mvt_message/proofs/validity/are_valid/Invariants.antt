use Rattle.std.proofs.Common.{take}
use Rattle.std.specs.List.{AllByRecursion}
use Rattle.mvt_feature.specs.Valid.{ValidFeature}
use Rattle.mvt_message.proofs.validity.are_valid.Given as goal

abbrev pub invariant-loop-feature : goal.invariant-loop-feature
invariant-loop-feature l = AllByRecursion ValidFeature (take l.feature-index l.features)
