use Rattle.std.proofs.Common.{take}
use Rattle.mvt_tile_value.specs.Findings.{AreNotedSoFar}
use Rattle.mvt_tile_value.proofs.layer_noting.noted_features.Given as goal

abbrev pub invariant-loop-feature : goal.invariant-loop-feature
invariant-loop-feature l = AreNotedSoFar l.layer l.noted (take l.feature-index l.features)
