use Rattle.std.proofs.Common.{drop}
use Rattle.mvt_geometry.specs.Valid.{AreInner}
use Rattle.mvt_geometry.proofs.validity.are_inner.Given as goal

abbrev pub invariant-loop-ring : goal.invariant-loop-ring
invariant-loop-ring l =
    (AreInner l.rings → AreInner (drop l.ring-index l.rings)) × (AreInner (drop l.ring-index l.rings) → AreInner l.rings)
