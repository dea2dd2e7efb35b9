use Rattle.std.proofs.Common.{take}
use Rattle.std.specs.List.{AllByRecursion}
use Rattle.mvt_attrs.specs.Tags.{HasDistinctKeys}
use Rattle.mvt_feature.specs.Valid.{ValidAttribute}
use Rattle.mvt_feature.proofs.validity.have_distinct_keys.Given as goal

abbrev pub invariant-loop-i : goal.invariant-loop-i
invariant-loop-i l = HasDistinctKeys (take l.i l.attributes) × AllByRecursion ValidAttribute (take l.i l.attributes)
