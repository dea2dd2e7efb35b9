use Rattle.std.proofs.Common.{[], take}
use Rattle.mvt_message.specs.Rewriting.{HasWrittenUpTo}
use Rattle.mvt_message.proofs.item_writing.add_features.Given as goal

abbrev pub invariant-loop-feature : goal.invariant-loop-feature
invariant-loop-feature l = HasWrittenUpTo 67108864 [] [] l.writer (take l.feature-index l.features)
