use Rattle.std.proofs.Common.{◌-◌, length}
use Rattle.std.specs.Prelude.{IsUtf8}
use Rattle.std.specs.List.{AllByRecursion}
use Rattle.mvt_attrs.specs.FirstUses.{lent}
use Rattle.mvt_message.specs.declared.numbers.layer.TheConstants.{KEYS}
use Rattle.mvt_message.specs.Copying.{ArePayloadsFrom}
use Rattle.mvt_message.proofs.layer_frame.keys_from.Given as goal

abbrev pub invariant-loop-key : goal.invariant-loop-key
invariant-loop-key l = ArePayloadsFrom l.body l.start KEYS l.keys.items l.at × AllByRecursion IsUtf8 (lent l.keys.items)

abbrev pub decreases-loop-key : goal.decreases-loop-key
decreases-loop-key l = length l.body - l.at
