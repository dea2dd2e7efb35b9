use Rattle.std.proofs.Common.{◌≡◌, take}
use Rattle.mvt_attrs.specs.FirstUses.{lent}
use Rattle.mvt_attrs.proofs.text_ref.refs_of.Given as goal

abbrev pub invariant-loop-text : goal.invariant-loop-text
invariant-loop-text l = l.texts.items ≡ lent (take l.text-index l.strs)
