use Rattle.std.proofs.Common.{◌≡◌, take}
use Rattle.mvt_attrs.specs.FirstUses.{lent}
use Rattle.mvt_attrs.proofs.texts.lend_texts.Given as goal

abbrev pub invariant-loop-text : goal.invariant-loop-text
invariant-loop-text l = lent l.lent.items ≡ take l.text-index l.texts
