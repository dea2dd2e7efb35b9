use Rattle.std.proofs.Common.{take}
use Rattle.mvt_attrs.specs.Inner.Choosing.{IsTwoChoices}
use Rattle.mvt_attrs.proofs.two_choices.two_choices_all.Given as goal

abbrev pub invariant-loop-index : goal.invariant-loop-index
invariant-loop-index g l = IsTwoChoices g.T.Ord.cmp g.T.Hash.hash_input l.two_choices (take l.index l.entries)
