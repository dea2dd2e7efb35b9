use Rattle.std.proofs.Common.{take}
use Rattle.mvt_attrs.specs.FirstUse.{AreDistinct}
use Rattle.mvt_attrs.specs.Inner.Choosing.{IsTwoChoices}
use Rattle.mvt_attrs.proofs.apart.index_many.Given as goal

abbrev pub invariant-loop-index : goal.invariant-loop-index
invariant-loop-index g l = record {
  apart : AreDistinct (take l.index l.entries);
  known : IsTwoChoices g.T.Ord.cmp g.T.Hash.hash_input l.two_choices (take l.index l.entries);
}
