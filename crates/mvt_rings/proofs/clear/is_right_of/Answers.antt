use Rattle.std.proofs.Common.{rules}
use Rattle.std.proofs.Math.Bool.{not-not}
use Rattle.mvt_rings.specs.Clear.{is_right_of}
use Rattle.mvt_rings.proofs.clear.is_right_of.Goals as goal

pub returns : goal.returns
unfolding is_right_of
returns c = search (rules, not-not)
