use Rattle.std.proofs.Common.{rules}
use Rattle.std.proofs.Math.Bool.{not-not}
use Rattle.mvt_rings.specs.Clear.{is_left_of}
use Rattle.mvt_rings.proofs.clear.is_left_of.Goals as goal

pub returns : goal.returns
unfolding is_left_of
returns c = search (rules, not-not)
