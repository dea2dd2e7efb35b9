use Rattle.std.proofs.Common.{rules}
use Rattle.mvt_rings.specs.Signs.{is_negative}
use Rattle.mvt_rings.proofs.signs.is_negative.Goals as goal

pub returns : goal.returns
unfolding is_negative
returns c = search rules
