use Rattle.std.proofs.Common.{rules}
use Rattle.mvt_rings.specs.Signs.{is_positive}
use Rattle.mvt_rings.proofs.signs.is_positive.Goals as goal

pub returns : goal.returns
unfolding is_positive
returns c = search rules
