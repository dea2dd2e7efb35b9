use Rattle.std.proofs.Common.{arith}
use Rattle.std.proofs.lemmas.Int.{ints}
use Rattle.mvt_mend.proofs.drawing.difference.Goals as goal

pub returns : goal.returns
returns c = omega (arith, ints)
