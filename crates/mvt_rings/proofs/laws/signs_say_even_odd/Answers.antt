use Rattle.mvt_rings.proofs.RingLaws.{signs_say_even_odd}
use Rattle.mvt_rings.proofs.laws.signs_say_even_odd.Goals as goal

pub returns : goal.returns
returns c = signs_say_even_odd
