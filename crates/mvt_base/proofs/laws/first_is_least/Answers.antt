use Rattle.mvt_base.proofs.OrderLemmas.{first_is_least, least_is_first}
use Rattle.mvt_base.proofs.laws.first_is_least.Goals as goal

pub returns : goal.returns
returns g c = λ rules fault ordered. (first_is_least rules fault ordered, least_is_first rules fault ordered)
