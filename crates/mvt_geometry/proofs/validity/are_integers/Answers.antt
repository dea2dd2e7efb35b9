use Rattle.std.proofs.Common.{arith, refl}
use Rattle.mvt_geometry.proofs.WholeLemmas.{all_small}
use Rattle.mvt_geometry.proofs.validity.are_integers.Goals as goal

pub returns : goal.returns
returns c = (λ t. all_small c.args.integers.now (λ i. let fits = c.type_inv.integers i in omega (arith, fits)), λ small. refl)
