use Rattle.std.proofs.Common.{arith, sym}
use Rattle.mvt_geometry.specs.Shape.{origin}
use Rattle.mvt_rings.proofs.NestingLemmas.{last_at}
use Rattle.mvt_rings.proofs.nesting.last_of.Goals as goal

pub returns : goal.returns
returns c = sym (last_at origin _ c.args.ring.now _ (grind arith))
