use Rattle.std.proofs.Common.{[], arith, refl}
use Rattle.mvt_layer_tests.proofs.layer.canonical.rewritten.Goals as goal

pub visit_version_2-requires : goal.visit_version_2-requires
visit_version_2-requires c κs = (
  (refl, tt),
  (
    omega (arith, c.if-payload-gt1000.false),
    (omega (arith, c.if-payload-gt1000.false), ([], c.in_ok-rewriter.ensures [] tt)),
  ),
)
