use Rattle.std.proofs.Common.{sym, subst}
use Rattle.std.proofs.lemmas.Bool.{eqb-true}
use Rattle.mvt_wire.specs.Field.{fixed32}
use Rattle.mvt_feature.proofs.CopyingPartsLemmas.{SaysValue, says_float}
use Rattle.mvt_feature.proofs.canonical_feature.is_float.Goals as goal

pub returns : goal.returns
returns c = λ holds. subst (λ n. SaysValue n (fixed32 c.args.bits)) (sym (eqb-true c.args.number 2 holds))
    (says_float c.args.bits c.ranges.bits.fits)
