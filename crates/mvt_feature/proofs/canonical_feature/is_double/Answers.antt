use Rattle.std.proofs.Common.{sym, subst}
use Rattle.std.proofs.lemmas.Bool.{eqb-true}
use Rattle.mvt_wire.specs.Field.{fixed64}
use Rattle.mvt_feature.proofs.CopyingPartsLemmas.{SaysValue, says_double}
use Rattle.mvt_feature.proofs.canonical_feature.is_double.Goals as goal

pub returns : goal.returns
returns c = λ holds. subst (λ n. SaysValue n (fixed64 c.args.bits)) (sym (eqb-true c.args.number 3 holds))
    (says_double c.args.bits c.ranges.bits.fits)
