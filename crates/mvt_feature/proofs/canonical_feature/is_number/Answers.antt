use Rattle.std.proofs.Common.{sym, subst}
use Rattle.std.proofs.lemmas.Bool.{ltb-true}
use Rattle.mvt_wire.specs.Field.{varint}
use Rattle.mvt_feature.proofs.CopyingPartsLemmas.{SaysValue, says_int, says_uint, says_sint, says_bool}
use Rattle.mvt_feature.proofs.canonical_feature.is_number.Goals as goal

pub returns-in-4 : goal.returns-in-4
returns-in-4 c = λ _. subst (λ n. SaysValue n (varint c.args.content)) (sym c.in-4.is) (says_int c.args.content c.ranges.content.fits)

pub returns-in-5 : goal.returns-in-5
returns-in-5 c = λ _. subst (λ n. SaysValue n (varint c.args.content)) (sym c.in-5.is) (says_uint c.args.content c.ranges.content.fits)

pub returns-in-6 : goal.returns-in-6
returns-in-6 c = λ _. subst (λ n. SaysValue n (varint c.args.content)) (sym c.in-6.is) (says_sint c.args.content c.ranges.content.fits)

pub returns-in-7 : goal.returns-in-7
returns-in-7 c = λ small.
    subst (λ n. SaysValue n (varint c.args.content)) (sym c.in-7.is) (says_bool c.args.content (ltb-true c.args.content 2 small))
