use Rattle.std.proofs.Common.{◌≡◌, ◌++◌, drop, subst}
use Rattle.mvt_wire.specs.Field.{varint}
use Rattle.mvt_wire.specs.Spelling.{short_field}
use Rattle.mvt_message.specs.declared.numbers.layer.TheConstants.{VERSION}
use Rattle.mvt_message.proofs.AroundLemmas.{version_is}
use Rattle.mvt_message.proofs.around.with_version.Goals as goal

pub returns-in-Some-clause-field : goal.returns-in-Some-clause-field
returns-in-Some-clause-field c =
    version_is c.args.body.now c.args.at c.in-Some.after c.args.before.now c.if-before.false
    (subst (λ n. drop c.args.at c.args.body.now ≡ short_field VERSION (varint n) ++ drop c.in-Some.after c.args.body.now)
    c.if-version-eq2.true c.in-Some.ensures.field)
