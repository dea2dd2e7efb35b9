use Rattle.std.proofs.Common.{refl}
use Rattle.mvt_message.proofs.CopyingLemmas.{head_is}
use Rattle.mvt_message.proofs.canonical_layer.head_in_place.Goals as goal

pub returns-clause-fields : goal.returns-clause-fields
returns-clause-fields c =
    head_is c.args.payload.now c.in-Some.name.now c.in-Some.after (c.if-not-begins_with_version.ensures refl) c.in-Some.ensures.field
