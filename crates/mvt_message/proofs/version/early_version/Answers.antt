use Rattle.std.proofs.Common.{refl}
use Rattle.mvt_message.proofs.OrFaultLemmas.{item_of_other}
use Rattle.mvt_message.proofs.ReadLemmas.{other_item}
use Rattle.mvt_message.proofs.version.early_version.Goals as goal

pub returns-in-Ok-clause-ok : goal.returns-in-Ok-clause-ok
returns-in-Ok-clause-ok c =
    item_of_other c.args.payload.now c.args.payload_at c.args.tag_at c.in-Ok.version c.in-Ok.ensures.ok c.in-Ok.ensures.version
    c.if-version-ne-VERSION_2.true

pub returns-in-Ok-clause-foreign : goal.returns-in-Ok-clause-foreign
returns-in-Ok-clause-foreign c =
    other_item c.args.payload.now c.args.payload_at c.args.tag_at c.in-Ok.version c.args.payload.now c.in-Ok.ensures.ok
    c.in-Ok.ensures.version c.if-version-ne-VERSION_2.true refl
