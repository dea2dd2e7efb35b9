use Rattle.std.proofs.Common.{rules, ◌≡◌, true, ◌∙◌}
use Rattle.mvt_wire.specs.Split.{split}
use Rattle.mvt_message.specs.declared.numbers.layer.TheConstants.{FEATURES}
use Rattle.mvt_mend.specs.Features.{feature_cause}
use Rattle.mvt_mend.specs.Tiles.{is_layer, layer_cause}
use Rattle.mvt_mend.proofs.CauseLemmas.{causes_after}
use Rattle.mvt_mend.proofs.layers.mend_layer.Goals as goal

pub returns-clause-cause : goal.returns-clause-cause
unfolding layer_cause
returns-clause-cause c =
    let is : is_layer c.args.payload.now ≡ true = search rules in
    rw is
    (c.in_ok-mend_fields.ensures.cause
    ∙ causes_after (feature_cause c.args.index) FEATURES 0 c.args.told.now.cause (split c.args.payload.now).fields)
