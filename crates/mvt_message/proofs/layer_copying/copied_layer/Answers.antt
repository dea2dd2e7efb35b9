use Rattle.std.proofs.Common.{[]}
use Rattle.std.proofs.lemmas.Result.{IfOk-weaker}
use Rattle.mvt_message.specs.Copying.{copied_core}
use Rattle.mvt_message.proofs.CopyingLemmas.{copied_is}
use Rattle.mvt_message.proofs.layer_copying.copied_layer.Goals as goal

pub returns : goal.returns
returns c =
    let frame = c.in_ok-frame.frame in
    IfOk-weaker c.layer_in.result _ _
    (λ layer (core, name, extent).
    rw name
    (rw extent
    (copied_is (λ _. Unit {0}) c.args.payload.now frame.name.now frame.extent frame.features_at frame.front.end_at (copied_core layer)
    c.requires c.in_ok-frame.ensures.around core)))
    (c.layer_in.ensures.layer [] tt)
