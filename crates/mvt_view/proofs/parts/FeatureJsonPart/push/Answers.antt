use Rattle.mvt_view.proofs.JsonTexts.{feature_text, joined_three}
use Rattle.mvt_view.proofs.parts.FeatureJsonPart.push.Goals as goal

pub returns : goal.returns
returns c =
    joined_three _ _ _ _ _ _ _ _ _ _ _ _ _ _ _ _
    c.in_ok-push_str.ensures.bytes c.in_ok-push.ensures c.in_ok-push_str-2.ensures.bytes c.in_ok-push-2.ensures
    c.in_ok-push_str-3.ensures.bytes c.in_ok-push-3.ensures c.in_ok-push_str-4.ensures.bytes
    (feature_text c.args.self.now)
