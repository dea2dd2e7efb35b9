use Rattle.mvt_view.proofs.JsonTexts.{title_text, joined_two}
use Rattle.mvt_view.proofs.svg.push_titled.Goals as goal

pub returns : goal.returns
returns c =
    joined_two _ _ _ _ _ _ _ _ _ _ _ _
    c.in_ok-push_str.ensures.bytes c.in_ok-push.ensures c.in_ok-push_str-2.ensures.bytes c.in_ok-push-2.ensures
    c.in_ok-push_str-3.ensures.bytes
    (title_text c.args.feature.now)
