use Rattle.mvt_view.proofs.JsonTexts.{polygon_text, joined_two}
use Rattle.mvt_view.proofs.parts.PolygonJsonPart.push.Goals as goal

pub returns : goal.returns
returns c =
    joined_two _ _ _ _ _ _ _ _ _ _ _ _
    c.in_ok-push_str.ensures.bytes c.in_ok-push.ensures c.in_ok-push_str-2.ensures.bytes c.in_ok-push-2.ensures
    c.in_ok-push_str-3.ensures.bytes
    (polygon_text c.args.self.now)
