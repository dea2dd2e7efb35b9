use Rattle.mvt_view.proofs.JsonTexts.{foreign_text, joined_two}
use Rattle.mvt_view.proofs.parts.ForeignJsonPart.push.Goals as goal

pub returns : goal.returns
returns c =
    joined_two _ _ _ _ _ _ _ _ _ _ _ _
    c.in_ok-push_str.ensures.bytes c.in_ok-push.ensures c.in_ok-push_str-2.ensures.bytes c.in_ok-push-2.ensures
    c.in_ok-push_str-3.ensures.bytes
    (foreign_text c.args.self.now.version c.args.self.now.length)
