use Rattle.mvt_view.proofs.JsonTexts.{list_text}
use Rattle.mvt_view.proofs.json_part.ItemsJsonPart.push.Goals as goal

pub returns-in_ok-push_str-in-len1-up-2 : goal.returns-in_ok-push_str-in-len1-up-2
returns-in_ok-push_str-in-len1-up-2 g c =
    list_text g.T.JsonPart.form c.args.self.now c.as_slice.result.now c.first-item.result _ _ _ _ _ c.as_slice.ensures
    c.in-len1-up.len_at_least c.first-item.is
    c.in_ok-push_str-in-len1-up.ensures.bytes c.in_ok-push-in-len1-up.ensures c.in_ok-push_more-in-len1-up.ensures
    c.in_ok-push_str-in-len1-up-2.ensures.bytes
