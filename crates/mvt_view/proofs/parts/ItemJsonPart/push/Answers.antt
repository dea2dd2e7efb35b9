use Rattle.std.proofs.Common.{◌∙◌, ap, length, sym}
use Rattle.serde_json.specs.Written.{compact_text}
use Rattle.mvt_view.specs.JsonForms.{foreign_json, item_json}
use Rattle.mvt_message.specs.declared.item.Item.TheVariants.{Foreign}
use Rattle.mvt_view.proofs.JsonTexts.{named, foreign_begins}
use Rattle.mvt_view.proofs.parts.ItemJsonPart.push.Goals as goal

pub returns-in-Foreign : goal.returns-in-Foreign
returns-in-Foreign c =
    named c.push_alone.result _ _ _ _ c.push_alone.ensures
    (ap (λ v. compact_text (item_json v)) c.in-Foreign.is
    ∙ ap (λ n. compact_text (item_json (Foreign c.in-Foreign.version n))) (sym c.as_slice.ensures)
    ∙ foreign_begins (foreign_json c.in-Foreign.version (length c.as_slice.result.now)))
