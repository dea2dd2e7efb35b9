use Rattle.mvt_view.specs.JsonForms.{each, item_json}
use Rattle.mvt_view.proofs.JsonTexts.{named, layers_begins}
use Rattle.mvt_view.proofs.parts.TileJsonPart.push.Goals as goal

pub returns : goal.returns
returns c =
    named c.push_alone.result _ _ _ _ c.push_alone.ensures (layers_begins (each item_json c.args.self.now.items))
