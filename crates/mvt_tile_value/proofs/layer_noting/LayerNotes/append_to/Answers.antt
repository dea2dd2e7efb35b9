use Rattle.std.proofs.Common.{◌∙◌}
use Rattle.mvt_tile_value.proofs.SurveyLemmas.{layer_noted}
use Rattle.mvt_tile_value.proofs.layer_noting.LayerNotes.append_to.Goals as goal

pub returns : goal.returns
returns c = λ features noted.
    layer_noted c.args.layer c.args.self.now.count features c.args.notes.now.items c.note_if.new.notes.items c.deref.result.now _
    noted.0.count_is c.in_ok-note_if.ensures (c.deref.ensures.value ∙ noted.0.notes_are) c.in_ok-extend_from_slice.ensures.items
