use Rattle.std.proofs.lemmas.Result.{on_ok_weaker}
use Rattle.mvt_tile_value.proofs.layer_noting.LayerNotesGeometryVisitor.end_part.Goals as goal

pub returns : goal.returns
returns c = λ start parts part has ends.
    on_ok_weaker c.end_part.result
    (λ noted. (
      record {
        layer_is = has.0.layer_is;
        count_is = has.0.count_is;
        ids_are = has.0.ids_are;
        notes_are = has.0.notes_are;
      },
      noted,
    ))
    (c.end_part.ensures start.rings parts part has.1 ends)
