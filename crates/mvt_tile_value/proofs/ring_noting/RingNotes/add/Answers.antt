use Rattle.std.proofs.Common.{◌+◌, ◌≡◌, ◌++◌, rules, pos, to_z, of_z, refl, ap₂, ◌∙◌}
use Rattle.std.specs.Int.{w128}
use Rattle.std.specs.Ordering.{int_eq}
use Rattle.mvt_tile_value.specs.declared.note.Note.TheVariants.{ClosedTwice, FlatRing}
use Rattle.mvt_tile_value.specs.Notes.{note_if}
use Rattle.mvt_tile_value.proofs.ring_noting.RingNotes.add.Goals as goal

pub returns : goal.returns
returns c = λ points area closed.
    let old = c.args.self.now in
    let next : c.in_ok-self.field-0 ≡ old.count + 1 = search rules in
    let same : to_z w128 (of_z w128 c.args.ring.twice_area) ≡ c.args.ring.twice_area = search rules in
    record {
      layer_is = refl;
      feature_is = refl;
      count_is = next;
      notes_are = c.in_ok-note_known_ring.ensures
          ∙ ap₂ (λ z b. old.notes.items
          ++ (note_if (int_eq z (pos 0)) (FlatRing old.layer old.feature old.count)
          ++ note_if b (ClosedTwice old.layer old.feature old.count))) (same ∙ area) closed;
    }
