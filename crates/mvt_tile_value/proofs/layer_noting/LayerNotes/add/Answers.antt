use Rattle.std.proofs.Common.{rules, arith, ◌≡◌, ◌+◌, ◌∷◌, [], ◌++◌, length, refl, sym, ap, ap₂, ◌∙◌, subst, length-append}
use Rattle.mvt_tile_value.specs.Notes.{first_of, geometry_notes}
use Rattle.mvt_tile_value.specs.Rings.{HasBegun}
use Rattle.mvt_tile_value.proofs.IdLemmas.{same_first}
use Rattle.mvt_tile_value.proofs.NoteLemmas.{first_of_last, noted_last}
use Rattle.mvt_tile_value.proofs.layer_noting.LayerNotes.add.Goals as goal

pub returns : goal.returns
returns c = λ layer features f before told is.
    let old = c.args.self.now in
    let n = old.count in
    let next : c.in_ok-self.field-0 ≡ n + 1 = search rules in
    let count : c.in_ok-self.field-0 ≡ length (features ++ f ∷ []) =
    omega (arith, next, before.count_is, length-append features (f ∷ [])) in
    let rings =
    c.deref.ensures.value ∙ told.notes_are
    ∙ ap₂ (λ l k. geometry_notes l k f.geometry) (sym before.layer_is) (sym before.count_is) in (
      record {
        layer_is = before.layer_is;
        count_is = count;
        ids_are = same_first c.note_id.new.ids _ _ (c.in_ok-note_id.ensures.ids (λ q. first_of q features) before.ids_are)
            (λ q. first_of_last q features f n c.args.id before.count_is is);
        notes_are = noted_last old.layer layer features f n c.args.id (λ q. first_of q features) old.notes.items
            c.note_id.new.notes.items _ before.layer_is before.count_is is (λ q. refl) before.notes_are
            (c.in_ok-note_id.ensures.notes (λ q. first_of q features) before.ids_are)
            (c.in_ok-extend_from_slice.ensures.items ∙ ap (λ ns. c.note_id.new.notes.items ++ ns) rings);
      },
      subst (λ k. HasBegun layer k c.begin.new.self) count
          (subst (λ l. HasBegun l c.in_ok-self.field-0 c.begin.new.self) told.layer_is c.begin.ensures),
    )
