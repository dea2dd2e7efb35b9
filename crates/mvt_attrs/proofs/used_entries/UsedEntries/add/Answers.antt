use Rattle.std.proofs.Common.{◌++◌, ◌∷◌, [], length, ap, refl, ◌∙◌, arith}
use Rattle.mvt_attrs.proofs.UsesLemmas.{grown, placed_again, uses_more, is_added, still_used, used_kept}
use Rattle.mvt_attrs.proofs.used_entries.UsedEntries.add.Goals as goal

pub returns-in_err-make_room-clause-used : goal.returns-in_err-make_room-clause-used
returns-in_err-make_room-clause-used g c =
    still_used c.mark_brought.new.self _ refl refl refl refl ∙ c.in_ok-mark_brought.ensures.used ∙ c.spread.ensures.used

pub returns-in_err-make_room-2-clause-used : goal.returns-in_err-make_room-2-clause-used
returns-in_err-make_room-2-clause-used g c =
    still_used c.mark_brought.new.self _ refl c.make_room-2.ensures.items refl refl ∙ c.in_ok-mark_brought.ensures.used ∙ c.spread.ensures.used

pub returns-in-Err-clause-used : goal.returns-in-Err-clause-used
returns-in-Err-clause-used g c =
    still_used c.mark_brought.new.self _ refl c.make_room-2.ensures.items c.in-Err.ensures.unchanged refl
    ∙ c.in_ok-mark_brought.ensures.used ∙ c.spread.ensures.used

pub returns-clause-uses : goal.returns-clause-uses
returns-clause-uses g c = λ entries uses.
    let d = c.mark_brought.new.self in
    let e = c.in-Ok.ensures in
    let marks = c.make_room.ensures.items in
    let size = ap length marks in
    placed_again _ _ _ _ _ (entries ++ c.args.entry.now ∷ []) c.mark_brought.ensures.placed
    (is_added _ _ _ _ entries c.args.entry.now
    (uses_more d.distinct c.place.new.self d.places.items _ d.marks.items _ d.used.items entries
    c.args.entry.now c.in-Ok.place (c.in_ok-mark_brought.ensures.uses entries (c.spread.ensures.uses entries uses))
    (grown g.T.PartialEq.eq g.met.T.Entry.identical d.distinct c.place.new.self c.args.entry.now e.kept e.added)
    c.len.ensures.distinct e.index
    (λ lt. c.add_mark.ensures.new (omega (arith, lt, size, c.len.ensures.len)) ∙ ap (λ ms. ms ++ 0 ∷ []) marks)
    (λ le. c.add_mark.ensures.same (omega (arith, le, size, c.len.ensures.len)) ∙ marks)
    (c.push_reserved.ensures.items ∙ ap (λ ps. ps ++ c.in-Ok.place ∷ []) c.make_room-2.ensures.items)))

pub returns-clause-used : goal.returns-clause-used
returns-clause-used g c =
    used_kept c.mark_brought.new.self _ c.in-Ok.place c.mark_brought.ensures.placed c.mark_brought.ensures.placed c.in_ok-mark_brought.ensures.kept
    (c.push_reserved.ensures.items ∙ ap (λ ps. ps ++ c.in-Ok.place ∷ []) c.make_room-2.ensures.items) refl
    ∙ c.in_ok-mark_brought.ensures.used ∙ c.spread.ensures.used
