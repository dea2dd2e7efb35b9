use Rattle.std.proofs.Common.{◌≡◌, ◌<◌, ◌-◌, ◌++◌, ◌∷◌, [], length, slice_get, Some, refl, sym, subst, ap, ◌∙◌, arith}
use Rattle.std.specs.Prelude.{Contains}
use Rattle.std.proofs.lemmas.Option.{slice_get_within}
use Rattle.mvt_attrs.proofs.PlacingLemmas.{contains_at}
use Rattle.mvt_attrs.proofs.UsesLemmas.{placed_again, placed_count, placed_of, some_added, still_uses, used_added, read_at, place_stands, found_there, found_none, used_last, used_more}
use Rattle.mvt_attrs.specs.Using.{used_of}
use Rattle.mvt_attrs.proofs.GrownLemmas.{none_grown, pushed_grown}
use Rattle.mvt_attrs.proofs.used_entries.UsedEntries.mark_placed.Goals as goal

pub returns-then-mark-ne0 : goal.returns-then-mark-ne0
returns-then-mark-ne0 g c =
    let d = c.args.self.now in
    let place = read_at _ d.places.items c.args.entry c.in-Some.place.now c.deref.ensures.value c.in-Some.ensures.lookup.1 in
    let mark = read_at _ d.marks.items c.in-Some.place.now c.in-Some-get.mark.now c.deref-2.ensures.value c.in-Some-get.ensures.lookup.1 in
    record {
      uses = λ entries uses. uses;
      grown = λ entries uses. none_grown entries (used_of d);
      put = λ entries x uses at.
          let added = some_added d.distinct d.places.items d.marks.items d.used.items entries c.args.entry x (placed_of d entries c.requires uses) at in
          let is_used = used_added d c.requires added.1 in
          let here = found_there d.distinct d.places.items d.marks.items d.used.items entries added.0 c.args.entry c.in-Some.place.now
          (slice_get_within entries c.args.entry x at) place c.in-Some-get.mark.now mark x at c.if-mark-ne0.true in (
            record {
              kept = λ held. refl;
              added = λ new. absurd (new (subst (λ us. Contains us x) (sym is_used) (contains_at d.used.items _ x here)));
            },
            ap (λ us. slice_get us (c.in-Some-get.mark.now - 1)) is_used ∙ here,
          );
    }

pub returns : goal.returns
returns g c =
    let d = c.args.self.now in
    let place = read_at _ d.places.items c.args.entry c.in-Some.place.now c.deref.ensures.value c.in-Some.ensures.lookup.1 in
    let mark = read_at _ d.marks.items c.in-Some.place.now c.in-Some-get.mark.now c.deref-2.ensures.value c.in-Some-get.ensures.lookup.1 in
    let within : c.args.entry < length d.places.items = omega (arith, c.in-Some.ensures.lookup.3.0, ap length c.deref.ensures.value) in
    let some : 0 < length d.places.items = omega (arith, within) in
    let x = c.in_ok-copied-in-Some-entry.field-0 in
    let pushed = used_added _ c.requires some ∙ c.in_ok-push_in_room-in-Some-entry.ensures
    ∙ ap (λ us. us ++ x ∷ []) (sym (used_added d c.requires some)) in
    record {
      uses = λ entries uses.
          placed_again _ _ _ _ _ entries c.requires
          (still_uses d.distinct d.places.items d.marks.items _ d.used.items _ entries c.args.entry within (placed_of d entries c.requires uses)
          (λ added.
          used_more d.distinct d.places.items d.marks.items d.used.items entries added c.args.entry c.in-Some.place.now
          (omega (arith, within, added.count)) place c.in-Some-get.mark.now mark x c.len-index.result
          c.push_in_room.new.items.items (ap Some c.in_ok-copied-in-Some-entry.ensures ∙ c.in-Some-entry.ensures) c.if-mark-ne0.false
          (omega (arith, c.len-index.ensures, d.used.ok.0)) c.in_ok-push_in_room-in-Some-entry.ensures));
      grown = λ entries uses. pushed_grown entries _ _ x d.places.items (placed_count d entries c.requires uses) some pushed;
      put = λ entries y uses at.
          let added = some_added d.distinct d.places.items d.marks.items d.used.items entries c.args.entry y (placed_of d entries c.requires uses) at in
          let stands = place_stands d.distinct d.places.items d.marks.items d.used.items entries added.0 c.args.entry c.in-Some.place.now
          (slice_get_within entries c.args.entry y at) place y at in
          let is = ap Some c.in_ok-copied-in-Some-entry.ensures ∙ c.in-Some-entry.ensures ∙ stands in (
            record {
              kept = λ held.
                  absurd (found_none d.distinct d.places.items d.marks.items d.used.items entries added.0 c.args.entry c.in-Some.place.now
                  (slice_get_within entries c.args.entry y at) place c.in-Some-get.mark.now mark y at c.if-mark-ne0.false
                  (subst (λ us. Contains us y) (used_added d c.requires some) held));
              added = λ new. pushed ∙ ap (λ z. used_of d ++ z ∷ []) (some_same x y is);
            },
            ap (λ us. slice_get us c.len-index.result) (used_added _ c.requires some)
                ∙ used_last d.used.items c.push_in_room.new.items.items x y c.len-index.result
                (omega (arith, c.len-index.ensures, d.used.ok.0)) c.in_ok-push_in_room-in-Some-entry.ensures is,
          );
    }
  where
    some_same : {A : Type 0} (y z : A) → Some y ≡ Some z → y ≡ z
    some_same y z e = cc
