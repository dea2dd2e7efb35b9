use Rattle.std.proofs.Common.{◌≡◌, List, None, refl, take, ap, subst, ◌∙◌}
use Rattle.mvt_attrs.specs.Inner.Places.{AreFirstMarks, AreIndices}
use Rattle.mvt_attrs.specs.Using.{AreUsesOf, used_of}
use Rattle.mvt_attrs.proofs.CountedLemmas.{spread}
use Rattle.mvt_attrs.specs.declared.used_entries.UsedEntries.{UsedEntries}
use Rattle.mvt_attrs.proofs.used_entries.UsedEntries.spread.Given.{Over}
use Rattle.mvt_attrs.proofs.used_entries.UsedEntries.spread.Goals as goal

abbrev after : (g : Over) → goal.After-self-1 g → UsedEntries g.row.T.Denot
after g c = record c.args.self.now {
  front = None;
  places = c.in_ok-places.places;
  marks = c.in_ok-self.field-0;
  used = c.in_ok-used.used;
}

are_spread : (g : Over) → (c : goal.After-self-1 g)
    → ((entries : List g.row.T.Denot) → AreUsesOf c.args.self.now entries → AreUsesOf (after g c) entries)
    × (used_of (after g c) ≡ used_of c.args.self.now)
are_spread g c =
    spread c.args.self.now (after g c) c.in-Some.count c.in-Some.is refl refl
    (subst (AreIndices c.in_ok-places.places.items) c.len.ensures.len c.in_ok-places.ensures)
    (subst (λ n. AreFirstMarks c.in_ok-self.field-0.items n c.in-Some.count) c.len-2.ensures.len c.in_ok-self.ensures)
    (c.in_ok-used.ensures ∙ c.first_of.ensures ∙ ap (take c.in-Some.count) c.entries.ensures)

pub returns-clause-uses : goal.returns-clause-uses
returns-clause-uses g c = (are_spread g c).0

pub returns-clause-used : goal.returns-clause-used
returns-clause-used g c = (are_spread g c).1
