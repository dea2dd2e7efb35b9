use Rattle.std.proofs.Common.{◌≡◌, [], length, sym, subst, ◌∙◌, arith}
use Rattle.std.specs.Prelude.{vec_len}
use Rattle.std.proofs.lemmas.Bool.{eqb-true}
use Rattle.std.proofs.lemmas.List.{nil_from_length}
use Rattle.mvt_attrs.specs.Inner.Places.{AreFirstMarks}
use Rattle.mvt_attrs.proofs.UsesLemmas.{all_used, brought, placed_of}
use Rattle.mvt_attrs.proofs.used_entries.UsedEntries.mark_brought.Goals as goal

pub returns-clause-uses : goal.returns-clause-uses
returns-clause-uses g c = λ entries uses.
    let d = c.args.self.now in
    let empty = eqb-true (vec_len d.places) 0 (sym c.is_empty.ensures ∙ c.if-not-is_empty.false) in
    let none : d.places.items ≡ [] = nil_from_length d.places.items (omega (arith, empty, d.places.ok.0)) in
    brought d entries c.in_ok-self.field-0.items c.in_ok-brought.brought.items (placed_of d entries c.requires uses) none
    (subst (λ n. AreFirstMarks c.in_ok-self.field-0.items n (length d.distinct)) c.len.ensures.len
    (subst (λ n. AreFirstMarks c.in_ok-self.field-0.items c.len.result n) c.len-2.ensures.len c.in_ok-self.ensures))
    (c.in_ok-brought.ensures ∙ c.entries.ensures)

pub returns-clause-used : goal.returns-clause-used
returns-clause-used g c =
    let d = c.args.self.now in
    let empty = eqb-true (vec_len d.places) 0 (sym c.is_empty.ensures ∙ c.if-not-is_empty.false) in
    let none : d.places.items ≡ [] = nil_from_length d.places.items (omega (arith, empty, d.places.ok.0)) in
    all_used _ c.requires none ∙ sym (all_used d c.requires none)
