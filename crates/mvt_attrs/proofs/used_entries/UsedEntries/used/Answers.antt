use Rattle.std.proofs.Common.{◌∙◌, ap, take, sym, arith}
use Rattle.std.specs.Prelude.{vec_len}
use Rattle.std.proofs.lemmas.Bool.{eqb-true, eqb-false}
use Rattle.std.proofs.lemmas.List.{nil_from_length}
use Rattle.mvt_attrs.proofs.UsesLemmas.{all_used, used_added, used_counted}
use Rattle.mvt_attrs.proofs.used_entries.UsedEntries.used.Goals as goal

pub returns-in-Some : goal.returns-in-Some
returns-in-Some g c =
    c.first_of.ensures ∙ ap (take c.in-Some.count) c.entries.ensures ∙ sym (used_counted c.args.self.now c.in-Some.count c.in-Some.is)

pub returns-in-None : goal.returns-in-None
returns-in-None g c =
    let places = c.args.self.now.places in
    let none = eqb-true (vec_len places) 0 (sym c.is_empty.ensures ∙ c.if-is_empty.true) in
    c.entries-in-None.ensures ∙ sym (all_used c.args.self.now c.in-None.is (nil_from_length places.items (omega (arith, none, places.ok.0))))

pub returns-in-None-2 : goal.returns-in-None-2
returns-in-None-2 g c =
    let places = c.args.self.now.places in
    let some = eqb-false (vec_len places) 0 (sym c.is_empty.ensures ∙ c.if-is_empty.false) in
    c.deref.ensures.value ∙ sym (used_added c.args.self.now c.in-None-2.is (omega (arith, some, places.ok.0)))
