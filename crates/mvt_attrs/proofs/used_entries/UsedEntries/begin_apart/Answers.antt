use Rattle.std.proofs.Common.{Some, refl, sym, ◌∙◌, arith}
use Rattle.std.specs.Prelude.{vec_len}
use Rattle.std.proofs.lemmas.Bool.{eqb-false}
use Rattle.mvt_attrs.proofs.UsesLemmas.{all_used, are_counted, used_counted}
use Rattle.mvt_attrs.proofs.used_entries.UsedEntries.begin_apart.Goals as goal

pub returns-clause-uses : goal.returns-clause-uses
returns-clause-uses g c = λ before uses.
    let entries = c.args.entries in
    let some = eqb-false (vec_len entries) 0 (sym c.is_empty.ensures ∙ c.if-is_empty.false) in
    are_counted c.args.self.now (record c.args.self.now { front = Some 0; distinct = c.of_apart.result }) before entries.items c.requires.counted c.requires.none uses refl c.of_apart.ensures c.requires.apart
    (omega (arith, some, entries.ok.0))

pub returns-clause-used : goal.returns-clause-used
returns-clause-used g c =
    used_counted _ 0 refl ∙ sym (all_used c.args.self.now c.requires.counted c.requires.unplaced ∙ c.requires.none)
