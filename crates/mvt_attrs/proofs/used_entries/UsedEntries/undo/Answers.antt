use Rattle.std.proofs.Common.{Some, inl, inr, refl, arith}
use Rattle.mvt_attrs.proofs.CountedLemmas.{counted_undone, counted_undone_uses, undone_used, undone_uses}
use Rattle.mvt_attrs.specs.declared.used_entries.UsedEntries.{UsedEntries}
use Rattle.mvt_attrs.proofs.used_entries.UsedEntries.undo.Given.{Over}
use Rattle.mvt_attrs.proofs.used_entries.UsedEntries.undo.Goals as goal

pub returns-in-Some-clause-uses : goal.returns-in-Some-clause-uses
returns-in-Some-clause-uses g c = λ entries uses.
    counted_undone_uses c.args.self.now (record c.args.self.now { front = Some c.args.count }) c.in-Some.used c.args.count c.args.count
    c.in-Some.is refl refl (inl (c.if-count-used.true, refl)) entries uses

pub returns-in-Some-clause-used : goal.returns-in-Some-clause-used
returns-in-Some-clause-used g c = λ entries uses.
    counted_undone c.args.self.now (record c.args.self.now { front = Some c.args.count }) c.in-Some.used c.args.count c.args.count
    c.in-Some.is refl refl (inl (c.if-count-used.true, refl)) entries uses

pub returns-else-count-used-clause-used : goal.returns-else-count-used-clause-used
returns-else-count-used-clause-used g c = λ entries uses.
    counted_undone c.args.self.now c.args.self.now c.in-Some.used c.args.count c.in-Some.used c.in-Some.is c.in-Some.is refl
    (inr (omega (arith, c.if-count-used.false), refl)) entries uses

abbrev after : (g : Over) → goal.After-truncate g → UsedEntries g.row.T.Denot
after g c = record c.args.self.now {
  marks = c.clear_above.new.marks;
  used = c.truncate.new.self;
}

pub returns-in-None-clause-uses : goal.returns-in-None-clause-uses
returns-in-None-clause-uses g c = λ entries uses.
    undone_uses c.args.self.now (after g c) c.args.count c.in-None.is c.in-None.is refl refl
    c.clear_above.ensures
    c.truncate.ensures.items entries uses

pub returns-in-None-clause-used : goal.returns-in-None-clause-used
returns-in-None-clause-used g c = λ entries uses.
    undone_used c.args.self.now (after g c) c.args.count c.in-None.is c.in-None.is refl refl
    c.clear_above.ensures
    c.truncate.ensures.items entries uses
