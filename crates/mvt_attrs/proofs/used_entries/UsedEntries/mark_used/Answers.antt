use Rattle.std.proofs.Common.{◌+◌, Some, inl, inr, refl, arith}
use Rattle.mvt_attrs.proofs.CountedLemmas.{counted_use, spread_use}
use Rattle.mvt_attrs.proofs.used_entries.UsedEntries.mark_used.Goals as goal

pub returns-in-Some : goal.returns-in-Some
returns-in-Some g c =
    let less = c.if-entry-count.true in
    counted_use c.args.self.now c.args.self.now c.in-Some.count c.in-Some.count c.args.entry c.in-Some.is c.in-Some.is refl
    (inl (less, refl)) (λ last. absurd (omega (arith, less, last)))

pub returns-in-Some-2 : goal.returns-in-Some-2
returns-in-Some-2 g c =
    let less = c.if-count-len.true in
    counted_use c.args.self.now (record c.args.self.now { front = Some (c.in-Some-2.count + 1) }) c.in-Some-2.count
    (c.in-Some-2.count + 1) c.args.entry c.in-Some-2.is refl refl (inr (c.if-entry-count-2.true, refl))
    (λ e. omega (arith, e, less, c.len.ensures.len))

pub returns-in_ok-spread-in-Some-3 : goal.returns-in_ok-spread-in-Some-3
returns-in_ok-spread-in-Some-3 g c =
    spread_use c.args.self.now c.spread.new.self c.mark_placed.new.self c.args.entry c.spread.ensures.uses c.spread.ensures.used
    c.mark_placed.result c.mark_placed.ensures
