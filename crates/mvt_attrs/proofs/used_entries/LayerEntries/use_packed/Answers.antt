use Rattle.std.proofs.Common.{length, true, ap, refl, sym}
use Rattle.mvt_attrs.specs.declared.used_entries.LayerEntries.{LayerEntries}
use Rattle.mvt_attrs.proofs.AttrsLaws.{attributes_or_fault_there}
use Rattle.mvt_attrs.proofs.UsedTagsLemmas.{tags_read, undone_same, used_tags}
use Rattle.mvt_attrs.proofs.used_entries.LayerEntries.use_packed.Goals as goal

pub returns-in-Good-clause-found : goal.returns-in-Good-clause-found
returns-in-Good-clause-found c = λ values uses.
    let good = rw c.in-Good.is at c.in_ok-is_short.ensures.found in
    let start : LayerEntries = record c.args.self.now { tags = c.clear.new.self; are_same = true } in
    let now = c.judge_packed.new.visitor in
    let keys = c.args.keys.now in
    let there = attributes_or_fault_there keys values good.tags (good.faultless values (sym (c.len-values.ensures values uses.1))) in
    used_tags c.args.self.now start now c.args.bytes.now keys values good.tags there.0 c.in-Good.is_short
    (tags_read start good.tags now good.told) (refl, refl) c.clear.ensures.items uses good.packed there.1 good.short

pub returns-in-Good-clause-uses : goal.returns-in-Good-clause-uses
returns-in-Good-clause-uses c = λ values uses.
    let good = rw c.in-Good.is at c.in_ok-is_short.ensures.found in
    let start : LayerEntries = record c.args.self.now { tags = c.clear.new.self; are_same = true } in
    ((tags_read start good.tags c.judge_packed.new.visitor good.told).uses c.args.keys.now values uses).0

pub returns-in-Broken-clause-uses : goal.returns-in-Broken-clause-uses
returns-in-Broken-clause-uses c = λ values uses.
    let broken = rw c.in-Broken.is at c.in_ok-is_short.ensures.found in
    let start : LayerEntries = record c.args.self.now { tags = c.clear.new.self; are_same = true } in
    let before = (tags_read start broken.0 c.judge_packed.new.visitor broken.1).uses c.args.keys.now values uses in
    (c.undo.ensures.uses c.args.keys.now before.0.0, c.undo-in-Broken.ensures.uses values before.0.1)

pub returns-in-Broken-clause-undone : goal.returns-in-Broken-clause-undone
returns-in-Broken-clause-undone c = λ values uses.
    let broken = rw c.in-Broken.is at c.in_ok-is_short.ensures.found in
    let start : LayerEntries = record c.args.self.now { tags = c.clear.new.self; are_same = true } in
    let before = (tags_read start broken.0 c.judge_packed.new.visitor broken.1).uses c.args.keys.now values uses in (
      undone_same c.args.keys.now _ _ _ _ before.1 (ap length c.used.ensures) (c.undo.ensures.used c.args.keys.now before.0.0),
      undone_same values _ _ _ _ before.2 (ap length c.used-2.ensures) (c.undo-in-Broken.ensures.used values before.0.1),
    )
