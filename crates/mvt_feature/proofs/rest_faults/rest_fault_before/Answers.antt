use Rattle.std.proofs.Common.{[], ◌∷◌, ◌++◌, ◌∙◌, ap, sym, subst}
use Rattle.std.specs.Option.{option_or}
use Rattle.mvt_base.specs.Reports.{Reports}
use Rattle.mvt_base.proofs.RuleLemmas.{option_or-some}
use Rattle.mvt_wire.specs.Field.{entry_of}
use Rattle.mvt_wire.specs.Fields.{Ahead}
use Rattle.mvt_wire.specs.Split.{split}
use Rattle.mvt_feature.specs.Faults.{fault_of}
use Rattle.mvt_feature.proofs.WalkLemmas.{walk_start, walk_step, walk_fault_fits, walk_fault, walk_end, rest_none}
use Rattle.mvt_feature.proofs.rest_faults.rest_fault_before.Goals as goal

pub loop-field-init : goal.loop-field-init
loop-field-init c = (
  [],
  walk_start _ _
      (ap (λ (a : Ahead). a.to_come) c.into_iter-field-iterator.ensures.into_iter_gives ∙ c.new-field-items.ensures.fields)
      (rw c.into_iter-field-iterator.ensures.into_iter_gives c.new-field-items.ensures.place),
)

pub loop-field-preserved : goal.loop-field-preserved
loop-field-preserved c = (
  c.loop-field.invariant.0 ++ entry_of c.in-Ok.field-0 ∷ [],
  walk_step _ _ _ _ _ c.loop-field.invariant.1 (rw c.in-Ok.is at c.in-Some.ensures.steps).0,
)

pub rest_fault-requires : goal.rest_fault-requires
rest_fault-requires c =
    walk_fault_fits _ _ c.next.new.self.to_come _ _ _ c.loop-field.invariant.1 (rw c.in-Err.is at c.in-Some.ensures.steps).0 c.requires

pub returns-in-Err-clause-reported : goal.returns-in-Err-clause-reported
returns-in-Err-clause-reported c = λ fault reported_here.
    rw c.rest_fault.ensures
    (option_or-some _ _ _
    (walk_fault _ _ c.next.new.self.to_come _ _ _ c.loop-field.invariant.1 (rw c.in-Err.is at c.in-Some.ensures.steps).0))

pub returns-clause-reported : goal.returns-clause-reported
returns-clause-reported c = λ fault reported_here.
    let end = walk_end _ _ _ _ c.loop-field.invariant.1 c.in-None.ensures.steps.0 in
    subst (λ o. Reports (fault_of c.args.error) (option_or o fault))
    (sym (rest_none c.args.payload_at (split c.args.payload.now) end.1)) reported_here

pub returns-in-Err-clause-whole : goal.returns-in-Err-clause-whole
returns-in-Err-clause-whole c = λ h. let is = c.rest_fault.ensures in absurd cc

pub returns-clause-whole : goal.returns-clause-whole
returns-clause-whole c = λ h. (walk_end _ _ _ _ c.loop-field.invariant.1 c.in-None.ensures.steps.0).1
