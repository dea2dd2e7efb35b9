use Rattle.std.proofs.Common.{rules, length, nat_lt, refl, ap, ◌∙◌}
use Rattle.mvt_wire.specs.Fields.{Ahead}
use Rattle.std.specs.Bool.{then_some}
use Rattle.std.proofs.lemmas.List.{take_min}
use Rattle.mvt_view.proofs.WalkLemmas.{listed_start, listed_step, listed_fault, listed_end}
use Rattle.mvt_view.proofs.fields.fields_within.Goals as goal

pub loop-field-init : goal.loop-field-init
loop-field-init c =
    listed_start _ _ _ _ _ (rw c.min.ensures (take_min c.args.limit c.args.input.now))
    (ap (λ (a : Ahead). a.to_come) c.into_iter-field-iterator.ensures.into_iter_gives
    ∙ c.new-field-items.ensures.fields) c.new-lines.ensures.bytes

pub loop-field-preserved : goal.loop-field-preserved
loop-field-preserved c =
    listed_step _ _ _ _ _ _ c.in-Ok.field c.loop-field.invariant (rw c.in-Ok.is at c.in-Some.ensures.steps).0
    c.in_ok-push_line-in-Ok.ensures

pub returns-in-Err : goal.returns-in-Err
returns-in-Err c =
    listed_fault _ _ _ c.next.new.self.to_come _ _ c.in-Err.fault _ c.loop-field.invariant
    (rw c.in-Err.is at c.in-Some.ensures.steps).0 (search rules) c.fault_of.ensures

pub returns : goal.returns
returns c =
    listed_end _ _ _ c.next.new.self.to_come _ (nat_lt c.args.limit (length c.args.input.now)) _
    c.loop-field.invariant c.in-None.ensures.steps.0 refl (c.then_some-fault.ensures
    ∙ ap (then_some (nat_lt c.args.limit (length c.args.input.now))) c.outer.ensures)
