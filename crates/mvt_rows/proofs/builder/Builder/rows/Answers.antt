use Rattle.std.proofs.Common.{OnOk, Some, subst}
use Rattle.mvt_rows.specs.Building.{HasTold}
use Rattle.mvt_rows.specs.Told.{Told, ended}
use Rattle.mvt_rows.proofs.BuildingLemmas.{called, some_not_none}
use Rattle.mvt_rows.proofs.builder.Builder.rows.Goals as goal

pub returns-clause-called : goal.returns-clause-called
returns-clause-called c =
    let entered = c.in_ok-enter.ensures.ok in
    let copied = c.end_and_copy-copied in
    let made = copied.new.self in
    let told =
    subst (λ b. OnOk copied.result ((told : Told) → HasTold b told → HasTold made (ended told))) entered.1 copied.ensures.ended in
    called c.args.self.now made c.settle.new.self copied.result c.settle.result (λ told. Some (ended told)) entered.0 told
    (λ told h none. some_not_none _ none) c.settle.ensures.ok c.settle.ensures.err
