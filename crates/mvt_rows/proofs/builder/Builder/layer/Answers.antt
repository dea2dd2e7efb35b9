use Rattle.std.proofs.Common.{subst}
use Rattle.mvt_rows.specs.Building.{IsStep}
use Rattle.mvt_rows.specs.Told.{begin_layer}
use Rattle.mvt_rows.proofs.BuildingLemmas.{called, some_not_none}
use Rattle.mvt_rows.proofs.builder.Builder.layer.Goals as goal

pub returns : goal.returns
returns c =
    let entered = c.in_ok-enter.ensures.ok in
    let next = begin_layer c.args.name.now c.args.extent in
    let begun = subst (λ b. IsStep b c.begin_layer-begun.new.self c.begin_layer-begun.result next) entered.1 c.begin_layer-begun.ensures in
    called c.args.self.now c.begin_layer-begun.new.self c.settle.new.self c.begin_layer-begun.result c.settle.result next
    entered.0 begun.done (λ told h none. some_not_none _ none) c.settle.ensures.ok c.settle.ensures.err
