use Rattle.std.proofs.Common.{rules, refl}
use Rattle.mvt_tile_value.proofs.first_ids.FirstIds.feature_of.Goals as goal

pub returns-in-None : goal.returns-in-None
returns-in-None c = λ first are.
    let none = c.in-None.ensures.none (rw c.deref.ensures.value are.rising) refl in
    search (rules, none, are.first_is c.args.id)
