use Rattle.std.proofs.Common.{◌≡◌, ◌∙◌, Some, slice_get, subst, refl}
use Rattle.mvt_attrs.proofs.PoolLemmas.{is_there}
use Rattle.mvt_attrs.proofs.pool.Pool.place_near.Goals as goal

pub returns-then-is_at : goal.returns-then-is_at
returns-then-is_at g c =
    let x = c.args.entry.now in
    let at = c.in-Some.index.now in
    is_there c.args.self.now x at
    (subst (λ es. slice_get es at ≡ Some x) (c.deref.ensures.value ∙ c.self.view_is) (c.if-is_at.ensures.0 refl))

pub returns : goal.returns
returns g c = c.place.ensures
