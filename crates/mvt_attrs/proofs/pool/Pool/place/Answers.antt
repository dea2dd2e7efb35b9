use Rattle.std.proofs.Common.{◌≡◌, ◌∙◌, ap, Contains, Some, slice_get, subst, sym, arith, length, ◌++◌, ◌∷◌, []}
use Rattle.mvt_attrs.proofs.PoolLemmas.{is_there, is_full, is_left, is_last}
use Rattle.mvt_attrs.proofs.pool.Pool.place.Goals as goal

pub returns-in-Found : goal.returns-in-Found
returns-in-Found g c =
    let pool = c.args.self.now in
    let same = c.deref.ensures.value ∙ c.self.view_is in
    is_there pool c.args.entry.now c.in-Found.place
    (subst (λ es. slice_get es c.in-Found.place ≡ Some c.args.entry.now) same c.in-Found.ensures)

pub returns-then-index-eq-LIMIT : goal.returns-then-index-eq-LIMIT
returns-then-index-eq-LIMIT g c =
    let pool = c.args.self.now in
    let x = c.args.entry.now in
    let same = c.deref.ensures.value ∙ c.self.view_is in
    is_full pool x (λ there. c.in-New.ensures.0 (subst (λ es. Contains es x) (sym same) there))
    (let size = ap length c.self.view_is in omega (arith, size, c.len-index.ensures, c.if-index-eq-LIMIT.true))

pub returns-in_err-append : goal.returns-in_err-append
returns-in_err-append g c =
    let pool = c.args.self.now in
    let x = c.args.entry.now in
    let same = c.deref.ensures.value ∙ c.self.view_is in
    is_left pool _ x c.from_residual.result (λ there. c.in-New.ensures.0 (subst (λ es. Contains es x) (sym same) there))
    (λ most. let size = ap length c.self.view_is in c.if-index-eq-LIMIT.false (omega (arith, size, c.len-index.ensures, most)))
    (c.in_err-append.ensures.unchanged ∙ c.self.view_is) c.from_residual.ensures

pub returns : goal.returns
returns g c =
    let pool = c.args.self.now in
    let x = c.args.entry.now in
    let same = c.deref.ensures.value ∙ c.self.view_is in
    is_last pool _ x c.len-index.result (λ there. c.in-New.ensures.0 (subst (λ es. Contains es x) (sym same) there))
    (let size = ap length c.self.view_is in omega (arith, size, c.len-index.ensures))
    (λ most. let size = ap length c.self.view_is in c.if-index-eq-LIMIT.false (omega (arith, size, c.len-index.ensures, most)))
    (c.in_ok-append.ensures.added ∙ ap (λ es. es ++ x ∷ []) c.self.view_is)
