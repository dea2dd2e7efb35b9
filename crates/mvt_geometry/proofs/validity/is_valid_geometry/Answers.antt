use Rattle.mvt_geometry.proofs.ValidLemmas.{valid_drawn, drawn_valid, valid_draws}
use Rattle.mvt_geometry.proofs.validity.is_valid_geometry.Goals as goal

pub returns-clause-drawn : goal.returns-clause-drawn
returns-clause-drawn c =
    let g = c.args.geometry.now in
    (λ t. valid_draws g (drawn_valid g (c.can_be_drawn.ensures.0 t)), λ d. c.can_be_drawn.ensures.1 (valid_drawn g d.2.valid))

pub returns-clause-valid : goal.returns-clause-valid
returns-clause-valid c =
    let g = c.args.geometry.now in
    (λ t. drawn_valid g (c.can_be_drawn.ensures.0 t), λ v. c.can_be_drawn.ensures.1 (valid_drawn g v))
