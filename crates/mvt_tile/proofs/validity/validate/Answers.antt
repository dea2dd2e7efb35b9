use Rattle.mvt_tile.proofs.ValidityLemmas.{validated}
use Rattle.mvt_tile.proofs.validity.validate.Goals as goal

pub returns : goal.returns
returns c = validated c.in_ok-first_invalid.field-0 c.args.tile.now c.is_none.result c.is_none.ensures c.in_ok-first_invalid.ensures
