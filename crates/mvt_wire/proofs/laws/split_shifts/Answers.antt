use Rattle.mvt_wire.proofs.WireLaws.{split_shifts_field, split_shifts_split}
use Rattle.mvt_wire.proofs.laws.split_shifts.Goals as goal

pub returns-clause-field : goal.returns-clause-field
returns-clause-field c = split_shifts_field

pub returns-clause-split : goal.returns-clause-split
returns-clause-split c = split_shifts_split
