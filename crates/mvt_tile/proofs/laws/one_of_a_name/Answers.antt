use Rattle.mvt_tile.proofs.TileLaws.{one_of_a_name_one, one_of_a_name_nothing}
use Rattle.mvt_tile.proofs.laws.one_of_a_name.Goals as goal

pub returns : goal.returns
returns c = record { one = one_of_a_name_one; nothing = one_of_a_name_nothing }
