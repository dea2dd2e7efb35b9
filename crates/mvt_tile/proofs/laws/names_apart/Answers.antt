use Rattle.mvt_tile.proofs.TileLaws.{names_apart_nothing, names_apart_more, names_apart_before}
use Rattle.mvt_tile.proofs.laws.names_apart.Goals as goal

pub returns : goal.returns
returns c = record { nothing = names_apart_nothing; more = names_apart_more; before = names_apart_before }
