use Rattle.mvt_places.proofs.PlacesLaws.{integers_are_spelled}
use Rattle.mvt_places.proofs.laws.integers_are_spelled.Goals as goal

pub returns : goal.returns
returns c = integers_are_spelled
