use Rattle.mvt_places.proofs.PlacesLaws.{first_layer_there, first_feature_there}
use Rattle.mvt_places.proofs.laws.first_fault_is_there.Goals as goal

pub returns : goal.returns
returns c = record { layer = first_layer_there; feature = first_feature_there }
