use Rattle.mvt_places.proofs.PlacesLaws.{place_lies_first, place_lies_any}
use Rattle.mvt_places.proofs.laws.place_lies.Goals as goal

pub returns : goal.returns
returns c = record { first = place_lies_first; any = place_lies_any }
