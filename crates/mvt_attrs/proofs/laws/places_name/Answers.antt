use Rattle.mvt_attrs.proofs.AttrsLaws.{places_name_names, places_name_small}
use Rattle.mvt_attrs.proofs.laws.places_name.Goals as goal

pub returns : goal.returns
returns c = record { names = places_name_names; small = places_name_small }
