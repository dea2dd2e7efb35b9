use Rattle.mvt_rings.proofs.RingLaws.{directed_area_exterior, directed_area_interior}
use Rattle.mvt_rings.proofs.laws.directed_area.Goals as goal

pub returns-clause-exterior : goal.returns-clause-exterior
returns-clause-exterior c = directed_area_exterior

pub returns-clause-interior : goal.returns-clause-interior
returns-clause-interior c = directed_area_interior
