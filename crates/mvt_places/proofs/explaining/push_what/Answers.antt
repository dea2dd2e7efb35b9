use Rattle.mvt_places.specs.Explanations.{what_text}
use Rattle.mvt_places.proofs.explaining.push_what.Goals as goal

pub returns-in-Tags : goal.returns-in-Tags
unfolding what_text
returns-in-Tags c = rw c.in-Tags.is c.push_spelled-in-Tags.ensures

pub returns-in-Integers : goal.returns-in-Integers
unfolding what_text
returns-in-Integers c = rw c.in-Integers.is c.push_numbered.ensures
