use Rattle.mvt_places.proofs.ExplanationLemmas.{value_spelled, value_none}
use Rattle.mvt_places.proofs.explaining.value_in.Goals as goal

pub returns-in-Ok : goal.returns-in-Ok
returns-in-Ok c =
    value_spelled c.args.bytes.now c.in-Ok.value c.in-Ok.field-0-1 c.in-Ok.ensures.within c.in-Ok.ensures.number

pub returns-in-Err : goal.returns-in-Err
returns-in-Err c = value_none c.args.bytes.now c.in-Err.ensures.none
