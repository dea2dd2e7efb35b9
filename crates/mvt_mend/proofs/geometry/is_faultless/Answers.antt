use Rattle.mvt_mend.proofs.GeometryLemmas.{has_fault, has_none}
use Rattle.mvt_mend.proofs.geometry.is_faultless.Goals as goal

pub returns-in-Ok : goal.returns-in-Ok
returns-in-Ok c = let a = c.judge_geometry.ensures.ok in let b = c.in-Ok.ensures in has_none _ _ c.in-Ok.ensures.ok

pub returns-in-Err : goal.returns-in-Err
returns-in-Err c = has_fault _ _ c.in-Err.ensures.fault
