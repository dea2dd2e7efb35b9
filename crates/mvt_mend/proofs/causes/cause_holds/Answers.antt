use Rattle.mvt_mend.proofs.HeldCauseLemmas.{cross_there, many_steps, none_crosses, few_steps}
use Rattle.mvt_mend.proofs.causes.cause_holds.Goals as goal

pub returns-clause-cross : goal.returns-clause-cross
returns-clause-cross c = cross_there

pub returns-clause-steps : goal.returns-clause-steps
returns-clause-steps c = many_steps

pub returns-clause-uncrossed : goal.returns-clause-uncrossed
returns-clause-uncrossed c = none_crosses

pub returns-clause-few_steps : goal.returns-clause-few_steps
returns-clause-few_steps c = few_steps
