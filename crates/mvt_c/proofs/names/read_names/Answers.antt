use Rattle.mvt_c.proofs.NameLemmas.{bad_name}
use Rattle.mvt_c.proofs.names.read_names.Goals as goal

pub returns-in_default-clause-bad : goal.returns-in_default-clause-bad
returns-in_default-clause-bad c = bad_name c.args.names.now c.loop-name.name-index _ c.loop-name-test.true c.in_default.ensures.cases.0
