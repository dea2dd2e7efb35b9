use Rattle.mvt_c.proofs.NameLemmas.{names_are_texts}
use Rattle.mvt_c.proofs.calls.mvt_extract_named.Goals as goal

pub returns-after-made-clause-names : goal.returns-after-made-clause-names
returns-after-made-clause-names c = λ _ _. names_are_texts c.in-Ok.names.items c.args.names.now c.in-Ok.ensures.texts
