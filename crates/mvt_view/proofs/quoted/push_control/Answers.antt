use Rattle.std.proofs.Common.{arith}
use Rattle.std.proofs.lemmas.Grind.{common_steps}
use Rattle.mvt_view.proofs.QuotedLemmas.{control_text}
use Rattle.mvt_view.proofs.quoted.push_control.Goals as goal

pub returns-clause-ok : goal.returns-clause-ok
returns-clause-ok c =
    let same = control_text c.args.control c.requires.low c.requires.letter in
    grind (arith, common_steps, same)
