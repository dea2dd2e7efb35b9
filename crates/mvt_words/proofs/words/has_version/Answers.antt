use Rattle.std.proofs.Common.{ap, codes, ◌∙◌}
use Rattle.clap.specs.Words.{found_of}
use Rattle.mvt_words.specs.Words.{is_true}
use Rattle.mvt_words.proofs.Commands.{texts_some, texts_none}
use Rattle.mvt_words.proofs.words.has_version.Goals as goal

pub returns-in-Some : goal.returns-in-Some
returns-in-Some c =
    c.is_true.ensures ∙ ap is_true (texts_some (found_of c.args.matches.now) (codes "version") _ c.in-Some.ensures)

pub returns-in-None : goal.returns-in-None
returns-in-None c = ap is_true (texts_none (found_of c.args.matches.now) (codes "version") c.in-None.ensures)
