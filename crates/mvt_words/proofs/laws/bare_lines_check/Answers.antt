use Rattle.std.proofs.Common.{refl}
use Rattle.clap.proofs.OnLiterals.{clap_on_literals}
use Rattle.mvt_words.specs.Words.{mvt, bare_mvt, extract_app, files_app}
use Rattle.mvt_words.proofs.laws.bare_lines_check.Goals as goal

pub returns : goal.returns
unfolding clap_on_literals mvt bare_mvt extract_app files_app
returns c = record {
  nothing = refl;
  alone = λ name. refl;
}
