use Rattle.std.proofs.Common.{refl}
use Rattle.clap.proofs.OnLiterals.{clap_on_literals}
use Rattle.mvt_words.specs.Words.{mvt, bare_mvt, extract_app, files_app}
use Rattle.mvt_words.proofs.laws.lines_name_files.Goals as goal

pub returns : goal.returns
unfolding clap_on_literals mvt bare_mvt extract_app files_app
returns c = record {
  no_files = λ name. refl;
  files = λ name. refl;
  files_explained = λ name. refl;
  files_linted = λ name. refl;
  hyphens = λ name. refl;
  version = λ name. refl;
}
