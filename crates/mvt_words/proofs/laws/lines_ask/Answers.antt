use Rattle.std.proofs.Common.{refl}
use Rattle.clap.proofs.OnLiterals.{clap_on_literals}
use Rattle.mvt_words.specs.Words.{mvt, bare_mvt, extract_app, files_app}
use Rattle.mvt_words.proofs.laws.lines_ask.Goals as goal

pub returns : goal.returns
unfolding clap_on_literals mvt bare_mvt extract_app files_app
returns c = record {
  fields = λ name. refl;
  show = λ name. refl;
  draw = λ name. refl;
  check = λ name. refl;
  explain = λ name. refl;
  lint = λ name. refl;
  rewrite = λ name. refl;
  mend = λ name. refl;
  extract = λ name. refl;
}
