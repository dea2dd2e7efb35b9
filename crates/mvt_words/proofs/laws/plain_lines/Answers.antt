use Rattle.mvt_words.proofs.Lines.{plain_taken}
use Rattle.mvt_words.proofs.laws.plain_lines.Goals as goal

pub returns : goal.returns
returns c = plain_taken
