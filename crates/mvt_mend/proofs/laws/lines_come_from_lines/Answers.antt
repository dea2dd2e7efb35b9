use Rattle.mvt_mend.proofs.MendLaws.{lines_come_from_lines}
use Rattle.mvt_mend.proofs.laws.lines_come_from_lines.Goals as goal

pub returns : goal.returns
returns c = lines_come_from_lines
