use Rattle.mvt_view.proofs.ViewLaws.{front_reports_lines, front_reports_fault}
use Rattle.mvt_view.proofs.laws.front_reports.Goals as goal

pub returns : goal.returns
returns c = record { lines = front_reports_lines; fault = front_reports_fault }
