use Rattle.mvt_io.proofs.IoLaws.{writes_add_up_nothing, writes_add_up_more, writes_add_up_none, writes_add_up_part}
use Rattle.mvt_io.proofs.laws.writes_add_up.Goals as goal

pub returns : goal.returns
returns c = record {
  nothing = writes_add_up_nothing;
  more = writes_add_up_more;
  none = writes_add_up_none;
  part = writes_add_up_part;
}
