use Rattle.std.proofs.Common.{◌-◌, drop, arith, append-nil, take_all, length-drop, to_z-of_z}
use Rattle.mvt_view.proofs.NumberLemmas.{pair_utf8}
use Rattle.mvt_view.proofs.numbers.push_pair.Goals as goal

pub from_utf8_unchecked-requires : goal.from_utf8_unchecked-requires
from_utf8_unchecked-requires c =
    let w = c.put_after-x_at in
    rw (
      take_all (24 - w.result) (drop w.result w.new.buffer) (omega (arith, length-drop w.result w.new.buffer)),
      w.ensures.written,
      c.put_after-y_at.ensures.written,
      append-nil,
      to_z-of_z c.ranges.x,
      to_z-of_z c.ranges.y,
    )
    (pair_utf8 c.args.before_x c.args.before_y c.args.x c.args.y c.requires.0 c.requires.1 c.ranges.x c.ranges.y)
