use Rattle.mvt_rows.proofs.table.visiting.read_rows_within.Goals as goal

pub returns-clause-read : goal.returns-clause-read
returns-clause-read c =
    let (tile, is, valid, has) =
    c.in_ok-rows.ensures.tile c.args.most
    (rw c.make_room.ensures (c.new-rows.ensures.items, c.new-rows.ensures.read, c.new-rows.ensures.within)) in
    rw c.into_table.ensures (tile, is, valid, has.0, has.1.rows)

pub returns-clause-within : goal.returns-clause-within
returns-clause-within c =
    let (tile, is, valid, has) =
    c.in_ok-rows.ensures.tile c.args.most
    (rw c.make_room.ensures (c.new-rows.ensures.items, c.new-rows.ensures.read, c.new-rows.ensures.within)) in
    rw c.into_table.ensures has.2.within
