use Rattle.mvt_rows.proofs.table.visiting.read_layer.Goals as goal

pub returns-in-None-clause-read : goal.returns-in-None-clause-read
returns-in-None-clause-read c =
    rw c.in-None.is at c.in_ok-rows.ensures.found c.args.most (c.new.ensures.items, c.new.ensures.read, c.new.ensures.within)

pub returns-clause-read : goal.returns-clause-read
returns-clause-read c =
    let (found, item, first, is, has) = rw c.in-Some.is at c.in_ok-rows.ensures.found c.args.most
    (c.new.ensures.items, c.new.ensures.read, c.new.ensures.within) in
    rw c.into_table.ensures (found, item, first, is, has.0, has.1.rows)

pub returns-clause-within : goal.returns-clause-within
returns-clause-within c =
    let (found, item, first, is, has) =
    rw c.in-Some.is at c.in_ok-rows.ensures.found c.args.most (c.new.ensures.items, c.new.ensures.read, c.new.ensures.within) in
    rw c.into_table.ensures has.2.within
