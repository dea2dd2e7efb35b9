use Rattle.mvt_attrs.proofs.PoolLemmas as pools
use Rattle.mvt_attrs.proofs.entry_index.look_up.Goals as goal

pub returns : goal.returns
returns g c =
    let entry = c.args.entry.now in
    pools.look_up entry (g.T.PartialEq.eq entry) (g.met.T.Entry.identical entry) c.args.places.now.keys c.get_index_of.result
    c.get_index_of.ensures.index c.get_index_of.ensures.found
