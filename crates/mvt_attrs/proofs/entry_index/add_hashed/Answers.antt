use Rattle.mvt_attrs.proofs.PoolLemmas.{inserted}
use Rattle.mvt_attrs.proofs.entry_index.add_hashed.Goals as goal

pub returns-clause-added : goal.returns-clause-added
returns-clause-added g c =
    inserted g.T.PartialEq.eq g.met.T.Entry.identical c.args.places.now.keys _ c.args.entry c.requires c.in_ok-insert.ensures.keys
