use Rattle.std.proofs.lemmas.Map.Text.{btree_map_updates_str}
use Rattle.mvt_attrs.proofs.layer_keys.place_of.Goals as goal

pub returns-clause-known : goal.returns-clause-known
returns-clause-known c = λ q.
    btree_map_updates_str c.args.text.now c.args.known.now c.insert.new.self _ c.in_ok-insert.ensures.updates q
