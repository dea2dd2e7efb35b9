use Rattle.std.proofs.Common.{arith}
use Rattle.std.proofs.lemmas.List.{length-map}
use Rattle.mvt_rings.proofs.HomesLemmas.{join_at, join_none}
use Rattle.mvt_rings.proofs.homes.join.Goals as goal

pub returns-in_ok-push : goal.returns-in_ok-push
returns-in_ok-push c =
    join_at _ c.args.polygons.now.items c.args.index c.args.ring c.push.new.self c.index_mut.result.now (omega arith) c.index_mut.ensures.value c.in_ok-push.ensures.items

pub returns-else-index-len : goal.returns-else-index-len
returns-else-index-len c = join_none _ _ _ (simp length-map (omega arith))
