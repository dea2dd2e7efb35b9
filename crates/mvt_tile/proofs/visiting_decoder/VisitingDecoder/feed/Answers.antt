use Rattle.std.proofs.Common.{◌++◌, subst, sym}
use Rattle.mvt_tile.specs.Inner.Taking.{HasTaken}
use Rattle.mvt_tile.specs.Visiting.{payloads_in}
use Rattle.mvt_tile.proofs.PayloadLemmas.{payloads_live}
use Rattle.mvt_tile.proofs.VisitedLemmas.{failed_of, stands_of, visited_of, visited_small}
use Rattle.mvt_tile.proofs.visiting_decoder.VisitingDecoder.feed.Goals as goal

pub returns-in-Some-clause-stands : goal.returns-in-Some-clause-stands
returns-in-Some-clause-stands g c = λ given s.
    failed_of 67108864 (g.V.TileVisitor.has_items given) _ _ c.args.self.now c.self.view_is s c.in-Some.error c.args.piece.now c.in-Some.is

pub take-requires : goal.take-requires
take-requires g c =
    let (given, s, visited) = rw c.in_default.is at c.self.invariant in
    record {
      few = (given, payloads_in s, visited.items, visited.has, visited.few);
      small = visited_small 67108864 _ _ s visited;
    }

pub invariant_of-self : goal.invariant_of-self
invariant_of-self g c =
    let (given, s, visited) = rw c.in_default.is at c.self.invariant in
    let (new, has, few, live) = c.in-Ok.ensures.live given (payloads_in s) visited.items visited.has visited.few in
    let same = sym (payloads_live 67108864 _ visited.items _ s c.args.piece.now visited.live) in
    let has_all = subst (λ ps. HasTaken (g.V.TileVisitor.has_items given ps) c.take.new.self.taken new) same has in
    rw c.in_default.is (given, s ++ c.args.piece.now, record { items = new; has = has_all; few = few; live = live s visited.live })

pub returns-in-Ok-clause-stands : goal.returns-in-Ok-clause-stands
returns-in-Ok-clause-stands g c = λ given s stands.
    let visited = visited_of 67108864 (g.V.TileVisitor.has_items given) _ _ c.args.self.now c.self.view_is s c.in_default.is stands in
    let (new, has, few, live) = c.in-Ok.ensures.live given (payloads_in s) visited.items visited.has visited.few in
    let same = sym (payloads_live 67108864 _ visited.items _ s c.args.piece.now visited.live) in
    let has_all = subst (λ ps. HasTaken (g.V.TileVisitor.has_items given ps) c.take.new.self.taken new) same has in
    stands_of 67108864 _ _ _ c.in_default.is (record { items = new; has = has_all; few = few; live = live s visited.live })

pub returns-in-Err-clause-stands : goal.returns-in-Err-clause-stands
returns-in-Err-clause-stands g c = λ given s stands.
    let visited = visited_of 67108864 (g.V.TileVisitor.has_items given) _ _ c.args.self.now c.self.view_is s c.in_default.is stands in
    (c.clear.ensures.items, c.in-Err.ensures.fault given (payloads_in s) visited.items visited.has s visited.live)
