use Rattle.std.proofs.lemmas.Result.{err_from_is_err_and}
use Rattle.mvt_tile.proofs.VisitedLemmas.{visited_of}
use Rattle.mvt_tile.proofs.visiting_decoder.VisitingDecoder.finish.Goals as goal

pub returns-in_err-taken-clause-fault : goal.returns-in_err-taken-clause-fault
returns-in_err-taken-clause-fault g c =
    let p = err_from_is_err_and c.from_residual.result c.from_residual.ensures.1 in
    rw (p.1, p.2)
    (λ given s stands.
    let visited = visited_of 67108864 (g.V.TileVisitor.has_items given) _ _ c.args.self c.self.view_is s c.in_default.is stands in
    c.in_err-taken.ensures.fault visited.items s visited.live)

pub returns-clause-tile : goal.returns-clause-tile
returns-clause-tile g c = λ given s stands.
    let visited = visited_of 67108864 (g.V.TileVisitor.has_items given) _ _ c.args.self c.self.view_is s c.in_default.is stands in
    let done = c.in_ok-taken.ensures.tile visited.items s visited.live in (
      record { items = visited.items },
      done.1,
      record { items = visited.has.1; names = done.1.distinct },
      rw done.0 visited.has.2,
    )

pub returns-clause-valid : goal.returns-clause-valid
returns-clause-valid g c =
    let (given, s, visited) = rw c.in_default.is at c.self.invariant in
    let done = c.in_ok-taken.ensures.tile visited.items s visited.live in (
      given,
      s,
      record { items = visited.items },
      record { items = visited.has.1; names = done.1.distinct },
      rw done.0 visited.has.2,
    )
