use Rattle.std.proofs.lemmas.Result.{err_from_is_err_and}
use Rattle.mvt_callers.proofs.StreamingLemmas.{fault_of_pieces}
use Rattle.mvt_callers.proofs.streaming.tile_of_pieces.Goals as goal

pub returns-in_err-feed-clause-fault : goal.returns-in_err-feed-clause-fault
returns-in_err-feed-clause-fault c =
    let p = err_from_is_err_and c.from_residual.result c.from_residual.ensures.1 in
    let stands = c.feed.ensures.stands _ c.loop-piece.invariant in
    let answer = rw c.in_err-feed.was at c.feed.ensures.answer in
    rw (p.1, p.2) (fault_of_pieces c.args.pieces.now c.loop-piece.piece-index _ c.feed.new.self _ c.loop-piece-test.true stands answer)
