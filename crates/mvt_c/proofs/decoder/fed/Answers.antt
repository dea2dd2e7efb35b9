use Rattle.std.proofs.Common.{◌++◌}
use Rattle.std.proofs.lemmas.Result.{err_from_is_err_and}
use Rattle.mvt_c.proofs.RefusalLemmas.{fed_shown}
use Rattle.mvt_c.proofs.decoder.fed.Goals as goal

pub returns-in_err-feed-clause-stands : goal.returns-in_err-feed-clause-stands
returns-in_err-feed-clause-stands c = λ most s stands. c.feed.ensures.stands most s stands

pub returns-in_err-feed-clause-refused : goal.returns-in_err-feed-clause-refused
returns-in_err-feed-clause-refused c =
    let p = err_from_is_err_and c.from_residual.result c.from_residual.ensures.1 in
    rw (p.1, p.2)
    (λ most s stands. fed_shown _ _ _ (s ++ c.args.piece.now) _ (c.feed.ensures.stands most s stands)
    (rw c.in_err-feed.was at c.feed.ensures.answer))

pub returns-clause-stands : goal.returns-clause-stands
returns-clause-stands c = λ most s stands. c.feed.ensures.stands most s stands
