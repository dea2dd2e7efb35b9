use Rattle.std.proofs.lemmas.Option.{IfSome_then}
use Rattle.std.proofs.lemmas.Result.{err_from_is_err_and}
use Rattle.mvt_tile.proofs.linting.lint_tile.Goals as goal

pub read_whole-requires : goal.read_whole-requires
read_whole-requires g c = record { start = (tt, (c.new.ensures.count, c.new.ensures.found)) }

pub returns-clause-tile : goal.returns-clause-tile
returns-clause-tile g c =
    let (payloads, tile, has, distinct, is) = c.in_ok-visitor.ensures.tile tt (c.new.ensures.count, c.new.ensures.found) in (
      tile,
      c.into_findings.ensures tile has.2.1,
      IfSome_then (g.R.Source.state c.args.reader.now).left is (λ input of. (of, record { items = has.1; names = distinct })),
    )

pub returns-in_err-visitor-clause-read : goal.returns-in_err-visitor-clause-read
returns-in_err-visitor-clause-read g c =
    let p = err_from_is_err_and c.from_residual.result c.from_residual.ensures.1 in
    rw (p.1, p.2) c.in_err-visitor.ensures.read
