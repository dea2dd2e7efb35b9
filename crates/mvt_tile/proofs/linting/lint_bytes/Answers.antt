use Rattle.mvt_tile.proofs.linting.lint_bytes.Goals as goal

pub returns-clause-tile : goal.returns-clause-tile
returns-clause-tile c =
    let (tile, is, valid, has) = c.in_ok-linter.ensures.tile tt (c.new.ensures.count, c.new.ensures.found) in
    (tile, is, valid, c.into_findings.ensures tile has.1)
