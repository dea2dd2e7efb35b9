use Rattle.std.proofs.Common.{◌≡◌, ◌++◌, OnOk, subst}
use Rattle.mvt_tile_value.proofs.LintingLemmas.{found_drawn}
use Rattle.mvt_tile_value.proofs.linting.lint_geometry.Goals as goal

pub returns : goal.returns
returns c =
    let a = c.args in
    let found = found_drawn a.layer a.extent a.feature c.new-visitor.result _ a.geometry.now c.new-visitor.ensures c.in_ok-tell_geometry.ensures in
    subst (λ fs. OnOk c.push_found.result (c.push_found.new.findings.items ≡ a.findings.now.items ++ fs)) found.found_is c.push_found.ensures
