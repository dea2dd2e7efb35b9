use Rattle.std.proofs.Common.{◌≡◌, ◌+◌, ◌++◌, ◌∷◌, [], rules, arith, length, length-append, subst, ◌∙◌}
use Rattle.mvt_tile_value.specs.Linting.{HasNothing}
use Rattle.mvt_tile_value.proofs.LintingLemmas.{feature_linted}
use Rattle.mvt_tile_value.proofs.layer_linting.LayerFindings.add.Goals as goal

pub returns : goal.returns
returns c = λ layer extent keys values features f before found is names.
    let old = c.args.self.now in
    let n = old.count in
    let next : c.in_ok-self.field-0 ≡ n + 1 = search rules in
    let count : c.in_ok-self.field-0 ≡ length (features ++ f ∷ []) =
    omega (arith, next, before.count_is, length-append features (f ∷ [])) in
    let tags = c.in_ok-lint_tags.ensures keys values f.attributes (c.deref.ensures.value ∙ before.large_are) names in (
      record {
        layer_is = before.layer_is;
        large_are = before.large_are;
        count_is = count;
        findings_are = feature_linted old.layer layer extent n features f c.args.id old.geometry.found c.is_large_id-is_large.result
            old.findings.items c.push_found.new.findings.items c.push_if.new.findings.items c.lint_tags.new.findings.items before.layer_is
            before.count_is is c.is_large_id-is_large.ensures before.findings_are found.found_is c.in_ok-push_found.ensures
            c.in_ok-push_if.ensures.ok tags;
      },
      subst (λ k. HasNothing layer extent k c.begin.new.self) count
          (subst (λ e. HasNothing layer e c.in_ok-self.field-0 c.begin.new.self) found.extent_is
          (subst (λ l. HasNothing l old.geometry.extent c.in_ok-self.field-0 c.begin.new.self) found.layer_is c.begin.ensures)),
    )
