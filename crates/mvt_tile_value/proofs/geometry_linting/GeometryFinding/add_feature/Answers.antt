use Rattle.mvt_tile_value.proofs.LintingLemmas.{found_drawn, nothing_again}
use Rattle.mvt_tile_value.proofs.geometry_linting.GeometryFinding.add_feature.Goals as goal

pub returns-in-Some-clause-feature : goal.returns-in-Some-clause-feature
returns-in-Some-clause-feature c = λ layer extent feature nothing held are.
    let drawn = (rw c.in-Some.is at c.in_ok-known.ensures.feature) held are in
    record {
      tagged = drawn.tagged;
      attributes = drawn.attributes;
      geometry = drawn.geometry;
      resolved = drawn.resolved;
      is = drawn.is;
      kind = drawn.kind;
      holds = found_drawn layer extent feature c.args.self.now _ drawn.geometry nothing drawn.holds;
    }

pub returns-in_ok-known-in-None-clause-feature : goal.returns-in_ok-known-in-None-clause-feature
returns-in_ok-known-in-None-clause-feature c = λ layer extent feature nothing held are.
    let drawn = rw c.in_ok-known.ensures.same at (c.in_ok-known-in-None.ensures.feature held are) in
    let told = rw c.in-None.is at c.in_ok-known.ensures.told in
    let again =
    nothing_again layer extent feature c.args.self.now c.draw_usual_feature.new.visitor c.begin.new.self told.0 told.1 nothing told.2
    c.begin.ensures in
    record {
      tagged = drawn.tagged;
      attributes = drawn.attributes;
      geometry = drawn.geometry;
      resolved = drawn.resolved;
      is = drawn.is;
      kind = drawn.kind;
      holds = found_drawn layer extent feature c.begin.new.self _ drawn.geometry again drawn.holds;
    }
