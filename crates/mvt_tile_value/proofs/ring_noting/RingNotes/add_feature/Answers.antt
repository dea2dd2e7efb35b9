use Rattle.std.proofs.Common.{subst}
use Rattle.mvt_tile_value.specs.Rings.{HasBegun}
use Rattle.mvt_tile_value.proofs.RingLemmas.{all_noted_of, told_layer}
use Rattle.mvt_tile_value.proofs.ring_noting.RingNotes.add_feature.Goals as goal

pub returns-in-Some-clause-feature : goal.returns-in-Some-clause-feature
returns-in-Some-clause-feature c = λ layer feature begun held are.
    let drawn = (rw c.in-Some.is at c.in_ok-known.ensures.feature) held are in
    record {
      tagged = drawn.tagged;
      attributes = drawn.attributes;
      geometry = drawn.geometry;
      resolved = drawn.resolved;
      is = drawn.is;
      kind = drawn.kind;
      holds = all_noted_of layer feature c.args.self.now _ drawn.geometry begun drawn.holds;
    }

pub returns-in_ok-known-in-None-clause-feature : goal.returns-in_ok-known-in-None-clause-feature
returns-in_ok-known-in-None-clause-feature c = λ layer feature begun held are.
    let drawn = rw c.in_ok-known.ensures.same at (c.in_ok-known-in-None.ensures.feature held are) in
    let told = rw c.in-None.is at c.in_ok-known.ensures.told in
    let same = told_layer layer feature c.args.self.now c.draw_usual_feature.new.visitor told.0 begun told.2 in
    let again : HasBegun layer feature c.begin.new.self =
    subst (λ l. HasBegun l feature c.begin.new.self) same
    (subst (λ f. HasBegun c.draw_usual_feature.new.visitor.layer f c.begin.new.self) begun.feature_is c.begin.ensures) in
    record {
      tagged = drawn.tagged;
      attributes = drawn.attributes;
      geometry = drawn.geometry;
      resolved = drawn.resolved;
      is = drawn.is;
      kind = drawn.kind;
      holds = all_noted_of layer feature c.begin.new.self _ drawn.geometry again drawn.holds;
    }
