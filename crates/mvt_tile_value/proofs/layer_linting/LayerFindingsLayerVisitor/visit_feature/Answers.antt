use Rattle.std.proofs.Common.{length, refl, sym, subst}
use Rattle.mvt_attrs.specs.Tags.{Names}
use Rattle.mvt_feature.specs.declared.feature.Feature.{Feature}
use Rattle.mvt_tile_value.proofs.layer_linting.LayerFindingsLayerVisitor.visit_feature.Goals as goal

pub returns-clause-feature : goal.returns-clause-feature
returns-clause-feature c = λ given held payloads features are has.
    let drawn = c.in_ok-known.ensures.feature given.0 given.1 (length features) has.1 held are in
    let f : Feature = record { id = c.in_ok-known.known.id; attributes = drawn.attributes; geometry = drawn.geometry } in
    let named : Names c.args.keys.now held c.tags.result.now drawn.attributes =
    subst (λ tags. Names c.args.keys.now held tags drawn.attributes) (sym c.tags.ensures) drawn.resolved.named in (
      f,
      drawn.is,
      c.in_ok-add.ensures given.0 given.1 c.args.keys.now held features f (record {
        layer_is = has.0.layer_is;
        large_are = has.0.large_are;
        count_is = has.0.count_is;
        findings_are = has.0.findings_are;
      }) drawn.holds refl named,
    )
