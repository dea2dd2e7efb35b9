use Rattle.mvt_message.proofs.CopyingLemmas.{features_from_more}
use Rattle.mvt_message.proofs.canonical_features.take_feature.Goals as goal

pub returns-clause-feature : goal.returns-clause-feature
returns-clause-feature g c = λ items start held count from.
    let (f, is, id, kind, drawn) = c.in_ok-known.ensures.found held count from.ready in
    features_from_more (g.V.FeatureVisitor.has_features items c.args.visitor.now)
    (g.V.FeatureVisitor.has_features items c.end_feature.new.self)
    c.args.body.now start c.args.at c.in-Some.after c.args.keys.now held c.args.used c.in_ok-known.known.used
    c.in-Some.payload.now from c.in-Some.ensures.field f is
    (c.in_ok-end_feature.ensures items from.features f c.args.visitor.now from.told drawn id kind)
