use Rattle.std.proofs.Common.{[], refl}
use Rattle.mvt_message.specs.declared.visiting.Visited.TheVariants.{Layer, Foreign}
use Rattle.mvt_message.specs.Items.{IsItem}
use Rattle.mvt_message.specs.Rewriting.{HasRewritten}
use Rattle.mvt_message.specs.ValidItems.{ValidItem}
use Rattle.mvt_message.proofs.VisitLemmas.{layer_visited, foreign_visited, foreign_bytes, foreign_made}
use Rattle.mvt_message.proofs.RewriteLemmas.{layer_rewritten}
use Rattle.mvt_message.proofs.layer_rewriting.LayerRewriter.finish.Goals as goal

pub returns-in-Layer : goal.returns-in-Layer
returns-in-Layer g c = λ items payload item is valid visited.
    let reported = rw c.in-Layer.is at visited in
    let (layer, told, p) =
    layer_visited (λ r. g.V.FeatureVisitor.has_features items r.visitor []) (HasRewritten (g.V.FeatureVisitor.has_features items))
    payload c.args.self (Layer c.in-Layer.name c.in-Layer.extent)
    (λ i. IsItem payload i × ValidItem i) (λ number content none. none) item reported (is, valid) in
    let written = told.2.0 in (
      layer,
      p.0,
      p.1,
      told.0,
      told.2.1,
      layer_rewritten layer _ _ c.args.self.writer.uses c.args.self.writer.features.items told.0 told.1
          written.keys_are written.values_are written.written,
    )

pub returns : goal.returns
returns g c = λ items payload item is valid visited.
    let reported = rw c.in-Foreign.is at visited in
    let (number, content, told, p) =
    foreign_visited (λ r. g.V.FeatureVisitor.has_features items r.visitor []) (HasRewritten (g.V.FeatureVisitor.has_features items))
    payload c.args.self (Foreign c.in-Foreign.version)
    (λ i. IsItem payload i × ValidItem i) (λ layer none. none) item reported (is, valid) in
    foreign_made (λ i. IsItem payload i × ValidItem i) {number = number} {content = content} payload c.in-Foreign.version
    (foreign_bytes payload number content p.0) told.0
    refl p
