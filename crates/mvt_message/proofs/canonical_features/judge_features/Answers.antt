use Rattle.std.proofs.Common.{ℕ, ap, arith, length, subst, ◌∙◌, ◌≡◌}
use Rattle.mvt_attrs.specs.FirstUses.{lent}
use Rattle.mvt_message.specs.Copying.{AreFeaturesFrom}
use Rattle.mvt_message.proofs.CopyingLemmas.{features_from_none}
use Rattle.mvt_message.proofs.canonical_features.judge_features.Goals as goal

pub loop-at-init : goal.loop-at-init
loop-at-init g c = (
  c.requires,
  c.new-layer_keys.ensures ∙ ap lent c.deref.ensures.value,
  λ items has held count ready.
      features_from_none (g.V.FeatureVisitor.has_features items c.args.visitor.now) c.args.body.now c.args.start
      (lent c.args.front.now.keys.items) held ready has,
)

pub returns-clause-features : goal.returns-clause-features
returns-clause-features g c = λ items has held count ready.
    let front = c.args.front.now in
    let counted : length held ≡ c.len-values.result = omega (arith, count, c.len-values.ensures, front.values.ok.0) in
    subst (λ (at : ℕ). AreFeaturesFrom (g.V.FeatureVisitor.has_features items c.loop-at.visitor) c.args.body.now c.args.start
    (lent front.keys.items) held at c.loop-at.used) (omega (arith, c.if-at-front.false))
    (c.loop-at.invariant.2 items has held counted ready)
