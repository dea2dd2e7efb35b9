use Rattle.std.proofs.Common.{refl}
use Rattle.std.proofs.Math.Facts.{Fits-lt-pow}
use Rattle.mvt_message.proofs.ValidLemmas.{item_valid}
use Rattle.mvt_message.specs.declared.item.Item.TheVariants.{Foreign}
use Rattle.mvt_message.proofs.visiting.visit_version_2.Goals as goal

pub returns-in-Some-clause-item : goal.returns-in-Some-clause-item
returns-in-Some-clause-item g c = λ items has before. (
  Foreign c.in-Some.version c.args.payload.now,
  c.in-Some.ensures.foreign,
  item_valid c.args.payload.now _ (λ k. Fits-lt-pow (c.type_inv.payload k)) c.in-Some.ensures.foreign,
  (refl, before),
)
