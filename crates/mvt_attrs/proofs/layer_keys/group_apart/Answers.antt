use Rattle.std.proofs.Common.{subst, arith}
use Rattle.mvt_attrs.specs.FirstUses.{lent}
use Rattle.mvt_attrs.specs.Inner.Places.{AreIndices}
use Rattle.mvt_attrs.proofs.IndicesLemmas.{grouped_apart}
use Rattle.mvt_attrs.proofs.MarkingLemmas.{length-lent}
use Rattle.mvt_attrs.proofs.layer_keys.group_apart.Goals as goal

pub returns : goal.returns
returns c = grouped_apart (lent c.args.texts.now) c.loop-index.first_indices.items c.requires
    (subst (AreIndices c.loop-index.first_indices.items) (omega (arith, length-lent c.args.texts.now)) c.loop-index.invariant)
