use Rattle.std.proofs.Common.{◌≡◌, ◌+◌, length}
use Rattle.mvt_attrs.specs.FirstUses.{lent}
use Rattle.mvt_attrs.specs.Inner.Marking.{AreBelow}
use Rattle.mvt_attrs.proofs.PackedTagsLemmas.{PackedSoFar}
use Rattle.mvt_attrs.proofs.packed_tags.judge_each.Given as goal

abbrev pub invariant-loop-rest : goal.invariant-loop-rest
invariant-loop-rest g l = record {
  so_far : PackedSoFar g.V.TagVisitor.has_tags l.fn.visitor l.visitor l.bytes l.rest (lent l.texts) l.first_indices l.named_by
      l.feature l.values l.is_short;
  room : length l.named_by ≡ length (lent l.texts);
  below : AreBelow l.named_by (l.feature + 1);
}

abbrev pub decreases-loop-rest : goal.decreases-loop-rest
decreases-loop-rest g l = length l.rest
