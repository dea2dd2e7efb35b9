use Rattle.std.proofs.Common.{◌≡◌, ◌++◌, List, ℕ, length}
use Rattle.mvt_attrs.specs.declared.value.Attribute.{Attribute}
use Rattle.mvt_attrs.specs.Values.{Value}
use Rattle.mvt_attrs.specs.Tags.{Names}
use Rattle.mvt_attrs.specs.Using.{HasUses}
use Rattle.mvt_attrs.specs.Inner.UsedTags.{UsedSoFar}
use Rattle.mvt_attrs.proofs.used_entries.LayerEntries.append_used.Given as goal

abbrev pub invariant-loop-rest : goal.invariant-loop-rest
invariant-loop-rest l = record {
  so_far : (keys : List (List ℕ)) (values : List Value) (attributes : List Attribute) → HasUses l.fn.self keys values
      → Names keys values l.tags attributes → UsedSoFar keys values attributes l.rest l.fn.self l.self l.fn.out.items l.out.items;
  more : List ℕ;
  left : l.out.items ≡ l.fn.out.items ++ more;
}

abbrev pub decreases-loop-rest : goal.decreases-loop-rest
decreases-loop-rest l = length l.rest
