use Rattle.std.proofs.Common.{ℕ, List, ◌++◌}
use Rattle.mvt_message.specs.declared.item.Item.{Item}
use Rattle.mvt_tile.proofs.JudgeLemmas.{JudgedSoFar}
use Rattle.mvt_tile.specs.Inner.Taking.{HasTaken}
use Rattle.mvt_tile.specs.Visiting.{payloads_of}
use Rattle.mvt_tile.proofs.walking.walk_fields.Given as goal

abbrev pub invariant-loop-field : goal.invariant-loop-field
invariant-loop-field g l =
    (input : g.V.TileVisitor.Given) (payloads : List (List ℕ)) (items : List Item)
    → HasTaken (g.V.TileVisitor.has_items input payloads) l.initial.taken items
    → (now : List Item) × (so_far : JudgedSoFar l.offset l.bytes items now l.field-iterator.to_come)
    × HasTaken (g.V.TileVisitor.has_items input (payloads ++ payloads_of so_far.done)) l.taken now
