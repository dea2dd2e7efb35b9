use Rattle.std.proofs.Common.{take}
use Rattle.std.specs.List.{AllByRecursion}
use Rattle.mvt_message.specs.ValidItems.{ValidItem}
use Rattle.mvt_tile.proofs.validity.are_valid.Given as goal

abbrev pub invariant-loop-item : goal.invariant-loop-item
invariant-loop-item l = AllByRecursion ValidItem (take l.item-index l.items)
