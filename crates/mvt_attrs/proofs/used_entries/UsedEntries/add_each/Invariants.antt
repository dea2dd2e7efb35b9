use Rattle.std.proofs.Common.{◌≡◌, ◌++◌, List, take}
use Rattle.mvt_attrs.specs.Using.{AreUsesOf, used_of}
use Rattle.mvt_attrs.proofs.used_entries.UsedEntries.add_each.Given as goal

abbrev pub invariant-loop-entry : goal.invariant-loop-entry
invariant-loop-entry g l =
    ((entries : List g.row.T.Denot) → AreUsesOf l.fn.self entries → AreUsesOf l.self (entries ++ take l.entry-index l.more))
    × (used_of l.self ≡ used_of l.fn.self)
