use Rattle.std.proofs.Common.{◌≡◌, take}
use Rattle.mvt_attrs.proofs.used_entries.copied_all.Given as goal

abbrev pub invariant-loop-entry : goal.invariant-loop-entry
invariant-loop-entry g l = l.copies.items ≡ take l.entry-index l.entries
