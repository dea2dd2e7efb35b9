use Rattle.std.proofs.Common.{◌≡◌, take}
use Rattle.mvt_attrs.proofs.entry_index.add_all.Given as goal

abbrev pub invariant-loop-entry : goal.invariant-loop-entry
invariant-loop-entry g l = l.places.keys ≡ take l.entry-index l.entries
