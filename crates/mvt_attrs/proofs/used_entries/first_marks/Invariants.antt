use Rattle.mvt_attrs.specs.Inner.Places.{AreFirstMarks}
use Rattle.mvt_attrs.proofs.used_entries.first_marks.Given as goal

abbrev pub invariant-loop-index : goal.invariant-loop-index
invariant-loop-index l = AreFirstMarks l.marks.items l.index l.used
