use Rattle.std.proofs.Common.{◌≡◌, ◌+◌, length, map}
use Rattle.mvt_attrs.specs.Inner.Apart.{AreApart, AreMarks, AreNoted}
use Rattle.mvt_attrs.proofs.distinct.are_many_distinct.Given as goal

abbrev pub invariant-loop-index : goal.invariant-loop-index
invariant-loop-index g l =
    let entries = map g.T.AsSlice.items l.entries in
    AreApart entries l.index × AreMarks l.slots.items l.index × AreNoted entries l.slots.items l.room l.index
    × (length l.slots.items ≡ l.room + 32)
