-- What is known of the entries of a pool, by the form in which their places are found.
use Rattle.std.specs.Prelude.{◌≡◌, ℕ, List, Option}
use Rattle.std.specs.declared.cmp.Ordering.{Ordering}
use Rattle.mvt_attrs.specs.declared.entry_index.EntryIndex.{EntryIndex}
use Rattle.mvt_attrs.specs.declared.entry_index.EntryIndex.TheVariants.{Plain, Hashed, TwoChoices}
use Rattle.mvt_attrs.specs.Inner.Choosing.{IsTwoChoices, IsFreeFor}

-- a hash has the entries in their order
abbrev pub Knows : {T : Type 0} → (T → T → Ordering) → (T → List (List ℕ)) → EntryIndex T → List T → Type 0
Knows cmp input Plain entries = Unit {0}
Knows cmp input (Hashed places) entries = places.keys ≡ entries
Knows cmp input (TwoChoices two_choices) entries = IsTwoChoices cmp input two_choices entries

-- the slot of a new entry, where there are slots
abbrev pub IsRoomFor : {T : Type 0} → (T → List (List ℕ)) → EntryIndex T → T → Option ℕ → Type 0
IsRoomFor input Plain x slot = Unit {0}
IsRoomFor input (Hashed places) x slot = Unit {0}
IsRoomFor input (TwoChoices two_choices) x slot = IsFreeFor input two_choices x slot
