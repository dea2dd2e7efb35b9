-- The two forms of a text: short in place, or long in a shared block.
use Rattle.std.specs.Prelude.{ℕ, ◌<◌, List, length, ⊤}
use Rattle.std.specs.Arc.{arc_str_bytes}
use Rattle.mvt_base.specs.declared.inline.TheConstants.{MOST_INLINE}
use Rattle.mvt_base.specs.declared.text.Repr.{Repr}
use Rattle.mvt_base.specs.declared.text.Repr.TheVariants.{Short, Long}

-- the text, whatever its form
abbrev pub repr_bytes : Repr → List ℕ
repr_bytes (Short text) = text
repr_bytes (Long text) = arc_str_bytes text

-- a text that fits the room is short
abbrev pub IsInItsForm : Repr → Type 0
IsInItsForm (Short text) = ⊤
IsInItsForm (Long text) = MOST_INLINE < length (arc_str_bytes text)
