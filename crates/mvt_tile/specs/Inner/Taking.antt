-- What a visitor took, and the names beside it.
use Rattle.std.specs.Prelude.{List}
use Rattle.mvt_message.specs.declared.item.Item.{Item}
use Rattle.mvt_tile.specs.declared.walking.Taken.{Taken}
use Rattle.mvt_tile.specs.Visiting.{HasNamed}

-- the visitor has these items, each of them valid, beside the set of their names
abbrev pub HasTaken : {V : Type 0} → (V → List Item → Type 0) → Taken V → List Item → Type 0
HasTaken Has taken items = HasNamed (Has taken.visitor) taken.names.count taken.names.names items
