-- The first feature of each id: ids that rise in a list, others in a map.
use Rattle.std.specs.Prelude.{◌≡◌, ℕ, ◌<◌, ◌==◌, List, [], ◌∷◌, length, Option, Some, None, slice_index_or, if◌then◌else◌}
use Rattle.std.specs.BTreeMap.{get}
use Rattle.std.specs.Option.{option_or}
use Rattle.std.specs.Ordering.{nat_cmp}
use Rattle.mvt_tile_value.specs.declared.first_ids.FirstIds.{FirstIds}

-- ids, each with its feature
abbrev pub Entries : Type 0
Entries = List (ℕ × ℕ)

-- the feature of the first entry with an id
abbrev pub found_in : Entries → ℕ → Option ℕ
found_in [] id = None
found_in ((k, feature) ∷ rest) id = if id == k then Some feature else found_in rest id

-- the id of the entry at place i
abbrev pub id_at : Entries → ℕ → ℕ
id_at entries i = let entry = slice_index_or entries i (0, 0) in entry.0

-- each id is above those before it
abbrev pub AreRising : Entries → Type 0
AreRising entries = (i j : ℕ) → i < j → j < length entries → id_at entries i < id_at entries j

-- an id is above all of these
abbrev pub IsAboveAll : ℕ → Entries → Type 0
IsAboveAll id entries = (i : ℕ) → i < length entries → id_at entries i < id

-- these ids, with what each was first
pub record AreFirst (ids : FirstIds) (first : ℕ → Option ℕ) : Type 0 where
  pub rising : AreRising ids.rising.items
  pub above : (id : ℕ) → IsAboveAll id ids.rising.items → get nat_cmp ids.others id ≡ None
  pub first_is : (id : ℕ) → option_or (found_in ids.rising.items id) (get nat_cmp ids.others id) ≡ first id
