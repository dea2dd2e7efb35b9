-- Which rings hold a ring.
use Rattle.std.specs.Prelude.{ℕ, ◌+◌, ◌-◌, ◌==◌, nat_le, ◌&&◌, ◌||◌, not, Bool, true, false, if◌then◌else◌, List, [], ◌∷◌, ◌++◌, slice_index, Option, Some, None, Result, Ok, Err}
use Rattle.mvt_rings.specs.declared.rings.Ring.{Ring}
use Rattle.mvt_rings.specs.declared.placing.Place.{Place}
use Rattle.mvt_rings.specs.declared.placing.Place.TheVariants.{Held, Apart, Unclear}
use Rattle.mvt_rings.specs.declared.holding.Crossing.{Crossing}
use Rattle.mvt_rings.specs.declared.holding.Holder.{Holder}
use Rattle.mvt_rings.specs.declared.holding.Holders.{Holders}
use Rattle.mvt_rings.specs.Rings.{may_hold, place}

-- no ring holds it
abbrev pub no_holder : Holder
no_holder = record { count = 0; least = 0; size = 0 }

-- with one more: the least is that of the least area, of equal ones the last
abbrev pub with_holder : Holder → Ring → Holder
with_holder h o =
    if (h.count == 0) || nat_le o.size h.size then record { count = h.count + 1; least = o.index; size = o.size }
    else record { count = h.count + 1; least = h.least; size = h.size }

-- with one more, if it holds the ring
abbrev pub with_placed : Holder → Ring → Place → Holder
with_placed h o Held = with_holder h o
with_placed h o Apart = h
with_placed h o Unclear = h

abbrev pub is_unclear : Place → Bool
is_unclear Held = false
is_unclear Apart = false
is_unclear Unclear = true

-- what holds a ring, of these and those before; or the first that crosses it
abbrev pub held_after : Ring → Holder → List Ring → Result Holder Crossing
held_after r h [] = Ok h
held_after r h (o ∷ rings) =
    if may_hold o r then (if is_unclear (place o r) then Err (record { outer = o.index; inner = r.index }) else held_after r (with_placed h o (place o r)) rings)
    else held_after r h rings

-- what holds a ring that has area: of each other one nothing is asked
unfoldable pub holder_of : List Ring → Ring → Result Holder Crossing
holder_of rings r = if r.size == 0 then Ok no_holder else held_after r no_holder rings

-- what comes of a ring's holder
abbrev pub and_then : (Holder → Result Holders Crossing) → Result Holder Crossing → Result Holders Crossing
and_then f (Ok h) = f h
and_then f (Err c) = Err c

-- how many rings hold each, and the least of them
abbrev pub holders_after : List Ring → List ℕ → List ℕ → List Ring → Result Holders Crossing
holders_after all counts leasts [] = Ok (record { counts = counts; leasts = leasts })
holders_after all counts leasts (r ∷ rings) =
    and_then (λ h. holders_after all (counts ++ h.count ∷ []) (leasts ++ h.least ∷ []) rings) (holder_of all r)

abbrev pub holders_of : List Ring → Result Holders Crossing
holders_of rings = holders_after rings [] [] rings

-- the least ring that holds another has one holder less, where rings are a tree
unfoldable pub is_odd_one : Holders → ℕ → ℕ → Bool
is_odd_one h n count = not (count == 0) && not (slice_index h.counts (slice_index h.leasts n) == (count - 1))

-- the first ring, of this index on, of which that doesn't hold, and its least holder
abbrev pub odd_one_from : Holders → ℕ → List ℕ → Option Crossing
odd_one_from h n [] = None
odd_one_from h n (count ∷ counts) =
    if is_odd_one h n count then Some (record { outer = slice_index h.leasts n; inner = n }) else odd_one_from h (n + 1) counts
