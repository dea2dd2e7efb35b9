-- Rings told by what holds them: even-odd.
use Rattle.std.specs.Prelude.{ℕ, ◌%◌, ◌==◌, Bool, if◌then◌else◌, List, [], ◌∷◌, ◌++◌, slice_index, filter, zero, suc, Option, Some, None, Result, Ok, Err}
use Rattle.std.specs.List.{flat_map}
use Rattle.mvt_rings.specs.declared.rings.Ring.{Ring}
use Rattle.mvt_rings.specs.declared.rings.Kept.{Kept}
use Rattle.mvt_rings.specs.declared.holding.Crossing.{Crossing}
use Rattle.mvt_rings.specs.declared.holding.Holders.{Holders}
use Rattle.mvt_rings.specs.Repeats.{is_long}
use Rattle.mvt_rings.specs.Turning.{as_exterior, as_interior}
use Rattle.mvt_rings.specs.Holding.{holders_of, odd_one_from}

-- the exterior ring of a ring's polygon: itself if an even number hold it, else the least of these. A ring without area
-- stays with the one before it
unfoldable pub home_of : Holders → ℕ → Ring → ℕ
home_of h before r =
    if r.size == 0 then before else (if slice_index h.counts r.index % 2 == 0 then r.index else slice_index h.leasts r.index)

-- those of all rings, after others
abbrev pub homes_after : Holders → List ℕ → ℕ → List Ring → List ℕ
homes_after h homes before [] = homes
homes_after h homes before (r ∷ rings) = homes_after h (homes ++ home_of h before r ∷ []) (home_of h before r) rings

abbrev pub exterior : Ring → Kept
exterior r = record { index = r.index; points = as_exterior r.points }

abbrev pub interior : Ring → Kept
interior r = record { index = r.index; points = as_interior r.points }

-- a ring's polygon, as far as it begins one
abbrev pub begun : List ℕ → Ring → List Kept
begun homes r = if slice_index homes r.index == r.index then exterior r ∷ [] else []

-- a list of one more polygon's rings
abbrev pub begun_after : List ℕ → List (List Kept) → List Ring → List (List Kept)
begun_after homes polygons [] = polygons
begun_after homes polygons (r ∷ rings) = begun_after homes (polygons ++ begun homes r ∷ []) rings

-- one more ring at the end of the polygon of this index
abbrev pub join : ℕ → Kept → List (List Kept) → List (List Kept)
join n r [] = []
join zero r (p ∷ polygons) = (p ++ r ∷ []) ∷ polygons
join (suc n) r (p ∷ polygons) = p ∷ join n r polygons

-- each ring that begins no polygon stands at the end of its home's
abbrev pub joined : List ℕ → List (List Kept) → List Ring → List (List Kept)
joined homes polygons [] = polygons
joined homes polygons (r ∷ rings) =
    if slice_index homes r.index == r.index then joined homes polygons rings
    else joined homes (join (slice_index homes r.index) (interior r) polygons) rings

abbrev pub has_ring : Kept → Bool
has_ring r = is_long 3 r.points

-- polygon by polygon, without rings that have too few points
unfoldable pub told_by : List ℕ → List Ring → List Kept
told_by homes rings = flat_map (λ p. filter has_ring p) (joined homes (begun_after homes [] rings) rings)

-- 4.3.4.4: rings each in the direction that it should have, exteriors in their order and each behind its own; or two that
-- cross
abbrev pub told_as : List Ring → Holders → Option Crossing → Result (List Kept) Crossing
told_as rings h (Some c) = Err c
told_as rings h None = Ok (told_by (homes_after h [] 0 rings) rings)

abbrev pub told_with : List Ring → Result Holders Crossing → Result (List Kept) Crossing
told_with rings (Ok h) = told_as rings h (odd_one_from h 0 h.counts)
told_with rings (Err c) = Err c

unfoldable pub told : List Ring → Result (List Kept) Crossing
told rings = told_with rings (holders_of rings)
