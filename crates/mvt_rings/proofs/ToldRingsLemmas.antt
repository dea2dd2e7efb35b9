-- What telling rings gives: homes that are indices of rings.
use Rattle.std.proofs.Common.{arith, ◌≡◌, ℕ, ◌<◌, List, [], ◌∷◌, length, Result, Ok, Err, Option, Some, None, refl}
use Rattle.mvt_geometry.specs.declared.shape.Point.{Point}
use Rattle.mvt_rings.specs.declared.rings.Ring.{Ring}
use Rattle.mvt_rings.specs.declared.rings.Kept.{Kept}
use Rattle.mvt_rings.specs.declared.holding.Crossing.{Crossing}
use Rattle.mvt_rings.specs.declared.holding.Holders.{Holders}
use Rattle.mvt_rings.specs.Rings.{rings_from}
use Rattle.mvt_rings.specs.Holding.{holders_of, odd_one_from}
use Rattle.mvt_rings.specs.Homes.{homes_after, told, told_as, told_by, told_with}
use Rattle.mvt_rings.proofs.TotalLemmas.{index_below}
use Rattle.mvt_rings.proofs.HomeIndexLemmas.{NumbersBelow, homes_below, leasts_below, length-rings_from, rings_below}
use Rattle.mvt_rings.proofs.JoinedLemmas.{HaveHomes}

-- all that telling rings gives comes of homes that are rings
abbrev pub Told : List Ring → List Kept → Type 0
Told rings kept =
    (h : Holders) × (holders_of rings ≡ Ok h) × (odd_one_from h 0 h.counts ≡ None)
    × (told_by (homes_after h [] 0 rings) rings ≡ kept)

pub same_ok : {X : Type 0} → (x y : X) → (let o : Result X Crossing = Ok x in o) ≡ Ok y → x ≡ y
same_ok x y is = cc

told_as_one : (rings : List Ring) (h : Holders) (odd : Option Crossing) (kept : List Kept) → told_as rings h odd ≡ Ok kept
    → (odd ≡ None) × (told_by (homes_after h [] 0 rings) rings ≡ kept)
told_as_one rings h (Some c) kept is = absurd (cc)
told_as_one rings h None kept is = (refl, same_ok (told_by (homes_after h [] 0 rings) rings) kept is)

told_with_one : (rings : List Ring) (found : Result Holders Crossing) (kept : List Kept) → told_with rings found ≡ Ok kept
    → (h : Holders) × (found ≡ Ok h) × (odd_one_from h 0 h.counts ≡ None) × (told_by (homes_after h [] 0 rings) rings ≡ kept)
told_with_one rings (Ok h) kept is =
    let one = told_as_one rings h (odd_one_from h 0 h.counts) kept is in (h, refl, one.0, one.1)
told_with_one rings (Err c) kept is = absurd (cc)

pub told_one : (rings : List Ring) (kept : List Kept) → told rings ≡ Ok kept → Told rings kept
unfolding told
told_one rings kept is = told_with_one rings (holders_of rings) kept is

have_homes : (n : ℕ) (homes : List ℕ) (rings : List Ring) → 0 < n → NumbersBelow n homes → HaveHomes n homes rings
have_homes n homes [] some below = tt
have_homes n homes (r ∷ rings) some below = (index_below n homes r.index some below, have_homes n homes rings some below)

-- the homes of rings are indices of rings
pub homes_found : (parts : List (List Point)) (h : Holders) → holders_of (rings_from 0 parts) ≡ Ok h
    → HaveHomes (length (rings_from 0 parts)) (homes_after h [] 0 (rings_from 0 parts)) (rings_from 0 parts)
homes_found [] h is = tt
homes_found (part ∷ parts) h is =
    let rings = rings_from 0 (part ∷ parts) in
    let n = length rings in
    let some : 0 < n = omega arith in
    let below = rings_below n 0 (part ∷ parts) (omega (arith, length-rings_from 0 (part ∷ parts))) in
    let leasts = leasts_below n rings [] [] rings h some below tt is in
    have_homes n (homes_after h [] 0 rings) rings some (homes_below n h [] 0 rings some some below leasts tt)
