-- The home of each ring is the index of a ring.
use Rattle.std.proofs.Common.{arith, ◌≡◌, ℕ, suc, nat_le, ◌||◌, ◌+◌, ◌<◌, ◌≤◌, ◌%◌, ◌==◌, Bool, true, false, List, [], ◌∷◌, ◌++◌, length, Result, Ok, Err, refl, ap, subst}
use Rattle.std.specs.Prelude.{if◌then◌else◌, slice_index}
use Rattle.std.specs.List.{AllByRecursion}
use Rattle.mvt_base.proofs.ListLemmas.{all_joined}
use Rattle.mvt_geometry.specs.declared.shape.Point.{Point}
use Rattle.mvt_rings.specs.declared.rings.Ring.{Ring}
use Rattle.mvt_rings.specs.declared.placing.Place.{Place}
use Rattle.mvt_rings.specs.declared.placing.Place.TheVariants.{Held, Apart, Unclear}
use Rattle.mvt_rings.specs.declared.holding.Crossing.{Crossing}
use Rattle.mvt_rings.specs.declared.holding.Holder.{Holder}
use Rattle.mvt_rings.specs.declared.holding.Holders.{Holders}
use Rattle.mvt_rings.specs.Rings.{rings_from, may_hold, place}
use Rattle.mvt_rings.specs.Holding.{and_then, held_after, holder_of, holders_after, no_holder, with_placed, is_unclear}
use Rattle.mvt_rings.specs.Homes.{home_of, homes_after}
use Rattle.mvt_rings.proofs.TotalLemmas.{index_below}

-- the indices of rings are below a number
abbrev pub AreBelow : ℕ → List Ring → Type 0
AreBelow n rings = AllByRecursion (λ r. r.index < n) rings

pub rings_below : (n k : ℕ) (parts : List (List Point)) → k + length parts ≤ n → AreBelow n (rings_from k parts)
rings_below n k [] few = tt
rings_below n k (part ∷ parts) few = (omega arith, rings_below n (k + 1) parts (omega arith))

pub length-rings_from : (k : ℕ) (parts : List (List Point)) → length (rings_from k parts) ≡ length parts
length-rings_from k [] = refl
length-rings_from k (part ∷ parts) = ap suc (length-rings_from (k + 1) parts)

abbrev pub longer : Bool → Holder → Ring → Holder
longer b h o =
    if b then record { count = h.count + 1; least = o.index; size = o.size }
    else record { count = h.count + 1; least = h.least; size = h.size }

least_with : (b : Bool) (n : ℕ) (h : Holder) (o : Ring) → h.least < n → o.index < n → (longer b h o).least < n
least_with true n h o old new = new
least_with false n h o old new = old

least_placed : (n : ℕ) (h : Holder) (o : Ring) (p : Place) → h.least < n → o.index < n → (with_placed h o p).least < n
least_placed n h o Held old new = least_with ((h.count == 0) || nat_le o.size h.size) n h o old new
least_placed n h o Apart old new = old
least_placed n h o Unclear old new = old

-- of what is found the last step is one of two
either : (P : Holder → Type 0) (b c : Bool) (found : Holder) (x : Crossing) (one none : Result Holder Crossing)
    → (one ≡ Ok found → P found) → (none ≡ Ok found → P found)
    → (if b then (if c then Err x else one) else none) ≡ Ok found → P found
either P true true found x one none taken left is = absurd (cc)
either P true false found x one none taken left is = taken is
either P false c found x one none taken left is = left is

held_below : (n : ℕ) (r : Ring) (h : Holder) (rings : List Ring) (found : Holder) → h.least < n → AreBelow n rings
    → held_after r h rings ≡ Ok found → found.least < n
held_below n r h [] found old below is =
    let same : h ≡ found = cc in subst (λ (x : Holder). x.least < n) same old
held_below n r h (o ∷ rings) found old below is =
    either (λ x. x.least < n) (may_hold o r) (is_unclear (place o r)) found (record { outer = o.index; inner = r.index })
    (held_after r (with_placed h o (place o r)) rings) (held_after r h rings)
    (held_below n r (with_placed h o (place o r)) rings found (least_placed n h o (place o r) old below.0) below.1)
    (held_below n r h rings found old below.1) is

holder_case : (b : Bool) (n : ℕ) (found : Holder) (one : Result Holder Crossing) → 0 < n → (one ≡ Ok found → found.least < n)
    → (if b then Ok no_holder else one) ≡ Ok found → found.least < n
holder_case true n found one some taken is =
    let same : no_holder ≡ found = cc in subst (λ (x : Holder). x.least < n) same some
holder_case false n found one some taken is = taken is

holder_below : (n : ℕ) (rings : List Ring) (r : Ring) (found : Holder) → 0 < n → AreBelow n rings
    → holder_of rings r ≡ Ok found → found.least < n
unfolding holder_of
holder_below n rings r found some below is =
    holder_case (r.size == 0) n found (held_after r no_holder rings) some (held_below n r no_holder rings found some below) is

abbrev pub NumbersBelow : ℕ → List ℕ → Type 0
NumbersBelow n xs = AllByRecursion (λ x. x < n) xs

pub after_one : (f : Holder → Result Holders Crossing) (one : Result Holder Crossing) (h : Holders) → and_then f one ≡ Ok h
    → (x : Holder) × (one ≡ Ok x) × (f x ≡ Ok h)
after_one f (Ok x) h is = (x, refl, is)
after_one f (Err c) h is = absurd (cc)

pub leasts_below : (n : ℕ) (all : List Ring) (counts leasts : List ℕ) (rings : List Ring) (h : Holders) → 0 < n → AreBelow n all
    → NumbersBelow n leasts → holders_after all counts leasts rings ≡ Ok h → NumbersBelow n h.leasts
leasts_below n all counts leasts [] h some below old is =
    let whole : Holders = record { counts = counts; leasts = leasts } in
    let same : whole ≡ h = cc in subst (λ (x : Holders). NumbersBelow n x.leasts) same old
leasts_below n all counts leasts (r ∷ rings) h some below old is =
    let step =
    after_one (λ x. holders_after all (counts ++ x.count ∷ []) (leasts ++ x.least ∷ []) rings) (holder_of all r) h is in
    leasts_below n all (counts ++ step.0.count ∷ []) (leasts ++ step.0.least ∷ []) rings h some below
    (all_joined (λ x. x < n) leasts (step.0.least ∷ []) old (holder_below n all r step.0 some below step.1, tt)) step.2

one_of_three : (a b : Bool) (n x y z : ℕ) → x < n → y < n → z < n → (if a then x else (if b then y else z)) < n
one_of_three true b n x y z p q r = p
one_of_three false true n x y z p q r = q
one_of_three false false n x y z p q r = r

home_below : (n : ℕ) (h : Holders) (before : ℕ) (r : Ring) → 0 < n → before < n → r.index < n → NumbersBelow n h.leasts
    → home_of h before r < n
unfolding home_of
home_below n h before r some old new below =
    one_of_three (r.size == 0) (slice_index h.counts r.index % 2 == 0) n before r.index (slice_index h.leasts r.index) old new
    (index_below n h.leasts r.index some below)

pub homes_below : (n : ℕ) (h : Holders) (homes : List ℕ) (before : ℕ) (rings : List Ring) → 0 < n → before < n
    → AreBelow n rings → NumbersBelow n h.leasts → NumbersBelow n homes → NumbersBelow n (homes_after h homes before rings)
homes_below n h homes before [] some old new below before_them = before_them
homes_below n h homes before (r ∷ rings) some old new below before_them =
    let here = home_below n h before r some old new.0 below in
    homes_below n h (homes ++ home_of h before r ∷ []) (home_of h before r) rings some here new.1 below
    (all_joined (λ x. x < n) homes (home_of h before r ∷ []) before_them (here, tt))
