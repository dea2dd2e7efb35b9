-- The home of a ring's home is that home.
use Rattle.std.proofs.Common.{arith, ◌≡◌, ℕ, zero, suc, ◌+◌, ◌%◌, ◌<◌, ◌==◌, Bool, true, false, List, [], ◌∷◌, ◌++◌, append_assoc, append-nil, inl, inr, ◌⊎◌, refl, sym, ap, subst, ◌∙◌}
use Rattle.std.specs.Prelude.{if◌then◌else◌, slice_index, ⊤}
use Rattle.std.specs.List.{AllByRecursion}
use Rattle.std.proofs.lemmas.Bool.{cases_Bool}
use Rattle.std.proofs.lemmas.Bool.Decides.{nat_tests}
use Rattle.mvt_geometry.specs.declared.shape.Point.{Point}
use Rattle.mvt_rings.specs.declared.rings.Ring.{Ring}
use Rattle.mvt_rings.specs.declared.holding.Holders.{Holders}
use Rattle.mvt_rings.specs.Rings.{rings_from}
use Rattle.mvt_rings.specs.Homes.{home_of, homes_after}

-- the size of the ring at an index
abbrev pub size_at : List Ring → ℕ → ℕ
size_at [] i = 0
size_at (r ∷ rings) zero = r.size
size_at (r ∷ rings) (suc i) = size_at rings i

-- rings with their indices
abbrev pub AreNumbered : ℕ → List Ring → Type 0
AreNumbered m [] = ⊤
AreNumbered m (r ∷ rings) = (r.index ≡ m) × AreNumbered (m + 1) rings

pub numbered_from : (m : ℕ) (parts : List (List Point)) → AreNumbered m (rings_from m parts)
numbered_from m [] = tt
numbered_from m (part ∷ parts) = (refl, numbered_from (m + 1) parts)

next : (m j : ℕ) → m + suc j ≡ (m + 1) + j
next m j = omega arith

here : (m : ℕ) → m + 0 ≡ m
here m = omega arith

sizes_from : (all : List Ring) (m : ℕ) (rings : List Ring) → AreNumbered m rings
    → ((j : ℕ) → size_at all (m + j) ≡ size_at rings j) → AllByRecursion (λ r. size_at all r.index ≡ r.size) rings
sizes_from all m [] are at = tt
sizes_from all m (r ∷ rings) are at = (
  ap (size_at all) (are.0 ∙ sym (here m)) ∙ at 0,
  sizes_from all (m + 1) rings are.1 (λ j. ap (size_at all) (sym (next m j)) ∙ at (suc j)),
)

pub sizes : (parts : List (List Point)) → AllByRecursion (λ r. size_at (rings_from 0 parts) r.index ≡ r.size) (rings_from 0 parts)
sizes parts =
    let rings = rings_from 0 parts in
    sizes_from rings 0 rings (numbered_from 0 parts)
    (λ j. let same : 0 + j ≡ j = omega arith in ap (size_at rings) same)

-- the homes of rings, one by one
abbrev pub tails : Holders → ℕ → List Ring → List ℕ
tails h before [] = []
tails h before (r ∷ rings) = home_of h before r ∷ tails h (home_of h before r) rings

pub homes_tails : (h : Holders) (homes : List ℕ) (before : ℕ) (rings : List Ring)
    → homes_after h homes before rings ≡ homes ++ tails h before rings
homes_tails h homes before [] = sym (append-nil homes)
homes_tails h homes before (r ∷ rings) =
    let home = home_of h before r in
    homes_tails h (homes ++ home ∷ []) home rings ∙ append_assoc homes (home ∷ []) (tails h home rings)

-- the home of a ring with area
abbrev pub own_home : Holders → ℕ → ℕ
own_home h i = if slice_index h.counts i % 2 == 0 then i else slice_index h.leasts i

if_solid : (b : Bool) (n x y : ℕ) → b ≡ (n == 0) → (n ≡ 0 → ⊥) → (if b then x else y) ≡ y
if_solid true n x y is solid = absurd (solid (flat n is))
  where
    flat : (n : ℕ) → true ≡ (n == 0) → n ≡ 0
    flat n is = grind (arith, nat_tests)
if_solid false n x y is solid = refl

pub home_solid : (h : Holders) (before : ℕ) (r : Ring) → (r.size ≡ 0 → ⊥) → home_of h before r ≡ own_home h r.index
unfolding home_of
home_solid h before r solid = if_solid (r.size == 0) r.size before (own_home h r.index) refl solid

pub home_flat : (h : Holders) (before : ℕ) (r : Ring) → r.size ≡ 0 → home_of h before r ≡ before
unfolding home_of
home_flat h before r flat = rw flat refl

-- the homes from an index on
abbrev pub AreHomes : List ℕ → ℕ → List ℕ → Type 0
AreHomes homes m rest = (j : ℕ) → slice_index homes (m + j) ≡ slice_index rest j

pub homes_more : (homes : List ℕ) (m x : ℕ) (rest : List ℕ) → AreHomes homes m (x ∷ rest) → AreHomes homes (m + 1) rest
homes_more homes m x rest are j = ap (slice_index homes) (sym (next m j)) ∙ are (suc j)

pub solid_homes : (h : Holders) (homes : List ℕ) (m before : ℕ) (rings : List Ring) → AreNumbered m rings
    → AreHomes homes m (tails h before rings) → (j : ℕ) → (size_at rings j ≡ 0 → ⊥)
    → slice_index homes (m + j) ≡ own_home h (m + j)
solid_homes h homes m before [] are at j solid = absurd (solid refl)
solid_homes h homes m before (r ∷ rings) are at zero solid =
    at 0 ∙ (home_solid h before r solid ∙ ap (own_home h) (are.0 ∙ sym (here m)))
solid_homes h homes m before (r ∷ rings) are at (suc j) solid =
    let home = home_of h before r in
    ap (slice_index homes) (next m j)
    ∙ (solid_homes h homes (m + 1) home rings are.1 (homes_more homes m home (tails h home rings) at) j solid
    ∙ ap (own_home h) (sym (next m j)))

-- rings with area have homes of their own; the least that holds another has area, and one holder less
pub record IsTree (h : Holders) (homes : List ℕ) (S : ℕ → Type 0) : Type 0 where
  pub own : (i : ℕ) → S i → slice_index homes i ≡ own_home h i
  pub less : (i : ℕ) → (slice_index h.counts i ≡ 0 → ⊥)
      → slice_index h.counts (slice_index h.leasts i) + 1 ≡ slice_index h.counts i
  pub solid : (i : ℕ) → (slice_index h.counts i ≡ 0 → ⊥) → S (slice_index h.leasts i)

pub odd_some : (n : ℕ) → (n % 2 == 0) ≡ false → n ≡ 0 → ⊥
odd_some n odd none = some (n % 2) odd (let even : n % 2 ≡ 0 = omega arith in even)
  where
    some : (m : ℕ) → (m == 0) ≡ false → m ≡ 0 → ⊥
    some m is none = grind (arith, nat_tests)

pub odd_is : (n : ℕ) → (n % 2 == 0) ≡ false → n % 2 ≡ 1
odd_is n odd = one (n % 2) odd (omega arith)
  where
    one : (m : ℕ) → (m == 0) ≡ false → m < 2 → m ≡ 1
    one m is few = grind (arith, nat_tests)

pub even_is : (n : ℕ) → (n % 2 == 0) ≡ true → n % 2 ≡ 0
even_is n even = zero_is (n % 2) even
  where
    zero_is : (m : ℕ) → (m == 0) ≡ true → m ≡ 0
    zero_is m is = grind (arith, nat_tests)

even_before : (m n : ℕ) → m + 1 ≡ n → (n % 2 == 0) ≡ false → (m % 2 == 0) ≡ true
even_before m n is odd = test (m % 2) (let one = odd_is n odd in omega arith)
  where
    test : (x : ℕ) → x ≡ 0 → (x == 0) ≡ true
    test x is = grind (arith, nat_tests)

pub if_even : (b : Bool) (x y : ℕ) → b ≡ true → (if b then x else y) ≡ x
if_even b x y is = rw is refl

pub if_odd : (b : Bool) (x y : ℕ) → b ≡ false → (if b then x else y) ≡ y
if_odd b x y is = rw is refl

-- a home that is its own
abbrev pub IsFixed : List ℕ → ℕ → Type 0
IsFixed homes x = slice_index homes x ≡ x

pub own_fixed : (h : Holders) (homes : List ℕ) (S : ℕ → Type 0) → IsTree h homes S → (m : ℕ) → S m → IsFixed homes (own_home h m)
own_fixed h homes S is m solid =
    by_parity (cases_Bool (slice_index h.counts m % 2 == 0))
  where
    by_parity : (slice_index h.counts m % 2 == 0) ≡ true ⊎ (slice_index h.counts m % 2 == 0) ≡ false
        → IsFixed homes (own_home h m)
    by_parity (inl even) =
        let same = if_even (slice_index h.counts m % 2 == 0) m (slice_index h.leasts m) even in
        subst (IsFixed homes) (sym same) (is.own m solid ∙ same)
    by_parity (inr odd) =
        let least = slice_index h.leasts m in
        let some = odd_some (slice_index h.counts m) odd in
        let even = even_before (slice_index h.counts least) (slice_index h.counts m) (is.less m some) odd in
        let same = if_odd (slice_index h.counts m % 2 == 0) m least odd in
        subst (IsFixed homes) (sym same)
        (is.own least (is.solid m some) ∙ if_even (slice_index h.counts least % 2 == 0) least (slice_index h.leasts least) even)
