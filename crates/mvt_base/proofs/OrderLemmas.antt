-- A table in order: its first fault is that of the broken rule of least rank.
use Rattle.std.proofs.Common.{◌≡◌, ℕ, suc, ◌<◌, ◌≤◌, inl, inr, Bool, true, false, List, [], ◌∷◌, ◌++◌, length, Some, refl, sym, ap, subst, arith, length-append}
use Rattle.std.specs.Prelude.{⊤}
use Rattle.mvt_base.specs.Rules.{Rules, Precedes, PrecedesAll, AreOrdered, IsOneOf, IsLeast, when, under, map_faults, rows, each, first}

-- no rank precedes itself
pub precedes_not_itself : (r : List ℕ) → Precedes r r → ⊥
precedes_not_itself [] h = h
precedes_not_itself (n ∷ ns) (inl h) = omega arith
precedes_not_itself (n ∷ ns) (inr h) = precedes_not_itself ns h.1

pub precedes_one_way : (r s : List ℕ) → Precedes r s → Precedes s r → ⊥
precedes_one_way [] [] h k = h
precedes_one_way [] (n ∷ ns) h k = k
precedes_one_way (m ∷ ms) [] h k = h
precedes_one_way (m ∷ ms) (n ∷ ns) (inl h) (inl k) = omega arith
precedes_one_way (m ∷ ms) (n ∷ ns) (inl h) (inr k) = omega (arith, k.0)
precedes_one_way (m ∷ ms) (n ∷ ns) (inr h) (inl k) = omega (arith, h.0)
precedes_one_way (m ∷ ms) (n ∷ ns) (inr h) (inr k) = precedes_one_way ms ns h.1 k.1

precedes_one : {F : Type 0} → (rank : List ℕ) (rules : Rules F) (other : List ℕ × F) → PrecedesAll rank rules → IsOneOf rules other
    → Precedes rank other.0
precedes_one rank [] other all is = absurd is
precedes_one {F = F} rank (r ∷ rs) other all (inl e) = subst (λ (s : List ℕ × F). Precedes rank s.0) e all.0
precedes_one rank (r ∷ rs) other all (inr is) = precedes_one rank rs other all.1 is

pub first_is_least : {F : Type 0} → (rules : Rules F) (f : F) → AreOrdered rules → first rules ≡ Some f → IsLeast rules f
first_is_least [] f ordered e = cc
first_is_least {F = F} (r ∷ rs) f ordered e =
    let same : r.1 ≡ f = cc in
    (r.0, inl (ap (λ x. (r.0, x)) same), λ other is before. of_other other before is)
  where
    of_other : (other : List ℕ × F) → Precedes other.0 r.0 → IsOneOf (r ∷ rs) other → ⊥
    of_other other before (inl is) = precedes_not_itself r.0 (subst (λ (s : List ℕ × F). Precedes s.0 r.0) (sym is) before)
    of_other other before (inr is) = precedes_one_way r.0 other.0 (precedes_one r.0 rs other ordered.0 is) before

pub least_is_first : {F : Type 0} → (rules : Rules F) (f : F) → AreOrdered rules → IsLeast rules f → first rules ≡ Some f
least_is_first [] f ordered least = absurd least.1
least_is_first {F = F} (r ∷ rs) f ordered (rank, is, least) = by_place is
  where
    by_place : IsOneOf (r ∷ rs) (rank, f) → Some r.1 ≡ Some f
    by_place (inl e) = ap (λ s. Some s.1) e
    by_place (inr later) = absurd (least r (inl refl) (precedes_one r.0 rs (rank, f) ordered.0 later))

-- the number that a rank begins with is at least n
abbrev pub BeginsFrom : ℕ → List ℕ → Type 0
BeginsFrom n [] = ⊥
BeginsFrom n (m ∷ ms) = n ≤ m

abbrev pub AllFrom : {F : Type 0} → ℕ → Rules F → Type 0
AllFrom n [] = ⊤
AllFrom n (r ∷ rs) = BeginsFrom n r.0 × AllFrom n rs

begins_later : (m n : ℕ) (rank : List ℕ) → m ≤ n → BeginsFrom n rank → BeginsFrom m rank
begins_later m n [] le h = h
begins_later m n (k ∷ ks) le h = omega arith

pub all_later : {F : Type 0} → (m n : ℕ) (rules : Rules F) → m ≤ n → AllFrom n rules → AllFrom m rules
all_later m n [] le h = tt
all_later m n (r ∷ rs) le h = (begins_later m n r.0 le h.0, all_later m n rs le h.1)

pub under_from : {F : Type 0} → (n : ℕ) (rules : Rules F) → AllFrom n (under n rules)
under_from n [] = tt
under_from n (r ∷ rs) = (omega arith, under_from n rs)

pub from-append : {F : Type 0} → (n : ℕ) (xs ys : Rules F) → AllFrom n xs → AllFrom n ys → AllFrom n (xs ++ ys)
from-append n [] ys h k = k
from-append n (x ∷ xs) ys h k = (h.0, from-append n xs ys h.1 k)

under_precedes : {F : Type 0} → (n : ℕ) (rank : List ℕ) (rules : Rules F) → PrecedesAll rank rules → PrecedesAll (n ∷ rank) (under n rules)
under_precedes n rank [] h = tt
under_precedes n rank (r ∷ rs) h = (inr (refl, h.0), under_precedes n rank rs h.1)

pub under_ordered : {F : Type 0} → (n : ℕ) (rules : Rules F) → AreOrdered rules → AreOrdered (under n rules)
under_ordered n [] h = tt
under_ordered n (r ∷ rs) h = (under_precedes n r.0 rs h.0, under_ordered n rs h.1)

one_precedes_later : (m n : ℕ) (ms rank : List ℕ) → m < n → BeginsFrom n rank → Precedes (m ∷ ms) rank
one_precedes_later m n ms [] lt h = h
one_precedes_later m n ms (k ∷ ks) lt h = inl (omega arith)

precedes_later : {F : Type 0} → (m n : ℕ) (ms : List ℕ) (rules : Rules F) → m < n → AllFrom n rules → PrecedesAll (m ∷ ms) rules
precedes_later m n ms [] lt h = tt
precedes_later m n ms (r ∷ rs) lt h = (one_precedes_later m n ms r.0 lt h.0, precedes_later m n ms rs lt h.1)

pub precedes-append : {F : Type 0} → (rank : List ℕ) (xs ys : Rules F) → PrecedesAll rank xs → PrecedesAll rank ys
    → PrecedesAll rank (xs ++ ys)
precedes-append rank [] ys h k = k
precedes-append rank (x ∷ xs) ys h k = (h.0, precedes-append rank xs ys h.1 k)

-- rules under n, and then a table in order whose ranks begin after n
pub under_then : {F : Type 0} → (n : ℕ) (rules later : Rules F) → AreOrdered rules → AreOrdered later → AllFrom (suc n) later
    → AreOrdered (under n rules ++ later)
under_then n [] later h k from = k
under_then n (r ∷ rs) later h k from = (
  precedes-append (n ∷ r.0) (under n rs) later (under_precedes n r.0 rs h.0) (precedes_later n (suc n) r.0 later (omega arith) from),
  under_then n rs later h.1 k from,
)

pub when_ordered : {F : Type 0} → (b : Bool) (f : F) → AreOrdered (when b f)
when_ordered true f = (tt, tt)
when_ordered false f = tt

reported_precedes : {F G : Type 0} → (report : F → G) (rank : List ℕ) (rules : Rules F) → PrecedesAll rank rules
    → PrecedesAll rank (map_faults report rules)
reported_precedes report rank [] h = tt
reported_precedes report rank (r ∷ rs) h = (h.0, reported_precedes report rank rs h.1)

pub map_faults_ordered : {F G : Type 0} → (report : F → G) (rules : Rules F) → AreOrdered rules → AreOrdered (map_faults report rules)
map_faults_ordered report [] h = tt
map_faults_ordered report (r ∷ rs) h = (reported_precedes report r.0 rs h.0, map_faults_ordered report rs h.1)

-- the rows of a table are in order: their numbers rise from n on, and each row is in order
abbrev pub AreRowsFrom : {F : Type 0} → ℕ → List (ℕ × Rules F) → Type 0
AreRowsFrom n [] = ⊤
AreRowsFrom n (row ∷ table) = (n ≤ row.0) × (AreOrdered row.1 × AreRowsFrom (suc row.0) table)

pub rows_from : {F : Type 0} → (n : ℕ) (table : List (ℕ × Rules F)) → AreRowsFrom n table → AllFrom n (rows table)
rows_from n [] h = tt
rows_from n (row ∷ table) h =
    from-append n (under row.0 row.1) (rows table) (all_later n row.0 _ h.0 (under_from row.0 row.1))
    (all_later n (suc row.0) _ (omega (arith, h.0)) (rows_from (suc row.0) table h.1.1))

pub rows_ordered : {F : Type 0} → (n : ℕ) (table : List (ℕ × Rules F)) → AreRowsFrom n table → AreOrdered (rows table)
rows_ordered n [] h = tt
rows_ordered n (row ∷ table) h =
    under_then row.0 row.1 (rows table) h.1.0 (rows_ordered (suc row.0) table h.1.1) (rows_from (suc row.0) table h.1.1)

each_from : {X F : Type 0} → (rules : List X → X → Rules F) (front xs : List X) → AllFrom (length front) (each rules front xs)
each_from rules front [] = tt
each_from rules front (x ∷ xs) =
    from-append (length front) (under (length front) (rules front x)) (each rules (front ++ x ∷ []) xs)
    (under_from (length front) (rules front x))
    (all_later (length front) (length (front ++ x ∷ [])) _ (simp length-append (omega arith)) (each_from rules (front ++ x ∷ []) xs))

pub each_ordered : {X F : Type 0} → (rules : List X → X → Rules F) (front xs : List X)
    → ((seen : List X) (x : X) → AreOrdered (rules seen x)) → AreOrdered (each rules front xs)
each_ordered rules front [] h = tt
each_ordered rules front (x ∷ xs) h =
    under_then (length front) (rules front x) (each rules (front ++ x ∷ []) xs) (h front x) (each_ordered rules (front ++ x ∷ []) xs h)
    (all_later (suc (length front)) (length (front ++ x ∷ [])) _ (simp length-append (omega arith)) (each_from rules (front ++ x ∷ []) xs))
