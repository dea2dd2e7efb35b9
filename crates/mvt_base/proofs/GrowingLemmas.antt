-- Tables that grow at their end: they stay in order where what is added comes later.
use Rattle.std.proofs.Common.{◌≡◌, ℕ, suc, ◌+◌, ◌<◌, ◌≤◌, inl, List, [], ◌∷◌, ◌++◌, length, sym, subst, arith, append_assoc}
use Rattle.std.specs.Prelude.{⊤}
use Rattle.std.proofs.lemmas.List.{length-append}
use Rattle.mvt_base.specs.Rules.{Rules, PrecedesAll, AreOrdered, under, each}
use Rattle.mvt_base.proofs.OrderLemmas.{AllFrom, all_later, under_from, from-append, under_ordered, precedes-append, under_then}

-- the number that a rank begins with is below n
abbrev pub BeginsBelow : ℕ → List ℕ → Type 0
BeginsBelow n [] = ⊥
BeginsBelow n (m ∷ ms) = m < n

abbrev pub AllBelow : {F : Type 0} → ℕ → Rules F → Type 0
AllBelow n [] = ⊤
AllBelow n (r ∷ rs) = BeginsBelow n r.0 × AllBelow n rs

below_more : (m n : ℕ) (rank : List ℕ) → m ≤ n → BeginsBelow m rank → BeginsBelow n rank
below_more m n [] le h = h
below_more m n (k ∷ ks) le h = omega arith

pub all_below_more : {F : Type 0} → (m n : ℕ) (rules : Rules F) → m ≤ n → AllBelow m rules → AllBelow n rules
all_below_more m n [] le h = tt
all_below_more m n (r ∷ rs) le h = (below_more m n r.0 le h.0, all_below_more m n rs le h.1)

pub under_below : {F : Type 0} → (n : ℕ) (rules : Rules F) → AllBelow (suc n) (under n rules)
under_below n [] = tt
under_below n (r ∷ rs) = (omega arith, under_below n rs)

pub below-append : {F : Type 0} → (n : ℕ) (xs ys : Rules F) → AllBelow n xs → AllBelow n ys → AllBelow n (xs ++ ys)
below-append n [] ys h k = k
below-append n (x ∷ xs) ys h k = (h.0, below-append n xs ys h.1 k)

below_precedes : {F : Type 0} → (n : ℕ) (rank : List ℕ) (rules : Rules F) → BeginsBelow n rank → PrecedesAll rank (under n rules)
below_precedes n rank [] h = tt
below_precedes n [] (r ∷ rs) h = absurd h
below_precedes n (m ∷ ms) (r ∷ rs) h = (inl h, below_precedes n (m ∷ ms) rs h)

-- a table in order whose ranks begin below n, and then rules under n
pub then_under : {F : Type 0} → (n : ℕ) (rules later : Rules F) → AreOrdered rules → AllBelow n rules → AreOrdered later
    → AreOrdered (rules ++ under n later)
then_under n [] later h below k = under_ordered n later k
then_under n (r ∷ rs) later h below k =
    (precedes-append r.0 rs (under n later) h.0 (below_precedes n r.0 later below.0), then_under n rs later h.1 below.1 k)

-- rules of each element, and then those that begin after the last, are in order
each_from : {X F : Type 0} → (rules : List X → X → Rules F) (front xs : List X) (later : Rules F)
    → AllFrom (length front + length xs) later → AllFrom (length front) (each rules front xs ++ later)
each_from rules front [] later from = all_later (length front) (length front + 0) later (omega arith) from
each_from rules front (x ∷ xs) later from =
    let size : length (front ++ x ∷ []) ≡ length front + 1 = length-append front (x ∷ []) in
    let more : AllFrom (length (front ++ x ∷ []) + length xs) later =
    all_later _ (length front + suc (length xs)) later (omega arith) from in
    subst (AllFrom (length front)) (sym (append_assoc (under (length front) (rules front x)) (each rules (front ++ x ∷ []) xs) later))
    (from-append (length front) (under (length front) (rules front x)) (each rules (front ++ x ∷ []) xs ++ later)
    (under_from (length front) (rules front x))
    (all_later (length front) (length (front ++ x ∷ [])) _ (omega arith) (each_from rules (front ++ x ∷ []) xs later more)))

pub each_then : {X F : Type 0} → (rules : List X → X → Rules F) (front xs : List X) (later : Rules F)
    → ((seen : List X) (x : X) → AreOrdered (rules seen x))
    → AreOrdered later → AllFrom (length front + length xs) later → AreOrdered (each rules front xs ++ later)
each_then rules front [] later ordered last from = last
each_then rules front (x ∷ xs) later ordered last from =
    let size : length (front ++ x ∷ []) ≡ length front + 1 = length-append front (x ∷ []) in
    let more : AllFrom (length (front ++ x ∷ []) + length xs) later =
    all_later _ (length front + suc (length xs)) later (omega arith) from in
    subst AreOrdered (sym (append_assoc (under (length front) (rules front x)) (each rules (front ++ x ∷ []) xs) later))
    (under_then (length front) (rules front x) (each rules (front ++ x ∷ []) xs ++ later) (ordered front x)
    (each_then rules (front ++ x ∷ []) xs later ordered last more)
    (all_later (suc (length front)) (length (front ++ x ∷ [])) _ (omega arith) (each_from rules (front ++ x ∷ []) xs later more)))
