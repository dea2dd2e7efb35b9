-- The words in which each level states its rules. A table lists the rules that a thing breaks, each
-- by its rank and the fault that tells it; the fault to answer is that of the broken rule of least
-- rank.
use Rattle.std.specs.Prelude.{◌≡◌, ℕ, ◌<◌, ◌⊎◌, Bool, true, false, List, [], ◌∷◌, ◌++◌, length, map, Option, Some, None, ⊤}

-- one rank before another: ranks are lists of numbers, compared number by number
abbrev pub Precedes : List ℕ → List ℕ → Type 0
Precedes [] [] = ⊥
Precedes [] (n ∷ ns) = ⊤
Precedes (m ∷ ms) [] = ⊥
Precedes (m ∷ ms) (n ∷ ns) = (m < n) ⊎ ((m ≡ n) × Precedes ms ns)

-- the rules that a thing breaks: the rank of each, and how it is told
abbrev pub Rules : Type 0 → Type 0
Rules F = List (List ℕ × F)

-- a rule that is broken where the test holds
abbrev pub when : {F : Type 0} → Bool → F → Rules F
when true fault = ([], fault) ∷ []
when false fault = []

-- the same rules, with a number put before each rank
abbrev pub under : {F : Type 0} → ℕ → Rules F → Rules F
under n rules = map (λ r. (n ∷ r.0, r.1)) rules

-- the same rules, with each fault as the level above tells it
abbrev pub map_faults : {F G : Type 0} → (F → G) → Rules F → Rules G
map_faults report rules = map (λ r. (r.0, report r.1)) rules

-- a table of rows, each under its number
abbrev pub rows : {F : Type 0} → List (ℕ × Rules F) → Rules F
rows [] = []
rows (row ∷ table) = under row.0 row.1 ++ rows table

-- the rules of each element under its position; an element may look at those before it
abbrev pub each : {X F : Type 0} → (List X → X → Rules F) → List X → List X → Rules F
each rules front [] = []
each rules front (x ∷ xs) = under (length front) (rules front x) ++ each rules (front ++ x ∷ []) xs

-- an element of a list
abbrev pub IsOneOf : {X : Type 0} → List X → X → Type 0
IsOneOf [] y = ⊥
IsOneOf (x ∷ xs) y = (x ≡ y) ⊎ IsOneOf xs y

-- the fault of the broken rule of least rank
abbrev pub IsLeast : {F : Type 0} → Rules F → F → Type 0
IsLeast {F} rules fault =
    (rank : List ℕ) × IsOneOf rules (rank, fault) × ((other : List ℕ × F) → IsOneOf rules other → Precedes other.0 rank → ⊥)

-- the fault that a table lists first
abbrev pub first : {F : Type 0} → Rules F → Option F
first [] = None
first (rule ∷ rules) = Some rule.1

-- a table is in order: each rank precedes all that are listed after it
abbrev pub PrecedesAll : {F : Type 0} → List ℕ → Rules F → Type 0
PrecedesAll rank [] = ⊤
PrecedesAll rank (rule ∷ rules) = Precedes rank rule.0 × PrecedesAll rank rules

-- a table whose ranks rise
abbrev pub AreOrdered : {F : Type 0} → Rules F → Type 0
AreOrdered [] = ⊤
AreOrdered (rule ∷ rules) = PrecedesAll rule.0 rules × AreOrdered rules
