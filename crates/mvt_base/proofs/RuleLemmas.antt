-- How the first fault of a table follows from those of its parts.
use Rattle.std.proofs.Common.{◌≡◌, ℕ, Bool, true, false, List, [], ◌∷◌, ◌++◌, length, Option, Some, None, refl, sym, ap, ◌∙◌, append_assoc, append-nil}
use Rattle.std.specs.Option.{option_or, option_map}
use Rattle.mvt_base.specs.Rules.{Rules, when, under, map_faults, rows, each, first}

pub first-append : {F : Type 0} → (xs ys : Rules F) → first (xs ++ ys) ≡ option_or (first xs) (first ys)
first-append [] ys = refl
first-append (x ∷ xs) ys = refl

pub first-under : {F : Type 0} → (n : ℕ) (rules : Rules F) → first (under n rules) ≡ first rules
first-under n [] = refl
first-under n (r ∷ rs) = refl

pub first-map_faults : {F G : Type 0} → (report : F → G) (rules : Rules F)
    → first (map_faults report rules) ≡ option_map report (first rules)
first-map_faults report [] = refl
first-map_faults report (r ∷ rs) = refl

pub first-rows : {F : Type 0} → (n : ℕ) (row : Rules F) (table : List (ℕ × Rules F))
    → first (rows ((n, row) ∷ table)) ≡ option_or (first row) (first (rows table))
first-rows n row table = first-append (under n row) (rows table) ∙ ap (λ o. option_or o (first (rows table))) (first-under n row)

pub first-when : {F : Type 0} → (b : Bool) (f : F) → b ≡ true → first (when b f) ≡ Some f
first-when true f e = refl
first-when false f e = cc

pub first-when_not : {F : Type 0} → (b : Bool) (f : F) → b ≡ false → first (when b f) ≡ None
first-when_not false f e = refl
first-when_not true f e = cc

pub option_or-none : {F : Type 0} → (a b : Option F) → a ≡ None → option_or a b ≡ b
option_or-none None b e = refl
option_or-none (Some x) b e = cc

-- both parts are without a fault
pub option_or-nones : {F : Type 0} → (a b : Option F) → option_or a b ≡ None → (a ≡ None) × (b ≡ None)
option_or-nones None b e = (refl, e)
option_or-nones (Some x) b e = cc

pub option_or-some : {F : Type 0} → (a b : Option F) (f : F) → a ≡ Some f → option_or a b ≡ Some f
option_or-some (Some x) b f e = e
option_or-some None b f e = cc

-- a front without a fault can be left out
pub first_back : {F : Type 0} → (xs ys : Rules F) → first xs ≡ None → first (xs ++ ys) ≡ first ys
first_back [] ys e = refl
first_back (x ∷ xs) ys e = cc

-- the fault of a front is that of the whole
pub first_front : {F : Type 0} → (xs ys : Rules F) (f : F) → first xs ≡ Some f → first (xs ++ ys) ≡ Some f
first_front (x ∷ xs) ys f e = e
first_front [] ys f e = cc

pub each-append : {X F : Type 0} → (rules : List X → X → Rules F) (front xs ys : List X)
    → each rules front (xs ++ ys) ≡ each rules front xs ++ each rules (front ++ xs) ys
each-append rules front [] ys = rw append-nil refl
each-append rules front (x ∷ xs) ys =
    ap (λ rs. under (length front) (rules front x) ++ rs)
    (each-append rules (front ++ x ∷ []) xs ys
    ∙ ap (λ f. each rules (front ++ x ∷ []) xs ++ each rules f ys) (append_assoc front (x ∷ []) xs))
    ∙ sym (append_assoc (under (length front) (rules front x)) (each rules (front ++ x ∷ []) xs) (each rules (front ++ x ∷ xs) ys))

pub option_or-right : {F : Type 0} → (o : Option F) → option_or o None ≡ o
option_or-right None = refl
option_or-right (Some f) = refl

-- the fault of the first element, else that of those after it
pub each_first : {X F : Type 0} → (rules : List X → X → Rules F) (front : List X) (x : X) (xs : List X)
    → first (each rules front (x ∷ xs)) ≡ option_or (first (rules front x)) (first (each rules (front ++ x ∷ []) xs))
each_first rules front x xs =
    first-append (under (length front) (rules front x)) (each rules (front ++ x ∷ []) xs)
    ∙ ap (λ o. option_or o (first (each rules (front ++ x ∷ []) xs))) (first-under (length front) (rules front x))

-- one more element, after those that have no fault
pub each_more : {X F : Type 0} → (rules : List X → X → Rules F) (xs : List X) (x : X) → first (each rules [] xs) ≡ None
    → first (each rules [] (xs ++ x ∷ [])) ≡ first (rules xs x)
each_more rules xs x e =
    rw each-append (first_back (each rules [] xs) _ e ∙ first-append (under (length xs) (rules xs x)) []
    ∙ option_or-right (first (under (length xs) (rules xs x))) ∙ first-under (length xs) (rules xs x))

-- the fault of an element after those that have none is that of the whole list
pub each_stops : {X F : Type 0} → (rules : List X → X → Rules F) (xs : List X) (x : X) (ys : List X) (f : F)
    → first (each rules [] xs) ≡ None → first (rules xs x) ≡ Some f → first (each rules [] (xs ++ x ∷ ys)) ≡ Some f
each_stops rules xs x ys f none reported_here =
    rw each-append (first_back (each rules [] xs) _ none
    ∙ first_front (under (length xs) (rules xs x)) _ f (first-under (length xs) (rules xs x) ∙ reported_here))
