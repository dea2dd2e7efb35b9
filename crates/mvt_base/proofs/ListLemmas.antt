-- Facts about each element of a list, and about two lists related one by one.
use Rattle.std.proofs.Common.{◌≡◌, ℕ, suc, ◌+◌, nat_lt, List, [], ◌∷◌, ◌++◌, length, map, take, refl, ap, ap₂, arith, ◌<◌, get_or, drop, sym, ◌∙◌, add-one, drop-cons}
use Rattle.std.specs.Prelude.{⊤}
use Rattle.std.specs.List.{AllByRecursion}
use Rattle.std.proofs.lemmas.Bool.Decides.{nat_tests}
use Rattle.std.proofs.lemmas.List.{length-take, take-take, take_more, take-append-drop}
use Rattle.mvt_base.specs.Related.{AreRelated}

pub all_joined : {X : Type 0} → (P : X → Type 0) (xs ys : List X) → AllByRecursion P xs → AllByRecursion P ys → AllByRecursion P (xs ++ ys)
all_joined P [] ys h k = k
all_joined P (x ∷ xs) ys h k = (h.0, all_joined P xs ys h.1 k)

pub all_left : {X : Type 0} → (P : X → Type 0) (xs ys : List X) → AllByRecursion P (xs ++ ys) → AllByRecursion P xs
all_left P [] ys h = tt
all_left P (x ∷ xs) ys h = (h.0, all_left P xs ys h.1)

pub all_right : {X : Type 0} → (P : X → Type 0) (xs ys : List X) → AllByRecursion P (xs ++ ys) → AllByRecursion P ys
all_right P [] ys h = h
all_right P (x ∷ xs) ys h = all_right P xs ys h.1

pub all_true : {X : Type 0} → (xs : List X) → AllByRecursion (λ _. ⊤) xs
all_true [] = tt
all_true (x ∷ xs) = (tt, all_true xs)

-- what follows for each element follows for all
pub all_weaker : {X : Type 0} → (P Q : X → Type 0) → ((x : X) → P x → Q x) → (xs : List X) → AllByRecursion P xs → AllByRecursion Q xs
all_weaker P Q f [] h = tt
all_weaker P Q f (x ∷ xs) h = (f x h.0, all_weaker P Q f xs h.1)

pub all_both : {X : Type 0} → (P Q : X → Type 0) (xs : List X) → AllByRecursion P xs → AllByRecursion Q xs
    → AllByRecursion (λ x. P x × Q x) xs
all_both P Q [] h k = tt
all_both P Q (x ∷ xs) h k = ((h.0, k.0), all_both P Q xs h.1 k.1)

pub all_mapped : {X Y : Type 0} → (f : X → Y) (P : Y → Type 0) (xs : List X) → AllByRecursion (λ x. P (f x)) xs
    → AllByRecursion P (map f xs)
all_mapped f P [] h = tt
all_mapped f P (x ∷ xs) h = (h.0, all_mapped f P xs h.1)

pub all_unmapped : {X Y : Type 0} → (f : X → Y) (P : Y → Type 0) (xs : List X) → AllByRecursion P (map f xs)
    → AllByRecursion (λ x. P (f x)) xs
all_unmapped f P [] h = tt
all_unmapped f P (x ∷ xs) h = (h.0, all_unmapped f P xs h.1)

pub related-append : {X Y : Type 0} → (R : X → Y → Type 0) (xs : List X) (ys : List Y) (vs : List X) (ws : List Y) → AreRelated R xs ys
    → AreRelated R vs ws → AreRelated R (xs ++ vs) (ys ++ ws)
related-append R [] [] vs ws h k = k
related-append R [] (y ∷ ys) vs ws h k = absurd h
related-append R (x ∷ xs) [] vs ws h k = absurd h
related-append R (x ∷ xs) (y ∷ ys) vs ws h k = (h.0, related-append R xs ys vs ws h.1 k)

pub length-related : {X Y : Type 0} → (R : X → Y → Type 0) (xs : List X) (ys : List Y) → AreRelated R xs ys → length xs ≡ length ys
length-related R [] [] h = refl
length-related R [] (y ∷ ys) h = absurd h
length-related R (x ∷ xs) [] h = absurd h
length-related R (x ∷ xs) (y ∷ ys) h = ap suc (length-related R xs ys h.1)

-- what is related to at most one thing, one by one, is related to at most one list
pub related_once : {X Y : Type 0} → (R : X → Y → Type 0) → ((x : X) (y z : Y) → R x y → R x z → y ≡ z) → (xs : List X) (ys zs : List Y)
    → AreRelated R xs ys → AreRelated R xs zs → ys ≡ zs
related_once R one [] [] [] h k = refl
related_once R one [] [] (z ∷ zs) h k = absurd k
related_once R one [] (y ∷ ys) zs h k = absurd h
related_once R one (x ∷ xs) [] zs h k = absurd h
related_once R one (x ∷ xs) (y ∷ ys) [] h k = absurd k
related_once R one (x ∷ xs) (y ∷ ys) (z ∷ zs) h k = ap₂ (λ a as'. a ∷ as') (one x y z h.0 k.0) (related_once R one xs ys zs h.1 k.1)

-- a front with one element more tells the front, and whether the list is longer
pub take_front : {X : Type 0} → (n : ℕ) (xs : List X) → take n (take (n + 1) xs) ≡ take n xs
take_front n xs = take-take n (n + 1) xs (omega arith)

pub too_long : {X : Type 0} → (n : ℕ) (xs : List X) → nat_lt n (length (take (n + 1) xs)) ≡ nat_lt n (length xs)
too_long n xs = simp length-take (grind (arith, nat_tests))

-- a front with the element after it
pub front_more : {X : Type 0} → (xs : List X) (i : ℕ) (x : X) → i < length xs → x ≡ get_or xs i x
    → take (i + 1) xs ≡ take i xs ++ x ∷ []
front_more xs i x within is = take_more xs i x within ∙ ap (λ y. take i xs ++ y ∷ []) (sym is)

-- a list around one of its elements
pub around : {X : Type 0} → (xs : List X) (i : ℕ) (d : X) → i < length xs → xs ≡ take i xs ++ get_or xs i d ∷ drop (i + 1) xs
around xs i d within =
    sym (take-append-drop i xs) ∙ ap (λ r. take i xs ++ r) (drop-cons xs i d within ∙ ap (λ n. get_or xs i d ∷ drop n xs) (sym (add-one i)))

-- a list that is made into one thing has one element
pub mapped_one : {X Y : Type 0} → (f : X → Y) (xs : List X) (y : Y) → map f xs ≡ y ∷ [] → (x : X) × (xs ≡ x ∷ []) × (f x ≡ y)
mapped_one f [] y h = cc
mapped_one f (x ∷ []) y h = (x, refl, cc)
mapped_one f (x ∷ z ∷ xs) y h = cc
