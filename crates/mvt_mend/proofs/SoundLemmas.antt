-- Rings that come from others have no repeated points, and what holds of all points.
use Rattle.std.proofs.Common.{arith, ◌≡◌, ◌≢◌, ℕ, zero, suc, ◌<◌, Bool, true, false, ℤ, List, [], ◌∷◌, ◌++◌, length, reverse, inl, inr, refl, sym, ap, subst, ◌∙◌}
use Rattle.std.specs.Prelude.{if◌then◌else◌, slice_index_or}
use Rattle.std.specs.Ordering.{int_eq}
use Rattle.std.specs.List.{AllByRecursion}
use Rattle.std.proofs.lemmas.Int.{ints}
use Rattle.std.proofs.lemmas.Bool.{and_from, false≢true}
use Rattle.std.proofs.lemmas.List.{reverse-append}
use Rattle.mvt_base.proofs.ListLemmas.{all_joined}
use Rattle.mvt_geometry.specs.declared.shape.Point.{Point}
use Rattle.mvt_geometry.specs.Shape.{Apart}
use Rattle.mvt_rings.specs.Repeats.{is_same, opened, others_after, past, without_repeats}
use Rattle.mvt_rings.specs.Turning.{turned}
use Rattle.mvt_rings.specs.Origins.{IsToldFrom, ring_at}

self_eq : (z : ℤ) → int_eq z z ≡ true
self_eq z = grind (arith, ints)

self_same : (p : Point) → is_same p p ≡ true
self_same p = and_from _ _ (self_eq p.x) (self_eq p.y)

others : (p q : Point) → is_same p q ≡ false → p ≢ q
others p q is same = false≢true (sym is ∙ subst (λ (r : Point). is_same p r ≡ true) same (self_same p))

tail : (p : Point) (xs : List Point) → Apart (p ∷ xs) → Apart xs
tail p [] apart = tt
tail p (q ∷ xs) apart = apart.1

repeats_one : (b : Bool) (p q : Point) (xs : List Point) → is_same p q ≡ b → Apart (p ∷ others_after p xs) → Apart (q ∷ others_after q xs)
    → Apart (p ∷ (if b then others_after p xs else q ∷ others_after q xs))
repeats_one true p q xs is here next = here
repeats_one false p q xs is here next = (others p q is, next)

others_apart : (p : Point) (xs : List Point) → Apart (p ∷ others_after p xs)
others_apart p [] = tt
others_apart p (q ∷ xs) = repeats_one (is_same p q) p q xs refl (others_apart p xs) (others_apart q xs)

repeats_apart : (ring : List Point) → Apart (without_repeats ring)
repeats_apart [] = tt
repeats_apart (p ∷ ps) = others_apart p ps

past_one : (b : Bool) (p q : Point) (xs : List Point) → is_same p q ≡ b → Apart (p ∷ past p xs) → Apart (q ∷ xs)
    → Apart (p ∷ (if b then past p xs else q ∷ xs))
past_one true p q xs is more apart = more
past_one false p q xs is more apart = (others p q is, apart)

past_apart : (p : Point) (xs : List Point) → Apart xs → Apart (p ∷ past p xs)
past_apart p [] apart = tt
past_apart p (q ∷ xs) apart = past_one (is_same p q) p q xs refl (past_apart p xs (tail q xs apart)) apart

end_one : (b : Bool) (p q : Point) (xs : List Point) → Apart (past p xs ++ p ∷ []) → Apart (q ∷ (xs ++ p ∷ []))
    → Apart ((if b then past p xs else q ∷ xs) ++ p ∷ [])
end_one true p q xs more apart = more
end_one false p q xs more apart = apart

past_end : (p : Point) (xs : List Point) → Apart (xs ++ p ∷ []) → Apart (past p xs ++ p ∷ [])
past_end p [] apart = tt
past_end p (q ∷ xs) apart = end_one (is_same p q) p q xs (past_end p xs (tail q (xs ++ p ∷ []) apart)) apart

snoc_apart : (xs : List Point) (q p : Point) → Apart (xs ++ q ∷ []) → q ≢ p → Apart ((xs ++ q ∷ []) ++ p ∷ [])
snoc_apart [] q p apart other = (other, tt)
snoc_apart (x ∷ []) q p apart other = (apart.0, (other, tt))
snoc_apart (x ∷ y ∷ xs) q p apart other = (apart.0, snoc_apart (y ∷ xs) q p apart.1 other)

reverse_cons : (p : Point) (xs : List Point) → reverse (p ∷ xs) ≡ reverse xs ++ p ∷ []
reverse_cons p xs = reverse-append (p ∷ []) xs

reverse_apart : (xs : List Point) → Apart xs → Apart (reverse xs)
reverse_apart [] apart = tt
reverse_apart (p ∷ []) apart = tt
reverse_apart (p ∷ q ∷ xs) apart =
    let back = reverse_cons p (q ∷ xs) ∙ ap (λ (ys : List Point). ys ++ p ∷ []) (reverse_cons q xs) in
    subst Apart (sym back)
    (snoc_apart (reverse xs) q p (subst Apart (reverse_cons q xs) (reverse_apart (q ∷ xs) apart.1)) (λ same. apart.0 (sym same)))

turned_apart : (ring : List Point) → Apart ring → Apart (turned ring)
turned_apart [] apart = tt
turned_apart (p ∷ ps) apart = past_apart p (reverse ps) (reverse_apart ps (tail p ps apart))

opened_apart : (ring : List Point) → Apart ring → Apart (opened ring)
opened_apart [] apart = tt
opened_apart (p ∷ ps) apart =
    let end : List Point = past p (reverse ps) in
    let whole = past_end p (reverse ps) (subst Apart (reverse_cons p ps) (reverse_apart (p ∷ ps) apart)) in
    subst Apart (reverse-append end (p ∷ [])) (reverse_apart (end ++ p ∷ []) whole)

pub told_apart : (ring points : List Point) → IsToldFrom ring points → Apart ring → Apart points
told_apart ring points (inl is) apart = subst Apart (sym is) apart
told_apart ring points (inr (inl is)) apart = subst Apart (sym is) (opened_apart ring apart)
told_apart ring points (inr (inr is)) apart = subst Apart (sym is) (turned_apart ring apart)

pub at_apart : (rings : List (List Point)) (n : ℕ) → Apart (ring_at rings n)
at_apart rings n = repeats_apart (slice_index_or rings n [])

-- what holds of each point
others_if : (P : Point → Type 0) (b : Bool) (p q : Point) (xs : List Point) → AllByRecursion P (others_after p xs) → P q
    → AllByRecursion P (others_after q xs) → AllByRecursion P (if b then others_after p xs else q ∷ others_after q xs)
others_if P true p q xs here one next = here
others_if P false p q xs here one next = (one, next)

others_all : (P : Point → Type 0) (p : Point) (xs : List Point) → AllByRecursion P xs → AllByRecursion P (others_after p xs)
others_all P p [] all = tt
others_all P p (q ∷ xs) all = others_if P (is_same p q) p q xs (others_all P p xs all.1) all.0 (others_all P q xs all.1)

repeats_all : (P : Point → Type 0) (ring : List Point) → AllByRecursion P ring → AllByRecursion P (without_repeats ring)
repeats_all P [] all = tt
repeats_all P (p ∷ ps) all = (all.0, others_all P p ps all.1)

past_if : (P : Point → Type 0) (b : Bool) (p q : Point) (xs : List Point) → AllByRecursion P (past p xs) → P q → AllByRecursion P xs
    → AllByRecursion P (if b then past p xs else q ∷ xs)
past_if P true p q xs more one all = more
past_if P false p q xs more one all = (one, all)

past_all : (P : Point → Type 0) (p : Point) (xs : List Point) → AllByRecursion P xs → AllByRecursion P (past p xs)
past_all P p [] all = tt
past_all P p (q ∷ xs) all = past_if P (is_same p q) p q xs (past_all P p xs all.1) all.0 all.1

reverse_all : (P : Point → Type 0) (xs : List Point) → AllByRecursion P xs → AllByRecursion P (reverse xs)
reverse_all P [] all = tt
reverse_all P (x ∷ xs) all =
    subst (AllByRecursion P) (sym (reverse_cons x xs)) (all_joined P (reverse xs) (x ∷ []) (reverse_all P xs all.1) (all.0, tt))

turned_all : (P : Point → Type 0) (ring : List Point) → AllByRecursion P ring → AllByRecursion P (turned ring)
turned_all P [] all = tt
turned_all P (p ∷ ps) all = (all.0, past_all P p (reverse ps) (reverse_all P ps all.1))

opened_all : (P : Point → Type 0) (ring : List Point) → AllByRecursion P ring → AllByRecursion P (opened ring)
opened_all P [] all = tt
opened_all P (p ∷ ps) all =
    (all.0, reverse_all P (past p (reverse ps)) (past_all P p (reverse ps) (reverse_all P ps all.1)))

pub told_all : (P : Point → Type 0) (ring points : List Point) → IsToldFrom ring points → AllByRecursion P ring → AllByRecursion P points
told_all P ring points (inl is) all = subst (AllByRecursion P) (sym is) all
told_all P ring points (inr (inl is)) all = subst (AllByRecursion P) (sym is) (opened_all P ring all)
told_all P ring points (inr (inr is)) all = subst (AllByRecursion P) (sym is) (turned_all P ring all)

pub at_all : (P : Point → Type 0) (rings : List (List Point)) (n : ℕ) → n < length rings → AllByRecursion (AllByRecursion P) rings
    → AllByRecursion P (ring_at rings n)
at_all P [] n within all = absurd (omega arith)
at_all P (ring ∷ rings) zero within all = repeats_all P ring all.0
at_all P (ring ∷ rings) (suc n) within all = at_all P rings n (omega arith) all.1
