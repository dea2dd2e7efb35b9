-- The changes of a geometry tell every point.
use Rattle.std.proofs.Common.{arith, ◌≡◌, ◌≢◌, ℕ, zero, suc, ◌+◌, ◌-◌, ◌==◌, ◌^◌, ◌<◌, ◌≤◌, nat_lt, min, Bool, true, false, List, [], ◌∷◌, ◌++◌, length, drop, refl, sym, ap, ap₂, subst, ◌∙◌, eqb-true, sum_by, slice_index_or}
use Rattle.std.specs.Prelude.{if◌then◌else◌, slice_set, ⊤}
use Rattle.std.specs.List.{AllByRecursion}
use Rattle.std.proofs.lemmas.Bool.{both_ways, eq-eqb}
use Rattle.std.proofs.lemmas.Bool.Decides.{nat_tests}
use Rattle.std.proofs.lemmas.List.{drop_all, drop_more, length-set, get_or-set_same, get_or-set_other}
use Rattle.std.proofs.lemmas.List.Sums.{sum_by-cons}
use Rattle.mvt_geometry.specs.declared.shape.Point.{Point}
use Rattle.mvt_rings.specs.declared.rings.Kept.{Kept}
use Rattle.mvt_mend.specs.declared.fates.Fate.{Fate}
use Rattle.mvt_mend.specs.declared.change.Change.{Change}
use Rattle.mvt_mend.specs.declared.change.Change.TheVariants.{TurnedRing, RepeatedPoint, PartLeftOut, MovedRing}
use Rattle.mvt_mend.specs.Changes.{all_gone, count_after, count_points, fate_at, fate_of, fates_after, fates_of, gone, is_turned, move_told, repeats_told, told_from, told_of, turn_told, with_staying}
use Rattle.mvt_mend.specs.Whole.{points_gone}

-- the sum over a list, by recursion
abbrev pub total : {X : Type 0} → (X → ℕ) → List X → ℕ
total f [] = 0
total f (x ∷ xs) = f x + total f xs

pub total_is : {X : Type 0} → (f : X → ℕ) (xs : List X) → sum_by f xs ≡ total f xs
total_is f [] = refl
total_is f (x ∷ xs) = sum_by-cons f x xs ∙ ap (λ n. f x + n) (total_is f xs)

pub total-append : {X : Type 0} → (f : X → ℕ) (xs ys : List X) → total f (xs ++ ys) ≡ total f xs + total f ys
total-append f [] ys = none (total f ys)
  where
    none : (a : ℕ) → a ≡ 0 + a
    none a = omega arith
total-append f (x ∷ xs) ys = ap (λ n. f x + n) (total-append f xs ys) ∙ more (f x) (total f xs) (total f ys)
  where
    more : (a b c : ℕ) → a + (b + c) ≡ (a + b) + c
    more a b c = omega arith

-- ---- the points that a part loses

turn_gone : (layer feature n : ℕ) (ring : List Point) (fate : Fate) → total points_gone (turn_told layer feature n ring fate) ≡ 0
turn_gone layer feature n ring fate = by_test (is_turned ring fate)
  where
    by_test : (b : Bool) → total points_gone (if b then TurnedRing layer feature n ∷ [] else []) ≡ 0
    by_test true = refl
    by_test false = refl

move_gone : (layer feature n before : ℕ) (fate : Fate) → total points_gone (move_told layer feature n before fate) ≡ 0
move_gone layer feature n before fate = by_test (fate.place == before + 1)
  where
    by_test : (b : Bool) → total points_gone (if b then [] else MovedRing layer feature n (fate.place - 1) ∷ []) ≡ 0
    by_test true = refl
    by_test false = refl

repeats_gone : (layer feature n : ℕ) (part : List Point) (fate : Fate) → fate.points ≤ length part
    → total points_gone (repeats_told layer feature n part fate) + fate.points ≡ length part
repeats_gone layer feature n part fate few = by_test (nat_lt fate.points (length part)) refl
  where
    by_test : (b : Bool) → nat_lt fate.points (length part) ≡ b
        → total points_gone (if b then RepeatedPoint layer feature n (length part - fate.points) ∷ [] else []) + fate.points ≡ length part
    by_test true is = grind (arith, nat_tests)
    by_test false is = grind (arith, nat_tests)

-- a part keeps no more points than it had, and none where it is left out
pub record IsFair (part : List Point) (fate : Fate) : Type 0 where
  pub few : fate.points ≤ length part
  pub none : (fate.place == 0) ≡ true → fate.points ≡ 0

sum_three : (a b c n p : ℕ) → a + p ≡ n → b ≡ 0 → c ≡ 0 → (a + (b + c)) + p ≡ n
sum_three a b c n p first second third = omega arith

told_gone : (layer feature n before : ℕ) (part : List Point) (fate : Fate) → IsFair part fate
    → total points_gone (told_of layer feature n before part fate) + fate.points ≡ length part
told_gone layer feature n before part fate fair = by_test (fate.place == 0) fair.none
  where
    rest : List Change
    rest = turn_told layer feature n part fate ++ move_told layer feature n before fate

    by_test : (b : Bool) → (b ≡ true → fate.points ≡ 0)
        → total points_gone (if b then PartLeftOut layer feature n (length part) ∷ []
        else repeats_told layer feature n part fate ++ (turn_told layer feature n part fate ++ move_told layer feature n before fate))
        + fate.points ≡ length part
    by_test true none = let nothing = none refl in omega arith
    by_test false none =
        ap (λ k. k + fate.points)
        (total-append points_gone (repeats_told layer feature n part fate) (turn_told layer feature n part fate ++ move_told layer feature n before fate)
        ∙ ap (λ k. total points_gone (repeats_told layer feature n part fate) + k)
        (total-append points_gone (turn_told layer feature n part fate) (move_told layer feature n before fate)))
        ∙ sum_three _ _ _ (length part) fate.points (repeats_gone layer feature n part fate fair.few)
        (turn_gone layer feature n part fate) (move_gone layer feature n before fate)

-- ---- of all parts

abbrev pub points_kept : List Fate → ℕ
points_kept fates = total (λ (f : Fate). f.points) fates

four : (a b c d n m : ℕ) → a + b ≡ n → c + d ≡ m → (a + c) + (b + d) ≡ n + m
four a b c d n m first second = omega arith

all_told : (layer feature : ℕ) (fates : List Fate) (n before : ℕ) (parts : List (List Point)) → length fates ≡ n + length parts
    → ((i : ℕ) → IsFair (slice_index_or parts i []) (fate_at fates (n + i)))
    → total points_gone (told_from layer feature fates n before parts) + points_kept (drop n fates) ≡ total length parts
all_told layer feature fates n before [] as_many fair =
    let none : points_kept (drop n fates) ≡ 0 = ap points_kept (drop_all n fates (omega arith)) in omega arith
all_told layer feature fates n before (part ∷ parts) as_many fair =
    let fate = fate_at fates n in
    let here : IsFair part fate = subst (λ m. IsFair part (fate_at fates m)) (add_none n) (fair 0) in
    let next = all_told layer feature fates (n + 1) (with_staying before fate) parts (omega arith)
    (λ i. subst (λ m. IsFair (slice_index_or parts i []) (fate_at fates m)) (one_on n i) (fair (suc i))) in
    let front : drop n fates ≡ fate ∷ drop (n + 1) fates = drop_more fates n gone (omega arith) in
    ap₂ (λ a b. a + b)
    (total-append points_gone (told_of layer feature n before part fate) (told_from layer feature fates (n + 1) (with_staying before fate) parts))
    (ap points_kept front)
    ∙ four _ _ _ _ (length part) (total length parts) (told_gone layer feature n before part fate here) next
  where
    add_none : (n : ℕ) → n + 0 ≡ n
    add_none n = omega arith

    one_on : (n i : ℕ) → n + suc i ≡ (n + 1) + i
    one_on n i = omega arith

-- ---- what became of parts

add_up : (a b c f : ℕ) → b ≡ c + f → a + b ≡ (a + c) + f
add_up a b c f is = omega arith

set_points : (fates : List Fate) (i : ℕ) (f : Fate) → i < length fates → (fate_at fates i).points ≡ 0
    → points_kept (slice_set fates i f) ≡ points_kept fates + f.points
set_points [] i f within none = absurd (omega arith)
set_points (g ∷ fates) zero f within none = let nothing : g.points ≡ 0 = none in omega arith
set_points (g ∷ fates) (suc i) f within none =
    add_up g.points _ (points_kept fates) f.points (set_points fates i f (omega arith) none)

-- no two parts have one index
abbrev pub AreApart : List Kept → Type 0
AreApart [] = ⊤
AreApart (k ∷ kept) = AllByRecursion (λ (q : Kept). q.index ≢ k.index) kept × AreApart kept

-- parts that stay are of these, and have no more points
pub record IsLess (parts : List (List Point)) (k : Kept) : Type 0 where
  pub inside : k.index < length parts
  pub few : length k.points ≤ length (slice_index_or parts k.index [])

pub length_after : (n : ℕ) (fates : List Fate) (kept : List Kept) → length (fates_after n fates kept) ≡ length fates
length_after n fates [] = refl
length_after n fates (k ∷ kept) =
    length_after (n + 1) (slice_set fates k.index (fate_of (n + 1) k)) kept ∙ length-set fates k.index (fate_of (n + 1) k)

-- a fate that isn't set stays
pub other_fate : (fates : List Fate) (i j : ℕ) (f : Fate) → j ≢ i → fate_at (slice_set fates i f) j ≡ fate_at fates j
other_fate fates i j f other = get_or-set_other fates i j f gone other

pub same_fate : (fates : List Fate) (i : ℕ) (f : Fate) → i < length fates → fate_at (slice_set fates i f) i ≡ f
same_fate fates i f within = get_or-set_same fates i f gone within

still_free : (fates : List Fate) (i : ℕ) (f : Fate) (kept : List Kept) → AllByRecursion (λ (q : Kept). q.index ≢ i) kept
    → AllByRecursion (λ (q : Kept). (fate_at fates q.index).points ≡ 0) kept
    → AllByRecursion (λ (q : Kept). (fate_at (slice_set fates i f) q.index).points ≡ 0) kept
still_free fates i f [] others free = tt
still_free fates i f (q ∷ kept) others free = (
  ap (λ (g : Fate). g.points) (other_fate fates i q.index f others.0) ∙ free.0,
  still_free fates i f kept others.1 free.1,
)

pub still_inside : (n m : ℕ) (kept : List Kept) → n ≡ m → AllByRecursion (λ (q : Kept). q.index < n) kept
    → AllByRecursion (λ (q : Kept). q.index < m) kept
still_inside n m kept same inside = subst (λ l. AllByRecursion (λ (q : Kept). q.index < l) kept) same inside

sum_after : (a b c d e : ℕ) → a ≡ b + c → b ≡ d + e → a ≡ d + (e + c)
sum_after a b c d e first second = omega arith

kept_points : (n : ℕ) (fates : List Fate) (kept : List Kept) → AllByRecursion (λ (q : Kept). q.index < length fates) kept → AreApart kept
    → AllByRecursion (λ (q : Kept). (fate_at fates q.index).points ≡ 0) kept
    → points_kept (fates_after n fates kept) ≡ points_kept fates + total (λ (k : Kept). length k.points) kept
kept_points n fates [] inside apart free = add_none (points_kept fates)
  where
    add_none : (a : ℕ) → a ≡ a + 0
    add_none a = omega arith
kept_points n fates (k ∷ kept) inside apart free =
    let f = fate_of (n + 1) k in
    let new = slice_set fates k.index f in
    sum_after _ _ _ _ _
    (kept_points (n + 1) new kept
    (still_inside (length fates) (length new) kept (sym (length-set fates k.index f)) inside.1)
    apart.1 (still_free fates k.index f kept apart.0 free.1))
    (set_points fates k.index f inside.0 free.0)

pub gone_at : (parts : List (List Point)) (i : ℕ) → fate_at (all_gone parts) i ≡ gone
gone_at [] i = refl
gone_at (part ∷ parts) zero = refl
gone_at (part ∷ parts) (suc i) = gone_at parts i

pub length_gone : (parts : List (List Point)) → length (all_gone parts) ≡ length parts
length_gone [] = refl
length_gone (part ∷ parts) = ap suc (length_gone parts)

gone_points : (parts : List (List Point)) → points_kept (all_gone parts) ≡ 0
gone_points [] = refl
gone_points (part ∷ parts) = let rest = gone_points parts in omega arith

gone_free : (parts : List (List Point)) (kept : List Kept) → AllByRecursion (λ (q : Kept). (fate_at (all_gone parts) q.index).points ≡ 0) kept
gone_free parts [] = tt
gone_free parts (k ∷ kept) = (ap (λ (g : Fate). g.points) (gone_at parts k.index), gone_free parts kept)

pub all_inside : (parts : List (List Point)) (kept : List Kept) → AllByRecursion (IsLess parts) kept
    → AllByRecursion (λ (q : Kept). q.index < length parts) kept
all_inside parts [] less = tt
all_inside parts (k ∷ kept) less = (less.0.inside, all_inside parts kept less.1)

-- each fate is fair
gone_fair : (part : List Point) → IsFair part gone
gone_fair part = record { few = omega arith; none = λ e. refl }

kept_fair : (n : ℕ) (part : List Point) (k : Kept) → length k.points ≤ length part → IsFair part (fate_of (n + 1) k)
kept_fair n part k few = record { few = few; none = λ none. absurd (stays n none) }
  where
    stays : (n : ℕ) → ((n + 1) == 0) ≡ true → ⊥
    stays n none = let e = eqb-true (n + 1) 0 none in omega arith

set_fair : (parts : List (List Point)) (n : ℕ) (fates : List Fate) (k : Kept) → k.index < length fates
    → length k.points ≤ length (slice_index_or parts k.index []) → ((i : ℕ) → IsFair (slice_index_or parts i []) (fate_at fates i))
    → (i : ℕ) → IsFair (slice_index_or parts i []) (fate_at (slice_set fates k.index (fate_of (n + 1) k)) i)
set_fair parts n fates k within few fair i = by_test (i == k.index) refl
  where
    f : Fate
    f = fate_of (n + 1) k

    by_test : (b : Bool) → (i == k.index) ≡ b
        → IsFair (slice_index_or parts i []) (fate_at (slice_set fates k.index (fate_of (n + 1) k)) i)
    by_test true is =
        subst (λ j. IsFair (slice_index_or parts j []) (fate_at (slice_set fates k.index (fate_of (n + 1) k)) j)) (sym (eqb-true i k.index is))
        (subst (IsFair (slice_index_or parts k.index [])) (sym (same_fate fates k.index (fate_of (n + 1) k) within))
        (kept_fair n (slice_index_or parts k.index []) k few))
    by_test false is =
        subst (IsFair (slice_index_or parts i []))
        (sym (other_fate fates k.index i (fate_of (n + 1) k) (λ same. absurd (both_ways (i == k.index) is (eq-eqb i k.index same))))) (fair i)

all_fair : (parts : List (List Point)) (n : ℕ) (fates : List Fate) (kept : List Kept) → length fates ≡ length parts
    → AllByRecursion (IsLess parts) kept → ((i : ℕ) → IsFair (slice_index_or parts i []) (fate_at fates i))
    → (i : ℕ) → IsFair (slice_index_or parts i []) (fate_at (fates_after n fates kept) i)
all_fair parts n fates [] as_many less fair = fair
all_fair parts n fates (k ∷ kept) as_many less fair =
    all_fair parts (n + 1) (slice_set fates k.index (fate_of (n + 1) k)) kept (length-set fates k.index (fate_of (n + 1) k) ∙ as_many) less.1
    (set_fair parts n fates k (subst (λ l. k.index < l) (sym as_many) less.0.inside) less.0.few fair)

-- the points that parts had are those that they have, and those that are told
pub parts_told : (layer feature : ℕ) (parts : List (List Point)) (kept : List Kept) → AllByRecursion (IsLess parts) kept → AreApart kept
    → total points_gone (told_from layer feature (fates_of parts kept) 0 0 parts) + total (λ (k : Kept). length k.points) kept
    ≡ total length parts
parts_told layer feature parts kept less apart =
    let fates = fates_of parts kept in
    let as_many : length fates ≡ length parts = length_after 0 (all_gone parts) kept ∙ length_gone parts in
    let sum =
    kept_points 0 (all_gone parts) kept
    (still_inside (length parts) (length (all_gone parts)) kept (sym (length_gone parts)) (all_inside parts kept less)) apart
    (gone_free parts kept) in
    let fair : (i : ℕ) → IsFair (slice_index_or parts i []) (fate_at fates (0 + i)) =
    λ i. subst (λ j. IsFair (slice_index_or parts i []) (fate_at fates j)) (none_more i) (all_fair parts 0 (all_gone parts) kept (length_gone parts) less
    (λ j. subst (IsFair (slice_index_or parts j [])) (sym (gone_at parts j)) (gone_fair (slice_index_or parts j []))) i) in
    let told = all_told layer feature fates 0 0 parts (as_many ∙ none_more (length parts)) fair in
    swap _ _ _ _ _ sum (gone_points parts) told
  where
    none_more : (i : ℕ) → i ≡ 0 + i
    none_more i = omega arith

    swap : (a b c d e : ℕ) → b ≡ c + d → c ≡ 0 → a + b ≡ e → a + d ≡ e
    swap a b c d e first none whole = omega arith

-- all points are counted, if a usize counts them
least_of_both : (a b : ℕ) → a ≤ b → min a b ≡ a
least_of_both a b less = omega arith

counted : (n : ℕ) (parts : List (List Point)) → n + total length parts < 2 ^ 64 → count_after n parts ≡ n + total length parts
counted n [] few = omega arith
counted n (part ∷ parts) few =
    let here : min (n + length part) (2 ^ 64 - 1) ≡ n + length part = least_of_both (n + length part) (2 ^ 64 - 1) (omega arith) in
    ap (λ m. count_after m parts) here ∙ counted (n + length part) parts (omega arith) ∙ add (n) (length part) (total length parts)
  where
    add : (a b c : ℕ) → (a + b) + c ≡ a + (b + c)
    add a b c = omega arith

pub all_counted : (parts : List (List Point)) → total length parts < 2 ^ 64 → count_points parts ≡ total length parts
all_counted parts few = counted 0 parts (omega arith) ∙ none (total length parts)
  where
    none : (a : ℕ) → 0 + a ≡ a
    none a = omega arith
