-- Of things in a strict order as many stand at even ranks as at odd ones, or one more.
use Rattle.std.proofs.Common.{arith, ◌≡◌, ℕ, zero, suc, ◌+◌, ◌%◌, ◌==◌, ◌≤◌, not, Bool, true, false, List, [], ◌∷◌, refl, sym, ap, ap₂, ◌∙◌}
use Rattle.std.specs.Prelude.{cond, ⊤}
use Rattle.std.specs.List.{AllByRecursion}
use Rattle.std.proofs.lemmas.Bool.Decides.{nat_tests}
use Rattle.mvt_rings.proofs.TotalLemmas.{total, total_same}

abbrev pub is_even : ℕ → Bool
is_even n = (n % 2) == 0

-- a number that counts at even ranks, and one that counts at odd ones
abbrev pub evenly : ℕ → ℕ → ℕ
evenly n v = cond (is_even n) v 0

abbrev pub oddly : ℕ → ℕ → ℕ
oddly n v = cond (is_even n) 0 v

none_either : (b : Bool) → cond {A = ℕ} b 0 0 ≡ 0
none_either true = refl
none_either false = refl

-- two sums that agree for each element of a list
pub total_all : {X : Type 0} → (f g : X → ℕ) (xs : List X) → AllByRecursion (λ x. f x ≡ g x) xs → total f xs ≡ total g xs
total_all f g [] same = refl
total_all f g (x ∷ xs) same = ap₂ (λ a b. a + b) same.0 (total_all f g xs same.1)

total_split : {X : Type 0} → (f g h : X → ℕ) → ((x : X) → f x ≡ g x + h x) → (xs : List X) → total f xs ≡ total g xs + total h xs
total_split f g h parts [] = refl
total_split f g h parts (x ∷ xs) =
    let here = parts x in
    let rest = total_split f g h parts xs in omega arith

next_even : (n : ℕ) → is_even (1 + n) ≡ not (is_even n)
next_even n = grind (arith, nat_tests)

module _ {X : Type 0} (larger : X → X → Bool) where
  -- an order in which no two elements of a list are alike
  abbrev pub IsChain : List X → Type 0
  IsChain [] = ⊤
  IsChain (x ∷ xs) = AllByRecursion (λ y. larger y x ≡ not (larger x y)) xs × IsChain xs

  -- what counts of the larger elements
  abbrev pub rank : (X → ℕ) → List X → X → ℕ
  rank w xs y = total (λ x. cond (larger x y) (w x) 0) xs

  abbrev pub evens : (X → ℕ) → List X → ℕ
  evens w xs = total (λ x. evenly (rank w xs x) (w x)) xs

  abbrev pub odds : (X → ℕ) → List X → ℕ
  odds w xs = total (λ x. oddly (rank w xs x) (w x)) xs

  -- the elements above one
  abbrev above : X → (X → ℕ) → X → ℕ
  above x w y = cond (larger y x) (w y) 0

  module _ (irreflexive : (x : X) → larger x x ≡ false)
      (transitive : (x y z : X) → larger x y ≡ true → larger y z ≡ true → larger x z ≡ true) where
    -- what is larger than an element above another is above it too
    rank_above : (w : X → ℕ) (xs : List X) (x y : X) → larger y x ≡ true → rank (above x w) xs y ≡ rank w xs y
    rank_above w [] x y is = refl
    rank_above w (z ∷ xs) x y is =
        ap₂ (λ a b. a + b) (by_test (larger z y) refl) (rank_above w xs x y is)
      where
        by_test : (b : Bool) → larger z y ≡ b → cond b (cond (larger z x) (w z) 0) 0 ≡ cond b (w z) 0
        by_test true more = rw (transitive z y x more is) refl
        by_test false more = refl

    -- below an element and above it, of what counts at even ranks or at odd ones
    below_part : (X → ℕ) → X → X → ℕ
    below_part f x y = cond (larger x y) (f y) 0

    above_part : (X → ℕ) → X → X → ℕ
    above_part f x y = cond (larger x y) 0 (f y)

    both_parts : (f : X → ℕ) (x : X) (xs : List X) → total f xs ≡ total (below_part f x) xs + total (above_part f x) xs
    unfolding below_part above_part
    both_parts f x xs = total_split f (below_part f x) (above_part f x) (λ y. by_test (larger x y) (f y)) xs
      where
        by_test : (b : Bool) (n : ℕ) → n ≡ cond b n 0 + cond b 0 n
        by_test true n = omega arith
        by_test false n = omega arith

    -- with one more element in front, which counts, ranks below it change their evenness
    module _ (w : X → ℕ) (x : X) (one : w x ≡ 1) (xs : List X) where
      even_of : X → ℕ
      even_of y = evenly (rank w xs y) (w y)

      odd_of : X → ℕ
      odd_of y = oddly (rank w xs y) (w y)

      even_front : (y : X) → evenly (rank w (x ∷ xs) y) (w y) ≡ below_part odd_of x y + above_part even_of x y
      unfolding below_part above_part even_of odd_of
      even_front y = rw one (by_test (larger x y) (rank w xs y) (w y))
        where
          by_test : (b : Bool) (n v : ℕ) → evenly (cond b 1 0 + n) v ≡ cond b (oddly n v) 0 + cond b 0 (evenly n v)
          by_test true n v = rw (next_even n) (flip (is_even n) v)
            where
              flip : (e : Bool) (v : ℕ) → cond (not e) v 0 ≡ cond e 0 v + 0
              flip true v = refl
              flip false v = omega arith
          by_test false n v = let same : 0 + n ≡ n = omega arith in rw same (omega arith)

      odd_front : (y : X) → oddly (rank w (x ∷ xs) y) (w y) ≡ below_part even_of x y + above_part odd_of x y
      unfolding below_part above_part even_of odd_of
      odd_front y = rw one (by_test (larger x y) (rank w xs y) (w y))
        where
          by_test : (b : Bool) (n v : ℕ) → oddly (cond b 1 0 + n) v ≡ cond b (evenly n v) 0 + cond b 0 (oddly n v)
          by_test true n v = rw (next_even n) (flip (is_even n) v)
            where
              flip : (e : Bool) (v : ℕ) → cond (not e) 0 v ≡ cond e v 0 + 0
              flip true v = omega arith
              flip false v = refl
          by_test false n v = let same : 0 + n ≡ n = omega arith in rw same (omega arith)

      even_above : (ys : List X) → AllByRecursion (λ y. larger y x ≡ not (larger x y)) ys
          → total (λ y. evenly (rank (above x w) xs y) (above x w y)) ys ≡ total (above_part even_of x) ys
      unfolding above_part even_of
      even_above [] chain = refl
      even_above (y ∷ ys) chain = ap₂ (λ a b. a + b) (by_test (larger x y) chain.0) (even_above ys chain.1)
        where
          by_test : (b : Bool) → larger y x ≡ not b
              → evenly (rank (above x w) xs y) (cond (larger y x) (w y) 0) ≡ cond b 0 (evenly (rank w xs y) (w y))
          by_test true is = rw is (none_either (is_even (rank (above x w) xs y)))
          by_test false is = rw is (ap (λ n. evenly n (w y)) (rank_above w xs x y is))

      odd_above : (ys : List X) → AllByRecursion (λ y. larger y x ≡ not (larger x y)) ys
          → total (λ y. oddly (rank (above x w) xs y) (above x w y)) ys ≡ total (above_part odd_of x) ys
      unfolding above_part odd_of
      odd_above [] chain = refl
      odd_above (y ∷ ys) chain = ap₂ (λ a b. a + b) (by_test (larger x y) chain.0) (odd_above ys chain.1)
        where
          by_test : (b : Bool) → larger y x ≡ not b
              → oddly (rank (above x w) xs y) (cond (larger y x) (w y) 0) ≡ cond b 0 (oddly (rank w xs y) (w y))
          by_test true is = rw is (none_either (is_even (rank (above x w) xs y)))
          by_test false is = rw is (ap (λ n. oddly n (w y)) (rank_above w xs x y is))

      counted_one : AllByRecursion (λ y. larger y x ≡ not (larger x y)) xs
          → evens w xs ≡ odds w xs + total w xs % 2 → evens (above x w) xs ≡ odds (above x w) xs + total (above x w) xs % 2
          → evens w (x ∷ xs) ≡ odds w (x ∷ xs) + total w (x ∷ xs) % 2
      unfolding even_of odd_of
      counted_one chain all upper =
          let e = total_split (λ y. evenly (rank w (x ∷ xs) y) (w y)) (below_part odd_of x) (above_part even_of x) even_front xs in
          let d = total_split (λ y. oddly (rank w (x ∷ xs) y) (w y)) (below_part even_of x) (above_part odd_of x) odd_front xs in
          let e_all = both_parts even_of x xs in
          let d_all = both_parts odd_of x xs in
          let e_up = even_above xs chain in
          let d_up = odd_above xs chain in
          first (larger x x) (irreflexive x) (w x) one (rank w xs x)
          (total (λ y. evenly (rank w (x ∷ xs) y) (w y)) xs) (total (λ y. oddly (rank w (x ∷ xs) y) (w y)) xs)
          (total w xs) (total (below_part odd_of x) xs) (total (above_part even_of x) xs)
          (total (below_part even_of x) xs) (total (above_part odd_of x) xs) e d (sym e_all ∙ all ∙ ap (λ n. n + total w xs % 2) d_all)
          (sym e_up ∙ upper ∙ ap (λ n. n + rank w xs x % 2) d_up)
        where
          ends : (l e d n bo ae be ao : ℕ) → e ≡ bo + ae → d ≡ be + ao → be + ae ≡ (bo + ao) + n % 2 → ae ≡ ao + l % 2
              → evenly l 1 + e ≡ (oddly l 1 + d) + (1 + n) % 2
          ends l e d n bo ae be ao first second third fourth = by_even (is_even l) refl
            where
              by_even : (b : Bool) → is_even l ≡ b → cond b 1 0 + e ≡ (cond b 0 1 + d) + (1 + n) % 2
              by_even true is = let zero_is : l % 2 ≡ 0 = grind (arith, nat_tests) in omega arith
              by_even false is = let one_is : l % 2 ≡ 1 = grind (arith, nat_tests) in omega arith

          first : (b : Bool) → b ≡ false → (v : ℕ) → v ≡ 1 → (l e d n bo ae be ao : ℕ) → e ≡ bo + ae → d ≡ be + ao
              → be + ae ≡ (bo + ao) + n % 2 → ae ≡ ao + l % 2
              → evenly (cond b v 0 + l) v + e ≡ (oddly (cond b v 0 + l) v + d) + (v + n) % 2
          first b not v is l e d n bo ae be ao p q r s =
              let none : 0 + l ≡ l = omega arith in rw (not, is, none) (ends l e d n bo ae be ao p q r s)

    -- one more that doesn't count changes nothing
    module _ (w : X → ℕ) (x : X) (none : w x ≡ 0) (xs : List X) where
      rank_still : (y : X) → rank w (x ∷ xs) y ≡ rank w xs y
      rank_still y = rw none (still (larger x y) (rank w xs y))
        where
          still : (b : Bool) (n : ℕ) → cond b 0 0 + n ≡ n
          still true n = omega arith
          still false n = omega arith

      counted_none : evens w xs ≡ odds w xs + total w xs % 2 → evens w (x ∷ xs) ≡ odds w (x ∷ xs) + total w (x ∷ xs) % 2
      counted_none all =
          let e = total_same (λ y. evenly (rank w (x ∷ xs) y) (w y)) (λ y. evenly (rank w xs y) (w y))
          (λ y. ap (λ n. evenly n (w y)) (rank_still y)) xs in
          let d = total_same (λ y. oddly (rank w (x ∷ xs) y) (w y)) (λ y. oddly (rank w xs y) (w y))
          (λ y. ap (λ n. oddly n (w y)) (rank_still y)) xs in
          let here : evenly (rank w (x ∷ xs) x) (w x) ≡ 0 = nothing_even (rank w (x ∷ xs) x) (w x) none in
          let there : oddly (rank w (x ∷ xs) x) (w x) ≡ 0 = nothing_odd (rank w (x ∷ xs) x) (w x) none in
          let same : w x + total w xs ≡ total w xs = omega arith in
          rw same (sums _ _ _ _ _ here there (e ∙ all ∙ ap (λ n. n + total w xs % 2) (sym d)))
        where
          nothing_even : (n v : ℕ) → v ≡ 0 → evenly n v ≡ 0
          nothing_even n v is = rw is (none_either (is_even n))

          nothing_odd : (n v : ℕ) → v ≡ 0 → oddly n v ≡ 0
          nothing_odd n v is = rw is (none_either (is_even n))

          sums : (a b c d n : ℕ) → a ≡ 0 → c ≡ 0 → b ≡ d + n → a + b ≡ (c + d) + n
          sums a b c d n p q r = omega arith

    few_above : (w : X → ℕ) → ((x : X) → w x ≤ 1) → (x y : X) → above x w y ≤ 1
    few_above w few x y = by_test (larger y x) (w y) (few y)
      where
        by_test : (b : Bool) (n : ℕ) → n ≤ 1 → cond b n 0 ≤ 1
        by_test true n few = few
        by_test false n few = omega arith

    pub counted : (xs : List X) → IsChain xs → (w : X → ℕ) → ((x : X) → w x ≤ 1) → evens w xs ≡ odds w xs + total w xs % 2
    counted [] chain w few = omega arith
    counted (x ∷ xs) chain w few =
        by_one (w x) refl (few x) (counted xs chain.1 w few) (counted xs chain.1 (above x w) (few_above w few x))
      where
        by_one : (n : ℕ) → w x ≡ n → n ≤ 1 → evens w xs ≡ odds w xs + total w xs % 2
            → evens (above x w) xs ≡ odds (above x w) xs + total (above x w) xs % 2
            → evens w (x ∷ xs) ≡ odds w (x ∷ xs) + total w (x ∷ xs) % 2
        by_one zero is at_most all upper = counted_none w x is xs all
        by_one (suc zero) is at_most all upper = counted_one w x is xs chain.0 all upper
        by_one (suc (suc n)) is at_most all upper = absurd (omega arith)
