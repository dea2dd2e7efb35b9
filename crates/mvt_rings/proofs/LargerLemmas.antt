-- Which of two rings is larger: a strict total order.
use Rattle.std.proofs.Common.{arith, ◌≡◌, ◌≢◌, ℕ, zero, suc, ◌+◌, ◌<◌, ◌==◌, nat_lt, ◌&&◌, ◌||◌, Bool, true, false, List, [], ◌∷◌, length, inl, inr, ◌⊎◌, sym, ◌∙◌}
use Rattle.std.specs.Prelude.{slice_index_or}
use Rattle.std.proofs.lemmas.Bool.{cases_order}
use Rattle.std.proofs.lemmas.Bool.Decides.{nat_tests}
use Rattle.mvt_geometry.specs.declared.shape.Point.{Point}
use Rattle.mvt_rings.specs.declared.rings.Ring.{Ring}
use Rattle.mvt_rings.specs.Rings.{is_larger, rings_from}

-- the size and index of one against those of another
abbrev above : ℕ → ℕ → ℕ → ℕ → Bool
above a b i j = nat_lt b a || ((a == b) && nat_lt i j)

not_above : (a i : ℕ) → above a a i i ≡ false
not_above a i = grind (arith, nat_tests)

-- what it says, and what says it
above_is : (a b i j : ℕ) → above a b i j ≡ true → (b < a) ⊎ ((a ≡ b) × (i < j))
above_is a b i j is = by_order (cases_order a b) (λ more. not_more a b i j is more) (λ same. not_later a b i j is same)
  where
    not_more : (a b i j : ℕ) → above a b i j ≡ true → a < b → ⊥
    not_more a b i j is more = grind (arith, nat_tests)

    not_later : (a b i j : ℕ) → above a b i j ≡ true → a ≡ b → i < j
    not_later a b i j is same = grind (arith, nat_tests)

    by_order : (a ≡ b) ⊎ ((a < b) ⊎ (b < a)) → (a < b → ⊥) → (a ≡ b → i < j) → (b < a) ⊎ ((a ≡ b) × (i < j))
    by_order (inl same) no_more later = inr (same, later same)
    by_order (inr (inl more)) no_more later = absurd (no_more more)
    by_order (inr (inr less)) no_more later = inl less

above_more : (a b i j : ℕ) → b < a → above a b i j ≡ true
above_more a b i j more = grind (arith, nat_tests)

above_same : (a b i j : ℕ) → a ≡ b → i < j → above a b i j ≡ true
above_same a b i j same first = grind (arith, nat_tests)

pub larger_irreflexive : (r : Ring) → is_larger r r ≡ false
larger_irreflexive r = not_above r.size r.index

joined : (a b c i j k : ℕ) → (b < a) ⊎ ((a ≡ b) × (i < j)) → (c < b) ⊎ ((b ≡ c) × (j < k)) → above a c i k ≡ true
joined a b c i j k (inl p) (inl q) = above_more a c i k (omega arith)
joined a b c i j k (inl p) (inr q) = above_more a c i k (omega arith)
joined a b c i j k (inr p) (inl q) = above_more a c i k (omega arith)
joined a b c i j k (inr p) (inr q) = above_same a c i k (omega arith) (omega arith)

pub larger_transitive : (o p q : Ring) → is_larger o p ≡ true → is_larger p q ≡ true → is_larger o q ≡ true
larger_transitive o p q one two =
    joined o.size p.size q.size o.index p.index q.index (above_is o.size p.size o.index p.index one)
    (above_is p.size q.size p.index q.index two)

one_above : (a b i j : ℕ) → i ≢ j → (a ≡ b) ⊎ ((a < b) ⊎ (b < a)) → (i ≡ j) ⊎ ((i < j) ⊎ (j < i))
    → (above a b i j ≡ true) ⊎ (above b a j i ≡ true)
one_above a b i j other (inl same) (inl no_other) = absurd (other no_other)
one_above a b i j other (inl same) (inr (inl first)) = inl (above_same a b i j same first)
one_above a b i j other (inl same) (inr (inr first)) = inr (above_same b a j i (sym same) first)
one_above a b i j other (inr (inl more)) order = inr (above_more b a j i more)
one_above a b i j other (inr (inr more)) order = inl (above_more a b i j more)

pub larger_total : (o r : Ring) → o.index ≢ r.index → (is_larger o r ≡ true) ⊎ (is_larger r o ≡ true)
larger_total o r other =
    one_above o.size r.size o.index r.index other (cases_order o.size r.size) (cases_order o.index r.index)

pub ring_index : (n : ℕ) (parts : List (List Point)) (i : ℕ) (d : Ring) → i < length parts
    → (slice_index_or (rings_from n parts) i d).index ≡ n + i
ring_index n [] i d within = absurd (omega arith)
ring_index n (part ∷ parts) zero d within = omega arith
ring_index n (part ∷ parts) (suc i) d within =
    let next : (n + 1) + i ≡ n + suc i = omega arith in ring_index (n + 1) parts i d (omega arith) ∙ next
