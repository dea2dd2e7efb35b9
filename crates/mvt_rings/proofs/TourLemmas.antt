-- What the edges of a ring cost together: the same in both directions, and with repeated points.
use Rattle.std.proofs.Common.{arith, ◌≡◌, ℕ, ◌+◌, Bool, true, false, List, [], ◌∷◌, ◌++◌, reverse, refl, sym, ap, subst, ◌∙◌}
use Rattle.std.specs.Prelude.{if◌then◌else◌}
use Rattle.std.proofs.lemmas.List.{reverse-append}
use Rattle.mvt_geometry.specs.declared.shape.Point.{Point}
use Rattle.mvt_geometry.specs.Shape.{last_of}
use Rattle.mvt_rings.specs.Repeats.{is_same, others_after, past, without_repeats}
use Rattle.mvt_rings.specs.Turning.{turned}
use Rattle.mvt_rings.proofs.TurningLemmas.{same_point}

-- a cost of edges that is the same both ways, and none from a point to itself
pub record IsCost (c : Point → Point → ℕ) : Type 0 where
  pub back : (p q : Point) → c p q ≡ c q p
  pub still : (p : Point) → c p p ≡ 0

-- what a path costs
abbrev pub path : (Point → Point → ℕ) → List Point → ℕ
path c [] = 0
path c (p ∷ []) = 0
path c (p ∷ q ∷ more) = c p q + path c (q ∷ more)

-- the path along a ring, back to its first point
abbrev pub tour : List Point → List Point
tour [] = []
tour (p ∷ points) = p ∷ (points ++ p ∷ [])

end_first : (a : ℕ) → a + 0 ≡ 0 + a
end_first a = omega arith

end_second : (a b : ℕ) → a + (b + 0) ≡ (a + 0) + b
end_second a b = omega arith

end_more : (a b c d : ℕ) → b ≡ c + d → a + b ≡ (a + c) + d
end_more a b c d e = omega arith

path_snoc : (c : Point → Point → ℕ) (xs : List Point) (q r : Point)
    → path c ((xs ++ q ∷ []) ++ r ∷ []) ≡ path c (xs ++ q ∷ []) + c q r
path_snoc c [] q r = end_first (c q r)
path_snoc c (x ∷ []) q r = end_second (c x q) (c q r)
path_snoc c (x ∷ y ∷ xs) q r = end_more (c x y) _ _ (c q r) (path_snoc c (y ∷ xs) q r)

-- with one more point at the end
pub path_end : (c : Point → Point → ℕ) (p : Point) (ps : List Point) (z : Point)
    → path c (p ∷ (ps ++ z ∷ [])) ≡ path c (p ∷ ps) + c (last_of p ps) z
path_end c p [] z = end_first (c p z)
path_end c p (q ∷ ps) z = end_more (c p q) _ _ (c (last_of q ps) z) (path_end c q ps z)

reverse_cons : (p : Point) (xs : List Point) → reverse (p ∷ xs) ≡ reverse xs ++ p ∷ []
reverse_cons p xs = reverse-append (p ∷ []) xs

swapped : (a b c d : ℕ) → a ≡ b → c ≡ d → a + c ≡ d + b
swapped a b c d e f = omega arith

path_reverse : (c : Point → Point → ℕ) → IsCost c → (xs : List Point) → path c (reverse xs) ≡ path c xs
path_reverse c is [] = refl
path_reverse c is (p ∷ []) = refl
path_reverse c is (p ∷ q ∷ xs) =
    let back : path c (reverse (p ∷ q ∷ xs)) ≡ path c (reverse (q ∷ xs)) + c q p =
    ap (path c) (reverse_cons p (q ∷ xs) ∙ ap (λ ys. ys ++ p ∷ []) (reverse_cons q xs)) ∙ path_snoc c (reverse xs) q p
    ∙ ap (λ ys. path c ys + c q p) (sym (reverse_cons q xs)) in
    back ∙ swapped (path c (reverse (q ∷ xs))) (path c (q ∷ xs)) (c q p) (c p q) (path_reverse c is (q ∷ xs)) (is.back q p)

nothing_more : (a b c : ℕ) → a ≡ 0 → b ≡ c → b ≡ a + c
nothing_more a b c e f = omega arith

-- an edge to an equal point
stays : (c : Point → Point → ℕ) → IsCost c → (p q : Point) (xs : List Point) (n : ℕ) → p ≡ q → n ≡ path c (p ∷ xs)
    → n ≡ c p q + path c (q ∷ xs)
stays c is p q xs n e h =
    subst (λ (r : Point). n ≡ c p r + path c (r ∷ xs)) e (nothing_more (c p p) n (path c (p ∷ xs)) (is.still p) h)

past_one : (c : Point → Point → ℕ) → IsCost c → (b : Bool) (p q : Point) (xs : List Point) → is_same p q ≡ b
    → path c (p ∷ (past p xs ++ p ∷ [])) ≡ path c (p ∷ (xs ++ p ∷ []))
    → path c (p ∷ ((if b then past p xs else q ∷ xs) ++ p ∷ [])) ≡ path c (p ∷ ((q ∷ xs) ++ p ∷ []))
past_one c is true p q xs e before = stays c is p q (xs ++ p ∷ []) _ (same_point p q e) before
past_one c is false p q xs e before = refl

past_path : (c : Point → Point → ℕ) → IsCost c → (p : Point) (xs : List Point)
    → path c (p ∷ (past p xs ++ p ∷ [])) ≡ path c (p ∷ (xs ++ p ∷ []))
past_path c is p [] = refl
past_path c is p (q ∷ xs) = past_one c is (is_same p q) p q xs refl (past_path c is p xs)

pub turned_tour : (c : Point → Point → ℕ) → IsCost c → (ring : List Point) → path c (tour (turned ring)) ≡ path c (tour ring)
turned_tour c is [] = refl
turned_tour c is (p ∷ ps) =
    let whole : List Point = p ∷ (ps ++ p ∷ []) in
    let back : reverse whole ≡ p ∷ (reverse ps ++ p ∷ []) =
    reverse_cons p (ps ++ p ∷ []) ∙ ap (λ ys. ys ++ p ∷ []) (reverse-append ps (p ∷ [])) in
    past_path c is p (reverse ps) ∙ (ap (path c) (sym back) ∙ path_reverse c is whole)

others_one : (c : Point → Point → ℕ) → IsCost c → (b : Bool) (p q : Point) (xs end : List Point) → is_same p q ≡ b
    → path c (p ∷ (others_after p xs ++ end)) ≡ path c (p ∷ (xs ++ end))
    → path c (q ∷ (others_after q xs ++ end)) ≡ path c (q ∷ (xs ++ end))
    → path c (p ∷ ((if b then others_after p xs else q ∷ others_after q xs) ++ end)) ≡ path c (p ∷ ((q ∷ xs) ++ end))
others_one c is true p q xs end e here next = stays c is p q (xs ++ end) _ (same_point p q e) here
others_one c is false p q xs end e here next = ap (λ n. c p q + n) next

others_path : (c : Point → Point → ℕ) → IsCost c → (p : Point) (xs end : List Point)
    → path c (p ∷ (others_after p xs ++ end)) ≡ path c (p ∷ (xs ++ end))
others_path c is p [] end = refl
others_path c is p (q ∷ xs) end =
    others_one c is (is_same p q) p q xs end refl (others_path c is p xs end) (others_path c is q xs end)

pub repeats_tour : (c : Point → Point → ℕ) → IsCost c → (ring : List Point)
    → path c (tour (without_repeats ring)) ≡ path c (tour ring)
repeats_tour c is [] = refl
repeats_tour c is (p ∷ ps) = others_path c is p ps (p ∷ [])
