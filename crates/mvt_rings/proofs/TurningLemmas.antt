-- A turned ring has the opposite area, and one without repeated points the same.
use Rattle.std.proofs.Common.{arith, ◌≡◌, ℕ, Bool, true, false, ℤ, pos, neg_ℤ, ◌+ℤ◌, ◌-ℤ◌, ◌*ℤ◌, ◌≤ℤ◌, ◌<ℤ◌, List, [], ◌∷◌, ◌++◌, reverse, refl, sym, ap, ap₂, subst, ◌∙◌, ◌&&◌}
use Rattle.std.specs.Prelude.{if◌then◌else◌}
use Rattle.std.specs.Ordering.{int_eq}
use Rattle.std.proofs.lemmas.Int.{ints, by_lt_z}
use Rattle.std.proofs.lemmas.List.{reverse-append}
use Rattle.mvt_geometry.specs.declared.shape.Point.{Point}
use Rattle.mvt_geometry.specs.Area.{cross, crosses, area2}
use Rattle.mvt_rings.specs.Repeats.{is_long, is_same, others_after, past, without_repeats}
use Rattle.mvt_rings.specs.Mending.{begins_negative, kept_from}
use Rattle.mvt_rings.specs.Turning.{turned, as_exterior, as_interior}
use Rattle.mvt_rings.specs.Signs.{is_positive, is_negative}
use Rattle.std.specs.Int.Signed.{lt_z}

and_true : (p q : Bool) → (p && q) ≡ true → (p ≡ true) × (q ≡ true)
and_true true q h = (refl, h)
and_true false q h = absurd (cc)

-- what the edges from each point to the next add
walk : List Point → ℤ
walk [] = pos 0
walk (p ∷ []) = pos 0
walk (p ∷ q ∷ more) = cross p q +ℤ walk (q ∷ more)

crosses_walk : (p : Point) (ps : List Point) (q : Point) → crosses (p ∷ ps) (ps ++ q ∷ []) ≡ walk (p ∷ (ps ++ q ∷ []))
unfolding walk
crosses_walk p [] q = refl
crosses_walk p (r ∷ ps) q = ap (λ z. cross p r +ℤ z) (crosses_walk r ps q)

area_walk : (p : Point) (ps : List Point) → area2 (p ∷ ps) ≡ walk (p ∷ (ps ++ p ∷ []))
area_walk p ps = crosses_walk p ps p

opposite : (a b : ℤ) → (a -ℤ b) +ℤ (b -ℤ a) ≡ pos 0
opposite a b = omega (arith, ints)

cross_back : (p q : Point) → cross q p +ℤ cross p q ≡ pos 0
cross_back p q = opposite (q.x *ℤ p.y) (p.x *ℤ q.y)

end_first : (a : ℤ) → a +ℤ pos 0 ≡ pos 0 +ℤ a
end_first a = omega (arith, ints)

end_second : (a b : ℤ) → a +ℤ (b +ℤ pos 0) ≡ (a +ℤ pos 0) +ℤ b
end_second a b = omega (arith, ints)

end_more : (a b c d : ℤ) → b ≡ c +ℤ d → a +ℤ b ≡ (a +ℤ c) +ℤ d
end_more a b c d e = omega (arith, ints)

walk_snoc : (xs : List Point) (q r : Point) → walk ((xs ++ q ∷ []) ++ r ∷ []) ≡ walk (xs ++ q ∷ []) +ℤ cross q r
unfolding walk
walk_snoc [] q r = end_first (cross q r)
walk_snoc (x ∷ []) q r = end_second (cross x q) (cross q r)
walk_snoc (x ∷ y ∷ xs) q r = end_more (cross x y) _ _ (cross q r) (walk_snoc (y ∷ xs) q r)

reverse_cons : (p : Point) (xs : List Point) → reverse (p ∷ xs) ≡ reverse xs ++ p ∷ []
reverse_cons p xs = reverse-append (p ∷ []) xs

cancel : (a b c d : ℤ) → a +ℤ d ≡ pos 0 → b +ℤ c ≡ pos 0 → (a +ℤ b) +ℤ (c +ℤ d) ≡ pos 0
cancel a b c d e f = omega (arith, ints)

walk_reverse : (xs : List Point) → walk (reverse xs) +ℤ walk xs ≡ pos 0
unfolding walk
walk_reverse [] = refl
walk_reverse (p ∷ []) = refl
walk_reverse (p ∷ q ∷ xs) =
    let back : walk (reverse (p ∷ q ∷ xs)) ≡ walk (reverse (q ∷ xs)) +ℤ cross q p =
    ap walk (reverse_cons p (q ∷ xs) ∙ ap (λ ys. ys ++ p ∷ []) (reverse_cons q xs)) ∙ walk_snoc (reverse xs) q p
    ∙ ap (λ ys. walk ys +ℤ cross q p) (sym (reverse_cons q xs)) in
    ap (λ z. z +ℤ (cross p q +ℤ walk (q ∷ xs))) back
    ∙ cancel (walk (reverse (q ∷ xs))) (cross q p) (cross p q) (walk (q ∷ xs)) (walk_reverse (q ∷ xs)) (cross_back p q)

same_number : (a b : ℤ) → int_eq a b ≡ true → a ≡ b
same_number a b e = grind (arith, ints)

pub same_point : (p q : Point) → is_same p q ≡ true → p ≡ q
same_point p q e =
    let tests = and_true (int_eq p.x q.x) (int_eq p.y q.y) e in
    ap₂ (λ (a b : ℤ). let r : Point = record { x = a; y = b } in r) (same_number p.x q.x tests.0) (same_number p.y q.y tests.1)

nothing_more : (a b c : ℤ) → b ≡ c → b ≡ (a -ℤ a) +ℤ c
nothing_more a b c e = omega (arith, ints)

still : (p q : Point) (more : List Point) (z : ℤ) → p ≡ q → z ≡ walk (p ∷ more) → z ≡ cross p q +ℤ walk (q ∷ more)
still p q more z e h = subst (λ r. z ≡ cross p r +ℤ walk (r ∷ more)) e (nothing_more (p.x *ℤ p.y) z _ h)

past_one : (b : Bool) (p q : Point) (xs : List Point) → is_same p q ≡ b
    → walk (p ∷ (past p xs ++ p ∷ [])) ≡ walk (p ∷ (xs ++ p ∷ []))
    → walk (p ∷ ((if b then past p xs else q ∷ xs) ++ p ∷ [])) ≡ walk (p ∷ ((q ∷ xs) ++ p ∷ []))
unfolding walk
past_one true p q xs e before = still p q (xs ++ p ∷ []) _ (same_point p q e) before
past_one false p q xs e before = refl

past_walk : (p : Point) (xs : List Point) → walk (p ∷ (past p xs ++ p ∷ [])) ≡ walk (p ∷ (xs ++ p ∷ []))
past_walk p [] = refl
past_walk p (q ∷ xs) = past_one (is_same p q) p q xs refl (past_walk p xs)

others_one : (b : Bool) (p q : Point) (xs end : List Point) → is_same p q ≡ b
    → walk (p ∷ (others_after p xs ++ end)) ≡ walk (p ∷ (xs ++ end))
    → walk (q ∷ (others_after q xs ++ end)) ≡ walk (q ∷ (xs ++ end))
    → walk (p ∷ ((if b then others_after p xs else q ∷ others_after q xs) ++ end)) ≡ walk (p ∷ ((q ∷ xs) ++ end))
unfolding walk
others_one true p q xs end e here next = still p q (xs ++ end) _ (same_point p q e) here
others_one false p q xs end e here next = ap (λ z. cross p q +ℤ z) next

others_walk : (p : Point) (xs end : List Point) → walk (p ∷ (others_after p xs ++ end)) ≡ walk (p ∷ (xs ++ end))
others_walk p [] end = refl
others_walk p (q ∷ xs) end = others_one (is_same p q) p q xs end refl (others_walk p xs end) (others_walk q xs end)

repeats_area : (ring : List Point) → area2 (without_repeats ring) ≡ area2 ring
repeats_area [] = refl
repeats_area (p ∷ ps) = area_walk p (others_after p ps) ∙ (others_walk p ps (p ∷ []) ∙ sym (area_walk p ps))

repeats_negative : (ring : List Point) → is_negative (without_repeats ring) ≡ is_negative ring
unfolding is_negative
repeats_negative ring = ap (λ z. lt_z z (pos 0)) (repeats_area ring)

turned_sum : (ring : List Point) → area2 (turned ring) +ℤ area2 ring ≡ pos 0
turned_sum [] = refl
turned_sum (p ∷ ps) =
    let whole : List Point = p ∷ (ps ++ p ∷ []) in
    let back : reverse whole ≡ p ∷ (reverse ps ++ p ∷ []) =
    reverse_cons p (ps ++ p ∷ []) ∙ ap (λ ys. ys ++ p ∷ []) (reverse-append ps (p ∷ [])) in
    let one : area2 (turned (p ∷ ps)) ≡ walk (reverse whole) =
    area_walk p (past p (reverse ps)) ∙ past_walk p (reverse ps) ∙ ap walk (sym back) in
    ap₂ (λ a b. a +ℤ b) one (area_walk p ps) ∙ walk_reverse whole

negative : (a b : ℤ) → a +ℤ b ≡ pos 0 → a ≡ neg_ℤ b
negative a b e = omega (arith, ints)

pub turned_area : (ring : List Point) → area2 (turned ring) ≡ neg_ℤ (area2 ring)
turned_area ring = negative (area2 (turned ring)) (area2 ring) (turned_sum ring)

no_less : (a b : ℤ) → a ≡ neg_ℤ b → b <ℤ pos 0 → pos 0 ≤ℤ a
no_less a b e low = omega (arith, ints, low)

no_more : (a b : ℤ) → a ≡ neg_ℤ b → pos 0 <ℤ b → a ≤ℤ pos 0
no_more a b e high = omega (arith, ints, high)

-- rings as exterior and as interior ones have no area that they may not have
pub exterior_area : (ring : List Point) → pos 0 ≤ℤ area2 (as_exterior ring)
unfolding as_exterior is_negative
exterior_area ring =
    by_lt_z (area2 ring) (pos 0)
    (λ low. let yes : lt_z (area2 ring) (pos 0) ≡ true = grind (arith, ints) in
    rw yes (no_less (area2 (turned ring)) (area2 ring) (turned_area ring) low))
    (λ high. let no : lt_z (area2 ring) (pos 0) ≡ false = grind (arith, ints) in rw no high)

pub interior_area : (ring : List Point) → area2 (as_interior ring) ≤ℤ pos 0
unfolding as_interior is_positive
interior_area ring =
    by_lt_z (pos 0) (area2 ring)
    (λ low. let yes : lt_z (pos 0) (area2 ring) ≡ true = grind (arith, ints) in
    rw yes (no_more (area2 (turned ring)) (area2 ring) (turned_area ring) low))
    (λ high. let no : lt_z (pos 0) (area2 ring) ≡ false = grind (arith, ints) in rw no high)

-- the first ring that stays tells whether rings are told
pub first_long : (n : ℕ) (ring : List Point) (rings : List (List Point)) → is_long 3 (without_repeats ring) ≡ true
    → is_negative ring ≡ begins_negative (kept_from 3 n (ring ∷ rings))
first_long n ring rings long = rw long (sym (repeats_negative ring))
