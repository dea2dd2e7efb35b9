-- Where a ring lies as to one that comes near its box nowhere.
use Rattle.std.proofs.Common.{arith, ◌≡◌, ℕ, ◌+◌, ◌<◌, nat_lt, Bool, true, false, not, ℤ, List, [], ◌∷◌, length, get_or, drop, drop-cons, refl, sym, ap, ◌∙◌}
use Rattle.std.specs.Prelude.{if◌then◌else◌}
use Rattle.std.specs.List.{AllByRecursion, list_all}
use Rattle.std.proofs.lemmas.Bool.{and_from, and_left, and_parts, false≢true, or_from, or_left, true≢false}
use Rattle.std.proofs.Math.Bool.{not-not}
use Rattle.mvt_geometry.specs.declared.shape.Point.{Point}
use Rattle.mvt_geometry.specs.Shape.{last_of, origin}
use Rattle.mvt_rings.specs.declared.boxes.Bounds.{Bounds}
use Rattle.mvt_rings.specs.declared.nesting.Spot.{Spot}
use Rattle.mvt_rings.specs.declared.nesting.Edge.{Edge}
use Rattle.mvt_rings.specs.declared.placing.Place.{Place}
use Rattle.mvt_rings.specs.declared.placing.Place.TheVariants.{Held, Apart}
use Rattle.mvt_rings.specs.declared.rings.Ring.{Ring}
use Rattle.mvt_rings.specs.Nesting.{edges_from, edges_of, in_parts, lies_at}
use Rattle.mvt_rings.specs.Placing.{all_near, band, edge_near, end_of, fits, fits_at, is_near, marks_on, middle_of, narrow_place, one_if, place_in, row_fits, strictly}
use Rattle.mvt_rings.specs.Rings.{differ, place}
use Rattle.mvt_rings.specs.Clear.{is_in, IsAway}
use Rattle.mvt_rings.proofs.AwayLemmas.{IsAround, IsNear, all_lie, around_middle, around_near, around_spot, near_less, near_more, near_same, side_if}

-- edges in a box
abbrev IsIn : Bounds → Edge → Type 0
IsIn box e = (is_in box e.from ≡ true) × (is_in box e.to ≡ true)

edges_in : (box : Bounds) (a : Point) (points : List Point) → is_in box a ≡ true → list_all (is_in box) points ≡ true
    → AllByRecursion (IsIn box) (edges_from a points)
edges_in box a [] is are = tt
edges_in box a (b ∷ points) is are =
    let both = and_parts (is_in box b) (list_all (is_in box) points) are in
    ((is, both.0), edges_in box b points both.0 both.1)

last_in : (box : Bounds) (a : Point) (points : List Point) → is_in box a ≡ true → list_all (is_in box) points ≡ true
    → is_in box (last_of a points) ≡ true
last_in box a [] is are = is
last_in box a (b ∷ points) is are =
    let both = and_parts (is_in box b) (list_all (is_in box) points) are in last_in box b points both.0 both.1

ring_in : (box : Bounds) (a : Point) (points : List Point) → is_in box a ≡ true → list_all (is_in box) points ≡ true
    → AllByRecursion (IsIn box) (edges_of (a ∷ points))
ring_in box a points is are =
    let end = last_in box a points is are in ((end, is), edges_in box a points is are)

fits_same : (inside : Bool) → fits inside (side_if inside) ≡ true
fits_same true = refl
fits_same false = refl

fits_other : (inside : Bool) → fits (not inside) (side_if inside) ≡ false
fits_other true = refl
fits_other false = refl

-- all spots around a box lie on one side of a ring of these edges
abbrev AllLie : Bounds → Bool → List Edge → Type 0
AllLie box inside edges = (p : Spot) → IsAround box p → lies_at 2 p edges ≡ side_if inside

at_same : (box : Bounds) (inside : Bool) (edges : List Edge) → AllLie box inside edges → (x y : ℤ)
    → IsAround box (record { x = x; y = y }) → fits_at inside edges x y ≡ true
at_same box inside edges lie x y at = ap (fits inside) (lie (record { x = x; y = y }) at) ∙ fits_same inside

at_other : (box : Bounds) (inside : Bool) (edges : List Edge) → AllLie box inside edges → (x y : ℤ)
    → IsAround box (record { x = x; y = y }) → fits_at (not inside) edges x y ≡ false
at_other box inside edges lie x y at = ap (fits (not inside)) (lie (record { x = x; y = y }) at) ∙ fits_other inside

near_one : (box : Bounds) (inside : Bool) (edges : List Edge) → AllLie box inside edges → (p : Spot) → IsAround box p
    → is_near inside edges p ≡ true
near_one box inside edges lie p at = or_left _ _ (or_left _ _ (at_same box inside edges lie p.x p.y at))

near_all : (box : Bounds) (inside : Bool) (edges : List Edge) → AllLie box inside edges → (marks : List Edge)
    → AllByRecursion (IsIn box) marks → all_near inside edges marks ≡ true
near_all box inside edges lie [] are = refl
near_all box inside edges lie (e ∷ marks) are =
    and_from _ _
    (and_from _ _ (near_one box inside edges lie (end_of e) (around_spot box e.to are.0.1))
    (near_one box inside edges lie (middle_of e) (around_middle box e.from e.to are.0.0 are.0.1)))
    (near_all box inside edges lie marks are.1)

row_other : (box : Bounds) (inside : Bool) (edges : List Edge) → AllLie box inside edges → (v : Point) → is_in box v ≡ true → (y : ℤ)
    → IsNear v.y y → row_fits (not inside) edges (in_parts 2 v.x) y ≡ false
row_other box inside edges lie v is y down =
    or_from _ _ (at_other box inside edges lie _ y (around_near box v _ y is (near_same v.x) down))
    (or_from _ _ (at_other box inside edges lie _ y (around_near box v _ y is (near_less v.x) down))
    (at_other box inside edges lie _ y (around_near box v _ y is (near_more v.x) down)))

end_other : (box : Bounds) (inside : Bool) (edges : List Edge) → AllLie box inside edges → (e : Edge) → is_in box e.to ≡ true
    → is_near (not inside) edges (end_of e) ≡ false
end_other box inside edges lie e is =
    or_from _ _ (row_other box inside edges lie e.to is _ (near_same e.to.y))
    (or_from _ _ (row_other box inside edges lie e.to is _ (near_less e.to.y)) (row_other box inside edges lie e.to is _ (near_more e.to.y)))

none_near : (box : Bounds) (inside : Bool) (edges : List Edge) → AllLie box inside edges → (e : Edge) (marks : List Edge)
    → is_in box e.to ≡ true → all_near (not inside) edges (e ∷ marks) ≡ false
none_near box inside edges lie e marks is =
    and_left _ (list_all (edge_near (not inside) edges) marks)
    (and_left _ (is_near (not inside) edges (middle_of e)) (end_other box inside edges lie e is))

strictly_same : (box : Bounds) (inside : Bool) (edges : List Edge) → AllLie box inside edges → (p : Spot) → IsAround box p
    → strictly inside edges p ≡ 1
strictly_same box inside edges lie p at =
    ap (λ b. one_if (not b)) (ap (fits (not inside)) (lie p at) ∙ fits_other inside)

strictly_other : (box : Bounds) (inside : Bool) (edges : List Edge) → AllLie box inside edges → (p : Spot) → IsAround box p
    → strictly (not inside) edges p ≡ 0
strictly_other box inside edges lie p at =
    ap (λ b. one_if (not b)) (ap (fits (not (not inside))) (lie p at) ∙ (ap (λ b. fits b (side_if inside)) (not-not inside) ∙ fits_same inside))

some_marks : (a b c : ℕ) → a ≡ 1 → 0 < (a + b) + c
some_marks a b c is = omega arith

no_marks : (a b c : ℕ) → a ≡ 0 → b ≡ 0 → c ≡ 0 → (a + b) + c ≡ 0
no_marks a b c p q r = omega arith

marks_same : (box : Bounds) (inside : Bool) (edges : List Edge) → AllLie box inside edges → (e : Edge) (marks : List Edge)
    → is_in box e.to ≡ true → 0 < marks_on inside edges (e ∷ marks)
marks_same box inside edges lie e marks is =
    some_marks (strictly inside edges (end_of e)) (strictly inside edges (middle_of e)) (marks_on inside edges marks)
    (strictly_same box inside edges lie (end_of e) (around_spot box e.to is))

marks_other : (box : Bounds) (inside : Bool) (edges : List Edge) → AllLie box inside edges → (marks : List Edge)
    → AllByRecursion (IsIn box) marks → marks_on (not inside) edges marks ≡ 0
marks_other box inside edges lie [] are = refl
marks_other box inside edges lie (e ∷ marks) are =
    no_marks _ _ _ (strictly_other box inside edges lie (end_of e) (around_spot box e.to are.0.1))
    (strictly_other box inside edges lie (middle_of e) (around_middle box e.from e.to are.0.0 are.0.1))
    (marks_other box inside edges lie marks are.1)

abbrev pub place_if : Bool → Place
place_if inside = if inside then Held else Apart

more : (m n : ℕ) → 0 < m → n ≡ 0 → nat_lt n m ≡ true
more m n some none = grind arith

no_more : (m n : ℕ) → m ≡ 0 → nat_lt n m ≡ false
no_more m n none = grind arith

narrow_one : (inside : Bool) (m n : ℕ) → (inside ≡ true → (0 < m) × (n ≡ 0)) → (inside ≡ false → m ≡ 0)
    → narrow_place m n ≡ place_if inside
narrow_one true m n held apart = let is = more m n (held refl).0 (held refl).1 in rw is refl
narrow_one false m n held apart = let is = no_more m n (apart refl) in rw is refl

in_one : (box : Bounds) (inside : Bool) (edges : List Edge) → AllLie box inside edges → (e : Edge) (marks : List Edge)
    → AllByRecursion (IsIn box) (e ∷ marks) → (narrow against : Bool) → place_in edges (e ∷ marks) narrow against ≡ place_if inside
unfolding place_in
in_one box true edges lie e marks are true against =
    narrow_one true _ _ (λ _. (marks_same box true edges lie e marks are.0.1, marks_other box true edges lie (e ∷ marks) are))
    (λ is. absurd (true≢false is))
in_one box false edges lie e marks are true against =
    narrow_one false _ _ (λ is. absurd (false≢true is)) (λ _. marks_other box false edges lie (e ∷ marks) are)
in_one box true edges lie e marks are false against =
    let near = near_all box true edges lie (e ∷ marks) are in
    let apart = none_near box true edges lie e marks are.0.1 in rw (near, apart) refl
in_one box false edges lie e marks are false against =
    let near = near_all box false edges lie (e ∷ marks) are in
    let apart = none_near box false edges lie e marks are.0.1 in rw (near, apart) refl

away_place : (o r : Ring) (a : Point) (points : List Point) (inside : Bool) → r.points ≡ a ∷ points
    → list_all (is_in r.bounds) r.points ≡ true → IsAway r.bounds a inside (edges_of o.points) → place o r ≡ place_if inside
unfolding place
away_place o r a points inside is are away =
    let all : list_all (is_in r.bounds) (a ∷ points) ≡ true = ap (list_all (is_in r.bounds)) (sym is) ∙ are in
    let both = and_parts (is_in r.bounds a) (list_all (is_in r.bounds) points) all in
    ap (λ (ring : List Point). place_in (band r.bounds o.points) (edges_of ring) r.is_narrow (differ o.is_negative r.is_negative)) is
    ∙ in_one r.bounds inside (band r.bounds o.points) (all_lie r.bounds a inside o.points both.0 away) _ _
    (ring_in r.bounds a points both.0 both.1) r.is_narrow (differ o.is_negative r.is_negative)

-- the same of the first point
pub away_first : (o r : Ring) (inside : Bool) → 0 < length r.points → list_all (is_in r.bounds) r.points ≡ true
    → IsAway r.bounds (get_or r.points 0 origin) inside (edges_of o.points) → place o r ≡ place_if inside
away_first o r inside some are away =
    away_place o r (get_or r.points 0 origin) (drop 1 r.points) inside (drop-cons r.points 0 origin some) are away
