-- A ring that comes near a box nowhere has all of the box on one side, and a unit around it.
use Rattle.std.proofs.Common.{arith, ◌≡◌, Bool, true, false, not, ◌&&◌, ◌||◌, ℤ, pos, ◌+ℤ◌, ◌-ℤ◌, ◌≤ℤ◌, ◌<ℤ◌, List, [], ◌∷◌, inl, inr, ◌⊎◌, refl, sym, ap, ap₂, ◌∙◌}
use Rattle.std.specs.Prelude.{if◌then◌else◌}
use Rattle.std.specs.List.{list_all}
use Rattle.std.specs.Int.Signed.{lt_z}
use Rattle.std.proofs.lemmas.Int.{ints}
use Rattle.std.proofs.lemmas.Bool.{and_cases, and_left, and_parts, and_right, not-false, not-true, not_from_false, or_cases, or_left, or_right}
use Rattle.mvt_geometry.specs.declared.shape.Point.{Point}
use Rattle.mvt_geometry.specs.Shape.{last_of}
use Rattle.mvt_rings.specs.declared.boxes.Bounds.{Bounds}
use Rattle.mvt_rings.specs.declared.nesting.Spot.{Spot}
use Rattle.mvt_rings.specs.declared.nesting.Edge.{Edge}
use Rattle.mvt_rings.specs.declared.nesting.Lies.{Lies}
use Rattle.mvt_rings.specs.declared.nesting.Lies.TheVariants.{Inside, Outside}
use Rattle.mvt_rings.specs.Boxes.{greater, less, overlap}
use Rattle.mvt_rings.specs.Nesting.{edges_from, edges_of, in_parts, is_crossed, is_on, lies_after, lies_at}
use Rattle.mvt_rings.specs.Placing.{band, is_level_with}
use Rattle.mvt_rings.specs.Rings.{differ}
use Rattle.mvt_rings.specs.Bands.{IsLevel}
use Rattle.mvt_rings.specs.Clear.{is_clear_of, is_in, is_left_of, is_right_of, IsAway, Says, spot_of}
use Rattle.mvt_rings.proofs.BandLemmas.{above, band_tells, not_below, over_both, silent, twice, under_both}
use Rattle.mvt_rings.proofs.ClearLemmas.{left_says, right_says}

-- a spot of a box, or at most a unit away from it
pub record IsAround (box : Bounds) (p : Spot) : Type 0 where
  pub level : IsLevel box p
  pub left : in_parts 2 (box.left -ℤ pos 1) ≤ℤ p.x
  pub right : p.x ≤ℤ in_parts 2 (box.right +ℤ pos 1)

-- a range that has a number, and what is at most two halves from it
pub record HasNumber (low high z : ℤ) : Type 0 where
  pub above : low ≤ℤ z
  pub below : z ≤ℤ high

has_number : (low high z : ℤ) → overlap low high z z ≡ true → HasNumber low high z
has_number low high z is =
    let both = and_parts (not (lt_z z low)) (not (lt_z high z)) is in
    record { above = least low z (not-true _ both.0); below = most high z (not-true _ both.1) }
  where
    least : (low z : ℤ) → lt_z z low ≡ false → low ≤ℤ z
    least low z is = grind (arith, ints)

    most : (high z : ℤ) → lt_z high z ≡ false → z ≤ℤ high
    most high z is = grind (arith, ints)

pub record IsInside (box : Bounds) (v : Point) : Type 0 where
  pub across : HasNumber box.left box.right v.x
  pub down : HasNumber box.top box.bottom v.y

pub inside_box : (box : Bounds) (v : Point) → is_in box v ≡ true → IsInside box v
unfolding is_in
inside_box box v is =
    let both = and_parts (overlap box.left box.right v.x v.x) (overlap box.top box.bottom v.y v.y) is in
    record { across = has_number _ _ _ both.0; down = has_number _ _ _ both.1 }

low_end : (t v z : ℤ) → t ≤ℤ v → (in_parts 2 v -ℤ pos 2) ≤ℤ z → in_parts 2 (t -ℤ pos 1) ≤ℤ z
low_end t v z p q = omega (arith, ints)

high_end : (t v z : ℤ) → v ≤ℤ t → z ≤ℤ (in_parts 2 v +ℤ pos 2) → z ≤ℤ in_parts 2 (t +ℤ pos 1)
high_end t v z p q = omega (arith, ints)

-- a number at most two from another
pub record IsNear (v z : ℤ) : Type 0 where
  pub low : (in_parts 2 v -ℤ pos 2) ≤ℤ z
  pub high : z ≤ℤ (in_parts 2 v +ℤ pos 2)

pub near_same : (v : ℤ) → IsNear v (in_parts 2 v)
near_same v = record { low = omega (arith, ints); high = omega (arith, ints) }

pub near_less : (v : ℤ) → IsNear v (in_parts 2 v -ℤ pos 2)
near_less v = record { low = omega (arith, ints); high = omega (arith, ints) }

pub near_more : (v : ℤ) → IsNear v (in_parts 2 v +ℤ pos 2)
near_more v = record { low = omega (arith, ints); high = omega (arith, ints) }

pub around_near : (box : Bounds) (v : Point) (x y : ℤ) → is_in box v ≡ true → IsNear v.x x → IsNear v.y y
    → IsAround box (record { x = x; y = y })
around_near box v x y is across down =
    let inside = inside_box box v is in
    record {
      level = record {
        low = low_end box.top v.y y inside.down.above down.low;
        high = high_end box.bottom v.y y inside.down.below down.high;
      };
      left = low_end box.left v.x x inside.across.above across.low;
      right = high_end box.right v.x x inside.across.below across.high;
    }

pub around_spot : (box : Bounds) (v : Point) → is_in box v ≡ true → IsAround box (spot_of v)
around_spot box v is = around_near box v _ _ is (near_same v.x) (near_same v.y)

low_middle : (t v w : ℤ) → t ≤ℤ v → t ≤ℤ w → in_parts 2 (t -ℤ pos 1) ≤ℤ (v +ℤ w)
low_middle t v w p q = omega (arith, ints)

high_middle : (t v w : ℤ) → v ≤ℤ t → w ≤ℤ t → (v +ℤ w) ≤ℤ in_parts 2 (t +ℤ pos 1)
high_middle t v w p q = omega (arith, ints)

pub around_middle : (box : Bounds) (v w : Point) → is_in box v ≡ true → is_in box w ≡ true
    → IsAround box (record { x = v.x +ℤ w.x; y = v.y +ℤ w.y })
around_middle box v w one two =
    let first = inside_box box v one in
    let second = inside_box box w two in
    record {
      level = record {
        low = low_middle box.top v.y w.y first.down.above second.down.above;
        high = high_middle box.bottom v.y w.y first.down.below second.down.below;
      };
      left = low_middle box.left v.x w.x first.across.above second.across.above;
      right = high_middle box.right v.x w.x first.across.below second.across.below;
    }

-- of what a ray from a point crosses the rows of its ends say the same as of the spot
doubled : (y f : ℤ) → lt_z (in_parts 2 y) (in_parts 2 f) ≡ lt_z y f
doubled y f = rw (twice y, twice f) (test y f)
  where
    test : (y f : ℤ) → lt_z (y +ℤ y) (f +ℤ f) ≡ lt_z y f
    test y f = grind (arith, ints)

pub says_silent : (box : Bounds) (p : Spot) (e : Edge) → IsAround box p → is_level_with box e ≡ false → Says p false e
says_silent box p e at is = let none = silent box p e at.level is in record { on = none.on; crosses = none.crossed }

pub point_silent : (box : Bounds) (v : Point) (e : Edge) → is_level_with box e ≡ false → is_in box v ≡ true
    → Says (spot_of v) false e
point_silent box v e is at = says_silent box (spot_of v) e (around_spot box v at) is

pub point_left : (box : Bounds) (v : Point) (e : Edge) → is_left_of box e ≡ true → is_in box v ≡ true → Says (spot_of v) false e
point_left box v e is at = left_says box (spot_of v) e (around_spot box v at).left is

pub point_right : (box : Bounds) (v : Point) (e : Edge) → is_right_of box e ≡ true → is_in box v ≡ true
    → Says (spot_of v) (differ (lt_z v.y e.from.y) (lt_z v.y e.to.y)) e
point_right box v e is at =
    let says = right_says box (spot_of v) e (around_spot box v at).right is in
    record { on = says.on; crosses = says.crosses ∙ ap₂ differ (doubled v.y e.from.y) (doubled v.y e.to.y) }

-- one edge more
differ_if : (odd c : Bool) → (if c then not odd else odd) ≡ differ odd c
differ_if true true = refl
differ_if true false = refl
differ_if false true = refl
differ_if false false = refl

-- where the rows of an end of an edge are between those of two spots, and it is to the right of the box
turns : Bounds → Spot → Spot → Point → Bool
turns box p q v = lt_z box.right (v.x -ℤ pos 1) && differ (lt_z p.y (in_parts 2 v.y)) (lt_z q.y (in_parts 2 v.y))

differ_same : (a b : Bool) → a ≡ b → differ a b ≡ false
differ_same true true is = refl
differ_same true false is = is
differ_same false true is = sym is
differ_same false false is = refl

same_differ : (a b : Bool) → differ a b ≡ false → a ≡ b
same_differ true true is = refl
same_differ true false is = is
same_differ false true is = sym is
same_differ false false is = refl

differ_swap : (a b c d : Bool) → differ (differ a b) (differ c d) ≡ differ (differ a c) (differ b d)
differ_swap true true true true = refl
differ_swap true true true false = refl
differ_swap true true false true = refl
differ_swap true true false false = refl
differ_swap true false true true = refl
differ_swap true false true false = refl
differ_swap true false false true = refl
differ_swap true false false false = refl
differ_swap false true true true = refl
differ_swap false true true false = refl
differ_swap false true false true = refl
differ_swap false true false false = refl
differ_swap false false true true = refl
differ_swap false false true false = refl
differ_swap false false false true = refl
differ_swap false false false false = refl

differ_joined : (a b c : Bool) → differ (differ a b) (differ b c) ≡ differ a c
differ_joined true true true = refl
differ_joined true true false = refl
differ_joined true false true = refl
differ_joined true false false = refl
differ_joined false true true = refl
differ_joined false true false = refl
differ_joined false false true = refl
differ_joined false false false = refl

differ_more : (o c r : Bool) → differ (if c then not o else o) r ≡ differ o (differ c r)
differ_more true true true = refl
differ_more true true false = refl
differ_more true false true = refl
differ_more true false false = refl
differ_more false true true = refl
differ_more false true false = refl
differ_more false false true = refl
differ_more false false false = refl

differ_none : (o : Bool) → differ o false ≡ o
differ_none true = refl
differ_none false = refl

-- both spots have an end of an edge that isn't level with the box on the same side
same_rows : (box : Bounds) (p q : Spot) (e : Edge) → IsLevel box p → IsLevel box q → is_level_with box e ≡ false
    → (lt_z p.y (in_parts 2 e.from.y) ≡ lt_z q.y (in_parts 2 e.from.y)) × (lt_z p.y (in_parts 2 e.to.y) ≡ lt_z q.y (in_parts 2 e.to.y))
unfolding is_level_with
same_rows box p q e one two is =
    by_end
    (and_cases (not (lt_z (greater e.from.y e.to.y) (box.top -ℤ pos 1)))
    (not (lt_z box.bottom (less e.from.y e.to.y -ℤ pos 1))) is)
  where
    by_end : not (lt_z (greater e.from.y e.to.y) (box.top -ℤ pos 1)) ≡ false
        ⊎ not (lt_z box.bottom (less e.from.y e.to.y -ℤ pos 1)) ≡ false
        → (lt_z p.y (in_parts 2 e.from.y) ≡ lt_z q.y (in_parts 2 e.from.y)) × (lt_z p.y (in_parts 2 e.to.y) ≡ lt_z q.y (in_parts 2 e.to.y))
    by_end (inl under) =
        let t = box.top -ℤ pos 1 in
        let ends = under_both e.from.y e.to.y t (not-false _ under) in (
          not_below e.from.y t p.y ends.0 one.low ∙ sym (not_below e.from.y t q.y ends.0 two.low),
          not_below e.to.y t p.y ends.1 one.low ∙ sym (not_below e.to.y t q.y ends.1 two.low),
        )
    by_end (inr over) =
        let t = box.bottom +ℤ pos 1 in
        let ends = over_both e.from.y e.to.y box.bottom (not-false _ over) in (
          above e.from.y t p.y ends.0 one.high ∙ sym (above e.from.y t q.y ends.0 two.high),
          above e.to.y t p.y ends.1 one.high ∙ sym (above e.to.y t q.y ends.1 two.high),
        )

turns_level : (box : Bounds) (p q : Spot) (v : Point) → lt_z p.y (in_parts 2 v.y) ≡ lt_z q.y (in_parts 2 v.y)
    → turns box p q v ≡ false
unfolding turns
turns_level box p q v same = and_right (lt_z box.right (v.x -ℤ pos 1)) _ (differ_same _ _ same)

turns_left : (box : Bounds) (p q : Spot) (v : Point) → IsAround box p → v.x <ℤ (box.left -ℤ pos 1) → turns box p q v ≡ false
unfolding turns
turns_left box p q v at under = and_left (lt_z box.right (v.x -ℤ pos 1)) _ (test box.left box.right v.x p.x at.left at.right under)
  where
    order : (l r x : ℤ) → in_parts 2 (l -ℤ pos 1) ≤ℤ x → x ≤ℤ in_parts 2 (r +ℤ pos 1) → (l -ℤ pos 1) ≤ℤ (r +ℤ pos 1)
    order l r x low high = omega (arith, ints)

    none : (l r v : ℤ) → (l -ℤ pos 1) ≤ℤ (r +ℤ pos 1) → v <ℤ (l -ℤ pos 1) → lt_z r (v -ℤ pos 1) ≡ false
    none l r v before under = grind (arith, ints)

    test : (l r v x : ℤ) → in_parts 2 (l -ℤ pos 1) ≤ℤ x → x ≤ℤ in_parts 2 (r +ℤ pos 1) → v <ℤ (l -ℤ pos 1)
        → lt_z r (v -ℤ pos 1) ≡ false
    test l r v x low high under = none l r v (order l r x low high) under

turns_right : (box : Bounds) (p q : Spot) (v : Point) → (box.right +ℤ pos 1) <ℤ v.x
    → turns box p q v ≡ differ (lt_z p.y (in_parts 2 v.y)) (lt_z q.y (in_parts 2 v.y))
unfolding turns
turns_right box p q v over = let beside = right box.right v.x over in rw beside refl
  where
    right : (r x : ℤ) → (r +ℤ pos 1) <ℤ x → lt_z r (x -ℤ pos 1) ≡ true
    right r x over = grind (arith, ints)

-- an edge is crossed by the ray from one of two spots alone where one of its ends turns
edge_turns : (box : Bounds) (p q : Spot) (e : Edge) → IsAround box p → IsAround box q → is_clear_of box e ≡ true
    → differ (is_crossed 2 p e) (is_crossed 2 q e) ≡ differ (turns box p q e.from) (turns box p q e.to)
unfolding is_clear_of is_left_of is_right_of
edge_turns box p q e one two clear = by_side (or_cases (not (is_level_with box e)) (is_left_of box e || is_right_of box e) clear)
  where
    nothing : Says p false e → Says q false e → turns box p q e.from ≡ false → turns box p q e.to ≡ false
        → differ (is_crossed 2 p e) (is_crossed 2 q e) ≡ differ (turns box p q e.from) (turns box p q e.to)
    nothing first second from to = ap₂ differ first.crosses second.crosses ∙ sym (ap₂ differ from to)

    by_end : (is_left_of box e ≡ true) ⊎ (is_right_of box e ≡ true)
        → differ (is_crossed 2 p e) (is_crossed 2 q e) ≡ differ (turns box p q e.from) (turns box p q e.to)
    by_end (inl left) =
        let ends = under_both e.from.x e.to.x (box.left -ℤ pos 1) left in
        nothing (left_says box p e one.left left) (left_says box q e two.left left) (turns_left box p q e.from one ends.0)
        (turns_left box p q e.to one ends.1)
    by_end (inr right) =
        let ends = over_both e.from.x e.to.x box.right right in
        ap₂ differ (right_says box p e one.right right).crosses (right_says box q e two.right right).crosses
        ∙ (differ_swap (lt_z p.y (in_parts 2 e.from.y)) (lt_z p.y (in_parts 2 e.to.y)) (lt_z q.y (in_parts 2 e.from.y))
        (lt_z q.y (in_parts 2 e.to.y))
        ∙ sym (ap₂ differ (turns_right box p q e.from ends.0) (turns_right box p q e.to ends.1)))

    by_side : (not (is_level_with box e) ≡ true) ⊎ ((is_left_of box e || is_right_of box e) ≡ true)
        → differ (is_crossed 2 p e) (is_crossed 2 q e) ≡ differ (turns box p q e.from) (turns box p q e.to)
    by_side (inl apart) =
        let rows = same_rows box p q e one.level two.level (not-true _ apart) in
        nothing (says_silent box p e one (not-true _ apart)) (says_silent box q e two (not-true _ apart))
        (turns_level box p q e.from rows.0) (turns_level box p q e.to rows.1)
    by_side (inr beside) = by_end (or_cases (is_left_of box e) (is_right_of box e) beside)

-- an odd number of these edges are crossed
abbrev odd : Spot → List Edge → Bool
odd p [] = false
odd p (e ∷ edges) = differ (is_crossed 2 p e) (odd p edges)

odd_turns : (box : Bounds) (p q : Spot) → IsAround box p → IsAround box q → (a : Point) (points : List Point)
    → list_all (is_clear_of box) (edges_from a points) ≡ true
    → differ (odd p (edges_from a points)) (odd q (edges_from a points)) ≡ differ (turns box p q a) (turns box p q (last_of a points))
odd_turns box p q one two a [] clear = sym (differ_same (turns box p q a) (turns box p q a) refl)
odd_turns box p q one two a (b ∷ points) clear =
    let e : Edge = record { from = a; to = b } in
    let both = and_parts (is_clear_of box e) (list_all (is_clear_of box) (edges_from b points)) clear in
    differ_swap (is_crossed 2 p e) (odd p (edges_from b points)) (is_crossed 2 q e) (odd q (edges_from b points))
    ∙ (ap₂ differ (edge_turns box p q e one two both.0) (odd_turns box p q one two b points both.1)
    ∙ differ_joined (turns box p q a) (turns box p q b) (turns box p q (last_of b points)))

odd_same : (box : Bounds) (p q : Spot) → IsAround box p → IsAround box q → (ring : List Point)
    → list_all (is_clear_of box) (edges_of ring) ≡ true → odd p (edges_of ring) ≡ odd q (edges_of ring)
odd_same box p q one two [] clear = refl
odd_same box p q one two (b ∷ points) clear =
    let end = last_of b points in
    same_differ _ _
    (odd_turns box p q one two end (b ∷ points) clear ∙ differ_same (turns box p q end) (turns box p q end) refl)

clear_on : (box : Bounds) (p : Spot) (e : Edge) → IsAround box p → is_clear_of box e ≡ true → is_on 2 p e ≡ false
unfolding is_clear_of
clear_on box p e at clear = by_side (or_cases (not (is_level_with box e)) (is_left_of box e || is_right_of box e) clear)
  where
    by_end : (is_left_of box e ≡ true) ⊎ (is_right_of box e ≡ true) → is_on 2 p e ≡ false
    by_end (inl left) = (left_says box p e at.left left).on
    by_end (inr right) = (right_says box p e at.right right).on

    by_side : (not (is_level_with box e) ≡ true) ⊎ ((is_left_of box e || is_right_of box e) ≡ true) → is_on 2 p e ≡ false
    by_side (inl apart) = (says_silent box p e at (not-true _ apart)).on
    by_side (inr beside) = by_end (or_cases (is_left_of box e) (is_right_of box e) beside)

abbrev pub side_if : Bool → Lies
side_if inside = if inside then Inside else Outside

lies_odd : (box : Bounds) (p : Spot) → IsAround box p → (o : Bool) (edges : List Edge) → list_all (is_clear_of box) edges ≡ true
    → lies_after 2 p o edges ≡ side_if (differ o (odd p edges))
lies_odd box p at o [] clear = ap side_if (sym (differ_none o))
lies_odd box p at o (e ∷ edges) clear =
    let both = and_parts (is_clear_of box e) (list_all (is_clear_of box) edges) clear in
    let on = clear_on box p e at both.0 in
    rw on
    (lies_odd box p at (if is_crossed 2 p e then not o else o) edges both.1 ∙ ap side_if (differ_more o (is_crossed 2 p e) (odd p edges)))

pub same_side : (box : Bounds) (p q : Spot) → IsAround box p → IsAround box q → (ring : List Point)
    → list_all (is_clear_of box) (edges_of ring) ≡ true → lies_at 2 p (edges_of ring) ≡ lies_at 2 q (edges_of ring)
same_side box p q one two ring clear =
    lies_odd box p one false (edges_of ring) clear
    ∙ (ap side_if (odd_same box p q one two ring clear) ∙ sym (lies_odd box q two false (edges_of ring) clear))

-- all spots around the box lie where the point does
pub all_lie : (box : Bounds) (v : Point) (inside : Bool) (ring : List Point) → is_in box v ≡ true
    → IsAway box v inside (edges_of ring) → (p : Spot) → IsAround box p → lies_at 2 p (band box ring) ≡ side_if inside
all_lie box v inside ring is away p at =
    band_tells box p at.level (edges_of ring)
    ∙ (same_side box p (spot_of v) at (around_spot box v is) ring away.clear ∙ away.lies is)

pub clear_apart : (box : Bounds) (e : Edge) → is_level_with box e ≡ false → is_clear_of box e ≡ true
unfolding is_clear_of
clear_apart box e is = or_left (not (is_level_with box e)) _ (not_from_false _ is)

pub clear_left : (box : Bounds) (e : Edge) → is_left_of box e ≡ true → is_clear_of box e ≡ true
unfolding is_clear_of
clear_left box e is = or_right (not (is_level_with box e)) _ (or_left _ (is_right_of box e) is)

pub clear_right : (box : Bounds) (e : Edge) → is_right_of box e ≡ true → is_clear_of box e ≡ true
unfolding is_clear_of
clear_right box e is = or_right (not (is_level_with box e)) _ (or_right (is_left_of box e) _ is)
