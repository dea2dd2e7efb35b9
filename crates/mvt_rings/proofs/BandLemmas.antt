-- Edges that are not level with a box tell nothing of spots that are.
use Rattle.std.proofs.Common.{arith, ◌≡◌, Bool, true, false, not, ◌&&◌, ℤ, pos, ◌+ℤ◌, ◌-ℤ◌, ◌*ℤ◌, ◌≤ℤ◌, ◌<ℤ◌, List, [], ◌∷◌, filter, inl, inr, ◌⊎◌, refl, ap}
use Rattle.std.specs.Prelude.{if◌then◌else◌, cond}
use Rattle.std.specs.Int.Signed.{lt_z}
use Rattle.std.proofs.lemmas.Int.{ints}
use Rattle.std.proofs.lemmas.Bool.{and_cases, and_right, not-false}
use Rattle.mvt_rings.specs.declared.boxes.Bounds.{Bounds}
use Rattle.mvt_rings.specs.declared.nesting.Spot.{Spot}
use Rattle.mvt_rings.specs.declared.nesting.Edge.{Edge}
use Rattle.mvt_rings.specs.declared.nesting.Lies.{Lies}
use Rattle.mvt_rings.specs.declared.nesting.Lies.TheVariants.{OnEdge}
use Rattle.mvt_rings.specs.Boxes.{greater, less}
use Rattle.mvt_rings.specs.Nesting.{in_parts, is_between, is_crossed, is_on, is_within, lies_after, lies_at, side}
use Rattle.mvt_rings.specs.Placing.{is_level_with}
use Rattle.mvt_rings.specs.Bands.{IsLevel}

-- the greater and the less of two numbers
abbrev pub IsUnder : ℤ → ℤ → ℤ → Type 0
IsUnder a b t = (a <ℤ t) × (b <ℤ t)

greater_if : (c : Bool) (a b t : ℤ) → lt_z b a ≡ c → lt_z (if c then a else b) t ≡ true → IsUnder a b t
greater_if true a b t more is = (one a t is, two a b t more is)
  where
    one : (a t : ℤ) → lt_z a t ≡ true → a <ℤ t
    one a t is = grind (arith, ints)

    two : (a b t : ℤ) → lt_z b a ≡ true → lt_z a t ≡ true → b <ℤ t
    two a b t more is = grind (arith, ints)
greater_if false a b t other is = (two a b t other is, one b t is)
  where
    one : (b t : ℤ) → lt_z b t ≡ true → b <ℤ t
    one b t is = grind (arith, ints)

    two : (a b t : ℤ) → lt_z b a ≡ false → lt_z b t ≡ true → a <ℤ t
    two a b t other is = grind (arith, ints)

pub under_both : (a b t : ℤ) → lt_z (greater a b) t ≡ true → IsUnder a b t
under_both a b t is = greater_if (lt_z b a) a b t refl is

-- both are above a number and one more
abbrev pub IsOver : ℤ → ℤ → ℤ → Type 0
IsOver a b t = ((t +ℤ pos 1) <ℤ a) × ((t +ℤ pos 1) <ℤ b)

less_if : (c : Bool) (a b t : ℤ) → lt_z a b ≡ c → lt_z t ((if c then a else b) -ℤ pos 1) ≡ true → IsOver a b t
less_if true a b t more is = (one a t is, two a b t more is)
  where
    one : (a t : ℤ) → lt_z t (a -ℤ pos 1) ≡ true → (t +ℤ pos 1) <ℤ a
    one a t is = grind (arith, ints)

    two : (a b t : ℤ) → lt_z a b ≡ true → lt_z t (a -ℤ pos 1) ≡ true → (t +ℤ pos 1) <ℤ b
    two a b t more is = grind (arith, ints)
less_if false a b t other is = (two a b t other is, one b t is)
  where
    one : (b t : ℤ) → lt_z t (b -ℤ pos 1) ≡ true → (t +ℤ pos 1) <ℤ b
    one b t is = grind (arith, ints)

    two : (a b t : ℤ) → lt_z a b ≡ false → lt_z t (b -ℤ pos 1) ≡ true → (t +ℤ pos 1) <ℤ a
    two a b t other is = grind (arith, ints)

pub over_both : (a b t : ℤ) → lt_z t (less a b -ℤ pos 1) ≡ true → IsOver a b t
over_both a b t is = less_if (lt_z a b) a b t refl is

pub twice : (z : ℤ) → pos 2 *ℤ z ≡ z +ℤ z
twice z = omega (arith, ints)

pub not_below : (a t y : ℤ) → a <ℤ t → (pos 2 *ℤ t) ≤ℤ y → lt_z y (pos 2 *ℤ a) ≡ false
not_below a t y under low = rw twice (test a t y under (rw twice at low))
  where
    test : (a t y : ℤ) → a <ℤ t → (t +ℤ t) ≤ℤ y → lt_z y (a +ℤ a) ≡ false
    test a t y under low = grind (arith, ints)

pub below : (a t y : ℤ) → a <ℤ t → (pos 2 *ℤ t) ≤ℤ y → lt_z (pos 2 *ℤ a) y ≡ true
below a t y under low = rw twice (test a t y under (rw twice at low))
  where
    test : (a t y : ℤ) → a <ℤ t → (t +ℤ t) ≤ℤ y → lt_z (a +ℤ a) y ≡ true
    test a t y under low = grind (arith, ints)

pub above : (a t y : ℤ) → t <ℤ a → y ≤ℤ (pos 2 *ℤ t) → lt_z y (pos 2 *ℤ a) ≡ true
above a t y over high = rw twice (test a t y over (rw twice at high))
  where
    test : (a t y : ℤ) → t <ℤ a → y ≤ℤ (t +ℤ t) → lt_z y (a +ℤ a) ≡ true
    test a t y over high = grind (arith, ints)

-- an edge that says nothing of a spot
pub record IsSilent (p : Spot) (e : Edge) : Type 0 where
  pub on : is_on 2 p e ≡ false
  pub crossed : is_crossed 2 p e ≡ false

pub between_under : (c : Bool) (y a b : ℤ) → lt_z a y ≡ true → lt_z b y ≡ true
    → (if c then is_within y a b else is_within y b a) ≡ false
between_under true y a b one two = rw two (and_right (not (lt_z y a)) false refl)
between_under false y a b one two = rw one (and_right (not (lt_z y b)) false refl)

pub between_over : (c : Bool) (y a b : ℤ) → lt_z y a ≡ true → lt_z y b ≡ true
    → (if c then is_within y a b else is_within y b a) ≡ false
between_over true y a b one two = rw one refl
between_over false y a b one two = rw two refl

not_between : (p : Spot) (e : Edge) → is_between p.y (in_parts 2 e.from.y) (in_parts 2 e.to.y) ≡ false → is_on 2 p e ≡ false
unfolding is_on
not_between p e apart = rw apart refl

under_crossed : (a b : Bool) (l r : Bool) → a ≡ false → b ≡ false → (if a then not b && l else b && r) ≡ false
under_crossed a b l r none other = rw (none, other) refl

over_crossed : (a b : Bool) (l r : Bool) → a ≡ true → b ≡ true → (if a then not b && l else b && r) ≡ false
over_crossed a b l r one other = rw (one, other) refl

silent_under : (p : Spot) (e : Edge) (t : ℤ) → IsUnder e.from.y e.to.y t → (pos 2 *ℤ t) ≤ℤ p.y → IsSilent p e
unfolding is_between is_crossed
silent_under p e t under low = record {
  on =
      not_between p e
      (between_under (lt_z (in_parts 2 e.from.y) (in_parts 2 e.to.y)) p.y (in_parts 2 e.from.y) (in_parts 2 e.to.y)
      (below e.from.y t p.y under.0 low) (below e.to.y t p.y under.1 low));
  crossed =
      under_crossed (lt_z p.y (in_parts 2 e.from.y)) (lt_z p.y (in_parts 2 e.to.y)) (lt_z (side 2 p e) (pos 0))
      (lt_z (pos 0) (side 2 p e)) (not_below e.from.y t p.y under.0 low) (not_below e.to.y t p.y under.1 low);
}

silent_over : (p : Spot) (e : Edge) (t : ℤ) → IsOver e.from.y e.to.y t → p.y ≤ℤ (pos 2 *ℤ (t +ℤ pos 1)) → IsSilent p e
unfolding is_between is_crossed
silent_over p e t over high =
    let from = above e.from.y (t +ℤ pos 1) p.y over.0 high in
    let to = above e.to.y (t +ℤ pos 1) p.y over.1 high in
    record {
      on =
          not_between p e
          (between_over (lt_z (in_parts 2 e.from.y) (in_parts 2 e.to.y)) p.y (in_parts 2 e.from.y) (in_parts 2 e.to.y) from to);
      crossed =
          over_crossed (lt_z p.y (in_parts 2 e.from.y)) (lt_z p.y (in_parts 2 e.to.y)) (lt_z (side 2 p e) (pos 0))
          (lt_z (pos 0) (side 2 p e)) from to;
    }

pub silent : (box : Bounds) (p : Spot) (e : Edge) → IsLevel box p → is_level_with box e ≡ false → IsSilent p e
unfolding is_level_with
silent box p e level is =
    by_end
    (and_cases (not (lt_z (greater e.from.y e.to.y) (box.top -ℤ pos 1)))
    (not (lt_z box.bottom (less e.from.y e.to.y -ℤ pos 1))) is)
  where
    by_end : not (lt_z (greater e.from.y e.to.y) (box.top -ℤ pos 1)) ≡ false
        ⊎ not (lt_z box.bottom (less e.from.y e.to.y -ℤ pos 1)) ≡ false → IsSilent p e
    by_end (inl under) =
        silent_under p e (box.top -ℤ pos 1) (under_both e.from.y e.to.y (box.top -ℤ pos 1) (not-false _ under)) level.low
    by_end (inr over) = silent_over p e box.bottom (over_both e.from.y e.to.y box.bottom (not-false _ over)) level.high

filtered_one : (p : Spot) (b odd : Bool) (e : Edge) (some all : List Edge) → (b ≡ false → IsSilent p e)
    → ((odd : Bool) → lies_after 2 p odd some ≡ lies_after 2 p odd all)
    → lies_after 2 p odd (cond b (e ∷ some) some) ≡ lies_after 2 p odd (e ∷ all)
filtered_one p true odd e some all none same =
    ap (λ (l : Lies). if is_on 2 p e then OnEdge else l) (same (if is_crossed 2 p e then not odd else odd))
filtered_one p false odd e some all none same =
    let silent = none refl in
    let on = silent.on in
    let crossed = silent.crossed in
    rw (on, crossed) (same odd)

filtered : (box : Bounds) (p : Spot) → IsLevel box p → (odd : Bool) (edges : List Edge)
    → lies_after 2 p odd (filter (is_level_with box) edges) ≡ lies_after 2 p odd edges
filtered box p level odd [] = refl
filtered box p level odd (e ∷ edges) =
    filtered_one p (is_level_with box e) odd e (filter (is_level_with box) edges) edges (silent box p e level)
    (λ other. filtered box p level other edges)

pub band_tells : (box : Bounds) (spot : Spot) → IsLevel box spot → (edges : List Edge)
    → lies_at 2 spot (filter (is_level_with box) edges) ≡ lies_at 2 spot edges
band_tells box spot level edges = filtered box spot level false edges
