-- A ring is three commands, and the first one's area is judged at its ClosePath.
use Rattle.std.proofs.Common.{◌≡◌, ◌≢◌, ℕ, zero, suc, ◌+◌, ◌-◌, ◌*◌, ◌/◌, ◌%◌, ◌≤◌, true, false, ◌&&◌, ◌==◌, eqb, List, [], ◌∷◌, ◌++◌, length, get_or, take, drop, Option, Some, None, ℤ, pos, ◌+ℤ◌, ◌≤ℤ◌, ◌<ℤ◌, refl, eq-eqb, ◌⊎◌, inl, inr, sym, ap, ap₂, subst, ◌∙◌, arith, length-drop}
use Rattle.std.proofs.Math.Bool.{or-true, and-false}
use Rattle.std.specs.Int.Signed.{lt_z}
use Rattle.std.proofs.lemmas.Bool.{ne_eqb, cases_eq}
use Rattle.std.proofs.lemmas.Int.{ints, by_lt_z}
use Rattle.std.proofs.lemmas.Map.Views.{exact_unsigned_eq}
use Rattle.mvt_base.specs.Rules.{first, each}
use Rattle.mvt_base.proofs.RuleLemmas.{first-when, first-when_not}
use Rattle.mvt_geometry.specs.declared.shape.Point.{Point}
use Rattle.mvt_geometry.specs.declared.shape.Kind.{Kind}
use Rattle.mvt_geometry.specs.declared.shape.Kind.TheVariants as kinds
use Rattle.mvt_geometry.specs.declared.command.Command.{Command}
use Rattle.mvt_geometry.specs.declared.command.Command.TheVariants.{MoveTo, LineTo, ClosePath}
use Rattle.mvt_geometry.specs.declared.fault.GeometryCause.TheVariants as causes
use Rattle.mvt_geometry.specs.Shape.{origin}
use Rattle.mvt_geometry.specs.Area.{cross, area2}
use Rattle.mvt_geometry.specs.Commands.{Pair, due, may_not_end, pair_count, pairs_of, pairs_at, start, moves, stepped, moved, positions, first_ring}
use Rattle.mvt_geometry.specs.Table.{IndexedCause, pair_rules, wrong_ring, command_rules, geometry_fault}
use Rattle.mvt_geometry.specs.Inner.Judging.{IsHeader, Reached, edges}
use Rattle.mvt_geometry.proofs.AreaLemmas.{area2-ring, last_of-positions}
use Rattle.mvt_geometry.proofs.CommandLemmas.{moves-are, cursor-next, stops, rules_left, goes_on, no_ring, pairs_after, at_first, header_kept, kept_before, first_cursor}

-- which command is due in polygons
pub ring_due : (k : ℕ) → k % 3 ≡ 0
    → (due kinds.Polygon k ≡ Some MoveTo) × (due kinds.Polygon (suc k) ≡ Some LineTo)
    × (due kinds.Polygon (suc (suc k)) ≡ Some ClosePath)
ring_due k e =
    let one : suc k % 3 ≡ 1 = omega (arith, e) in
    let two : suc (suc k) % 3 ≡ 2 = omega (arith, e) in
    (rw e refl, rw one refl, rw two refl)

-- the integers may end before none but a first MoveTo
pub must_draw : (kind : Kind) (k : ℕ) (c : Command) → due kind k ≡ Some c → c ≢ MoveTo → may_not_end kind k ≡ true
must_draw kind k MoveTo e other = absurd (other refl)
must_draw kind k LineTo e other = rw e (or-true (k == 0))
must_draw kind k ClosePath e other = rw e (or-true (k == 0))

-- as many pairs as the count says
pub length-pairs : (n : ℕ) (xs : List ℕ) → 2 * n ≤ length xs → length (take n (pairs_of xs)) ≡ n
length-pairs zero xs h = refl
length-pairs (suc n) [] h = absurd (omega (arith, h))
length-pairs (suc n) (x ∷ []) h = absurd (omega (arith, h))
length-pairs (suc n) (x ∷ y ∷ xs) h = ap suc (length-pairs n xs (omega (arith, h)))

pub header_pairs : {kind : Kind} {c : Command} {g : List ℕ} {s : ℕ} → IsHeader kind c g s
    → length (pairs_at (Some c) g s) ≡ pair_count (Some c) (get_or g s 0 / 8)
header_pairs {kind} {c} {g} {s} h = length-pairs _ (drop (s + 1) g) (omega (arith, h.room, length-drop (s + 1) g))

-- what a list of one thing holds
pub one_thing : {X : Type 0} → (xs : List X) → length xs ≡ 1 → (x : X) × (xs ≡ x ∷ [])
one_thing [] e = cc
one_thing (x ∷ []) e = (x, refl)
one_thing (x ∷ y ∷ xs) e = absurd (omega (arith, e))

module _ {g : List ℕ} {s t : ℕ} {c d : Point} (r : Reached kinds.Polygon g 0 s c) (next : Reached kinds.Polygon g 1 t d) where
  -- the first command has one pair
  pub first_move : (m : Pair) × (moves kinds.Polygon g 0 ≡ m ∷ []) × (d ≡ stepped origin m)
  first_move =
      let h = header_kept kinds.Polygon g 0 s c r.stands MoveTo refl (kept_before r next) (λ e. refl) in
      let one : get_or g s 0 / 8 ≡ 1 = exact_unsigned_eq (get_or g s 0 / 8) 1 h.allowed in
      let here = moves-are kinds.Polygon g 0 s r.stands.begins in
      let pair = one_thing (pairs_at (Some MoveTo) g s) (header_pairs h ∙ one) in (
        pair.0,
        here ∙ pair.1,
        sym next.stands.cursor_is ∙ cursor-next kinds.Polygon g 0 ∙ ap₂ moved (first_cursor kinds.Polygon g) (here ∙ pair.1),
      )

  pub first_area : (ds : List Pair) → moves kinds.Polygon g 1 ≡ ds → area2 (first_ring g) ≡ edges d (positions d ds) +ℤ cross (moved d ds) d
  unfolding first_ring
  first_area ds e =
      let m = first_move in
      ap₂ (λ xs ys. area2 (positions origin (xs ++ ys))) m.1 e ∙ ap (λ p. area2 (p ∷ positions p ds)) (sym m.2)
      ∙ area2-ring d (positions d ds) ∙ ap (λ p. edges d (positions d ds) +ℤ cross p d) (last_of-positions d ds)

less : {z : ℤ} → z <ℤ pos 0 → lt_z z (pos 0) ≡ true
less h = grind (arith, ints)

-- the exit of a first ring, and its going on
pub ring_fault : {g : List ℕ} {k s : ℕ} {c : Point} → (r : Reached kinds.Polygon g k s c) → k ≡ 2
    → first (command_rules kinds.Polygon g k s) ≡ first (wrong_ring kinds.Polygon g k s) → area2 (first_ring g) <ℤ pos 0
    → geometry_fault kinds.Polygon g ≡ Some (s, causes.FirstRing)
unfolding wrong_ring
ring_fault {g} {k} {s} r two left negative =
    stops (s, causes.FirstRing) (λ same. cc) r
    (left
    ∙ first-when {F = IndexedCause} ((eqb k 2) && lt_z (area2 (first_ring g)) (pos 0)) (s, causes.FirstRing)
    (ap₂ (λ x y. x && y) (eq-eqb k 2 two) (less negative)))

pub ring_fine : (g : List ℕ) (k s : ℕ) → (k ≡ 2 → pos 0 ≤ℤ area2 (first_ring g)) → first (wrong_ring kinds.Polygon g k s) ≡ None
unfolding wrong_ring
ring_fine g k s fine =
    first-when_not {F = IndexedCause} (eqb k 2 && lt_z (area2 (first_ring g)) (pos 0)) (s, causes.FirstRing)
    (by_place (cases_eq k 2))
  where
    not_less : {z : ℤ} → pos 0 ≤ℤ z → lt_z z (pos 0) ≡ false
    not_less h = grind (arith, ints)

    by_place : (k ≡ 2) ⊎ (k ≢ 2) → (eqb k 2 && lt_z (area2 (first_ring g)) (pos 0)) ≡ false
    by_place (inl e) = rw (not_less (fine e)) (and-false (eqb k 2))
    by_place (inr n) = rw (ne_eqb k 2 n) refl

pub fine_ring : (g : List ℕ) (s : ℕ) → first (wrong_ring kinds.Polygon g 2 s) ≡ None → pos 0 ≤ℤ area2 (first_ring g)
unfolding wrong_ring
fine_ring g s none =
    let area = area2 (first_ring g) in
    by_lt_z area (pos 0)
    (λ h. absurd (not_both none (first-when {F = IndexedCause} (lt_z area (pos 0)) (s, causes.FirstRing) (less h)))) (λ h. h)
  where
    not_both : {o : Option IndexedCause} {f : IndexedCause} → o ≡ None → o ≡ Some f → ⊥
    not_both e f = cc

-- a ring whose pairs break no rule: a command leads to d, and the next over the parameters to the last point
pub record ReadsRing (g : List ℕ) (k s t n : ℕ) (c d last : Point) (parameters : List ℕ) : Type 0 where
  pub third : k % 3 ≡ 0
  pub reached : Reached kinds.Polygon g k s c
  pub next : Reached kinds.Polygon g (suc k) t d
  pub line : IsHeader kinds.Polygon LineTo g t
  pub count : n ≡ get_or g t 0 / 8
  pub after : parameters ≡ take (2 * n) (drop (t + 1) g)
  pub none : first (each (pair_rules true (t + 1) d) [] (pairs_of parameters)) ≡ None
  pub last_is : last ≡ moved d (pairs_of parameters)

-- the parameters stand between the second command and the place that its count leads to
pub reads_ring : (g : List ℕ) (k t n : ℕ) {s : ℕ} {c d last : Point} → k % 3 ≡ 0 → Reached kinds.Polygon g k s c
    → Reached kinds.Polygon g (suc k) t d → IsHeader kinds.Polygon LineTo g t → n ≡ get_or g t 0 / 8
    → first (each (pair_rules true (t + 1) d) [] (pairs_of (take ((t + 1 + 2 * n) - (t + 1)) (drop (t + 1) g)))) ≡ None
    → last ≡ moved d (pairs_of (take ((t + 1 + 2 * n) - (t + 1)) (drop (t + 1) g)))
    → ReadsRing g k s t n c d last (take ((t + 1 + 2 * n) - (t + 1)) (drop (t + 1) g))
reads_ring g k t n third reached next line count none last_is =
    let length_is : (t + 1 + 2 * n) - (t + 1) ≡ 2 * n = omega arith in
    record {
      third = third;
      reached = reached;
      next = next;
      line = line;
      count = count;
      after = ap (λ m. take m (drop (t + 1) g)) length_is;
      none = none;
      last_is = last_is;
    }

-- its ClosePath stands there
module _ {g : List ℕ} {k s t n : ℕ} {c d last : Point} {parameters : List ℕ} (ring : ReadsRing g k s t n c d last parameters) where
  pub reached_close : Reached kinds.Polygon g (suc (suc k)) (t + 1 + 2 * n) last
  reached_close =
      let is_due = ring_due k ring.third in
      goes_on ring.next LineTo is_due.1 ring.line n ring.count parameters ring.after last ring.last_is ring.none
      (no_ring kinds.Polygon g (suc k) t (λ same. let two : Some LineTo ≡ Some ClosePath = sym is_due.1 ∙ same in cc))

  ring_is : k ≡ 0 → area2 (first_ring g) ≡ edges d (positions d (pairs_of parameters)) +ℤ cross last d
  ring_is z =
      let start_is : moves kinds.Polygon g 1 ≡ pairs_of parameters =
      moves-are kinds.Polygon g 1 t (subst (λ m. start kinds.Polygon g (suc m) ≡ Some t) z ring.next.stands.begins)
      ∙ sym (pairs_after ring.next LineTo (ring_due k ring.third).1 ring.line n ring.count parameters ring.after) in
      first_area (subst (λ m. Reached kinds.Polygon g m s c) z ring.reached) (subst (λ m. Reached kinds.Polygon g (suc m) t d) z ring.next)
      (pairs_of parameters) start_is
      ∙ ap (λ p. edges d (positions d (pairs_of parameters)) +ℤ cross p d) (sym ring.last_is)

  module _ (close : IsHeader kinds.Polygon ClosePath g (t + 1 + 2 * n)) (area : ℤ)
      (area_is : area ≡ edges d (positions d (pairs_of parameters)) +ℤ cross last d) where
    left : first (command_rules kinds.Polygon g (suc (suc k)) (t + 1 + 2 * n))
        ≡ first (wrong_ring kinds.Polygon g (suc (suc k)) (t + 1 + 2 * n))
    left = rules_left reached_close ClosePath (ring_due k ring.third).2 close 0 refl [] refl refl

    pub ring_stops : s ≡ 0 → area <ℤ pos 0 → geometry_fault kinds.Polygon g ≡ Some (t + 1 + 2 * n, causes.FirstRing)
    ring_stops z negative =
        let first_one = (at_first ring.reached).1 z in
        ring_fault reached_close (ap (λ m. suc (suc m)) first_one) left
        (subst (λ a. a <ℤ pos 0) (area_is ∙ sym (ring_is first_one)) negative)

    pub ring_goes : (s ≡ 0 → pos 0 ≤ℤ area) → Reached kinds.Polygon g (k + 3) (t + 1 + 2 * n + 1) last
    ring_goes fine =
        let fine_two : suc (suc k) ≡ 2 → pos 0 ≤ℤ area2 (first_ring g) =
        λ two. let first_one : k ≡ 0 = omega arith in
        subst (λ a. pos 0 ≤ℤ a) (area_is ∙ sym (ring_is first_one)) (fine ((at_first ring.reached).0 first_one)) in
        let three : suc (suc (suc k)) ≡ k + 3 = omega arith in
        let place : t + 1 + 2 * n + 1 + 2 * 0 ≡ t + 1 + 2 * n + 1 = omega arith in
        subst (λ m. Reached kinds.Polygon g m (t + 1 + 2 * n + 1) last) three
        (subst (λ m. Reached kinds.Polygon g (suc (suc (suc k))) m last) place
        (goes_on reached_close ClosePath (ring_due k ring.third).2 close 0 refl [] refl last refl refl
        (ring_fine g (suc (suc k)) (t + 1 + 2 * n) fine_two)))
