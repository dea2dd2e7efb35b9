-- Geometries of polygons: integers without a fault draw some rings, and integers that draw some have no
-- fault.
use Rattle.std.proofs.Common.{◌≡◌, ◌≢◌, ℕ, zero, suc, ◌+◌, ◌-◌, ◌*◌, ◌%◌, ◌<◌, ◌≤◌, false, eqb, List, [], ◌∷◌, ◌++◌, length, drop, Some, None, pos, ◌≤ℤ◌, refl, sym, ap, ap₂, subst, ◌∙◌, ◌⊎◌, inl, inr, arith, length-drop, ne_eqb}
use Rattle.std.specs.List.{AllByRecursion}
use Rattle.std.proofs.lemmas.Bool.{cases_lt}
use Rattle.std.proofs.lemmas.List.{drop_all, nil_from_length}
use Rattle.std.proofs.lemmas.Map.Views.{exact_unsigned_eq}
use Rattle.mvt_base.specs.Rules.{first}
use Rattle.mvt_geometry.specs.declared.shape.Point.{Point}
use Rattle.mvt_geometry.specs.declared.shape.Kind.TheVariants as kinds
use Rattle.mvt_geometry.specs.declared.command.Command.TheVariants.{ClosePath}
use Rattle.mvt_geometry.specs.Shape.{AreSteps, joined, origin, last_of}
use Rattle.mvt_geometry.specs.Area.{area2}
use Rattle.mvt_geometry.specs.Valid.{IsStroke}
use Rattle.mvt_geometry.specs.Drawing.{path_from, stroke, strokes}
use Rattle.mvt_geometry.specs.Commands.{Pair, due, may_not_end, moves, positions, first_ring}
use Rattle.mvt_geometry.specs.Table.{wrong_ring, geometry_fault}
use Rattle.mvt_geometry.specs.Inner.Judging.{Reached}
use Rattle.mvt_geometry.specs.Inner.Strokes.{pair_between, pairs_between, MayDraw, AreSmall}
use Rattle.mvt_geometry.proofs.CommandLemmas.{may_end, reached_calm, ring_kept}
use Rattle.mvt_geometry.proofs.RingLemmas.{ring_due, ring_fine, fine_ring, must_draw}
use Rattle.mvt_geometry.proofs.PathLemmas.{positions-between}
use Rattle.mvt_geometry.proofs.FoundLemmas.{command_found, command_drawn, rest_drawn}
use Rattle.mvt_geometry.proofs.StrokeLemmas.{rings_have, stroke-more, stroke_found, stroke_drawn, steps-append, steps-front, steps-back}

pub rings_may_end : (k : ℕ) → k % 3 ≡ 0 → 0 < k → (may_not_end kinds.Polygon k ≡ false) × (due kinds.Polygon k ≢ Some ClosePath)
rings_may_end k e some = let n : eqb k 0 ≡ false = ne_eqb k 0 (omega arith) in rw (e, n) (refl, λ same. cc)

-- the first of some rings has no negative area
abbrev pub HasFineFirst : List (List Point) → Type 0
HasFineFirst [] = Unit {0}
HasFineFirst (ring ∷ rings) = pos 0 ≤ℤ area2 ring

-- the rings that stand from here
pub record FoundRings (g : List ℕ) (k s : ℕ) (c : Point) : Type 0 where
  pub rings : List (List Point)
  pub are : AllByRecursion (IsStroke 3) rings
  pub small_steps : AreSteps c (joined rings)
  pub spelled : drop s g ≡ strokes (15 ∷ []) c rings
  pub some : s < length g → 0 < length rings
  pub fine : k ≡ 0 → c ≡ origin → HasFineFirst rings

-- the ring that the first two commands draw
first_ring_is : (g : List ℕ) (k : ℕ) (c p : Point) (ps : List Point) → k ≡ 0 → c ≡ origin
    → moves kinds.Polygon g k ≡ pair_between c p ∷ [] → moves kinds.Polygon g (suc k) ≡ pairs_between p ps
    → first_ring g ≡ p ∷ ps
unfolding first_ring
first_ring_is g k c p ps z o e f =
    let first_moves = subst (λ m. moves kinds.Polygon g m ≡ pair_between c p ∷ []) z e in
    let other_moves = subst (λ m. moves kinds.Polygon g (suc m) ≡ pairs_between p ps) z f in
    ap₂ (λ (ds es : List Pair). positions origin (ds ++ es)) first_moves other_moves
    ∙ ap (λ d. positions d (pairs_between c (p ∷ ps))) (sym o) ∙ positions-between c (p ∷ ps)

no_rings : (g : List ℕ) (k s : ℕ) (c : Point) → length g ≤ s → FoundRings g k s c
no_rings g k s c h = record {
  rings = [];
  are = tt;
  small_steps = tt;
  spelled = drop_all s g h;
  some = λ here. absurd (omega arith);
  fine = λ z o. tt;
}

-- a ring with its ClosePath
record Closed (g : List ℕ) (k s : ℕ) (c : Point) : Type 0 where
  head : Point
  tail : List Point
  end : ℕ
  is : IsStroke 3 (head ∷ tail)
  small_steps : AreSteps c (head ∷ tail)
  spelled : drop s g ≡ stroke (15 ∷ []) c (head ∷ tail) ++ drop end g
  next : Reached kinds.Polygon g (suc (suc (suc k))) end (last_of head tail)
  fine : k ≡ 0 → c ≡ origin → pos 0 ≤ℤ area2 (head ∷ tail)
  further : s < end

pub stroke_closed : (c p : Point) (ps : List Point) (more : List ℕ)
    → stroke [] c (p ∷ ps) ++ (15 ∷ more) ≡ stroke (15 ∷ []) c (p ∷ ps) ++ more
stroke_closed c p ps more = stroke-more [] c p ps (15 ∷ more) ∙ sym (stroke-more (15 ∷ []) c p ps more)

ring_found : (g : List ℕ) (k s : ℕ) (c : Point) → Reached kinds.Polygon g k s c → k % 3 ≡ 0
    → geometry_fault kinds.Polygon g ≡ None → s < length g → AreSmall g → Closed g k s c
ring_found g k s c r e none here small =
    let is_due = ring_due k e in
    let f = stroke_found rings_have r is_due.0 is_due.1 none here small in
    let close =
    command_found f.next ClosePath is_due.2 (λ same. cc) none
    (λ end. must_draw kinds.Polygon (suc (suc k)) ClosePath is_due.2 (λ same. cc)) small in
    let empty : close.points ≡ [] = nil_from_length close.points close.may.pairs in
    let count_one : close.count ≡ 1 = exact_unsigned_eq close.count 1 close.may.allowed in
    let closed : drop f.end g ≡ 15 ∷ drop (f.end + 1 + 2 * 0) g =
    close.spelled
    ∙ ap₂ (λ n qs. (7 + 8 * n) ∷ (path_from (last_of f.head f.tail) qs ++ drop (f.end + 1 + 2 * length qs) g)) count_one
    empty in
    record {
      head = f.head;
      tail = f.tail;
      end = f.end + 1 + 2 * 0;
      is = f.is;
      small_steps = f.small_steps;
      spelled =
          f.spelled ∙ ap (λ xs. stroke [] c (f.head ∷ f.tail) ++ xs) closed
          ∙ stroke_closed c f.head f.tail (drop (f.end + 1 + 2 * 0) g);
      next =
          subst
          (λ qs. Reached kinds.Polygon g (suc (suc (suc k))) (f.end + 1 + 2 * length qs) (last_of (last_of f.head f.tail) qs))
          empty close.next;
      fine = λ z o.
          let kept =
          ring_kept kinds.Polygon g (suc (suc k)) f.end (last_of f.head f.tail) f.next.stands ClosePath is_due.2
          (reached_calm (λ same. cc) none f.next) in
          let two : suc (suc k) ≡ 2 = omega (arith, z) in
          subst (λ ring. pos 0 ≤ℤ area2 ring) (first_ring_is g k c f.head f.tail z o f.first_moves f.other_moves)
          (fine_ring g f.end (subst (λ m. first (wrong_ring kinds.Polygon g m f.end) ≡ None) two kept));
      further = let h = f.further in omega (arith, h);
    }

one_ring : (g : List ℕ) (k s : ℕ) (c : Point) → s < length g → (f : Closed g k s c)
    → FoundRings g (suc (suc (suc k))) f.end (last_of f.head f.tail) → FoundRings g k s c
one_ring g k s c h f more = record {
  rings = (f.head ∷ f.tail) ∷ more.rings;
  are = (f.is, more.are);
  small_steps = steps-append c (f.head ∷ f.tail) (joined more.rings) f.small_steps more.small_steps;
  spelled = f.spelled ∙ ap (λ xs. stroke (15 ∷ []) c (f.head ∷ f.tail) ++ xs) more.spelled;
  some = λ here. omega arith;
  fine = f.fine;
}

pub rings_found : (g : List ℕ) → geometry_fault kinds.Polygon g ≡ None → AreSmall g → (n k s : ℕ) (c : Point)
    → length g - s ≤ n → Reached kinds.Polygon g k s c → k % 3 ≡ 0 → FoundRings g k s c
rings_found g none small zero k s c bound r e = no_rings g k s c (omega (arith, bound))
rings_found g none small (suc n) k s c bound r e =
    at_place (cases_lt s (length g)) (λ j t d bound r e. rings_found g none small n j t d bound r e)
  where
    at_place : (s < length g) ⊎ (length g ≤ s)
        → ((j t : ℕ) (d : Point) → length g - t ≤ n → Reached kinds.Polygon g j t d → j % 3 ≡ 0 → FoundRings g j t d)
        → FoundRings g k s c
    at_place (inr h) again = no_rings g k s c h
    at_place (inl h) again =
        let f = ring_found g k s c r e none h small in
        let further = f.further in
        one_ring g k s c h f
        (again (suc (suc (suc k))) f.end (last_of f.head f.tail) (omega (arith, bound, further)) f.next (omega (arith, e)))

pub rings_drawn : (g : List ℕ) (rings : List (List Point)) (k s : ℕ) (c : Point) → Reached kinds.Polygon g k s c → k % 3 ≡ 0
    → 0 < k + length rings → (k ≡ 0 → (c ≡ origin) × HasFineFirst rings)
    → AllByRecursion (IsStroke 3) rings → AreSteps c (joined rings) → drop s g ≡ strokes (15 ∷ []) c rings
    → geometry_fault kinds.Polygon g ≡ None
rings_drawn g [] k s c r e some fine are small spelled =
    let over : length g ≤ s = omega (arith, length-drop s g, ap length spelled) in
    let may = rings_may_end k e (omega arith) in
    may_end (λ same. cc) r over may.0 may.1
rings_drawn g ([] ∷ rings) k s c r e some fine are small spelled = absurd (omega (arith, are.0.enough))
rings_drawn g ((p ∷ ps) ∷ rings) k s c r e some fine are small spelled =
    let is_due = ring_due k e in
    let after = strokes (15 ∷ []) (last_of p ps) rings in
    let f =
    stroke_drawn rings_have r is_due.0 is_due.1 p ps (15 ∷ after) are.0 (steps-front c (p ∷ ps) (joined rings) small)
    (spelled ∙ sym (stroke_closed c p ps after)) in
    let may : MayDraw kinds.Polygon ClosePath 1 (last_of p ps) [] =
    record { allowed = refl; pairs = refl; places = tt; small_steps = tt; apart = λ e. cc } in
    let fine_here : suc (suc k) ≡ 2 → pos 0 ≤ℤ area2 (first_ring g) =
    λ two. let z : k ≡ 0 = omega arith in
    subst (λ ring. pos 0 ≤ℤ area2 ring) (sym (first_ring_is g k c p ps z (fine z).0 f.3 f.4)) (fine z).1 in
    let next = command_drawn f.1 ClosePath is_due.2 1 [] may after f.2 (ring_fine g (suc (suc k)) f.0 fine_here) in
    rings_drawn g rings (suc (suc (suc k))) _ (last_of p ps) next (omega (arith, e)) (omega arith) (λ z. absurd (omega arith))
    are.1 (steps-back c (p ∷ ps) (joined rings) small) (rest_drawn f.1 ClosePath is_due.2 1 [] may after f.2)
