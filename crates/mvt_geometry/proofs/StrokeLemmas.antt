-- Lines and rings against their commands.
use Rattle.std.proofs.Common.{◌≡◌, ◌≢◌, ℕ, suc, ◌+◌, ◌*◌, ◌<◌, ◌≤◌, true, List, [], ◌∷◌, ◌++◌, length, drop, Some, None, refl, sym, ap, ap₂, subst, ◌∙◌, arith, append_assoc}
use Rattle.std.specs.List.{AllByRecursion}
use Rattle.std.proofs.lemmas.Map.Views.{exact_unsigned_eq}
use Rattle.std.proofs.lemmas.Bool.Decides.{nat_tests}
use Rattle.mvt_geometry.specs.declared.shape.Point.{Point}
use Rattle.mvt_geometry.specs.declared.shape.Kind.{Kind}
use Rattle.mvt_geometry.specs.declared.shape.Kind.TheVariants as kinds
use Rattle.mvt_geometry.specs.declared.command.Command.TheVariants.{MoveTo, LineTo, ClosePath}
use Rattle.mvt_geometry.specs.Shape.{IsPlace, AreSteps, last_of}
use Rattle.mvt_geometry.specs.Valid.{IsStroke}
use Rattle.mvt_geometry.specs.Drawing.{path_from, stroke}
use Rattle.mvt_geometry.specs.Commands.{is_allowed, due, moves}
use Rattle.mvt_geometry.specs.Table.{geometry_fault}
use Rattle.mvt_geometry.specs.Inner.Judging.{Reached}
use Rattle.mvt_geometry.specs.Inner.Strokes.{pair_between, pairs_between, MayDraw, AreSmall, FoundStroke}
use Rattle.mvt_geometry.proofs.CommandLemmas.{no_ring}
use Rattle.mvt_geometry.proofs.RingLemmas.{must_draw, one_thing}
use Rattle.mvt_geometry.proofs.FoundLemmas.{command_drawn, rest_drawn, moves_drawn, command_found}

-- steps and neighbours of joined paths
pub steps-append : (c : Point) (ps qs : List Point) → AreSteps c ps → AreSteps (last_of c ps) qs → AreSteps c (ps ++ qs)
steps-append c [] qs h k = k
steps-append c (p ∷ ps) qs h k = (h.0, steps-append p ps qs h.1 k)

pub steps-front : (c : Point) (ps qs : List Point) → AreSteps c (ps ++ qs) → AreSteps c ps
steps-front c [] qs h = tt
steps-front c (p ∷ ps) qs h = (h.0, steps-front p ps qs h.1)

pub steps-back : (c : Point) (ps qs : List Point) → AreSteps c (ps ++ qs) → AreSteps (last_of c ps) qs
steps-back c [] qs h = h
steps-back c (p ∷ ps) qs h = steps-back p ps qs h.1

-- the commands of one line, with more after them
pub stroke-more : (end : List ℕ) (c p : Point) (ps : List Point) (more : List ℕ)
    → stroke end c (p ∷ ps) ++ more ≡ 9 ∷ (path_from c (p ∷ []) ++ ((2 + 8 * length ps) ∷ (path_from p ps ++ (end ++ more))))
stroke-more end c p ps more = ap (λ xs. 9 ∷ (path_from c (p ∷ []) ++ ((2 + 8 * length ps) ∷ xs))) (append_assoc (path_from p ps) end more)

-- kinds whose geometries are lines or rings: which counts they allow
pub record HasStrokes (kind : Kind) (least : ℕ) : Type 0 where
  pub known : kind ≢ kinds.Unknown
  pub moves_once : (n : ℕ) → is_allowed kind MoveTo n ≡ true → n ≡ 1
  pub may_move : is_allowed kind MoveTo 1 ≡ true
  pub draws_enough : (n : ℕ) → is_allowed kind LineTo n ≡ true → least ≤ suc n
  pub may_draw : (n : ℕ) → least ≤ suc n → is_allowed kind LineTo n ≡ true

pub lines_have : HasStrokes kinds.LineString 2
lines_have = record {
  known = λ same. cc;
  moves_once = λ n e. exact_unsigned_eq n 1 e;
  may_move = refl;
  draws_enough = λ n e. let h : 0 < n = grind (arith, nat_tests) in omega (arith, h);
  may_draw = λ n h. let some : 0 < n = omega (arith, h) in grind (arith, nat_tests);
}

pub rings_have : HasStrokes kinds.Polygon 3
rings_have = record {
  known = λ same. cc;
  moves_once = λ n e. exact_unsigned_eq n 1 e;
  may_move = refl;
  draws_enough = λ n e. let h : 1 < n = grind (arith, nat_tests) in omega (arith, h);
  may_draw = λ n h. let some : 1 < n = omega (arith, h) in grind (arith, nat_tests);
}

module _ {kind : Kind} {least : ℕ} (has : HasStrokes kind least) {g : List ℕ} {k s : ℕ} {c : Point}
    (r : Reached kind g k s c) (move : due kind k ≡ Some MoveTo) (line : due kind (suc k) ≡ Some LineTo) where
  -- a MoveTo and a LineTo that break no rule draw a line
  pub stroke_found : geometry_fault kind g ≡ None → s < length g → AreSmall g → FoundStroke kind least g k s c
  stroke_found none here small =
      let first_found = command_found r MoveTo move has.known none (λ e. absurd (omega (arith, e, here))) small in
      let count_one : first_found.count ≡ 1 = has.moves_once first_found.count first_found.may.allowed in
      let one = one_thing first_found.points (first_found.may.pairs ∙ count_one) in
      let p = one.0 in
      let next = subst (λ ps. Reached kind g (suc k) (s + 1 + 2 * length ps) (last_of c ps)) one.1 first_found.next in
      let found = command_found next LineTo line has.known none (λ e. must_draw kind (suc k) LineTo line (λ same. cc)) small in
      let ps = found.points in
      let long : length ps ≡ found.count = found.may.pairs in
      let spelled_first : drop s g ≡ 9 ∷ (path_from c (p ∷ []) ++ drop (s + 1 + 2 * 1) g) =
      first_found.spelled ∙ ap₂ (λ n qs. (1 + 8 * n) ∷ (path_from c qs ++ drop (s + 1 + 2 * length qs) g)) count_one one.1 in
      let spelled_other : drop (s + 1 + 2 * 1) g ≡ (2 + 8 * length ps) ∷ (path_from p ps ++ drop (s + 1 + 2 * 1 + 1 + 2 * length ps) g) =
      found.spelled ∙ ap (λ n. (2 + 8 * n) ∷ (path_from p ps ++ drop (s + 1 + 2 * 1 + 1 + 2 * length ps) g)) (sym long) in
      record {
        head = p;
        tail = ps;
        end = s + 1 + 2 * 1 + 1 + 2 * length ps;
        is = record {
          enough = let e = has.draws_enough found.count found.may.allowed in omega (arith, long, e);
          few = omega (arith, long, found.few);
          apart = found.may.apart refl;
          places = ((subst (AllByRecursion IsPlace) one.1 first_found.may.places).0, found.may.places);
        };
        small_steps = ((subst (AreSteps c) one.1 first_found.may.small_steps).0, found.may.small_steps);
        spelled =
            spelled_first ∙ ap (λ xs. 9 ∷ (path_from c (p ∷ []) ++ xs)) spelled_other
            ∙ sym (stroke-more [] c p ps (drop (s + 1 + 2 * 1 + 1 + 2 * length ps) g));
        next = found.next;
        first_moves = first_found.moves_are ∙ ap (pairs_between c) one.1;
        other_moves = found.moves_are;
        further = omega arith;
      }

  -- a line is drawn by commands that break no rule
  pub stroke_drawn : (p : Point) (ps : List Point) (more : List ℕ) → IsStroke least (p ∷ ps) → AreSteps c (p ∷ ps)
      → drop s g ≡ stroke [] c (p ∷ ps) ++ more
      → (end : ℕ) × Reached kind g (suc (suc k)) end (last_of p ps) × (drop end g ≡ more)
      × (moves kind g k ≡ pair_between c p ∷ []) × (moves kind g (suc k) ≡ pairs_between p ps) × (s < end)
  stroke_drawn p ps more is small spelled =
      let may : MayDraw kind MoveTo 1 c (p ∷ []) = record {
        allowed = has.may_move;
        pairs = refl;
        places = (is.places.0, tt);
        small_steps = (small.0, tt);
        apart = λ e. cc;
      } in
      let spelled_first = spelled ∙ stroke-more [] c p ps more in
      let after = (2 + 8 * length ps) ∷ (path_from p ps ++ more) in
      let next =
      command_drawn r MoveTo move 1 (p ∷ []) may after spelled_first
      (no_ring kind g k s (λ same. let two : Some MoveTo ≡ Some ClosePath = sym move ∙ same in cc)) in
      let rest = rest_drawn r MoveTo move 1 (p ∷ []) may after spelled_first in
      let may_line : MayDraw kind LineTo (length ps) p ps = record {
        allowed = has.may_draw (length ps) is.enough;
        pairs = refl;
        places = is.places.1;
        small_steps = small.1;
        apart = λ e. is.apart;
      } in
      let line_next =
      command_drawn next LineTo line (length ps) ps may_line more rest
      (no_ring kind g (suc k) _ (λ same. let two : Some LineTo ≡ Some ClosePath = sym line ∙ same in cc)) in (
        _,
        line_next,
        rest_drawn next LineTo line (length ps) ps may_line more rest,
        moves_drawn r MoveTo move 1 (p ∷ []) may after spelled_first,
        moves_drawn next LineTo line (length ps) ps may_line more rest,
        omega arith,
      )
