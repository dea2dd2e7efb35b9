use Rattle.std.proofs.Common.{rules, arith, ◌≡◌, ℕ, List, suc, ◌+◌, ◌-◌, ◌*◌, ◌^◌, ◌<◌, ◌≤◌, length, take, drop, ℤ, pos, ◌+ℤ◌, ◌≤ℤ◌, ◌<ℤ◌, true, false, sym, ap, ap₂, ◌∙◌, to_z, of_z, FitsSigned, length-take}
use Rattle.std.specs.Int.{w128}
use Rattle.std.specs.Int.RustNames.{unsigned_abs}
use Rattle.std.proofs.lemmas.Int.{ints, to_z-of_z, fits_signed_from_abs, by_lt_z}
use Rattle.std.specs.Int.Signed.{lt_z}
use Rattle.std.proofs.lemmas.Bool.{false≢true}
use Rattle.std.proofs.lemmas.Result.{err_from_is_err_and}
use Rattle.mvt_geometry.specs.declared.shape.Kind.TheVariants as kinds
use Rattle.mvt_geometry.specs.declared.command.Command.TheVariants.{LineTo, ClosePath}
use Rattle.mvt_geometry.specs.Commands.{may_not_end}
use Rattle.mvt_geometry.proofs.CommandLemmas.{header_stops, pairs_stop}
use Rattle.mvt_geometry.proofs.RingLemmas.{reads_ring, ring_due, must_draw, reached_close, ring_stops, ring_goes}
use Rattle.mvt_geometry.proofs.CountLemmas.{ring_passed}
use Rattle.mvt_geometry.proofs.judging.judge_ring.Goals as goal
use Rattle.mvt_geometry.proofs.judging.judge_ring.Goals.{else-pen-eq0-via-then-pen-eq0+else-area-lt0, else-pen-eq0-via-else-pen-eq0}

pub returns-in_err-count-clause-err : goal.returns-in_err-count-clause-err
returns-in_err-count-clause-err c =
    let p = err_from_is_err_and c.from_residual-in_err-count.result c.from_residual-in_err-count.ensures.1 in
    rw (p.1, p.2) (λ k e r.
    let is_due = ring_due k e in
    header_stops (c.in_ok-first.ensures.ok k is_due.0 r) LineTo is_due.1 _
    (c.in_err-count.ensures.err (may_not_end kinds.Polygon (suc k))
    (λ end. must_draw kinds.Polygon (suc k) LineTo is_due.1 (λ same. cc))))

pub returns-in_err-last-clause-err : goal.returns-in_err-last-clause-err
returns-in_err-last-clause-err c =
    let g = c.args.integers.now in
    let s = c.in_ok-first.first.at in
    let n = c.in_ok-count.count in
    let length_is : (s + 1 + 2 * n) - (s + 1) ≡ 2 * n = omega arith in
    let p = err_from_is_err_and c.from_residual-in_err-last.result c.from_residual-in_err-last.ensures.1 in
    rw (p.1, p.2) (λ k e r.
    let is_due = ring_due k e in
    pairs_stop (c.in_ok-first.ensures.ok k is_due.0 r) LineTo is_due.1 c.in_ok-count.ensures.ok n
    c.in_ok-count.ensures.count (take ((s + 1 + 2 * n) - (s + 1)) (drop (s + 1) g))
    (ap (λ m. take m (drop (s + 1) g)) length_is) _ c.in_err-last.ensures.err)

pub returns-in_err-judge_header-clause-err : goal.returns-in_err-judge_header-clause-err
returns-in_err-judge_header-clause-err c =
    let g = c.args.integers.now in
    let s = c.in_ok-first.first.at in
    let n = c.in_ok-count.count in
    let p = err_from_is_err_and c.from_residual-in_err-judge_header.result c.from_residual-in_err-judge_header.ensures.1 in
    rw (p.1, p.2) (λ k e r.
    let is_due = ring_due k e in
    let ring = reads_ring g k s n e r (c.in_ok-first.ensures.ok k (ring_due k e).0 r) c.in_ok-count.ensures.ok c.in_ok-count.ensures.count
    c.in_ok-last.ensures.ok c.in_ok-last.ensures.cursor in
    header_stops (reached_close ring) ClosePath is_due.2 _
    (c.in_err-judge_header.ensures.err (may_not_end kinds.Polygon (suc (suc k)))
    (λ end. must_draw kinds.Polygon (suc (suc k)) ClosePath is_due.2 (λ same. cc))))

area_fits : (a b p q : ℤ) (n m : ℕ) → p ≡ a → q ≡ b → unsigned_abs a ≤ n * 2 ^ 62 → n ≤ m → m < 2 ^ 64
    → unsigned_abs b ≤ 2 ^ 63 → FitsSigned w128 (p +ℤ q) × (to_z w128 (of_z w128 (p +ℤ q)) ≡ a +ℤ b)
area_fits a b p q n m e f small few room edge =
    let fits : FitsSigned w128 (a +ℤ b) = fits_signed_from_abs w128 (a +ℤ b) (omega (arith, ints)) in
    rw (e, f) (fits, to_z-of_z w128 (a +ℤ b) fits)

negative : (z : ℤ) → lt_z z (pos 0) ≡ true → z <ℤ pos 0
negative z e = by_lt_z z (pos 0) (λ h. h) (λ h. let no : lt_z z (pos 0) ≡ false = grind (arith, ints) in absurd (false≢true (sym no ∙ e)))

not_negative : (z : ℤ) → lt_z z (pos 0) ≡ false → pos 0 ≤ℤ z
not_negative z e = by_lt_z z (pos 0) (λ h. let yes : lt_z z (pos 0) ≡ true = grind (arith, ints) in
    absurd (false≢true (sym e ∙ yes))) (λ h. h)

abbrev the_area : ℤ → ℤ → ℤ
the_area path edge = to_z w128 (of_z w128 (to_z w128 (of_z w128 path) +ℤ to_z w128 (of_z w128 edge)))

-- the sum of what the path and the closing edge add, which fits
area_sum : (path edge a b : ℤ) (g : List ℕ) (s n : ℕ) → to_z w128 (of_z w128 path) ≡ path → to_z w128 (of_z w128 edge) ≡ edge
    → path ≡ a → edge ≡ b → unsigned_abs path ≤ length (take ((s + 1 + 2 * n) - (s + 1)) (drop (s + 1) g)) * 2 ^ 62
    → unsigned_abs edge ≤ 2 ^ 63 → 2 * n < 2 ^ 64
    → FitsSigned w128 (to_z w128 (of_z w128 path) +ℤ to_z w128 (of_z w128 edge)) × (the_area path edge ≡ a +ℤ b)
area_sum path edge a b g s n p q path_is edge_is small edge_small room =
    let few = length-take ((s + 1 + 2 * n) - (s + 1)) (drop (s + 1) g) in
    let sum = area_fits path edge _ _ _ (2 * n) p q small (omega (arith, few)) room edge_small in
    (sum.0, sum.1 ∙ ap₂ (λ x y. x +ℤ y) path_is edge_is)

pub overflow_add-area : goal.overflow_add-area
overflow_add-area c =
    let g = c.args.integers.now in
    let s = c.in_ok-first.first.at in
    let n = c.in_ok-count.count in
    let room : 2 * n < 2 ^ 64 = omega (arith, c.in_ok-count.ensures.ok.room, c.in_ok-count.ensures.count, c.type_inv.integers s) in
    let area =
    area_sum c.in_ok-last.path c.cross.result _ _ g s n (search rules) (search rules) c.in_ok-last.ensures.area
    c.cross.ensures.value c.in_ok-last.ensures.small c.cross.ensures.small room in
    area.0

pub returns-then-area-lt0-clause-err : goal.returns-then-area-lt0-clause-err
returns-then-area-lt0-clause-err c = λ k e r.
    let g = c.args.integers.now in
    let s = c.in_ok-first.first.at in
    let n = c.in_ok-count.count in
    let room : 2 * n < 2 ^ 64 = omega (arith, c.in_ok-count.ensures.ok.room, c.in_ok-count.ensures.count, c.type_inv.integers s) in
    let area =
    area_sum c.in_ok-last.path c.cross.result _ _ g s n (search rules) (search rules) c.in_ok-last.ensures.area
    c.cross.ensures.value c.in_ok-last.ensures.small c.cross.ensures.small room in
    let ring = reads_ring g k s n e r (c.in_ok-first.ensures.ok k (ring_due k e).0 r) c.in_ok-count.ensures.ok c.in_ok-count.ensures.count
    c.in_ok-last.ensures.ok c.in_ok-last.ensures.cursor in
    ring_stops ring c.in_ok-judge_header.ensures.ok (the_area c.in_ok-last.path c.cross.result)
    area.1 c.if-pen-eq0.true (negative _ c.if-area-lt0.true)

pub returns-clause-ok : goal.returns-clause-ok
returns-clause-ok c = λ k e r.
    let g = c.args.integers.now in
    let s = c.in_ok-first.first.at in
    let n = c.in_ok-count.count in
    let room : 2 * n < 2 ^ 64 = omega (arith, c.in_ok-count.ensures.ok.room, c.in_ok-count.ensures.count, c.type_inv.integers s) in
    let area =
    area_sum c.in_ok-last.path c.cross.result _ _ g s n (search rules) (search rules) c.in_ok-last.ensures.area
    c.cross.ensures.value c.in_ok-last.ensures.small c.cross.ensures.small room in
    let ring = reads_ring g k s n e r (c.in_ok-first.ensures.ok k (ring_due k e).0 r) c.in_ok-count.ensures.ok c.in_ok-count.ensures.count
    c.in_ok-last.ensures.ok c.in_ok-last.ensures.cursor in
    let fine : c.args.pen.at ≡ 0 → pos 0 ≤ℤ the_area c.in_ok-last.path c.cross.result =
    elim c.else-pen-eq0.branch [
      | else-pen-eq0-via-then-pen-eq0+else-area-lt0 w ↦
          λ z. not_negative _ w.if-area-lt0.false
      | else-pen-eq0-via-else-pen-eq0 w ↦ λ z. absurd (w.if-pen-eq0.false z)
    ] in
    ring_goes ring c.in_ok-judge_header.ensures.ok (the_area c.in_ok-last.path c.cross.result)
    area.1 fine

pub returns-clause-ring : goal.returns-clause-ring
returns-clause-ring c = λ k p ps more e r is small spelled.
    let g = c.args.integers.now in
    let s = c.in_ok-first.first.at in
    let n = c.in_ok-count.count in
    let room : 2 * n < 2 ^ 64 = omega (arith, c.in_ok-count.ensures.ok.room, c.in_ok-count.ensures.count, c.type_inv.integers s) in
    let area =
    area_sum c.in_ok-last.path c.cross.result _ _ g s n (search rules) (search rules) c.in_ok-last.ensures.area
    c.cross.ensures.value c.in_ok-last.ensures.small c.cross.ensures.small room in
    let ring = reads_ring g k s n e r (c.in_ok-first.ensures.ok k (ring_due k e).0 r) c.in_ok-count.ensures.ok c.in_ok-count.ensures.count
    c.in_ok-last.ensures.ok c.in_ok-last.ensures.cursor in
    let passed =
    ring_passed ring p ps more is small spelled in
    (area.1 ∙ passed.0, passed.1, passed.2)
