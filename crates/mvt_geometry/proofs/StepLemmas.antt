-- The rules of one pair of parameters.
use Rattle.std.proofs.Common.{◌≡◌, ◌≢◌, eq-eqb, pos, negsuc, ◌≤ℤ◌, ℕ, ◌+◌, Bool, true, false, ◌&&◌, eqb, ℤ, Some, None, refl, sym, ◌∙◌, arith}
use Rattle.std.specs.Option.{option_or}
use Rattle.std.proofs.lemmas.Bool.{false≢true, eqb-false}
use Rattle.std.proofs.lemmas.Bool.Decides.{nat_tests}
use Rattle.std.proofs.lemmas.Int.{ints, by_lt_z}
use Rattle.mvt_base.specs.Rules.{first, when}
use Rattle.mvt_base.proofs.TableLemmas.{when_none}
use Rattle.mvt_base.proofs.RuleLemmas.{first-append, first-under, first-when, first-when_not, option_or-nones}
use Rattle.mvt_geometry.specs.declared.shape.Point.{Point}
use Rattle.mvt_geometry.specs.declared.fault.GeometryCause.TheVariants as causes
use Rattle.mvt_geometry.specs.Shape.{wide, InRange, IsPlace}
use Rattle.mvt_geometry.specs.Commands.{Pair}
use Rattle.mvt_geometry.specs.Table.{IndexedCause, is_outside, step_rules}

step_chain : (line : Bool) (at : ℕ) (d : Pair) (to : Point)
    → first (step_rules line at d to)
    ≡ option_or (first (when (eqb d.dx 4294967295) (at, causes.ParameterRange)))
    (option_or (first (when (eqb d.dy 4294967295) (at + 1, causes.ParameterRange)))
    (option_or (first (when (line && (eqb d.dx 0 && eqb d.dy 0)) (at, causes.ZeroSegment)))
    (option_or (first (when (is_outside wide to.x) (at, causes.CoordinateRange)))
    (option_or (first (when (is_outside wide to.y) (at + 1, causes.CoordinateRange))) None))))
unfolding step_rules
step_chain line at d to = simp (first-append, first-under) refl

pub outside : (z : ℤ) → (InRange z → ⊥) → is_outside wide z ≡ true
outside z h =
    by_lt_z z (negsuc 2147483646) (λ low. grind (arith, ints))
    (λ low. by_lt_z (pos 2147483647) z (λ high. grind (arith, ints)) (λ high. absurd (h (record { low = low; high = high }))))

pub inside : (z : ℤ) → InRange z → is_outside wide z ≡ false
inside z h = let low : negsuc 2147483646 ≤ℤ z = h.low in let high : z ≤ℤ pos 2147483647 = h.high in grind (arith, ints)

-- the exits of a step
pub refused_x : (line : Bool) (at : ℕ) (d : Pair) (to : Point) → d.dx ≡ 4294967295
    → first (step_rules line at d to) ≡ Some (at, causes.ParameterRange)
refused_x line at d to e =
    rw (step_chain line at d to, first-when {F = IndexedCause} _ (at, causes.ParameterRange) (eq-eqb d.dx 4294967295 e)) refl

module _ (line : Bool) (at : ℕ) (d : Pair) (to : Point) (x : d.dx ≢ 4294967295) where
  x_accepted : first {F = IndexedCause} (when (eqb d.dx 4294967295) (at, causes.ParameterRange)) ≡ None
  x_accepted = first-when_not {F = IndexedCause} _ (at, causes.ParameterRange) (grind (arith, nat_tests))

  pub refused_y : d.dy ≡ 4294967295 → first (step_rules line at d to) ≡ Some (at + 1, causes.ParameterRange)
  refused_y e =
      rw (
        step_chain line at d to,
        x_accepted,
        first-when {F = IndexedCause} _ (at + 1, causes.ParameterRange) (eq-eqb d.dy 4294967295 e),
      )
      refl

module _ (line : Bool) (at : ℕ) (d : Pair) (to : Point) (x : d.dx ≢ 4294967295) (y : d.dy ≢ 4294967295) where
  y_accepted : first {F = IndexedCause} (when (eqb d.dy 4294967295) (at + 1, causes.ParameterRange)) ≡ None
  y_accepted = first-when_not {F = IndexedCause} _ (at + 1, causes.ParameterRange) (grind (arith, nat_tests))

  pub stays : (line && (eqb d.dx 0 && eqb d.dy 0)) ≡ true → first (step_rules line at d to) ≡ Some (at, causes.ZeroSegment)
  stays is =
      rw (
        step_chain line at d to,
        x_accepted line at d to x,
        y_accepted,
        first-when {F = IndexedCause} (line && (eqb d.dx 0 && eqb d.dy 0)) (at, causes.ZeroSegment) is,
      )
      refl

module _ (line : Bool) (at : ℕ) (d : Pair) (to : Point) (x : d.dx ≢ 4294967295) (y : d.dy ≢ 4294967295)
    (goes : (line && (eqb d.dx 0 && eqb d.dy 0)) ≡ false) where
  moves : first {F = IndexedCause} (when (line && (eqb d.dx 0 && eqb d.dy 0)) (at, causes.ZeroSegment)) ≡ None
  moves = first-when_not {F = IndexedCause} _ (at, causes.ZeroSegment) goes

  -- what is left to ask: whether the place is in range
  place_rules : first (step_rules line at d to)
      ≡ option_or (first (when (is_outside wide to.x) (at, causes.CoordinateRange)))
      (option_or (first (when (is_outside wide to.y) (at + 1, causes.CoordinateRange))) None)
  place_rules = rw (step_chain line at d to, x_accepted line at d to x, y_accepted line at d to x y, moves) refl

  pub leaves_x : (InRange to.x → ⊥) → first (step_rules line at d to) ≡ Some (at, causes.CoordinateRange)
  leaves_x h = rw (place_rules, first-when {F = IndexedCause} _ (at, causes.CoordinateRange) (outside to.x h)) refl

  y_rule : InRange to.x → first (step_rules line at d to) ≡ option_or
      (first (when (is_outside wide to.y) (at + 1, causes.CoordinateRange))) None
  y_rule in_x = rw (place_rules, first-when_not {F = IndexedCause} _ (at, causes.CoordinateRange) (inside to.x in_x)) refl

  pub leaves_y : InRange to.x → (InRange to.y → ⊥) → first (step_rules line at d to) ≡ Some (at + 1, causes.CoordinateRange)
  leaves_y in_x h = rw (y_rule in_x, first-when {F = IndexedCause} _ (at + 1, causes.CoordinateRange) (outside to.y h)) refl

  pub step_right : IsPlace to → first (step_rules line at d to) ≡ None
  step_right h = rw (y_rule h.0, first-when_not {F = IndexedCause} _ (at + 1, causes.CoordinateRange) (inside to.y h.1)) refl

inside_is : (z : ℤ) → is_outside wide z ≡ false → InRange z
inside_is z e =
    by_lt_z z (negsuc 2147483646)
    (λ low. let yes : is_outside wide z ≡ true = grind (arith, ints) in absurd (false≢true (sym e ∙ yes)))
    (λ low.
    by_lt_z (pos 2147483647) z
    (λ high. let yes : is_outside wide z ≡ true = grind (arith, ints) in absurd (false≢true (sym e ∙ yes)))
    (λ high. record { low = low; high = high }))

-- what holds of a step that breaks no rule
pub step_gives : (line : Bool) (at : ℕ) (d : Pair) (to : Point) → first (step_rules line at d to) ≡ None
    → (d.dx ≢ 4294967295) × (d.dy ≢ 4294967295) × ((line && (eqb d.dx 0 && eqb d.dy 0)) ≡ false) × IsPlace to
step_gives line at d to none =
    let e = sym (step_chain line at d to) ∙ none in
    let x = option_or-nones _ _ e in
    let y = option_or-nones _ _ x.1 in
    let goes = option_or-nones _ _ y.1 in
    let to_x = option_or-nones _ _ goes.1 in
    let to_y = option_or-nones _ _ to_x.1 in (
      eqb-false d.dx 4294967295 (when_none _ _ x.0),
      eqb-false d.dy 4294967295 (when_none _ _ y.0),
      when_none _ _ goes.0,
      (inside_is to.x (when_none _ _ to_x.0), inside_is to.y (when_none _ _ to_y.0)),
    )
