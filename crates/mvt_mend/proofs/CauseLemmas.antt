-- Why tiles aren't mended, and that those stay.
use Rattle.std.proofs.Common.{◌≡◌, ℕ, ◌+◌, ◌==◌, Bool, true, false, List, [], ◌∷◌, refl, sym, ap, ◌∙◌}
use Rattle.std.specs.Prelude.{if◌then◌else◌, nat_lt}
use Rattle.mvt_wire.specs.Field.{Entry}
use Rattle.mvt_wire.specs.Split.{split}
use Rattle.mvt_tile_value.specs.declared.numbers.tile.TheConstants.{LAYERS}
use Rattle.mvt_mend.specs.declared.change.Unmended.{Unmended}
use Rattle.mvt_mend.specs.declared.change.Unmended.TheVariants.{RingsCross, TooManySteps, AnotherRule}
use Rattle.mvt_mend.specs.declared.geometry.TheConstants.{MOST_STEPS}
use Rattle.mvt_mend.specs.Changes.{first_cause}
use Rattle.mvt_mend.specs.Tiles.{cause_at, cause_from, cause_in, has_layers, is_long_winded, layer_cause, layer_steps, steps_in, tile_steps}

first_alone : (a : Unmended) → first_cause a AnotherRule ≡ a
first_alone (RingsCross layer feature crossing) = refl
first_alone TooManySteps = refl
first_alone AnotherRule = refl

first_three : (a b c : Unmended) → first_cause (first_cause a b) c ≡ first_cause a (first_cause b c)
first_three (RingsCross layer feature crossing) b c = refl
first_three TooManySteps b c = refl
first_three AnotherRule b c = refl

-- the first cause of fields after another
pub causes_after : (cause : ℕ → List ℕ → Unmended) (number n : ℕ) (before : Unmended) (xs : List Entry)
    → cause_from cause number n before xs ≡ first_cause before (cause_from cause number n AnotherRule xs)
causes_after cause number n before [] = sym (first_alone before)
causes_after cause number n before (x ∷ xs) =
    by_test (x.number == number) (λ m c. causes_after cause number m c xs)
  where
    here : Unmended
    here = cause_at (cause n) x.content

    by_test : (b : Bool)
        → ((m : ℕ) (c : Unmended) → cause_from cause number m c xs ≡ first_cause c (cause_from cause number m AnotherRule xs))
        → (if b then cause_from cause number (n + 1) (first_cause before here) xs else cause_from cause number n before xs)
        ≡ first_cause before (if b then cause_from cause number (n + 1) here xs else cause_from cause number n AnotherRule xs)
    by_test true rest =
        rest (n + 1) (first_cause before here) ∙ first_three before here (cause_from cause number (n + 1) AnotherRule xs)
        ∙ ap (first_cause before) (sym (rest (n + 1) here))
    by_test false rest = rest n before

some_steps : (b : Bool) (n : ℕ) → nat_lt MOST_STEPS (if b then n else 0) ≡ true → b ≡ true
some_steps true n h = refl
some_steps false n h = absurd (cc)

-- too many steps are the cause where that many are taken
pub long_winded_cause : (input : List ℕ) → is_long_winded input ≡ true → TooManySteps ≡ cause_in input
unfolding cause_in is_long_winded tile_steps
long_winded_cause input long =
    let layers : has_layers input ≡ true = some_steps (has_layers input) (steps_in layer_steps LAYERS (split input).fields) long in
    rw layers (by_test (nat_lt MOST_STEPS (steps_in layer_steps LAYERS (split input).fields)) (rw layers at long))
  where
    by_test : (b : Bool) → b ≡ true → TooManySteps ≡ (if b then TooManySteps else cause_from layer_cause LAYERS 0 AnotherRule (split input).fields)
    by_test true h = refl
    by_test false h = absurd (cc)
