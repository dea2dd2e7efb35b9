-- A tile's bytes by what is changed of them.
use Rattle.std.proofs.Common.{◌≡◌, ℕ, ◌<◌, List, [], ◌∷◌, Bool, true, false, ◌&&◌, not, length, nat_le, refl, ap, arith}
use Rattle.std.proofs.lemmas.Bool.Decides.{nat_tests}
use Rattle.std.specs.Prelude.{if◌then◌else◌}
use Rattle.mvt_base.specs.declared.TheConstants.{LIMIT}
use Rattle.mvt_wire.specs.Spelling.{spelled}
use Rattle.mvt_wire.specs.Split.{split}
use Rattle.mvt_tile_value.specs.declared.numbers.tile.TheConstants.{LAYERS}
use Rattle.mvt_mend.specs.declared.change.Change.{Change}
use Rattle.mvt_mend.specs.declared.change.Unmended.TheVariants.{AnotherRule}
use Rattle.mvt_mend.specs.Tiles.{as_layer, cause_in, changes_from, changes_in, fields_with, has_layers, is_long_winded, layer_changes, mended, mended_by}

pub none : (changes : List Change) → length changes ≡ 0 → changes ≡ []
none [] empty = refl
none (change ∷ changes) empty = let never : ⊥ = omega arith in elim never [ ]

pub unchanged : (input : List ℕ) → changes_in input ≡ [] → mended input ≡ input
unfolding mended
unchanged input none = ap (mended_by input) none

by_changes : (input : List ℕ) (changes : List Change) → 0 < length changes
    → mended_by input changes ≡ spelled (fields_with as_layer LAYERS (split input).fields)
by_changes input [] some = let never : ⊥ = omega arith in elim never [ ]
by_changes input (change ∷ changes) some = refl

pub changed : (input : List ℕ) → 0 < length (changes_in input)
    → mended input ≡ spelled (fields_with as_layer LAYERS (split input).fields)
unfolding mended
changed input some = by_changes input (changes_in input) some

pub long_stays : (input : List ℕ) → LIMIT < length input → mended input ≡ input
unfolding changes_in
long_stays input longer =
    let over : nat_le (length input) LIMIT ≡ false = grind (arith, nat_tests) in unchanged input (rw over refl)

pub long_cause : (input : List ℕ) → LIMIT < length input → cause_in input ≡ AnotherRule
unfolding cause_in
long_cause input longer =
    let over : nat_le (length input) LIMIT ≡ false = grind (arith, nat_tests) in rw over refl

-- nothing is changed where that takes too many steps
pub long_winded_stays : (input : List ℕ) → is_long_winded input ≡ true → changes_in input ≡ []
unfolding changes_in
long_winded_stays input long = by_test (has_layers input)
  where
    by_test : (b : Bool)
        → (if b && not (is_long_winded input) then changes_from layer_changes LAYERS 0 (split input).fields else []) ≡ []
    by_test true = rw long refl
    by_test false = refl
