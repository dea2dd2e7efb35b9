-- A walk over pairs of parameters.
use Rattle.std.proofs.Common.{◌≡◌, ℕ, ◌+◌, ◌-◌, ◌*◌, ◌≤◌, Bool, List, [], ◌∷◌, ◌++◌, length, get_or, take, drop, length-drop, Some, None, ◌+ℤ◌, refl, sym, ap, ap₂, ◌∙◌, arith, append_assoc, length-append}
use Rattle.std.proofs.lemmas.List.{take_rest}
use Rattle.std.proofs.lemmas.Int.{ints}
use Rattle.mvt_base.specs.Rules.{first, each}
use Rattle.mvt_base.proofs.RuleLemmas.{each_more, each_stops}
use Rattle.mvt_geometry.specs.declared.shape.Point.{Point}
use Rattle.mvt_geometry.specs.Area.{cross}
use Rattle.mvt_geometry.specs.Commands.{Pair, pairs_of, stepped, moved, positions}
use Rattle.mvt_geometry.specs.Table.{IndexedCause, step_rules, pair_rules}
use Rattle.mvt_geometry.specs.Inner.Judging.{Walked, edges}

pub moved-append : (c : Point) (ds es : List Pair) → moved c (ds ++ es) ≡ moved (moved c ds) es
moved-append c [] es = refl
moved-append c (d ∷ ds) es = moved-append (stepped c d) ds es

pub edges-more : (c : Point) (ds : List Pair) (d : Pair)
    → edges c (positions c (ds ++ d ∷ [])) ≡ edges c (positions c ds) +ℤ cross (moved c ds) (stepped (moved c ds) d)
edges-more c [] d = omega (arith, ints)
edges-more c (e ∷ ds) d = let more = edges-more (stepped c e) ds d in rw more (omega (arith, ints))

pub pairs_front : (xs : List ℕ) → 2 ≤ length xs → pairs_of xs ≡ record { dx = get_or xs 0 0; dy = get_or xs 1 0 } ∷ pairs_of (drop 2 xs)
pairs_front [] h = absurd (omega (arith, h))
pairs_front (x ∷ []) h = absurd (omega (arith, h))
pairs_front (x ∷ y ∷ xs) h = refl

pub pair_rule : (line : Bool) (begin : ℕ) (from : Point) (front : List Pair) (d : Pair)
    → pair_rules line begin from front d ≡ step_rules line (begin + 2 * length front) d (stepped (moved from front) d)
unfolding pair_rules
pair_rule line begin from front d = ap (step_rules line (begin + 2 * length front) d) (moved-append from front (d ∷ []))

pub walk_begins : (line : Bool) (begin : ℕ) (from : Point) (parameters : List ℕ) → Walked line begin from parameters parameters from []
walk_begins line begin from parameters = record { split = refl; cursor_is = refl; calm = refl; used = omega arith }

-- the pair in front of what is left
abbrev pub first_pair : List ℕ → Pair
first_pair rest = record { dx = get_or rest 0 0; dy = get_or rest 1 0 }

module _ (line : Bool) (begin : ℕ) (from : Point) (parameters rest : List ℕ) (c : Point) (done : List Pair)
    (w : Walked line begin from parameters rest c done) (two : 2 ≤ length rest) where
  rule_here : (at : ℕ) → at ≡ begin + (length parameters - length rest)
      → pair_rules line begin from done (first_pair rest) ≡ step_rules line at (first_pair rest) (stepped c (first_pair rest))
  rule_here at e =
      let there : begin + 2 * length done ≡ at = omega (arith, w.used, e) in
      pair_rule line begin from done (first_pair rest)
      ∙ ap (λ n. step_rules line n (first_pair rest) (stepped (moved from done) (first_pair rest))) there
      ∙ ap (λ p. step_rules line at (first_pair rest) (stepped p (first_pair rest))) (sym w.cursor_is)

  pub walk_steps : (at : ℕ) (to : Point) → at ≡ begin + (length parameters - length rest)
      → first (step_rules line at (first_pair rest) (stepped c (first_pair rest))) ≡ None → to ≡ stepped c (first_pair rest)
      → Walked line begin from parameters (take (length rest - 2) (drop 2 rest)) to (done ++ first_pair rest ∷ [])
  walk_steps at to e none is =
      rw (take_rest rest 2) (record {
        split =
            w.split ∙ ap (λ ds. done ++ ds) (pairs_front rest two)
            ∙ sym (append_assoc done (first_pair rest ∷ []) (pairs_of (drop 2 rest)));
        cursor_is = is ∙ ap (λ p. stepped p (first_pair rest)) w.cursor_is ∙ sym (moved-append from done (first_pair rest ∷ []));
        calm = each_more (pair_rules line begin from) done (first_pair rest) w.calm ∙ ap first (rule_here at e) ∙ none;
        used = omega (arith, w.used, length-append done (first_pair rest ∷ []), length-drop 2 rest);
      })

  pub walk_stops : (at : ℕ) (f : IndexedCause) → at ≡ begin + (length parameters - length rest)
      → first (step_rules line at (first_pair rest) (stepped c (first_pair rest))) ≡ Some f
      → first (each (pair_rules line begin from) [] (pairs_of parameters)) ≡ Some f
  walk_stops at f e reported =
      rw (w.split, pairs_front rest two)
      (each_stops (pair_rules line begin from) done (first_pair rest) (pairs_of (drop 2 rest)) f w.calm
      (ap first (rule_here at e) ∙ reported))

  pub edges_more_here : (to : Point) → to ≡ stepped c (first_pair rest)
      → edges from (positions from (done ++ first_pair rest ∷ [])) ≡ edges from (positions from done) +ℤ cross c to
  edges_more_here to is =
      edges-more from done (first_pair rest)
      ∙ ap₂ (λ p q. edges from (positions from done) +ℤ cross p q) (sym w.cursor_is)
      (ap (λ p. stepped p (first_pair rest)) (sym w.cursor_is) ∙ sym is)
