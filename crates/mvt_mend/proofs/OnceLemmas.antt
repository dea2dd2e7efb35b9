-- What stands in place of integers draws a geometry, and stays.
use Rattle.std.proofs.Common.{◌≡◌, ℕ, Bool, true, false, ◌||◌, List, [], ◌∷◌, Option, Some, None, refl, sym, ap, ◌∙◌}
use Rattle.std.specs.Prelude.{is_none, if◌then◌else◌, Result, Ok, Err}
use Rattle.mvt_wire.specs.Packed.{is_nil}
use Rattle.mvt_geometry.specs.declared.shape.Point.{Point}
use Rattle.mvt_geometry.specs.declared.shape.Geometry.{Geometry}
use Rattle.mvt_geometry.specs.declared.shape.Kind.{Kind}
use Rattle.mvt_geometry.specs.declared.shape.Kind.TheVariants as kinds
use Rattle.mvt_geometry.specs.Drawing.{Draws}
use Rattle.mvt_geometry.specs.Table.{geometry_fault, IndexedCause}
use Rattle.mvt_geometry.proofs.GeometryLaws.{drawn_is_faultless}
use Rattle.mvt_rings.specs.declared.rings.Kept.{Kept}
use Rattle.mvt_rings.specs.declared.holding.Crossing.{Crossing}
use Rattle.mvt_mend.specs.declared.geometry.Outcome.{Outcome}
use Rattle.mvt_mend.specs.declared.geometry.Outcome.TheVariants.{Stays, Becomes}
use Rattle.mvt_mend.specs.Reading.{parts_in}
use Rattle.mvt_mend.specs.Drawing.{drawn_parts}
use Rattle.mvt_mend.specs.Geometry.{is_faultless, if_drawn, if_kept, if_read, kept_in, mended_geometry, new_integers, outcome, outcome_as, points_of}
use Rattle.mvt_mend.proofs.GeometryLemmas.{has_none}

-- what draws a geometry stays
stays_as : (kind : Kind) (ring : Bool) (ints : List ℕ) → is_faultless kind ints ≡ true → outcome_as kind ring ints ≡ Stays
unfolding outcome_as
stays_as kind ring ints drawn = rw drawn refl

faultless_stays : (kind : Kind) (ints : List ℕ) → is_faultless kind ints ≡ true → outcome kind ints ≡ Stays
unfolding outcome
faultless_stays kinds.Unknown ints drawn = refl
faultless_stays kinds.Point ints drawn = refl
faultless_stays kinds.LineString ints drawn = stays_as kinds.LineString false ints drawn
faultless_stays kinds.Polygon ints drawn = stays_as kinds.Polygon true ints drawn

pub drawn_stays_whole : (kind : Kind) (ints : List ℕ) (g : Geometry) → Draws kind ints g → outcome kind ints ≡ Stays
drawn_stays_whole kind ints g draws = faultless_stays kind ints (sym (has_none kind ints (drawn_is_faultless kind ints g draws)))

pub drawn_stays : (kind : Kind) (ints : List ℕ) (g : Geometry) → Draws kind ints g → mended_geometry kind ints ≡ None
drawn_stays kind ints g draws = ap new_integers (drawn_stays_whole kind ints g draws)

-- what is made of lines or rings
pub record IsMade (kind : Kind) (ring : Bool) (ints : List ℕ) (new : List ℕ) : Type 0 where
  pub parts : List (List Point)
  pub kept : List Kept
  pub read : parts_in ring ints ≡ Some parts
  pub keeps : kept_in ring parts ≡ Ok kept
  pub draws : drawn_parts ring (points_of kept) ≡ Some new
  pub fine : (is_nil new || is_faultless kind new) ≡ true

drawn_new : (kind : Kind) (ring : Bool) (ints : List ℕ) (parts : List (List Point)) (kept : List Kept) (drawn : Option (List ℕ)) (new : List ℕ)
    → parts_in ring ints ≡ Some parts → kept_in ring parts ≡ Ok kept → drawn_parts ring (points_of kept) ≡ drawn
    → new_integers (if_drawn kind parts kept drawn) ≡ Some new → IsMade kind ring ints new
drawn_new kind ring ints parts kept None new read keeps draws h = absurd (cc)
drawn_new kind ring ints parts kept (Some found) new read keeps draws h = by_test (is_nil found || is_faultless kind found) refl h
  where
    by_test : (b : Bool) → (is_nil found || is_faultless kind found) ≡ b
        → new_integers (if b then Becomes (record { parts = parts; kept = kept; integers = found }) else Stays) ≡ Some new
        → IsMade kind ring ints new
    by_test true fine h =
        let e : found ≡ new = cc in
        record {
          parts = parts;
          kept = kept;
          read = read;
          keeps = keeps;
          draws = draws ∙ ap Some e;
          fine = ap (λ xs. is_nil xs || is_faultless kind xs) (sym e) ∙ fine;
        }
    by_test false fine h = absurd (cc)

kept_new : (kind : Kind) (ring : Bool) (ints : List ℕ) (parts : List (List Point)) (found : Result (List Kept) Crossing) (new : List ℕ)
    → parts_in ring ints ≡ Some parts → kept_in ring parts ≡ found → new_integers (if_kept kind ring parts found) ≡ Some new
    → IsMade kind ring ints new
kept_new kind ring ints parts (Ok kept) new read keeps h =
    drawn_new kind ring ints parts kept (drawn_parts ring (points_of kept)) new read keeps refl h
kept_new kind ring ints parts (Err crossing) new read keeps h = absurd (cc)

read_new : (kind : Kind) (ring : Bool) (ints : List ℕ) (found : Option (List (List Point))) (new : List ℕ)
    → parts_in ring ints ≡ found → new_integers (if_read kind ring found) ≡ Some new → IsMade kind ring ints new
read_new kind ring ints None new read h = absurd (cc)
read_new kind ring ints (Some parts) new read h = kept_new kind ring ints parts (kept_in ring parts) new read refl h

pub made_as : (kind : Kind) (ring : Bool) (ints new : List ℕ) → new_integers (outcome_as kind ring ints) ≡ Some new → IsMade kind ring ints new
unfolding outcome_as
made_as kind ring ints new h = by_test (is_faultless kind ints) h
  where
    by_test : (b : Bool) → new_integers (if b then Stays else if_read kind ring (parts_in ring ints)) ≡ Some new → IsMade kind ring ints new
    by_test true h = absurd (cc)
    by_test false h = read_new kind ring ints (parts_in ring ints) new refl h

none_is : (fault : Option IndexedCause) → is_none fault ≡ true → fault ≡ None
none_is None h = refl
none_is (Some fault) h = absurd (cc)

faultless_new : (kind : Kind) (ints : List ℕ) (n : ℕ) (new : List ℕ) → mended_geometry kind ints ≡ Some (n ∷ new)
    → is_faultless kind (n ∷ new) ≡ true
unfolding outcome
faultless_new kinds.Unknown ints n new h = absurd (cc)
faultless_new kinds.Point ints n new h = absurd (cc)
faultless_new kinds.LineString ints n new h = (made_as kinds.LineString false ints (n ∷ new) h).fine
faultless_new kinds.Polygon ints n new h = (made_as kinds.Polygon true ints (n ∷ new) h).fine

pub mended_is_faultless : (kind : Kind) (ints : List ℕ) (n : ℕ) (new : List ℕ) → mended_geometry kind ints ≡ Some (n ∷ new)
    → geometry_fault kind (n ∷ new) ≡ None
unfolding is_faultless
mended_is_faultless kind ints n new h = none_is _ (faultless_new kind ints n new h)

-- no integers stay none
empty_as : (kind : Kind) (ring : Bool) → outcome_as kind ring [] ≡ Stays
unfolding outcome_as
empty_as kind ring = by_test (is_faultless kind [])
  where
    by_test : (b : Bool) → let stays : Outcome = Stays in (if b then stays else stays) ≡ stays
    by_test true = refl
    by_test false = refl

empty_stays : (kind : Kind) → outcome kind [] ≡ Stays
unfolding outcome
empty_stays kinds.Unknown = refl
empty_stays kinds.Point = refl
empty_stays kinds.LineString = empty_as kinds.LineString false
empty_stays kinds.Polygon = empty_as kinds.Polygon true

pub mended_once : (kind : Kind) (ints new : List ℕ) → mended_geometry kind ints ≡ Some new → mended_geometry kind new ≡ None
mended_once kind ints [] h = ap new_integers (empty_stays kind)
mended_once kind ints (n ∷ new) h = ap new_integers (faultless_stays kind (n ∷ new) (faultless_new kind ints n new h))
