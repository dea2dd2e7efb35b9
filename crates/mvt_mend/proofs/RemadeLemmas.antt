-- What comes of a geometry, and that its changes tell every point.
use Rattle.std.proofs.Common.{arith, ◌≡◌, ◌≢◌, ℕ, suc, ◌+◌, ◌==◌, ◌^◌, ◌<◌, Bool, true, false, ◌||◌, List, [], ◌∷◌, length, Option, Some, None, refl, sym, ap, subst, ◌∙◌, sum_by, slice_index_or, inl, inr}
use Rattle.std.specs.Prelude.{if◌then◌else◌, Result, Ok, Err, ◌↔◌, slice_get, option_and_then}
use Rattle.std.specs.List.{AllByRecursion}
use Rattle.mvt_wire.specs.Packed.{is_nil}
use Rattle.mvt_geometry.specs.declared.shape.Kind.{Kind}
use Rattle.mvt_geometry.specs.declared.shape.Kind.TheVariants as kinds
use Rattle.mvt_wire.specs.Split.{split}
use Rattle.mvt_geometry.specs.declared.shape.Point.{Point}
use Rattle.mvt_rings.specs.declared.rings.Kept.{Kept}
use Rattle.mvt_rings.specs.declared.holding.Crossing.{Crossing}
use Rattle.mvt_mend.specs.declared.geometry.Outcome.TheVariants.{Stays, Becomes}
use Rattle.mvt_mend.specs.declared.geometry.Remade.{Remade}
use Rattle.mvt_mend.specs.declared.change.Change.{Change}
use Rattle.mvt_mend.specs.declared.change.Change.TheVariants.{FeatureLeftOut, MovedRing, PartLeftOut, RepeatedPoint, TurnedRing}
use Rattle.mvt_rings.specs.Mending.{mended_lines}
use Rattle.mvt_mend.specs.Reading.{parts_in}
use Rattle.mvt_mend.specs.Drawing.{closing, drawn_parts, can_draw_all}
use Rattle.mvt_geometry.specs.Shape.{origin}
use Rattle.mvt_geometry.specs.Drawing.{strokes}
use Rattle.mvt_mend.specs.Spelling.{has_rings}
use Rattle.mvt_mend.specs.Geometry.{if_drawn, if_kept, if_read, is_faultless, kept_in, mended_geometry, new_integers, outcome, outcome_as, points_of}
use Rattle.mvt_mend.specs.Changes.{changes_of, count_points, fate_at, fates_of, told_from, told_remade}
use Rattle.mvt_mend.specs.Features.{feature_changes, feature_outcome, integers_of, mended_integers, outcome_with}
use Rattle.mvt_feature.specs.FeatureRules.{kind_in}
use Rattle.mvt_base.specs.Rules.{IsOneOf}
use Rattle.mvt_mend.specs.Whole.{HasFewer, HasGone, HasLeft, HasMoved, HasTurned, SpellsBoth, points_gone}
use Rattle.mvt_mend.proofs.WholeLemmas.{AreApart, IsLess, all_counted, parts_told, total, total_is}
use Rattle.mvt_mend.proofs.KeptLemmas.{apart_once, come_less, lines_apart, lines_less}
use Rattle.mvt_mend.proofs.ToldLemmas.{before_at, none_left, told_at_some}
use Rattle.mvt_mend.proofs.FateLemmas.{fewer_is, gone_is, is_fewer, is_gone, is_move, is_turn, move_is, turn_is}
use Rattle.mvt_rings.proofs.RingLaws.{rings_come_from_rings_origin, rings_come_from_rings_once}
use Rattle.mvt_mend.proofs.SpellingLemmas.{then_some, read_parts_spelled}

-- what the integers of lines or rings come to, where others stand in place of them
pub record IsRemade (kind : Kind) (ring : Bool) (ints : List ℕ) (remade : Remade) : Type 0 where
  pub faulty : is_faultless kind ints ≡ false
  pub read : parts_in ring ints ≡ Some remade.parts
  pub keeps : kept_in ring remade.parts ≡ Ok remade.kept
  pub draws : drawn_parts ring (points_of remade.kept) ≡ Some remade.integers
  pub fine : (is_nil remade.integers || is_faultless kind remade.integers) ≡ true

module _ (kind : Kind) (ring : Bool) (ints : List ℕ) (remade : Remade) (faulty : is_faultless kind ints ≡ false) where
  drawn_remade : (parts : List (List Point)) (kept : List Kept) (drawn : Option (List ℕ)) → parts_in ring ints ≡ Some parts
      → kept_in ring parts ≡ Ok kept → drawn_parts ring (points_of kept) ≡ drawn → if_drawn kind parts kept drawn ≡ Becomes remade
      → IsRemade kind ring ints remade
  drawn_remade parts kept None read keeps draws h = absurd (cc)
  drawn_remade parts kept (Some found) read keeps draws h = by_test (is_nil found || is_faultless kind found) refl h
    where
      by_test : (b : Bool) → (is_nil found || is_faultless kind found) ≡ b
          → (if b then Becomes (record { parts = parts; kept = kept; integers = found }) else Stays) ≡ Becomes remade
          → IsRemade kind ring ints remade
      by_test true fine h =
          let one : Remade = record { parts = parts; kept = kept; integers = found } in
          let same : one ≡ remade = cc in
          subst (IsRemade kind ring ints) same
          (record { faulty = faulty; read = read; keeps = keeps; draws = draws; fine = fine })
      by_test false fine h = absurd (cc)

  kept_remade : (parts : List (List Point)) (found : Result (List Kept) Crossing) → parts_in ring ints ≡ Some parts
      → kept_in ring parts ≡ found → if_kept kind ring parts found ≡ Becomes remade → IsRemade kind ring ints remade
  kept_remade parts (Ok kept) read keeps h = drawn_remade parts kept (drawn_parts ring (points_of kept)) read keeps refl h
  kept_remade parts (Err crossing) read keeps h = absurd (cc)

  read_remade : (found : Option (List (List Point))) → parts_in ring ints ≡ found → if_read kind ring found ≡ Becomes remade
      → IsRemade kind ring ints remade
  read_remade None read h = absurd (cc)
  read_remade (Some parts) read h = kept_remade parts (kept_in ring parts) read refl h

remade_as : (kind : Kind) (ring : Bool) (ints : List ℕ) (remade : Remade) → outcome_as kind ring ints ≡ Becomes remade
    → IsRemade kind ring ints remade
unfolding outcome_as
remade_as kind ring ints remade h = by_test (is_faultless kind ints) refl h
  where
    by_test : (b : Bool) → is_faultless kind ints ≡ b → (if b then Stays else if_read kind ring (parts_in ring ints)) ≡ Becomes remade
        → IsRemade kind ring ints remade
    by_test true fine h = absurd (cc)
    by_test false faulty h = read_remade kind ring ints remade faulty (parts_in ring ints) refl h

pub outcome_remade : (kind : Kind) (ints : List ℕ) (remade : Remade) → outcome kind ints ≡ Becomes remade
    → IsRemade kind (has_rings kind) ints remade
unfolding outcome
outcome_remade kinds.Unknown ints remade h = absurd (cc)
outcome_remade kinds.Point ints remade h = absurd (cc)
outcome_remade kinds.LineString ints remade h = remade_as kinds.LineString false ints remade h
outcome_remade kinds.Polygon ints remade h = remade_as kinds.Polygon true ints remade h

-- the parts that stay
pub record AreKept (parts : List (List Point)) (kept : List Kept) : Type 0 where
  pub less : AllByRecursion (IsLess parts) kept
  pub apart : AreApart kept

lines_kept : (parts : List (List Point)) → AreKept parts (mended_lines parts)
unfolding mended_lines
lines_kept parts = record { less = lines_less 2 parts; apart = lines_apart 2 0 parts }

pub are_kept : (ring : Bool) (parts : List (List Point)) (kept : List Kept) → kept_in ring parts ≡ Ok kept → AreKept parts kept
are_kept false parts kept keeps = let same : mended_lines parts ≡ kept = cc in subst (AreKept parts) same (lines_kept parts)
are_kept true parts kept keeps = record {
  less = come_less parts kept (rings_come_from_rings_origin parts kept keeps);
  apart = apart_once kept (rings_come_from_rings_once parts kept keeps);
}

-- where no integers are left no part is
none_drawn : (end : List ℕ) (kept : List Kept) → can_draw_all origin (points_of kept) ≡ true → strokes end origin (points_of kept) ≡ []
    → kept ≡ []
none_drawn end [] can none = refl
none_drawn end (k ∷ kept) can none = absurd (none_of end k.points (points_of kept) can none)
  where
    none_of : (end : List ℕ) (points : List Point) (more : List (List Point)) → can_draw_all origin (points ∷ more) ≡ true
        → strokes end origin (points ∷ more) ≡ [] → ⊥
    none_of end [] more can none = absurd (cc)
    none_of end (p ∷ points) more can none = absurd (cc)

none_kept : (ring : Bool) (kept : List Kept) → drawn_parts ring (points_of kept) ≡ Some [] → kept ≡ []
none_kept ring kept draws =
    let found = then_some (can_draw_all origin (points_of kept)) (Some (strokes (closing ring) origin (points_of kept))) [] draws in
    none_drawn (closing ring) kept found.0 (let e = found.1 in cc)

points_mapped : (kept : List Kept) → total (length {A = Point}) (points_of kept) ≡ total (λ (k : Kept). length k.points) kept
points_mapped [] = refl
points_mapped (k ∷ kept) = ap (λ n. length k.points + n) (points_mapped kept)

pub not_none : (n : ℕ) → (suc n == 0) ≡ false
not_none n = grind arith

-- the points that a geometry had are those that it has, and those that are told
remade_points : (kind : Kind) (ring : Bool) (ints : List ℕ) (layer n : ℕ) (remade : Remade) → IsRemade kind ring ints remade
    → total (length {A = Point}) remade.parts < 2 ^ 64
    → total length remade.parts ≡ total length (points_of remade.kept) + total points_gone (told_remade layer n remade)
remade_points kind ring ints layer n remade is few = by_integers remade.integers is.draws
  where
    left_out : (kept : List Kept) (count whole : ℕ) → kept ≡ [] → count ≡ whole
        → whole ≡ total length (points_of kept) + (count + 0)
    left_out kept count whole none counted =
        let nothing : total (length {A = Point}) (points_of kept) ≡ 0 = ap (λ ks. total (length {A = Point}) (points_of ks)) none in omega arith

    by_integers : (found : List ℕ) → drawn_parts ring (points_of remade.kept) ≡ Some found
        → total length remade.parts
        ≡ total length (points_of remade.kept) + total points_gone
        (if length found == 0 then FeatureLeftOut layer n (count_points remade.parts) ∷ []
        else told_from layer n (fates_of remade.parts remade.kept) 0 0 remade.parts)
    by_integers [] draws =
        left_out remade.kept (count_points remade.parts) (total length remade.parts) (none_kept ring remade.kept draws)
        (all_counted remade.parts few)
    by_integers (i ∷ found) draws =
        let kept : AreKept remade.parts remade.kept = are_kept ring remade.parts remade.kept is.keeps in
        let told = parts_told layer n remade.parts remade.kept kept.less kept.apart in
        let some : (length (i ∷ found) == 0) ≡ false = not_none (length found) in
        rw some (turn _ _ _ _ told (points_mapped remade.kept))
      where
        turn : (a b c d : ℕ) → a + b ≡ c → d ≡ b → c ≡ d + a
        turn a b c d first second = omega arith

pub feature_remade : (payload : List ℕ) (remade : Remade) → feature_outcome payload ≡ Becomes remade
    → (ints : List ℕ) × (integers_of payload ≡ Some ints) × IsRemade (kind_in (split payload).fields)
    (has_rings (kind_in (split payload).fields)) ints remade
unfolding feature_outcome
feature_remade payload remade h = by_case (integers_of payload) refl h
  where
    by_case : (read : Option (List ℕ)) → integers_of payload ≡ read → outcome_with (split payload).fields read ≡ Becomes remade
        → (ints : List ℕ) × (integers_of payload ≡ Some ints) × IsRemade (kind_in (split payload).fields)
        (has_rings (kind_in (split payload).fields)) ints remade
    by_case None read h = absurd (cc)
    by_case (Some ints) read h = (ints, read, outcome_remade (kind_in (split payload).fields) ints remade h)

pub remade_told : (layer n : ℕ) (payload : List ℕ) (remade : Remade) → feature_outcome payload ≡ Becomes remade
    → feature_changes layer n payload ≡ told_remade layer n remade
unfolding feature_changes
remade_told layer n payload remade h = ap (changes_of layer n) h

pub points_are_told : (layer n : ℕ) (payload : List ℕ) (remade : Remade) → feature_outcome payload ≡ Becomes remade
    → sum_by (length {A = Point}) remade.parts < 2 ^ 64
    → sum_by length remade.parts ≡ sum_by length (points_of remade.kept) + sum_by points_gone (feature_changes layer n payload)
points_are_told layer n payload remade h few =
    let found = feature_remade payload remade h in
    let kind = kind_in (split payload).fields in
    let all = total_is (length {A = Point}) remade.parts in
    let stay = total_is (length {A = Point}) (points_of remade.kept) in
    let gone = total_is points_gone (feature_changes layer n payload) ∙ ap (total points_gone) (remade_told layer n payload remade h) in
    let sum = remade_points kind (has_rings kind) found.0 layer n remade found.2 (subst (λ k. k < 2 ^ 64) all few) in omega arith

-- ---- each ring

-- where a part is told what it is told stays or not by its fate
told_rest : (layer n : ℕ) (ring : Bool) (remade : Remade) (change : Change)
    → drawn_parts ring (points_of remade.kept) ≡ Some remade.integers → ((count : ℕ) → FeatureLeftOut layer n count ≢ change)
    → IsOneOf (told_remade layer n remade) change
    → IsOneOf (told_from layer n (fates_of remade.parts remade.kept) 0 0 remade.parts) change
told_rest layer n ring remade change draws other is = by_test (length remade.integers == 0) is
  where
    by_test : (b : Bool)
        → IsOneOf (if b then FeatureLeftOut layer n (count_points remade.parts) ∷ []
        else told_from layer n (fates_of remade.parts remade.kept) 0 0 remade.parts) change
        → IsOneOf (told_from layer n (fates_of remade.parts remade.kept) 0 0 remade.parts) change
    by_test true is = elim is [ inl same ↦ absurd (other _ same) | inr none ↦ absurd none ]
    by_test false is = is

-- a part that stays leaves integers
some_integers : (ring : Bool) (remade : Remade) (j : ℕ) (k : Kept) → drawn_parts ring (points_of remade.kept) ≡ Some remade.integers
    → slice_get remade.kept j ≡ Some k → (length remade.integers == 0) ≡ false
some_integers ring remade j k draws there = by_integers remade.integers draws
  where
    nothing : (kept : List Kept) → kept ≡ [] → slice_get kept j ≡ Some k → ⊥
    nothing [] none there = cc
    nothing (q ∷ kept) none there = cc

    by_integers : (found : List ℕ) → drawn_parts ring (points_of remade.kept) ≡ Some found → (length found == 0) ≡ false
    by_integers [] draws = absurd (nothing remade.kept (none_kept ring remade.kept draws) there)
    by_integers (i ∷ found) draws = not_none (length found)

told_back : (layer n : ℕ) (remade : Remade) (change : Change) → (length remade.integers == 0) ≡ false
    → IsOneOf (told_from layer n (fates_of remade.parts remade.kept) 0 0 remade.parts) change → IsOneOf (told_remade layer n remade) change
told_back layer n remade change some is = rw some is

left_some : (ints : List ℕ) → ints ≢ [] → (length ints == 0) ≡ false
left_some [] left = absurd (left refl)
left_some (i ∷ ints) left = not_none (length ints)

module _ (layer n : ℕ) (payload : List ℕ) (remade : Remade) (h : feature_outcome payload ≡ Becomes remade) where
  is_remade : IsRemade (kind_in (split payload).fields) (has_rings (kind_in (split payload).fields)) (feature_remade payload remade h).0 remade
  is_remade = (feature_remade payload remade h).2

  kept_parts : AreKept remade.parts remade.kept
  kept_parts = let is = is_remade in are_kept (has_rings (kind_in (split payload).fields)) remade.parts remade.kept is.keeps

  told_are : feature_changes layer n payload ≡ told_remade layer n remade
  told_are = remade_told layer n payload remade h

  pub turned_told : (i : ℕ) → IsOneOf (feature_changes layer n payload) (TurnedRing layer n i) ↔ HasTurned remade i
  turned_told i = (turned, told)
    where
      turned : IsOneOf (feature_changes layer n payload) (TurnedRing layer n i) → HasTurned remade i
      turned is =
          let remakes = is_remade in
          let kept = kept_parts in
          let one : IsOneOf (told_remade layer n remade) (TurnedRing layer n i) =
          subst (λ cs. IsOneOf cs (TurnedRing layer n i)) told_are is in
          let found = turn_is layer n remade.parts remade.kept kept.less kept.apart i
          (told_rest layer n (has_rings (kind_in (split payload).fields)) remade (TurnedRing layer n i) remakes.draws (λ count same. cc) one) in
          (found.0, found.1, record { there = found.2; index = found.3 }, found.4)

      told : HasTurned remade i → IsOneOf (feature_changes layer n payload) (TurnedRing layer n i)
      told (j, ring, stands, opposite) =
          let remakes = is_remade in
          let kept = kept_parts in
          let some = some_integers (has_rings (kind_in (split payload).fields)) remade j ring remakes.draws stands.there in
          subst (λ cs. IsOneOf cs (TurnedRing layer n i)) (sym told_are)
          (told_back layer n remade (TurnedRing layer n i) some
          (is_turn layer n remade.parts remade.kept kept.less kept.apart i j ring stands.there stands.index opposite))

  pub moved_told : (i j : ℕ) → IsOneOf (feature_changes layer n payload) (MovedRing layer n i j) ↔ HasMoved remade i j
  moved_told i j = (moved, told)
    where
      moved : IsOneOf (feature_changes layer n payload) (MovedRing layer n i j) → HasMoved remade i j
      moved is =
          let remakes = is_remade in
          let kept = kept_parts in
          let one : IsOneOf (told_remade layer n remade) (MovedRing layer n i j) =
          subst (λ cs. IsOneOf cs (MovedRing layer n i j)) told_are is in
          let found = move_is layer n remade.parts remade.kept kept.less kept.apart i j
          (told_rest layer n (has_rings (kind_in (split payload).fields)) remade (MovedRing layer n i j) remakes.draws (λ count same. cc) one) in
          (found.0, record { there = found.1; index = found.2 }, found.3)

      told : HasMoved remade i j → IsOneOf (feature_changes layer n payload) (MovedRing layer n i j)
      told (ring, stands, other) =
          let remakes = is_remade in
          let kept = kept_parts in
          let some = some_integers (has_rings (kind_in (split payload).fields)) remade j ring remakes.draws stands.there in
          subst (λ cs. IsOneOf cs (MovedRing layer n i j)) (sym told_are)
          (told_back layer n remade (MovedRing layer n i j) some
          (is_move layer n remade.parts remade.kept kept.less kept.apart i j ring stands.there stands.index other))

  pub gone_told : remade.integers ≢ [] → (i count : ℕ)
      → IsOneOf (feature_changes layer n payload) (PartLeftOut layer n i count) ↔ HasGone remade i count
  gone_told left i count = (gone, told)
    where
      gone : IsOneOf (feature_changes layer n payload) (PartLeftOut layer n i count) → HasGone remade i count
      gone is =
          let remakes = is_remade in
          let kept = kept_parts in
          let one : IsOneOf (told_remade layer n remade) (PartLeftOut layer n i count) =
          subst (λ cs. IsOneOf cs (PartLeftOut layer n i count)) told_are is in
          let found = gone_is layer n remade.parts remade.kept kept.less kept.apart i count
          (told_rest layer n (has_rings (kind_in (split payload).fields)) remade (PartLeftOut layer n i count) remakes.draws (λ number same. cc) one) in
          record { within = found.0; points = found.1; gone = found.2 }

      told : HasGone remade i count → IsOneOf (feature_changes layer n payload) (PartLeftOut layer n i count)
      told is =
          let kept = kept_parts in
          subst (λ cs. IsOneOf cs (PartLeftOut layer n i count)) (sym told_are)
          (told_back layer n remade (PartLeftOut layer n i count) (left_some remade.integers left)
          (is_gone layer n remade.parts remade.kept kept.less kept.apart i count is.within is.points is.gone))

  pub fewer_told : (i count : ℕ) → IsOneOf (feature_changes layer n payload) (RepeatedPoint layer n i count) ↔ HasFewer remade i count
  fewer_told i count = (fewer, told)
    where
      fewer : IsOneOf (feature_changes layer n payload) (RepeatedPoint layer n i count) → HasFewer remade i count
      fewer is =
          let remakes = is_remade in
          let kept = kept_parts in
          let one : IsOneOf (told_remade layer n remade) (RepeatedPoint layer n i count) =
          subst (λ cs. IsOneOf cs (RepeatedPoint layer n i count)) told_are is in
          let found = fewer_is layer n remade.parts remade.kept kept.less kept.apart i count
          (told_rest layer n (has_rings (kind_in (split payload).fields)) remade (RepeatedPoint layer n i count) remakes.draws (λ number same. cc) one) in
          record { to = found.0; part = found.1; stands = record { there = found.2; index = found.3 }; some = found.4; points = found.5 }

      told : HasFewer remade i count → IsOneOf (feature_changes layer n payload) (RepeatedPoint layer n i count)
      told is =
          let remakes = is_remade in
          let kept = kept_parts in
          let stands = is.stands in
          let some = some_integers (has_rings (kind_in (split payload).fields)) remade is.to is.part remakes.draws stands.there in
          subst (λ cs. IsOneOf cs (RepeatedPoint layer n i count)) (sym told_are)
          (told_back layer n remade (RepeatedPoint layer n i count) some
          (is_fewer layer n remade.parts remade.kept kept.less kept.apart i count is.to is.part stands.there stands.index is.some is.points))

  pub left_told : (count : ℕ) → IsOneOf (feature_changes layer n payload) (FeatureLeftOut layer n count) ↔ HasLeft remade count
  left_told count = (left, told)
    where
      by_integers : (ints : List ℕ)
          → IsOneOf (if length ints == 0 then FeatureLeftOut layer n (count_points remade.parts) ∷ []
          else told_from layer n (fates_of remade.parts remade.kept) 0 0 remade.parts) (FeatureLeftOut layer n count)
          → (ints ≡ []) × (count_points remade.parts ≡ count)
      by_integers [] is = elim is [ inl same ↦ (refl, cc) | inr none ↦ absurd none ]
      by_integers (i ∷ ints) is =
          let some = not_none (length ints) in
          let one : IsOneOf (told_from layer n (fates_of remade.parts remade.kept) 0 0 remade.parts) (FeatureLeftOut layer n count) = rw some at is in
          let found = told_at_some layer n (fates_of remade.parts remade.kept) 0 0 remade.parts (FeatureLeftOut layer n count) one in
          let told = found.1 in
          absurd (none_left layer n (0 + found.0) (before_at (fates_of remade.parts remade.kept) 0 0 found.0)
          (slice_index_or remade.parts found.0 []) (fate_at (fates_of remade.parts remade.kept) (0 + found.0)) count told.told)

      left : IsOneOf (feature_changes layer n payload) (FeatureLeftOut layer n count) → HasLeft remade count
      left is = by_integers remade.integers (subst (λ cs. IsOneOf cs (FeatureLeftOut layer n count)) told_are is)

      by_none : (ints : List ℕ) → ints ≡ [] → count_points remade.parts ≡ count
          → IsOneOf (if length ints == 0 then FeatureLeftOut layer n (count_points remade.parts) ∷ []
          else told_from layer n (fates_of remade.parts remade.kept) 0 0 remade.parts) (FeatureLeftOut layer n count)
      by_none [] none counts = inl (ap (λ k. FeatureLeftOut layer n k) counts)
      by_none (i ∷ ints) none counts = absurd (cc)

      told : HasLeft remade count → IsOneOf (feature_changes layer n payload) (FeatureLeftOut layer n count)
      told (none, counts) =
          subst (λ cs. IsOneOf cs (FeatureLeftOut layer n count)) (sym told_are) (by_none remade.integers none counts)

-- ---- what is spelled

mends_as : (payload : List ℕ) (remade : Remade) → feature_outcome payload ≡ Becomes remade → mended_integers payload ≡ Some remade.integers
unfolding feature_outcome mended_integers
mends_as payload remade h = by_case (integers_of payload) h
  where
    by_case : (read : Option (List ℕ)) → outcome_with (split payload).fields read ≡ Becomes remade
        → option_and_then (mended_geometry (kind_in (split payload).fields)) read ≡ Some remade.integers
    by_case None h = absurd (cc)
    by_case (Some ints) h = ap new_integers h

pub spells_both : (payload : List ℕ) (remade : Remade) → feature_outcome payload ≡ Becomes remade → SpellsBoth payload remade
spells_both payload remade h =
    let found = feature_remade payload remade h in
    let is = found.2 in
    let ring = has_rings (kind_in (split payload).fields) in
    let drawn = then_some (can_draw_all origin (points_of remade.kept)) (Some (strokes (closing ring) origin (points_of remade.kept)))
    remade.integers is.draws in
    record {
      integers = found.0;
      read = found.1;
      old = read_parts_spelled ring found.0 remade.parts is.read;
      made = mends_as payload remade h;
      new = let e = drawn.1 in cc;
    }
