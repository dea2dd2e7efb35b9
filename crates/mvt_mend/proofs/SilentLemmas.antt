-- Where nothing is told of a feature its bytes stay.
use Rattle.std.proofs.Common.{arith, ◌≡◌, ℕ, suc, ◌+◌, ◌-◌, ◌==◌, ◌^◌, ◌<◌, ◌≤◌, nat_lt, Bool, true, false, ◌||◌, ◌&&◌, List, [], ◌∷◌, ◌++◌, length, map, reverse, Ok, Option, Some, None, refl, sym, ap, ap₂, subst, ◌∙◌, inl, inr, eqb-true, ℤ, pos, neg_ℤ}
use Rattle.std.specs.Prelude.{if◌then◌else◌, cond, slice_get, count_by, option_and_then}
use Rattle.std.specs.List.{AllByRecursion}
use Rattle.std.proofs.lemmas.Bool.{both_ways}
use Rattle.std.proofs.lemmas.Bool.Decides.{nat_tests}
use Rattle.std.proofs.lemmas.List.{length-reverse, reverse-reverse}
use Rattle.mvt_geometry.specs.declared.shape.Point.{Point}
use Rattle.mvt_rings.specs.declared.rings.Kept.{Kept}
use Rattle.mvt_mend.specs.declared.fates.Fate.{Fate}
use Rattle.mvt_mend.specs.declared.geometry.Remade.{Remade}
use Rattle.mvt_mend.specs.declared.change.Change.TheVariants.{TurnedRing, RepeatedPoint, PartLeftOut, MovedRing}
use Rattle.mvt_rings.specs.Signs.{is_positive, is_negative}
use Rattle.mvt_wire.specs.Packed.{is_nil}
use Rattle.mvt_wire.specs.Field.{Content, varint, fixed64, bytes, fixed32, Entry}
use Rattle.mvt_wire.specs.Spelling.{plain_of}
use Rattle.mvt_feature.specs.Canonical.{plain}
use Rattle.mvt_message.specs.declared.numbers.layer.TheConstants.{FEATURES}
use Rattle.mvt_mend.specs.Tiles.{changes_from, fields_as, fields_with, is_layer, layer_changes, mended_layer, payload_fields, told_at}
use Rattle.mvt_mend.specs.Stays.{fields_of}
use Rattle.mvt_mend.proofs.ElseLemmas.{layer_fields, not_layer}
use Rattle.mvt_geometry.specs.declared.shape.Kind.{Kind}
use Rattle.mvt_rings.specs.Mending.{begins_negative}
use Rattle.mvt_wire.specs.Split.{split}
use Rattle.mvt_feature.specs.Ranges.{AreBytes}
use Rattle.mvt_mend.specs.declared.geometry.Outcome.{Outcome}
use Rattle.mvt_mend.specs.declared.geometry.Outcome.TheVariants.{Stays, Crosses, Becomes}
use Rattle.mvt_mend.specs.declared.change.Change.TheVariants.{FeatureLeftOut}
use Rattle.mvt_mend.specs.Features.{feature_changes, feature_outcome, feature_with, integers_of, mended_feature, mended_integers, outcome_with, with_integers}
use Rattle.mvt_feature.specs.FeatureRules.{kind_in}
use Rattle.mvt_rings.specs.Origins.{ComesFrom, IsToldFrom, ring_at}
use Rattle.mvt_rings.specs.Repeats.{is_long, is_same, opened, others_after, past, without_repeats}
use Rattle.mvt_rings.specs.Mending.{kept_from}
use Rattle.mvt_rings.specs.Mending.{mended_lines, mended_rings}
use Rattle.mvt_mend.specs.Spelling.{has_rings}
use Rattle.mvt_mend.specs.Geometry.{is_faultless, kept_in, mended_geometry, new_integers, points_of}
use Rattle.mvt_mend.specs.Drawing.{can_draw_all, closing}
use Rattle.mvt_geometry.specs.Shape.{origin}
use Rattle.mvt_geometry.specs.Drawing.{strokes}
use Rattle.mvt_mend.specs.Whole.{points_gone}
use Rattle.mvt_mend.specs.Changes.{count_points, fate_at, fate_of, fates_of, is_turned, move_told, repeats_told, told_from, told_of, turn_told, with_staying}
use Rattle.mvt_mend.proofs.WholeLemmas.{AreApart, IsLess, parts_told, total, total_is}
use Rattle.mvt_mend.proofs.FateLemmas.{before_is, stands}
use Rattle.mvt_mend.proofs.RemadeLemmas.{AreKept, IsRemade, are_kept, feature_remade, remade_told}
use Rattle.mvt_mend.proofs.AgainLemmas.{feature_again, feature_untold}
use Rattle.mvt_rings.specs.Turning.{turned}
use Rattle.mvt_geometry.specs.Area.{area2}
use Rattle.std.specs.Int.Signed.{lt_z}
use Rattle.std.proofs.lemmas.Int.{ints}
use Rattle.mvt_rings.proofs.RingLaws.{turned_area}
use Rattle.mvt_rings.proofs.RingLaws.{rings_are_long, rings_come_from_rings_origin, told_begins}
use Rattle.mvt_mend.proofs.SpellingLemmas.{then_some, read_parts_spelled}
use Rattle.mvt_mend.proofs.ToldLemmas.{before_at}
use Rattle.mvt_mend.proofs.KeptLemmas.{others_few, past_few, repeats_few, told_few}

-- ---- lists that keep their length

others_kept : (p : Point) (points : List Point) → length points ≤ length (others_after p points) → others_after p points ≡ points
others_kept p [] whole = refl
others_kept p (q ∷ points) whole = by_test (is_same p q) whole (others_few p points) (λ more. others_kept q points more)
  where
    by_test : (b : Bool) → length (q ∷ points) ≤ length (if b then others_after p points else q ∷ others_after q points)
        → length (others_after p points) ≤ length points
        → (length points ≤ length (others_after q points) → others_after q points ≡ points)
        → (if b then others_after p points else q ∷ others_after q points) ≡ q ∷ points
    by_test true whole few rest = absurd (omega arith)
    by_test false whole few rest = ap (λ ps. q ∷ ps) (rest (omega arith))

pub repeats_kept : (points : List Point) → length points ≤ length (without_repeats points) → without_repeats points ≡ points
repeats_kept [] whole = refl
repeats_kept (p ∷ points) whole = ap (λ ps. p ∷ ps) (others_kept p points (omega arith))

past_kept : (p : Point) (points : List Point) → length points ≤ length (past p points) → past p points ≡ points
past_kept p [] whole = refl
past_kept p (q ∷ points) whole = by_test (is_same p q) whole (past_few p points)
  where
    by_test : (b : Bool) → length (q ∷ points) ≤ length (if b then past p points else q ∷ points) → length (past p points) ≤ length points
        → (if b then past p points else q ∷ points) ≡ q ∷ points
    by_test true whole few = absurd (omega arith)
    by_test false whole few = refl

pub opened_kept : (ring : List Point) → length ring ≤ length (opened ring) → opened ring ≡ ring
opened_kept [] whole = refl
opened_kept (p ∷ points) whole =
    let back = length-reverse (past p (reverse points)) in
    let front = length-reverse points in
    let same : past p (reverse points) ≡ reverse points = past_kept p (reverse points) (omega arith) in
    ap (λ ps. p ∷ reverse ps) same ∙ ap (λ ps. p ∷ ps) (reverse-reverse points)

-- ---- parts that all stay as they are

lines_few : (least n : ℕ) (parts : List (List Point)) → length (kept_from least n parts) ≤ length parts
lines_few least n [] = omega arith
lines_few least n (part ∷ parts) = by_test (is_long least (without_repeats part)) (lines_few least (n + 1) parts)
  where
    by_test : (b : Bool) → length (kept_from least (n + 1) parts) ≤ length parts
        → length ((if b then record { index = n; points = without_repeats part } ∷ [] else []) ++ kept_from least (n + 1) parts) ≤ length (part ∷ parts)
    by_test true few = omega arith
    by_test false few = omega arith

lines_short : (least n : ℕ) (parts : List (List Point))
    → total (λ (k : Kept). length k.points) (kept_from least n parts) ≤ total (length {A = Point}) parts
lines_short least n [] = omega arith
lines_short least n (part ∷ parts) = by_test (is_long least (without_repeats part)) (lines_short least (n + 1) parts) (repeats_few part)
  where
    by_test : (b : Bool) → total (λ (k : Kept). length k.points) (kept_from least (n + 1) parts) ≤ total (length {A = Point}) parts
        → length (without_repeats part) ≤ length part
        → total (λ (k : Kept). length k.points)
        ((if b then record { index = n; points = without_repeats part } ∷ [] else []) ++ kept_from least (n + 1) parts)
        ≤ total (length {A = Point}) (part ∷ parts)
    by_test true short few = omega arith
    by_test false short few = omega arith

pub lines_same : (least n : ℕ) (parts : List (List Point)) → length (kept_from least n parts) ≡ length parts
    → total (λ (k : Kept). length k.points) (kept_from least n parts) ≡ total (length {A = Point}) parts
    → points_of (kept_from least n parts) ≡ parts
lines_same least n [] as_many as_long = refl
lines_same least n (part ∷ parts) as_many as_long =
    by_test (is_long least (without_repeats part)) as_many as_long (lines_few least (n + 1) parts) (lines_short least (n + 1) parts) (repeats_few part)
    (λ many long. lines_same least (n + 1) parts many long)
  where
    by_test : (b : Bool)
        → length ((if b then record { index = n; points = without_repeats part } ∷ [] else []) ++ kept_from least (n + 1) parts)
        ≡ length (part ∷ parts)
        → total (λ (k : Kept). length k.points)
        ((if b then record { index = n; points = without_repeats part } ∷ [] else []) ++ kept_from least (n + 1) parts)
        ≡ total (length {A = Point}) (part ∷ parts)
        → length (kept_from least (n + 1) parts) ≤ length parts
        → total (λ (k : Kept). length k.points) (kept_from least (n + 1) parts) ≤ total (length {A = Point}) parts
        → length (without_repeats part) ≤ length part
        → (length (kept_from least (n + 1) parts) ≡ length parts
        → total (λ (k : Kept). length k.points) (kept_from least (n + 1) parts) ≡ total (length {A = Point}) parts
        → points_of (kept_from least (n + 1) parts) ≡ parts)
        → points_of ((if b then record { index = n; points = without_repeats part } ∷ [] else []) ++ kept_from least (n + 1) parts) ≡ part ∷ parts
    by_test true many long few short fewer rest =
        ap₂ (λ p ps. p ∷ ps) (repeats_kept part (omega arith)) (rest (omega arith) (omega arith))
    by_test false many long few short fewer rest = absurd (omega arith)

-- ---- nothing is told

nil_joined : {X : Type 0} → (xs ys : List X) → xs ++ ys ≡ [] → (xs ≡ []) × (ys ≡ [])
nil_joined [] ys none = (refl, none)
nil_joined (x ∷ xs) ys none = absurd (cc)

-- of a part of which nothing is told
pub record IsSilent (before : ℕ) (part : List Point) (fate : Fate) : Type 0 where
  pub stays : (fate.place == 0) ≡ false
  pub points : nat_lt fate.points (length part) ≡ false
  pub turned : is_turned part fate ≡ false
  pub place : (fate.place == before + 1) ≡ true

silent_repeats : (layer feature n : ℕ) (part : List Point) (fate : Fate) → repeats_told layer feature n part fate ≡ []
    → nat_lt fate.points (length part) ≡ false
silent_repeats layer feature n part fate none = by_test (nat_lt fate.points (length part)) none
  where
    by_test : (b : Bool) → (if b then RepeatedPoint layer feature n (length part - fate.points) ∷ [] else []) ≡ [] → b ≡ false
    by_test true none = absurd (cc)
    by_test false none = refl

silent_turn : (layer feature n : ℕ) (part : List Point) (fate : Fate) → turn_told layer feature n part fate ≡ [] → is_turned part fate ≡ false
silent_turn layer feature n part fate none = by_test (is_turned part fate) none
  where
    by_test : (b : Bool) → (if b then TurnedRing layer feature n ∷ [] else []) ≡ [] → b ≡ false
    by_test true none = absurd (cc)
    by_test false none = refl

silent_move : (layer feature n before : ℕ) (fate : Fate) → move_told layer feature n before fate ≡ [] → (fate.place == before + 1) ≡ true
silent_move layer feature n before fate none = by_test (fate.place == before + 1) none
  where
    by_test : (b : Bool) → (if b then [] else MovedRing layer feature n (fate.place - 1) ∷ []) ≡ [] → b ≡ true
    by_test true none = refl
    by_test false none = absurd (cc)

pub silent_one : (layer feature n before : ℕ) (part : List Point) (fate : Fate) → told_of layer feature n before part fate ≡ []
    → IsSilent before part fate
silent_one layer feature n before part fate none = by_test (fate.place == 0) refl none
  where
    by_test : (b : Bool) → (fate.place == 0) ≡ b
        → (if b then PartLeftOut layer feature n (length part) ∷ []
        else repeats_told layer feature n part fate ++ (turn_told layer feature n part fate ++ move_told layer feature n before fate)) ≡ []
        → IsSilent before part fate
    by_test true out none = absurd (cc)
    by_test false stays none =
        let first = nil_joined (repeats_told layer feature n part fate) _ none in
        let second = nil_joined (turn_told layer feature n part fate) (move_told layer feature n before fate) first.1 in
        record {
          stays = stays;
          points = silent_repeats layer feature n part fate first.0;
          turned = silent_turn layer feature n part fate second.0;
          place = silent_move layer feature n before fate second.1;
        }

-- all parts stay where nothing is told
pub silent_all : (layer feature : ℕ) (fates : List Fate) (n before : ℕ) (parts : List (List Point))
    → told_from layer feature fates n before parts ≡ [] → before_at fates n before (length parts) ≡ before + length parts
silent_all layer feature fates n before [] none = add_none before
  where
    add_none : (a : ℕ) → a ≡ a + 0
    add_none a = omega arith
silent_all layer feature fates n before (part ∷ parts) none =
    let fate = fate_at fates n in
    let both = nil_joined (told_of layer feature n before part fate) (told_from layer feature fates (n + 1) (with_staying before fate) parts) none in
    let one = silent_one layer feature n before part fate both.0 in
    let here : with_staying before fate ≡ before + 1 = by_test (fate.place == 0) one.stays in
    silent_all layer feature fates (n + 1) (with_staying before fate) parts both.1
    ∙ ap (λ m. m + length parts) here ∙ more before (length parts)
  where
    by_test : (b : Bool) → b ≡ false → (if b then before else before + 1) ≡ before + 1
    by_test true is = absurd (cc)
    by_test false is = refl

    more : (a b : ℕ) → (a + 1) + b ≡ a + suc b
    more a b = omega arith

-- ---- so the geometry would stay

mended_if : (rings : List (List Point)) (kept : List Kept) → begins_negative (kept_from 3 0 rings) ≡ false → mended_rings rings ≡ Ok kept
    → kept_from 3 0 rings ≡ kept
unfolding mended_rings
mended_if rings kept begins mended =
    let e : Ok (kept_from 3 0 rings) ≡ Ok kept = rw begins at mended in cc

-- a ring of negative area that is turned has positive area
turned_positive : (ring : List Point) → is_negative ring ≡ true → is_positive (turned ring) ≡ true
unfolding is_negative is_positive
turned_positive ring negative = ap (lt_z (pos 0)) (turned_area ring) ∙ opposite (area2 ring) negative
  where
    opposite : (z : ℤ) → lt_z z (pos 0) ≡ true → lt_z (pos 0) (neg_ℤ z) ≡ true
    opposite z below = grind (arith, ints)

count_inside : (parts : List (List Point)) (kept : List Kept) → AllByRecursion (IsLess parts) kept
    → count_by (λ k. nat_lt k.index (length parts)) kept ≡ length kept
count_inside parts kept less = total_is (λ (k : Kept). cond (nat_lt k.index (length parts)) 1 0) kept ∙ all_in kept less
  where
    all_in : (ks : List Kept) → AllByRecursion (IsLess parts) ks → total (λ (k : Kept). cond (nat_lt k.index (length parts)) 1 0) ks ≡ length ks
    all_in [] less = refl
    all_in (k ∷ ks) less =
        let rest = all_in ks less.1 in
        let inside : k.index < length parts = less.0.inside in
        let here : nat_lt k.index (length parts) ≡ true = grind (arith, nat_tests) in
        rw here (omega arith)

-- nothing is told of what other integers stand in place of
pub record IsUntoldRemade (layer n : ℕ) (parts : List (List Point)) (kept : List Kept) : Type 0 where
  pub less : AllByRecursion (IsLess parts) kept
  pub apart : AreApart kept
  pub none : told_from layer n (fates_of parts kept) 0 0 parts ≡ []

as_many : (layer n : ℕ) (parts : List (List Point)) (kept : List Kept) → IsUntoldRemade layer n parts kept → length kept ≡ length parts
as_many layer n parts kept is =
    let counted = before_is parts kept is.less is.apart (length parts) (omega arith) in
    let all = silent_all layer n (fates_of parts kept) 0 0 parts is.none in
    let inside = count_inside parts kept is.less in omega arith

as_long : (layer n : ℕ) (parts : List (List Point)) (kept : List Kept) → IsUntoldRemade layer n parts kept
    → total (λ (k : Kept). length k.points) kept ≡ total (length {A = Point}) parts
as_long layer n parts kept is =
    let sum = parts_told layer n parts kept is.less is.apart in
    let gone : total points_gone (told_from layer n (fates_of parts kept) 0 0 parts) ≡ 0 = ap (total points_gone) is.none in omega arith

or_true : (a b : Bool) → (a || b) ≡ true → a ≡ false → b ≡ true
or_true true b is not = absurd (cc)
or_true false b is not = is

-- parts that all stay as they are leave the integers as they are, which are at fault
same_parts : (kind : Kind) (ring : Bool) (ints : List ℕ) (remade : Remade) → IsRemade kind ring ints remade
    → (length remade.integers == 0) ≡ false → points_of remade.kept ≡ remade.parts → ⊥
same_parts kind ring ints remade is some same =
    let drawn = then_some (can_draw_all origin (points_of remade.kept)) (Some (strokes (closing ring) origin (points_of remade.kept)))
    remade.integers is.draws in
    let new : strokes (closing ring) origin (points_of remade.kept) ≡ remade.integers = let e = drawn.1 in cc in
    let old : ints ≡ strokes (closing ring) origin remade.parts = read_parts_spelled ring ints remade.parts is.read in
    let integers : remade.integers ≡ ints = sym new ∙ ap (strokes (closing ring) origin) same ∙ sym old in
    let fine : is_faultless kind remade.integers ≡ true =
    or_true (is_nil remade.integers) (is_faultless kind remade.integers) is.fine (not_nil remade.integers some) in
    both_ways (is_faultless kind ints) is.faulty (ap (is_faultless kind) (sym integers) ∙ fine)
  where
    not_nil : (xs : List ℕ) → (length xs == 0) ≡ false → is_nil xs ≡ false
    not_nil [] some = absurd (cc)
    not_nil (x ∷ xs) some = refl

or_front : (a b c d : Bool) → c ≡ true → d ≡ true → ((a && b) || (c && d)) ≡ false → ⊥
or_front true true c d p q is = cc
or_front true false c d p q is = let r : (c && d) ≡ false = is in and_not c d p q r
  where
    and_not : (c d : Bool) → c ≡ true → d ≡ true → (c && d) ≡ false → ⊥
    and_not true true p q r = cc
    and_not true false p q r = cc
    and_not false d p q r = cc
or_front false b c d p q is = and_not c d p q is
  where
    and_not : (c d : Bool) → c ≡ true → d ≡ true → (c && d) ≡ false → ⊥
    and_not true true p q r = cc
    and_not true false p q r = cc
    and_not false d p q r = cc

-- the first of rings that are told is told
first_told : (layer n : ℕ) (part : List Point) (rest : List (List Point)) (kept : List Kept) → IsUntoldRemade layer n (part ∷ rest) kept
    → begins_negative (kept_from 3 0 (part ∷ rest)) ≡ true → mended_rings (part ∷ rest) ≡ Ok kept → ⊥
unfolding is_turned
first_told layer n part rest kept is begins mended =
    let parts : List (List Point) = part ∷ rest in
    let fates = fates_of parts kept in
    let told = nil_joined (told_of layer n 0 0 part (fate_at fates 0)) (told_from layer n fates (0 + 1) (with_staying 0 (fate_at fates 0)) rest) is.none in
    let silent = silent_one layer n 0 0 part (fate_at fates 0) told.0 in
    let stand = stands layer n parts kept is.less is.apart 0 silent.stays in
    let k = stand.1 in
    let fate : fate_at fates 0 ≡ fate_of (stand.0 + 1) k = stand.4 in
    let place : (fate_at fates 0).place ≡ 0 + 1 = eqb-true (fate_at fates 0).place (0 + 1) silent.place in
    let there : slice_get kept 0 ≡ Some k =
    subst (λ j. slice_get kept j ≡ Some k) (first_place (stand.0) _ (ap (λ (f : Fate). f.place) fate) place) stand.2 in
    let long : length part ≤ length k.points =
    not_fewer (fate_at fates 0).points (length k.points) (length part) (ap (λ (f : Fate). f.points) fate) silent.points in
    let turned : is_turned part (fate_of (stand.0 + 1) k) ≡ false = ap (is_turned part) (sym fate) ∙ silent.turned in
    by_first kept k there (rings_come_from_rings_origin parts kept mended) (rings_are_long parts kept mended)
    (told_begins parts kept begins mended) stand.3 long turned
  where
    first_place : (j p : ℕ) → p ≡ j + 1 → p ≡ 0 + 1 → j ≡ 0
    first_place j p first second = omega arith

    not_fewer : (p q l : ℕ) → p ≡ q → nat_lt p l ≡ false → l ≤ q
    not_fewer p q l same not = grind (arith, nat_tests)

    by_ring : (k : Kept) → is_negative part ≡ true → (is_negative k.points ≡ true → ⊥) → length part ≤ length k.points
        → ((is_positive part && is_negative k.points) || (is_negative part && is_positive k.points)) ≡ false
        → IsToldFrom part k.points → ⊥
    by_ring k negative not long unturned (inl same) = not (ap is_negative same ∙ negative)
    by_ring k negative not long unturned (inr (inl open_is)) =
        let whole : opened part ≡ part = opened_kept part (subst (λ ps. length part ≤ length ps) open_is long) in
        not (ap is_negative (open_is ∙ whole) ∙ negative)
    by_ring k negative not long unturned (inr (inr turns)) =
        or_front (is_positive part) (is_negative k.points) (is_negative part) (is_positive k.points) negative
        (ap is_positive turns ∙ turned_positive part negative) unturned

    negative_of : (b : Bool) → is_long 3 (without_repeats part) ≡ b → b ≡ true
        → begins_negative ((if b then record { index = 0; points = without_repeats part } ∷ [] else []) ++ kept_from 3 (0 + 1) rest) ≡ true
        → is_negative (without_repeats part) ≡ true
    negative_of true long is begins = begins
    negative_of false long is begins = absurd (cc)

    by_kept : (k : Kept) (ks : List Kept) → ComesFrom (part ∷ rest) k → 3 ≤ length k.points → is_negative k.points ≡ false
        → k.index ≡ 0 → length part ≤ length k.points
        → ((is_positive part && is_negative k.points) || (is_negative part && is_positive k.points)) ≡ false → ⊥
    by_kept k ks comes three positive index long unturned =
        let told : IsToldFrom (without_repeats part) k.points = subst (λ i. IsToldFrom (ring_at (part ∷ rest) i) k.points) index comes.1 in
        let few = told_few (without_repeats part) k.points told in
        let same : without_repeats part ≡ part = repeats_kept part (omega arith) in
        let enough : 3 ≤ length (without_repeats part) = omega arith in
        let is_one : is_long 3 (without_repeats part) ≡ true = grind (arith, nat_tests) in
        let negative : is_negative part ≡ true =
        ap is_negative (sym same) ∙ negative_of (is_long 3 (without_repeats part)) refl is_one begins in
        by_ring k negative (λ is. both_ways (is_negative k.points) positive is) long unturned (subst (λ r. IsToldFrom r k.points) same told)

    by_first : (kept : List Kept) (k : Kept) → slice_get kept 0 ≡ Some k → AllByRecursion (ComesFrom (part ∷ rest)) kept
        → AllByRecursion (λ (q : Kept). 3 ≤ length q.points) kept → begins_negative kept ≡ false
        → k.index ≡ 0 → length part ≤ length k.points
        → ((is_positive part && is_negative k.points) || (is_negative part && is_positive k.points)) ≡ false → ⊥
    by_first [] k there come long first index whole unturned = cc
    by_first (q ∷ ks) k there come long first index whole unturned =
        let same : q ≡ k = cc in
        by_kept q ks come.0 long.0 first (ap (λ (p : Kept). p.index) same ∙ index)
        (subst (λ (p : Kept). length part ≤ length p.points) (sym same) whole)
        (subst (λ (p : Kept). ((is_positive part && is_negative p.points) || (is_negative part && is_positive p.points)) ≡ false) (sym same) unturned)

-- ---- of a feature

ring_silent : (layer n : ℕ) (kind : Kind) (ints : List ℕ) (remade : Remade) → IsRemade kind true ints remade
    → (length remade.integers == 0) ≡ false → IsUntoldRemade layer n remade.parts remade.kept → ⊥
ring_silent layer n kind ints remade is some untold = by_parts remade.parts is.keeps untold (same_parts kind true ints remade is some)
  where
    no_parts : (kept : List Kept) → length kept ≡ 0 → points_of kept ≡ []
    no_parts [] none = refl
    no_parts (k ∷ kept) none = absurd (omega arith)

    by_begins : (b : Bool) (part : List Point) (rest : List (List Point)) → begins_negative (kept_from 3 0 (part ∷ rest)) ≡ b
        → mended_rings (part ∷ rest) ≡ Ok remade.kept → IsUntoldRemade layer n (part ∷ rest) remade.kept
        → (points_of remade.kept ≡ part ∷ rest → ⊥) → ⊥
    by_begins true part rest begins keeps untold differ = first_told layer n part rest remade.kept untold begins keeps
    by_begins false part rest begins keeps untold differ =
        let same : kept_from 3 0 (part ∷ rest) ≡ remade.kept = mended_if (part ∷ rest) remade.kept begins keeps in
        differ (ap points_of (sym same) ∙ lines_same 3 0 (part ∷ rest)
        (ap length same ∙ as_many layer n (part ∷ rest) remade.kept untold)
        (ap (total (λ (k : Kept). length k.points)) same ∙ as_long layer n (part ∷ rest) remade.kept untold))

    by_parts : (parts : List (List Point)) → mended_rings parts ≡ Ok remade.kept → IsUntoldRemade layer n parts remade.kept
        → (points_of remade.kept ≡ parts → ⊥) → ⊥
    by_parts [] keeps untold differ = differ (no_parts remade.kept (as_many layer n [] remade.kept untold))
    by_parts (part ∷ rest) keeps untold differ =
        by_begins (begins_negative (kept_from 3 0 (part ∷ rest))) part rest refl keeps untold differ

line_silent : (layer n : ℕ) (kind : Kind) (ints : List ℕ) (remade : Remade) → IsRemade kind false ints remade
    → (length remade.integers == 0) ≡ false → IsUntoldRemade layer n remade.parts remade.kept → ⊥
unfolding mended_lines
line_silent layer n kind ints remade is some untold =
    let keeps : kept_in false remade.parts ≡ Ok remade.kept = is.keeps in
    let same : kept_from 2 0 remade.parts ≡ remade.kept = cc in
    same_parts kind false ints remade is some
    (ap points_of (sym same) ∙ lines_same 2 0 remade.parts (ap length same ∙ as_many layer n remade.parts remade.kept untold)
    (ap (total (λ (k : Kept). length k.points)) same ∙ as_long layer n remade.parts remade.kept untold))

part_silent : (layer n : ℕ) (kind : Kind) (ring : Bool) (ints : List ℕ) (remade : Remade) → IsRemade kind ring ints remade
    → (length remade.integers == 0) ≡ false → IsUntoldRemade layer n remade.parts remade.kept → ⊥
part_silent layer n kind false ints remade is some untold = line_silent layer n kind ints remade is some untold
part_silent layer n kind true ints remade is some untold = ring_silent layer n kind ints remade is some untold

remade_silent : (layer n : ℕ) (payload : List ℕ) (remade : Remade) → feature_outcome payload ≡ Becomes remade
    → feature_changes layer n payload ≡ [] → ⊥
remade_silent layer n payload remade h none =
    let found = feature_remade payload remade h in
    let ring = has_rings (kind_in (split payload).fields) in
    let is = found.2 in
    let kept = are_kept ring remade.parts remade.kept is.keeps in
    by_integers (length remade.integers == 0) refl (sym (remade_told layer n payload remade h) ∙ none) kept
    (λ some untold. part_silent layer n (kind_in (split payload).fields) ring found.0 remade is some untold)
  where
    by_integers : (b : Bool) → (length remade.integers == 0) ≡ b
        → (if b then FeatureLeftOut layer n (count_points remade.parts) ∷ [] else told_from layer n (fates_of remade.parts remade.kept) 0 0 remade.parts) ≡ []
        → AreKept remade.parts remade.kept
        → ((length remade.integers == 0) ≡ false → IsUntoldRemade layer n remade.parts remade.kept → ⊥) → ⊥
    by_integers true is none kept silent = cc
    by_integers false is none kept silent = silent is (record { less = kept.less; apart = kept.apart; none = none })

-- integers stay where they come to nothing else
stays_none : (payload : List ℕ) (found : Outcome) → feature_outcome payload ≡ found → new_integers found ≡ None → mended_integers payload ≡ None
unfolding feature_outcome mended_integers
stays_none payload found is none = by_case (integers_of payload) is
  where
    by_case : (read : Option (List ℕ)) → outcome_with (split payload).fields read ≡ found
        → option_and_then (mended_geometry (kind_in (split payload).fields)) read ≡ None
    by_case None is = refl
    by_case (Some ints) is = ap new_integers is ∙ none

-- where nothing is told of a feature it stays, byte by byte
pub silent_stays : (layer n : ℕ) (payload : List ℕ) → feature_changes layer n payload ≡ [] → mended_feature payload ≡ payload ∷ []
unfolding mended_feature
silent_stays layer n payload none = by_case (feature_outcome payload) refl
  where
    by_case : (found : Outcome) → feature_outcome payload ≡ found → feature_with payload (mended_integers payload) ≡ payload ∷ []
    by_case Stays is = ap (feature_with payload) (stays_none payload Stays is refl)
    by_case (Crosses c) is = ap (feature_with payload) (stays_none payload (Crosses c) is refl)
    by_case (Becomes remade) is = absurd (remade_silent layer n payload remade is none)

-- and where it stays nothing is told
pub stays_silent : (layer n : ℕ) (payload : List ℕ) → AreBytes payload → length payload < 2 ^ 64 → mended_feature payload ≡ payload ∷ []
    → feature_changes layer n payload ≡ []
unfolding mended_feature
stays_silent layer n payload are small same = by_case (mended_integers payload) refl same
  where
    by_case : (new : Option (List ℕ)) → mended_integers payload ≡ new → feature_with payload new ≡ payload ∷ []
        → feature_changes layer n payload ≡ []
    by_case None mends same = feature_untold payload mends layer n
    by_case (Some []) mends same = absurd (cc)
    by_case (Some (i ∷ ints)) mends same =
        let made : with_integers payload (i ∷ ints) ≡ payload = cc in
        let again = feature_again payload i ints are mends (subst (λ b. length b < 2 ^ 64) (sym made) small) in
        let none : mended_integers payload ≡ None = ap mended_integers (sym made) ∙ again in
        absurd (let both = sym mends ∙ none in cc)

-- ---- of a layer

silent_content : (layer n : ℕ) (number : ℕ) (c : Content) → told_at (feature_changes layer n) c ≡ []
    → fields_as mended_feature number c ≡ plain number c ∷ []
silent_content layer n number (varint m) none = refl
silent_content layer n number (fixed64 m) none = refl
silent_content layer n number (bytes d) none = ap (payload_fields number) (silent_stays layer n d none)
silent_content layer n number (fixed32 m) none = refl

silent_fields : (layer n : ℕ) (xs : List Entry) → changes_from (feature_changes layer) FEATURES n xs ≡ []
    → fields_with mended_feature FEATURES xs ≡ map plain_of xs
silent_fields layer n [] none = refl
silent_fields layer n (x ∷ xs) none = by_test (x.number == FEATURES) refl none (λ m more. silent_fields layer m xs more)
  where
    by_test : (b : Bool) → (x.number == FEATURES) ≡ b
        → (if b then told_at (feature_changes layer n) x.content ++ changes_from (feature_changes layer) FEATURES (n + 1) xs
        else changes_from (feature_changes layer) FEATURES n xs) ≡ []
        → ((m : ℕ) → changes_from (feature_changes layer) FEATURES m xs ≡ [] → fields_with mended_feature FEATURES xs ≡ map plain_of xs)
        → (if b then fields_as mended_feature FEATURES x.content else plain x.number x.content ∷ []) ++ fields_with mended_feature FEATURES xs
        ≡ plain_of x ∷ map plain_of xs
    by_test true is none rest =
        let both = nil_joined (told_at (feature_changes layer n) x.content) (changes_from (feature_changes layer) FEATURES (n + 1) xs) none in
        ap₂ (λ ps qs. ps ++ qs)
        (silent_content layer n FEATURES x.content both.0 ∙ ap (λ k. plain k x.content ∷ []) (sym (eqb-true x.number FEATURES is)))
        (rest (n + 1) both.1)
    by_test false is none rest = ap (λ ps. plain_of x ∷ ps) (rest n none)

-- a layer of which nothing is changed keeps its fields, each feature byte by byte
pub layer_silent : (n : ℕ) (payload : List ℕ) → AreBytes payload → length (mended_layer payload) < 2 ^ 64 → layer_changes n payload ≡ []
    → fields_of (mended_layer payload) ≡ fields_of payload
unfolding layer_changes
layer_silent n payload are small none = by_case (is_layer payload) refl
  where
    by_case : (b : Bool) → is_layer payload ≡ b → fields_of (mended_layer payload) ≡ fields_of payload
    by_case true is =
        let has = layer_fields payload are is small in
        let told : changes_from (feature_changes n) FEATURES 0 (split payload).fields ≡ [] = rw is at none in
        has.fields ∙ silent_fields n 0 (split payload).fields told
    by_case false not = ap fields_of (not_layer payload not)
