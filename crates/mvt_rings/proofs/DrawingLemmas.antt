-- Where rings don't cross, what is filled by their directions is what even-odd fills.
use Rattle.std.proofs.Common.{arith, ◌≡◌, ◌≢◌, ℕ, zero, suc, ◌+◌, ◌%◌, ◌==◌, ◌<◌, ◌≤◌, ◌&&◌, ◌||◌, not, nat_lt, nat_le, Bool, true, false, ℤ, pos, ◌≤ℤ◌, List, [], ◌∷◌, ◌++◌, length, Ok, Err, refl, sym, ap, ap₂, subst, ◌∙◌, sum_by, eqb-true, inl, inr}
use Rattle.std.specs.Prelude.{if◌then◌else◌, cond, slice_index, unsigned_abs}
use Rattle.std.specs.Int.Signed.{lt_z}
use Rattle.std.specs.List.{AllByRecursion, filter}
use Rattle.std.proofs.lemmas.Int.{ints}
use Rattle.std.proofs.lemmas.Bool.{eq-eqb, ne_eqb}
use Rattle.std.proofs.lemmas.Bool.Decides.{nat_tests}
use Rattle.std.proofs.lemmas.List.{get_or_append_left, get_or_push, length_push}
use Rattle.mvt_base.specs.Rules.{IsOneOf}
use Rattle.mvt_geometry.specs.declared.shape.Point.{Point}
use Rattle.mvt_geometry.specs.Area.{area2}
use Rattle.mvt_rings.specs.declared.holding.Holder.{Holder}
use Rattle.mvt_rings.specs.declared.holding.Holders.{Holders}
use Rattle.mvt_rings.specs.declared.nesting.Spot.{Spot}
use Rattle.mvt_rings.specs.declared.placing.Place.{Place}
use Rattle.mvt_rings.specs.declared.placing.Place.TheVariants.{Held, Apart, Unclear}
use Rattle.mvt_rings.specs.declared.rings.Kept.{Kept}
use Rattle.mvt_rings.specs.declared.rings.Ring.{Ring}
use Rattle.mvt_rings.specs.Counting.{holds}
use Rattle.mvt_rings.specs.Placing.{one_if}
use Rattle.mvt_rings.specs.Drawings.{AreNestedAt, cut, filled, is_held}
use Rattle.mvt_rings.specs.Signs.{is_positive, is_negative}
use Rattle.mvt_rings.specs.Turning.{as_exterior, as_interior}
use Rattle.mvt_rings.specs.Rings.{is_larger, may_hold, place, ring_of, rings_from}
use Rattle.mvt_rings.specs.Repeats.{opened, without_repeats}
use Rattle.mvt_rings.specs.Holding.{held_after, holder_of, holders_after, is_unclear, no_holder, with_placed}
use Rattle.mvt_rings.specs.Homes.{begun_after, exterior, has_ring, homes_after, interior, joined, told, told_by}
use Rattle.mvt_rings.specs.Mending.{begins_negative, kept_from, mended_rings}
use Rattle.mvt_rings.proofs.TotalLemmas.{spread, total, total_is, total_same, total-filter, total-flat_map}
use Rattle.mvt_rings.proofs.RankLemmas.{IsChain, counted, evenly, is_even, oddly, rank, total_all}
use Rattle.mvt_rings.proofs.LargerLemmas.{larger_irreflexive, larger_transitive}
use Rattle.mvt_rings.proofs.HomeIndexLemmas.{after_one}
use Rattle.mvt_rings.proofs.FixedLemmas.{AreNumbered, IsTree, if_even, if_odd, numbered_from, odd_some, sizes}
use Rattle.mvt_rings.proofs.JoinedLemmas.{HaveHomes, begun_spread, inner_part, is_home, joined_spread, length-begun_after, outer_part}
use Rattle.mvt_rings.proofs.OuterLemmas.{IsSized}
use Rattle.mvt_rings.proofs.EvenOddLemmas.{holds_count}
use Rattle.mvt_rings.proofs.RingsStayLemmas.{count_exterior, count_interior, count_rings, too_short}
use Rattle.mvt_rings.proofs.SignsSayLemmas.{HasArea, is_told, sized_from, told_tree}
use Rattle.mvt_rings.proofs.ToldRingsLemmas.{Told, homes_found, told_one}
use Rattle.mvt_rings.proofs.TurnedSignLemmas.{exterior_not_negative, exterior_positive, interior_not_positive, size_interior}
use Rattle.mvt_rings.proofs.TurningLemmas.{interior_area}

-- ---- how many rings hold one

placed_count : (h : Holder) (o : Ring) (p : Place) → is_unclear p ≡ false → (with_placed h o p).count ≡ h.count + one_if (is_held p)
placed_count h o Held clear = by_test ((h.count == 0) || nat_le o.size h.size)
  where
    by_test : (b : Bool)
        → (let g : Holder = if b then record { count = h.count + 1; least = o.index; size = o.size }
        else record { count = h.count + 1; least = h.least; size = h.size } in g.count) ≡ h.count + 1
    by_test true = refl
    by_test false = refl
placed_count h o Apart clear = omega arith
placed_count h o Unclear clear = absurd (cc)

abbrev holds_one : Ring → Ring → ℕ
holds_one r o = one_if (may_hold o r && is_held (place o r))

held_count : (r : Ring) (h g : Holder) (rings : List Ring) → held_after r h rings ≡ Ok g → g.count ≡ h.count + total (holds_one r) rings
held_count r h g [] is = let same : h ≡ g = cc in ap (λ (x : Holder). x.count) (sym same) ∙ none h.count
  where
    none : (a : ℕ) → a ≡ a + 0
    none a = omega arith
held_count r h g (o ∷ rings) is =
    by_test (may_hold o r) (is_unclear (place o r)) refl (λ f more. held_count r f g rings more) is
  where
    by_test : (a b : Bool) → is_unclear (place o r) ≡ b
        → ((f : Holder) → held_after r f rings ≡ Ok g → g.count ≡ f.count + total (holds_one r) rings)
        → (if a then (if b then Err (record { outer = o.index; inner = r.index }) else held_after r (with_placed h o (place o r)) rings)
        else held_after r h rings) ≡ Ok g
        → g.count ≡ h.count + (one_if (a && is_held (place o r)) + total (holds_one r) rings)
    by_test true true unclear rest is = absurd (cc)
    by_test true false clear rest is =
        let here = placed_count h o (place o r) clear in
        let more = rest (with_placed h o (place o r)) is in omega arith
    by_test false b clear rest is = let more = rest h is in omega arith

holder_count : (rings : List Ring) (r : Ring) (g : Holder) → r.size ≢ 0 → holder_of rings r ≡ Ok g → g.count ≡ total (holds_one r) rings
unfolding holder_of
holder_count rings r g solid is = by_test (r.size == 0) refl is
  where
    by_test : (b : Bool) → (r.size == 0) ≡ b → (if b then Ok no_holder else held_after r no_holder rings) ≡ Ok g
        → g.count ≡ total (holds_one r) rings
    by_test true none is = absurd (solid (eqb-true r.size 0 none))
    by_test false some is = held_count r no_holder g rings is ∙ nothing (total (holds_one r) rings)
      where
        nothing : (a : ℕ) → 0 + a ≡ a
        nothing a = omega arith

-- ---- the number of holders at the index of a ring

front_kept : (all : List Ring) (counts leasts : List ℕ) (rings : List Ring) (h : Holders) → holders_after all counts leasts rings ≡ Ok h
    → (i : ℕ) → i < length counts → slice_index h.counts i ≡ slice_index counts i
front_kept all counts leasts [] h is i within =
    let whole : Holders = record { counts = counts; leasts = leasts } in
    let same : whole ≡ h = cc in ap (λ (x : Holders). slice_index x.counts i) (sym same)
front_kept all counts leasts (q ∷ rings) h is i within =
    let step = after_one (λ x. holders_after all (counts ++ x.count ∷ []) (leasts ++ x.least ∷ []) rings) (holder_of all q) h is in
    let longer = length_push counts step.0.count in
    front_kept all (counts ++ step.0.count ∷ []) (leasts ++ step.0.least ∷ []) rings h step.2 i (omega arith)
    ∙ get_or_append_left counts (step.0.count ∷ []) 0 i within

-- the holders of a ring
pub record IsCounted (all : List Ring) (h : Holders) (r : Ring) : Type 0 where
  pub holder : Holder
  pub found : holder_of all r ≡ Ok holder
  pub count : slice_index h.counts r.index ≡ holder.count

counted_from : (all : List Ring) (counts leasts : List ℕ) (rings : List Ring) (h : Holders) → holders_after all counts leasts rings ≡ Ok h
    → AreNumbered (length counts) rings → (r : Ring) → IsOneOf rings r → IsCounted all h r
counted_from all counts leasts [] h is numbered r there = absurd there
counted_from all counts leasts (q ∷ rings) h is numbered r there =
    let step = after_one (λ x. holders_after all (counts ++ x.count ∷ []) (leasts ++ x.least ∷ []) rings) (holder_of all q) h is in
    let longer = length_push counts step.0.count in
    by_place step.0 step.1 step.2 longer there
    (λ more. counted_from all (counts ++ step.0.count ∷ []) (leasts ++ step.0.least ∷ []) rings h step.2
    (subst (λ n. AreNumbered n rings) (sym longer) numbered.1) r more)
  where
    by_place : (g : Holder) → holder_of all q ≡ Ok g → holders_after all (counts ++ g.count ∷ []) (leasts ++ g.least ∷ []) rings ≡ Ok h
        → length (counts ++ g.count ∷ []) ≡ length counts + 1 → IsOneOf (q ∷ rings) r → (IsOneOf rings r → IsCounted all h r) → IsCounted all h r
    by_place g found more longer (inl same) rest =
        subst (IsCounted all h) same (record {
          holder = g;
          found = found;
          count = ap (slice_index h.counts) numbered.0
              ∙ front_kept all (counts ++ g.count ∷ []) (leasts ++ g.least ∷ []) rings h more (length counts) (omega arith)
              ∙ get_or_push counts g.count 0 (length counts) refl;
        })
    by_place g found more longer (inr later) rest = rest later

-- ---- lists

member_all : {X : Type 0} → (P : X → Type 0) (xs : List X) → AllByRecursion P xs → (x : X) → IsOneOf xs x → P x
member_all P [] all x there = absurd there
member_all P (y ∷ xs) all x there = elim there [ inl same ↦ subst P same all.0 | inr more ↦ member_all P xs all.1 x more ]

all_members : {X : Type 0} → (P : X → Type 0) (xs : List X) → ((x : X) → IsOneOf xs x → P x) → AllByRecursion P xs
all_members P [] each = tt
all_members P (x ∷ xs) each = (each x (inl refl), all_members P xs (λ y there. each y (inr there)))

total_filter : {X : Type 0} → (f : X → ℕ) (test : X → Bool) (xs : List X) → total f (filter test xs) ≡ total (λ x. cond (test x) (f x) 0) xs
total_filter f test [] = refl
total_filter f test (x ∷ xs) = by_test (test x) (total_filter f test xs)
  where
    by_test : (b : Bool) → total f (filter test xs) ≡ total (λ y. cond (test y) (f y) 0) xs
        → total f (cond b (x ∷ filter test xs) (filter test xs)) ≡ cond b (f x) 0 + total (λ y. cond (test y) (f y) 0) xs
    by_test true rest = ap (λ n. f x + n) rest
    by_test false rest = rest ∙ nothing (total (λ y. cond (test y) (f y) 0) xs)
      where
        nothing : (a : ℕ) → a ≡ 0 + a
        nothing a = omega arith

-- ---- the order of rings

opposite : (a b i j : ℕ) → i < j → (nat_lt a b || ((b == a) && nat_lt j i)) ≡ not (nat_lt b a || ((a == b) && nat_lt i j))
opposite a b i j first = grind (arith, nat_tests)

later : (m n : ℕ) (parts : List (List Point)) → m < n → AllByRecursion (λ (r : Ring). m < r.index) (rings_from n parts)
later m n [] early = tt
later m n (part ∷ parts) early = (early, later m (n + 1) parts (omega arith))

opposite_all : (x : Ring) (rings : List Ring) → AllByRecursion (λ (r : Ring). x.index < r.index) rings
    → AllByRecursion (λ (r : Ring). is_larger r x ≡ not (is_larger x r)) rings
opposite_all x [] all = tt
opposite_all x (r ∷ rings) all = (opposite x.size r.size x.index r.index all.0, opposite_all x rings all.1)

chain : (n : ℕ) (parts : List (List Point)) → IsChain is_larger (rings_from n parts)
chain n [] = tt
chain n (part ∷ parts) = (opposite_all (ring_of n (opened (without_repeats part))) (rings_from (n + 1) parts) (later n (n + 1) parts (omega arith)), chain (n + 1) parts)

-- ---- what counts of the polygons that are told

told_split : (w : Kept → ℕ) (o i : Ring → ℕ) → ((r : Ring) → w (exterior r) ≡ o r) → ((r : Ring) → w (interior r) ≡ i r)
    → (homes : List ℕ) (rings : List Ring) → HaveHomes (length rings) homes rings
    → spread w (joined homes (begun_after homes [] rings) rings) ≡ total (outer_part homes o) rings + total (inner_part homes i) rings
told_split w o i outer inner homes rings have =
    joined_spread w i inner homes (begun_after homes [] rings) rings (length rings)
    (length-begun_after homes [] rings ∙ nothing (length rings)) have
    ∙ ap (λ x. x + total (inner_part homes i) rings)
    (begun_spread w o outer homes [] rings ∙ nothing (total (outer_part homes o) rings))
  where
    nothing : (a : ℕ) → 0 + a ≡ a
    nothing a = omega arith

told_total : (w : Kept → ℕ) → ((k : Kept) → has_ring k ≡ false → w k ≡ 0) → (homes : List ℕ) (rings : List Ring)
    → total w (told_by homes rings) ≡ spread w (joined homes (begun_after homes [] rings) rings)
unfolding told_by
told_total w short homes rings =
    let polygons = joined homes (begun_after homes [] rings) rings in
    total-flat_map w (λ (p : List Kept). filter has_ring p) polygons
    ∙ total_same (λ (p : List Kept). total w (filter has_ring p)) (total w) (total-filter w has_ring short) polygons

module _ (parts : ℕ) (spot : Spot) where
  -- 1 for an exterior ring that contains the spot, and for an interior one
  as_filled : Kept → ℕ
  as_filled k = cond (is_positive k.points) (holds parts spot k.points) 0

  as_cut : Kept → ℕ
  as_cut k = cond (is_negative k.points) (holds parts spot k.points) 0

  none_either : (b : Bool) (n : ℕ) → n ≡ 0 → cond b n 0 ≡ 0
  none_either true n none = none
  none_either false n none = refl

  holds_short : (k : Kept) → has_ring k ≡ false → holds parts spot k.points ≡ 0
  holds_short k short = let is = holds_count parts spot in is.short k.points (too_short k.points short)

  filled_told : (homes : List ℕ) (rings : List Ring) → HaveHomes (length rings) homes rings
      → total as_filled (told_by homes rings)
      ≡ total (outer_part homes (λ r. cond (is_positive (as_exterior r.points)) (holds parts spot r.points) 0)) rings
  unfolding as_filled
  filled_told homes rings have =
      told_total as_filled (λ k short. none_either (is_positive k.points) (holds parts spot k.points) (holds_short k short)) homes rings
      ∙ told_split as_filled (λ r. cond (is_positive (as_exterior r.points)) (holds parts spot r.points) 0) (λ r. 0)
      (λ r. ap (λ n. cond (is_positive (as_exterior r.points)) n 0) (count_exterior (holds parts spot) (holds_count parts spot) r.points))
      (λ r. ap (λ b. cond b (holds parts spot (as_interior r.points)) 0) (interior_not_positive r.points)) homes rings have
      ∙ ap (λ n. total (outer_part homes (λ r. cond (is_positive (as_exterior r.points)) (holds parts spot r.points) 0)) rings + n)
      (nothing rings) ∙ more _
    where
      more : (a : ℕ) → a + 0 ≡ a
      more a = omega arith

      nothing : (rs : List Ring) → total (inner_part homes (λ r. 0)) rs ≡ 0
      nothing [] = refl
      nothing (r ∷ rs) = let here : inner_part homes (λ q. 0) r ≡ 0 = zero_if (is_home homes r) in let rest = nothing rs in omega arith
        where
          zero_if : (b : Bool) → (let z : ℕ = 0 in if b then z else z) ≡ 0
          zero_if true = refl
          zero_if false = refl

  cut_told : (homes : List ℕ) (rings : List Ring) → HaveHomes (length rings) homes rings
      → total as_cut (told_by homes rings)
      ≡ total (inner_part homes (λ r. cond (is_negative (as_interior r.points)) (holds parts spot r.points) 0)) rings
  unfolding as_cut
  cut_told homes rings have =
      told_total as_cut (λ k short. none_either (is_negative k.points) (holds parts spot k.points) (holds_short k short)) homes rings
      ∙ told_split as_cut (λ r. 0) (λ r. cond (is_negative (as_interior r.points)) (holds parts spot r.points) 0)
      (λ r. ap (λ b. cond b (holds parts spot (as_exterior r.points)) 0) (exterior_not_negative r.points))
      (λ r. ap (λ n. cond (is_negative (as_interior r.points)) n 0) (count_interior (holds parts spot) (holds_count parts spot) r.points))
      homes rings have
      ∙ ap (λ n. n + total (inner_part homes (λ r. cond (is_negative (as_interior r.points)) (holds parts spot r.points) 0)) rings)
      (nothing rings) ∙ more _
    where
      more : (a : ℕ) → 0 + a ≡ a
      more a = omega arith

      nothing : (rs : List Ring) → total (outer_part homes (λ r. 0)) rs ≡ 0
      nothing [] = refl
      nothing (r ∷ rs) = let here : outer_part homes (λ q. 0) r ≡ 0 = zero_if (is_home homes r) in let rest = nothing rs in omega arith
        where
          zero_if : (b : Bool) → (let z : ℕ = 0 in if b then z else z) ≡ 0
          zero_if true = refl
          zero_if false = refl

-- ---- one ring

negative_z : (z : ℤ) → z ≤ℤ pos 0 → (unsigned_abs z ≡ 0 → ⊥) → lt_z z (pos 0) ≡ true
negative_z z low solid = grind (arith, ints)

interior_negative : (ring : List Point) → (unsigned_abs (area2 ring) ≡ 0 → ⊥) → is_negative (as_interior ring) ≡ true
unfolding is_negative
interior_negative ring solid =
    negative_z (area2 (as_interior ring)) (interior_area ring) (λ none. solid (sym (size_interior ring) ∙ none))

-- a ring with area is exterior where an even number hold it
home_even : (h : Holders) (homes : List ℕ) (S : ℕ → Type 0) → IsTree h homes S → (i : ℕ) → S i
    → (slice_index homes i == i) ≡ is_even (slice_index h.counts i)
home_even h homes S is i solid = by_test (is_even (slice_index h.counts i)) refl
  where
    self : (m n : ℕ) → m + 1 ≡ n → m ≡ n → ⊥
    self m n less same = omega arith

    by_test : (b : Bool) → is_even (slice_index h.counts i) ≡ b → (slice_index homes i == i) ≡ b
    by_test true even = eq-eqb (slice_index homes i) i (is.own i solid ∙ if_even (is_even (slice_index h.counts i)) i (slice_index h.leasts i) even)
    by_test false odd =
        let own = is.own i solid ∙ if_odd (is_even (slice_index h.counts i)) i (slice_index h.leasts i) odd in
        let less = is.less i (odd_some (slice_index h.counts i) odd) in
        ne_eqb (slice_index homes i) i (λ same. self _ _ less (ap (slice_index h.counts) (sym own ∙ same)))

-- ---- all rings

module _ (parts : ℕ) (spot : Spot) (rings : List (List Point)) (kept : List Kept) (one : Told (rings_from 0 rings) kept)
    (nested : AreNestedAt parts spot (rings_from 0 rings)) where
  contains : Ring → ℕ
  contains r = holds parts spot r.points

  at_most_one : (r : Ring) → contains r ≤ 1
  unfolding contains
  at_most_one r = omega arith

  -- what holds a ring that contains the spot are the larger ones that contain it
  held_by : (r : Ring) → IsOneOf (rings_from 0 rings) r → holds parts spot r.points ≡ 1
      → total (holds_one r) (rings_from 0 rings) ≡ rank is_larger contains (rings_from 0 rings) r
  unfolding contains may_hold
  held_by r there is =
      total_all (holds_one r) (λ o. cond (is_larger o r) (contains o) 0) (rings_from 0 rings)
      (all_members (λ o. holds_one r o ≡ cond (is_larger o r) (contains o) 0) (rings_from 0 rings)
      (λ o other. by_test o other (is_larger o r) refl))
    where
      by_test : (o : Ring) → IsOneOf (rings_from 0 rings) o → (b : Bool) → is_larger o r ≡ b
          → one_if (may_hold o r && is_held (place o r)) ≡ cond b (holds parts spot o.points) 0
      by_test o other true larger = nested.held o r other there is larger
      by_test o other false smaller = rw smaller refl

  home_of_ring : (r : Ring) → IsOneOf (rings_from 0 rings) r → holds parts spot r.points ≡ 1
      → is_home (homes_after one.0 [] 0 (rings_from 0 rings)) r ≡ is_even (rank is_larger contains (rings_from 0 rings) r)
  home_of_ring r there is =
      let rs = rings_from 0 rings in
      let solid = nested.solid r there is in
      let sized = member_all (IsSized (HasArea rs)) rs (sized_from rs 0 rings (sizes rings)) r there in
      let found = counted_from rs [] [] rs one.0 one.1 (numbered_from 0 rings) r there in
      let held = holder_count rs r found.holder solid found.found ∙ held_by r there is in
      home_even one.0 (homes_after one.0 [] 0 rs) (HasArea rs) (told_tree rings kept one) r.index (sized.there solid)
      ∙ ap is_even (found.count ∙ held)

  area_of : (r : Ring) → IsOneOf (rings_from 0 rings) r → holds parts spot r.points ≡ 1 → unsigned_abs (area2 r.points) ≡ 0 → ⊥
  area_of r there is none =
      let rs = rings_from 0 rings in
      let sized = member_all (IsSized (HasArea rs)) rs (sized_from rs 0 rings (sizes rings)) r there in
      nested.solid r there is (sized.size ∙ none)

  nothing_counts : (b c : Bool) (n : ℕ) → n ≡ 0 → (if b then cond c n 0 else 0) ≡ 0
  nothing_counts true true n none = none
  nothing_counts true false n none = refl
  nothing_counts false c n none = refl

  nothing_counts_too : (b c : Bool) (n : ℕ) → n ≡ 0 → (if b then 0 else cond c n 0) ≡ 0
  nothing_counts_too true c n none = refl
  nothing_counts_too false true n none = none
  nothing_counts_too false false n none = refl

  nothing_even : (r n : ℕ) → n ≡ 0 → evenly r n ≡ 0
  nothing_even r n none = by_test (is_even r)
    where
      by_test : (b : Bool) → cond b n 0 ≡ 0
      by_test true = none
      by_test false = refl

  nothing_odd : (r n : ℕ) → n ≡ 0 → oddly r n ≡ 0
  nothing_odd r n none = by_test (is_even r)
    where
      by_test : (b : Bool) → cond b 0 n ≡ 0
      by_test true = refl
      by_test false = none

  outer_is : (r : Ring) → IsOneOf (rings_from 0 rings) r
      → outer_part (homes_after one.0 [] 0 (rings_from 0 rings)) (λ q. cond (is_positive (as_exterior q.points)) (holds parts spot q.points) 0) r
      ≡ evenly (rank is_larger contains (rings_from 0 rings) r) (contains r)
  unfolding contains
  outer_is r there = by_count (holds parts spot r.points) refl (at_most_one r)
    where
      by_count : (n : ℕ) → holds parts spot r.points ≡ n → n ≤ 1
          → (if is_home (homes_after one.0 [] 0 (rings_from 0 rings)) r then cond (is_positive (as_exterior r.points)) n 0 else 0)
          ≡ evenly (rank is_larger contains (rings_from 0 rings) r) n
      by_count zero is few =
          nothing_counts (is_home (homes_after one.0 [] 0 (rings_from 0 rings)) r) (is_positive (as_exterior r.points)) 0 refl
          ∙ sym (nothing_even (rank is_larger contains (rings_from 0 rings) r) 0 refl)
      by_count (suc zero) is few =
          rw (exterior_positive r.points (area_of r there is)) (ap (λ b. cond {A = ℕ} b 1 0) (home_of_ring r there is))
      by_count (suc (suc n)) is few = absurd (omega arith)

  inner_is : (r : Ring) → IsOneOf (rings_from 0 rings) r
      → inner_part (homes_after one.0 [] 0 (rings_from 0 rings)) (λ q. cond (is_negative (as_interior q.points)) (holds parts spot q.points) 0) r
      ≡ oddly (rank is_larger contains (rings_from 0 rings) r) (contains r)
  unfolding contains
  inner_is r there = by_count (holds parts spot r.points) refl (at_most_one r)
    where
      by_count : (n : ℕ) → holds parts spot r.points ≡ n → n ≤ 1
          → (if is_home (homes_after one.0 [] 0 (rings_from 0 rings)) r then 0 else cond (is_negative (as_interior r.points)) n 0)
          ≡ oddly (rank is_larger contains (rings_from 0 rings) r) n
      by_count zero is few =
          nothing_counts_too (is_home (homes_after one.0 [] 0 (rings_from 0 rings)) r) (is_negative (as_interior r.points)) 0 refl
          ∙ sym (nothing_odd (rank is_larger contains (rings_from 0 rings) r) 0 refl)
      by_count (suc zero) is few =
          rw (interior_negative r.points (area_of r there is)) (ap (λ b. cond {A = ℕ} b 0 1) (home_of_ring r there is))
      by_count (suc (suc n)) is few = absurd (omega arith)

  told_agree : filled parts spot kept ≡ cut parts spot kept + sum_by (holds parts spot) rings % 2
  unfolding contains as_filled as_cut
  told_agree =
      let rs = rings_from 0 rings in
      let homes = homes_after one.0 [] 0 rs in
      let have = homes_found rings one.0 one.1 in
      let outer = total_is (λ (k : Kept). holds parts spot k.points) (filter (λ k. is_positive k.points) kept)
      ∙ total_filter (λ (k : Kept). holds parts spot k.points) (λ k. is_positive k.points) kept
      ∙ ap (total (as_filled parts spot)) (sym one.3) ∙ filled_told parts spot homes rs have
      ∙ total_all (outer_part homes (λ q. cond (is_positive (as_exterior q.points)) (holds parts spot q.points) 0))
      (λ r. evenly (rank is_larger contains rs r) (contains r)) rs
      (all_members (λ r. outer_part homes (λ q. cond (is_positive (as_exterior q.points)) (holds parts spot q.points) 0) r
      ≡ evenly (rank is_larger contains rs r) (contains r)) rs outer_is) in
      let inner = total_is (λ (k : Kept). holds parts spot k.points) (filter (λ k. is_negative k.points) kept)
      ∙ total_filter (λ (k : Kept). holds parts spot k.points) (λ k. is_negative k.points) kept
      ∙ ap (total (as_cut parts spot)) (sym one.3) ∙ cut_told parts spot homes rs have
      ∙ total_all (inner_part homes (λ q. cond (is_negative (as_interior q.points)) (holds parts spot q.points) 0))
      (λ r. oddly (rank is_larger contains rs r) (contains r)) rs
      (all_members (λ r. inner_part homes (λ q. cond (is_negative (as_interior q.points)) (holds parts spot q.points) 0) r
      ≡ oddly (rank is_larger contains rs r) (contains r)) rs inner_is) in
      let all = counted is_larger larger_irreflexive larger_transitive rs (chain 0 rings) contains at_most_one in
      let whole = count_rings (holds parts spot) (holds_count parts spot) 0 rings ∙ sym (total_is (holds parts spot) rings) in
      outer ∙ all ∙ ap₂ (λ a b. a + b % 2) (sym inner) whole

pub drawings_agree : (parts : ℕ) (spot : Spot) (rings : List (List Point)) (kept : List Kept)
    → begins_negative (kept_from 3 0 rings) ≡ true → mended_rings rings ≡ Ok kept → AreNestedAt parts spot (rings_from 0 rings)
    → filled parts spot kept ≡ cut parts spot kept + sum_by (holds parts spot) rings % 2
unfolding mended_rings
drawings_agree parts spot rings kept begins mended nested =
    told_agree parts spot rings kept
    (told_one (rings_from 0 rings) kept
    (is_told (begins_negative (kept_from 3 0 rings)) (told (rings_from 0 rings)) (Ok (kept_from 3 0 rings)) kept begins mended))
    nested
