-- What became of each part, by the parts that stay.
use Rattle.std.proofs.Common.{arith, ◌≡◌, ◌≢◌, ℕ, zero, suc, ◌+◌, ◌-◌, ◌==◌, ◌<◌, ◌≤◌, nat_lt, Bool, true, false, List, [], ◌∷◌, length, drop, Some, refl, sym, ap, ap₂, subst, ◌∙◌, eqb-true, slice_index_or, inl, inr}
use Rattle.std.specs.Prelude.{if◌then◌else◌, cond, slice_set, slice_get, ◌⊎◌, count_by}
use Rattle.std.specs.List.{AllByRecursion}
use Rattle.std.proofs.lemmas.Bool.{both_ways, eq-eqb, ne_eqb}
use Rattle.std.proofs.lemmas.Bool.Decides.{nat_tests}
use Rattle.std.proofs.lemmas.List.{drop_more, length-set}
use Rattle.mvt_base.specs.Rules.{IsOneOf}
use Rattle.mvt_geometry.specs.declared.shape.Point.{Point}
use Rattle.mvt_rings.specs.declared.rings.Kept.{Kept}
use Rattle.mvt_mend.specs.declared.fates.Fate.{Fate}
use Rattle.mvt_mend.specs.declared.change.Change.TheVariants.{TurnedRing, RepeatedPoint, PartLeftOut, MovedRing}
use Rattle.mvt_mend.specs.Changes.{all_gone, fate_at, fate_of, fates_after, fates_of, gone, is_turned, told_from, with_staying}
use Rattle.mvt_mend.specs.Whole.{are_opposite}
use Rattle.mvt_mend.proofs.WholeLemmas.{AreApart, IsLess, gone_at, length_after, length_gone, other_fate, same_fate, all_inside, still_inside, total, total_is}
use Rattle.mvt_mend.proofs.ToldLemmas.{TellsFewer, TellsGone, TellsMove, TellsTurn, before_at, fewer_tells, gone_tells, tells_fewer, tells_gone, move_tells, tells_move, tells_turn, told_at_some, told_some_at, turn_tells}

-- ---- the fate of an index

-- the fate of an index is that of a part that stays, at its place
pub record IsFate (n : ℕ) (kept : List Kept) (i : ℕ) (fate : Fate) : Type 0 where
  pub place : ℕ
  pub part : Kept
  pub there : slice_get kept place ≡ Some part
  pub index : part.index ≡ i
  pub is : fate ≡ fate_of (n + place + 1) part

abbrev inside_all : List Fate → List Kept → Type 0
inside_all fates kept = AllByRecursion (λ (q : Kept). q.index < length fates) kept

module _ (n : ℕ) (fates : List Fate) (k : Kept) where
  abbrev pub next : List Fate
  next = slice_set fates k.index (fate_of (n + 1) k)

  next_inside : (kept : List Kept) → inside_all fates kept → inside_all next kept
  next_inside kept inside = still_inside (length fates) (length next) kept (sym (length-set fates k.index (fate_of (n + 1) k))) inside

places : (n m : ℕ) → (n + 1) + m + 1 ≡ n + suc m + 1
places n m = omega arith

first_place : (n : ℕ) → n + 1 ≡ n + 0 + 1
first_place n = omega arith

pub fate_after : (n : ℕ) (fates : List Fate) (kept : List Kept) → inside_all fates kept → (i : ℕ)
    → (fate_at (fates_after n fates kept) i ≡ fate_at fates i) ⊎ IsFate n kept i (fate_at (fates_after n fates kept) i)
fate_after n fates [] inside i = inl refl
fate_after n fates (k ∷ kept) inside i =
    by_rest (fate_after (n + 1) (next n fates k) kept (next_inside n fates k kept inside.1) i)
  where
    after : Fate
    after = fate_at (fates_after (n + 1) (next n fates k) kept) i

    by_test : (b : Bool) → (i == k.index) ≡ b → (now : Fate) → now ≡ fate_at (next n fates k) i
        → (now ≡ fate_at fates i) ⊎ IsFate n (k ∷ kept) i now
    by_test true is now same =
        let at : i ≡ k.index = eqb-true i k.index is in
        inr (record {
          place = 0;
          part = k;
          there = refl;
          index = sym at;
          is = same ∙ ap (fate_at (next n fates k)) at ∙ same_fate fates k.index (fate_of (n + 1) k) inside.0
              ∙ ap (λ m. fate_of m k) (first_place n);
        })
    by_test false is now same =
        inl (same ∙ other_fate fates k.index i (fate_of (n + 1) k) (λ e. absurd (both_ways (i == k.index) is (eq-eqb i k.index e))))

    by_rest : (fate_at (fates_after (n + 1) (next n fates k) kept) i ≡ fate_at (next n fates k) i)
        ⊎ IsFate (n + 1) kept i (fate_at (fates_after (n + 1) (next n fates k) kept) i)
        → (fate_at (fates_after (n + 1) (next n fates k) kept) i ≡ fate_at fates i)
        ⊎ IsFate n (k ∷ kept) i (fate_at (fates_after (n + 1) (next n fates k) kept) i)
    by_rest (inl same) = by_test (i == k.index) refl _ same
    by_rest (inr found) = inr (record {
      place = suc found.place;
      part = found.part;
      there = found.there;
      index = found.index;
      is = found.is ∙ ap (λ m. fate_of m found.part) (places n found.place);
    })

untouched : (n : ℕ) (fates : List Fate) (kept : List Kept) (i : ℕ) → AllByRecursion (λ (q : Kept). q.index ≢ i) kept
    → fate_at (fates_after n fates kept) i ≡ fate_at fates i
untouched n fates [] i others = refl
untouched n fates (k ∷ kept) i others =
    untouched (n + 1) (next n fates k) kept i others.1
    ∙ other_fate fates k.index i (fate_of (n + 1) k) (λ same. others.0 (sym same))

pub fate_there : (n : ℕ) (fates : List Fate) (kept : List Kept) → inside_all fates kept → AreApart kept → (j : ℕ) (k : Kept)
    → slice_get kept j ≡ Some k → fate_at (fates_after n fates kept) k.index ≡ fate_of (n + j + 1) k
fate_there n fates [] inside apart j k is = absurd (cc)
fate_there n fates (q ∷ kept) inside apart zero k is =
    let same : q ≡ k = cc in
    subst (λ p. fate_at (fates_after (n + 1) (next n fates q) kept) p.index ≡ fate_of (n + 0 + 1) p) same
    (untouched (n + 1) (next n fates q) kept q.index apart.0 ∙ same_fate fates q.index (fate_of (n + 1) q) inside.0
    ∙ ap (λ m. fate_of m q) (first_place n))
fate_there n fates (q ∷ kept) inside apart (suc j) k is =
    fate_there (n + 1) (next n fates q) kept (next_inside n fates q kept inside.1) apart.1 j k is ∙ ap (λ m. fate_of m k) (places n j)

-- ---- how many parts before an index stay

-- 1 for a part that stays and stands before this index
abbrev stays_before : ℕ → ℕ → Fate → ℕ
stays_before i n fate = cond (nat_lt n i) (cond (fate.place == 0) 0 1) 0

-- the parts from an index on that stay before another
abbrev stays_from : ℕ → ℕ → List Fate → ℕ
stays_from i n [] = 0
stays_from i n (fate ∷ fates) = stays_before i n fate + stays_from i (n + 1) fates

same_sum : (a b c f : ℕ) → b ≡ c + f → a + b ≡ (a + c) + f
same_sum a b c f is = omega arith

stays_set : (i n : ℕ) (fates : List Fate) (m : ℕ) (f : Fate) → m < length fates → ((fate_at fates m).place == 0) ≡ true
    → stays_from i n (slice_set fates m f) ≡ stays_from i n fates + stays_before i (n + m) f
stays_set i n [] m f within none = absurd (omega arith)
stays_set i n (g ∷ fates) zero f within none =
    let nothing : stays_before i n g ≡ 0 = by_test (nat_lt n i) (g.place == 0) none in
    let here : stays_before i (n + 0) f ≡ stays_before i n f = ap (λ k. stays_before i k f) (add_none n) in omega arith
  where
    add_none : (n : ℕ) → n + 0 ≡ n
    add_none n = omega arith

    by_test : (a b : Bool) → b ≡ true → cond {A = ℕ} a (cond b 0 1) 0 ≡ 0
    by_test true b none = rw none refl
    by_test false b none = refl
stays_set i n (g ∷ fates) (suc m) f within none =
    let rest = stays_set i (n + 1) fates m f (omega arith) none in
    let here : stays_before i (n + suc m) f ≡ stays_before i ((n + 1) + m) f = ap (λ k. stays_before i k f) (one_on n m) in
    same_sum (stays_before i n g) _ (stays_from i (n + 1) fates) _ (rest ∙ ap (λ k. stays_from i (n + 1) fates + k) (sym here))
  where
    one_on : (n m : ℕ) → n + suc m ≡ (n + 1) + m
    one_on n m = omega arith

none_set : (fates : List Fate) (i : ℕ) (f : Fate) (kept : List Kept) → AllByRecursion (λ (q : Kept). q.index ≢ i) kept
    → AllByRecursion (λ (q : Kept). ((fate_at fates q.index).place == 0) ≡ true) kept
    → AllByRecursion (λ (q : Kept). ((fate_at (slice_set fates i f) q.index).place == 0) ≡ true) kept
none_set fates i f [] others free = tt
none_set fates i f (q ∷ kept) others free = (
  ap (λ (g : Fate). g.place == 0) (other_fate fates i q.index f others.0) ∙ free.0,
  none_set fates i f kept others.1 free.1,
)

more_stays : (a b c d e : ℕ) → a ≡ b + c → b ≡ d + e → a ≡ d + (e + c)
more_stays a b c d e first second = omega arith

stays_after : (i n : ℕ) (fates : List Fate) (kept : List Kept) → inside_all fates kept → AreApart kept
    → AllByRecursion (λ (q : Kept). ((fate_at fates q.index).place == 0) ≡ true) kept
    → stays_from i 0 (fates_after n fates kept) ≡ stays_from i 0 fates + total (λ (k : Kept). cond (nat_lt k.index i) 1 0) kept
stays_after i n fates [] inside apart free = add_none (stays_from i 0 fates)
  where
    add_none : (a : ℕ) → a ≡ a + 0
    add_none a = omega arith
stays_after i n fates (k ∷ kept) inside apart free =
    let f = fate_of (n + 1) k in
    let rest = stays_after i (n + 1) (next n fates k) kept (next_inside n fates k kept inside.1) apart.1
    (none_set fates k.index f kept apart.0 free.1) in
    let set = stays_set i 0 fates k.index f inside.0 free.0 in
    let here : stays_before i (0 + k.index) f ≡ cond (nat_lt k.index i) 1 0 =
    ap (λ m. stays_before i m f) (none_more k.index) ∙ placed n (nat_lt k.index i) in
    more_stays _ _ _ _ _ rest (set ∙ ap (λ m. stays_from i 0 fates + m) here)
  where
    none_more : (a : ℕ) → 0 + a ≡ a
    none_more a = omega arith

    some : (n : ℕ) → ((n + 1) == 0) ≡ false
    some n = grind arith

    placed : (n : ℕ) (b : Bool) → cond {A = ℕ} b (cond ((n + 1) == 0) 0 1) 0 ≡ cond b 1 0
    placed n b = rw (some n) refl

gone_stays : (i n : ℕ) (parts : List (List Point)) → stays_from i n (all_gone parts) ≡ 0
gone_stays i n [] = refl
gone_stays i n (part ∷ parts) =
    let rest = gone_stays i (n + 1) parts in
    let here : stays_before i n gone ≡ 0 = by_test (nat_lt n i) in omega arith
  where
    by_test : (b : Bool) → cond {A = ℕ} b 0 0 ≡ 0
    by_test true = refl
    by_test false = refl

gone_none : (parts : List (List Point)) (kept : List Kept) → AllByRecursion (λ (q : Kept). ((fate_at (all_gone parts) q.index).place == 0) ≡ true) kept
gone_none parts [] = tt
gone_none parts (k ∷ kept) = (ap (λ (g : Fate). g.place == 0) (gone_at parts k.index), gone_none parts kept)

past_none : (i n : ℕ) (fates : List Fate) → i ≤ n → stays_from i n fates ≡ 0
past_none i n [] past = refl
past_none i n (fate ∷ fates) past =
    let rest = past_none i (n + 1) fates (omega arith) in
    let not_before : nat_lt n i ≡ false = grind (arith, nat_tests) in
    let here : stays_before i n fate ≡ 0 = rw not_before refl in omega arith

before_counts : (fates : List Fate) (n before m : ℕ) → n + m ≤ length fates
    → before_at fates n before m ≡ before + stays_from (n + m) n (drop n fates)
before_counts fates n before zero within =
    let none = past_none (n + 0) n (drop n fates) (omega arith) in omega arith
before_counts fates n before (suc m) within =
    let fate = fate_at fates n in
    let rest = before_counts fates (n + 1) (with_staying before fate) m (omega arith) in
    let front : drop n fates ≡ fate ∷ drop (n + 1) fates = drop_more fates n gone (omega arith) in
    let bound : (n + 1) + m ≡ n + suc m = omega arith in
    let early : nat_lt n (n + suc m) ≡ true = grind (arith, nat_tests) in
    let here : stays_before (n + suc m) n fate ≡ cond (fate.place == 0) 0 1 = rw early refl in
    let whole : stays_from (n + suc m) n (drop n fates) ≡ stays_before (n + suc m) n fate + stays_from (n + suc m) (n + 1) (drop (n + 1) fates)
    = ap (stays_from (n + suc m) n) front in
    let more : stays_from ((n + 1) + m) (n + 1) (drop (n + 1) fates) ≡ stays_from (n + suc m) (n + 1) (drop (n + 1) fates)
    = ap (λ k. stays_from k (n + 1) (drop (n + 1) fates)) bound in
    let one : with_staying before fate ≡ before + cond (fate.place == 0) 0 1 = by_test before (fate.place == 0) in
    add_up _ _ _ _ _ _ _ _ rest one more whole here
  where
    by_test : (before : ℕ) (b : Bool) → (if b then before else before + 1) ≡ before + cond b 0 1
    by_test before true = omega arith
    by_test before false = omega arith

    add_up : (a b c d e f g h : ℕ) → a ≡ b + c → b ≡ d + e → c ≡ f → g ≡ h + f → h ≡ e → a ≡ d + g
    add_up a b c d e f g h p q r s t = omega arith

-- the parts before one of an index that stay are counted
pub before_is : (parts : List (List Point)) (kept : List Kept) → AllByRecursion (IsLess parts) kept → AreApart kept → (i : ℕ) → i ≤ length parts
    → before_at (fates_of parts kept) 0 0 i ≡ count_by (λ k. nat_lt k.index i) kept
before_is parts kept less apart i within =
    let fates = fates_of parts kept in
    let as_many : length fates ≡ length parts = length_after 0 (all_gone parts) kept ∙ length_gone parts in
    let inside : inside_all (all_gone parts) kept =
    still_inside (length parts) (length (all_gone parts)) kept (sym (length_gone parts)) (all_inside parts kept less) in
    let counts = before_counts fates 0 0 i (omega arith) in
    let bound : stays_from (0 + i) 0 fates ≡ stays_from i 0 fates = ap (λ k. stays_from k 0 fates) (none_more i) in
    let after = stays_after i 0 (all_gone parts) kept inside apart (gone_none parts kept) in
    let none = gone_stays i 0 parts in
    let all = total_is (λ (k : Kept). cond (nat_lt k.index i) 1 0) kept in omega arith
  where
    none_more : (a : ℕ) → 0 + a ≡ a
    none_more a = omega arith

-- ---- what is told

fate_of_none : (parts : List (List Point)) (kept : List Kept) → inside_all (all_gone parts) kept → (i : ℕ)
    → ((fate_at (fates_of parts kept) i).place == 0) ≡ false → IsFate 0 kept i (fate_at (fates_of parts kept) i)
fate_of_none parts kept inside i stays = by_case (fate_after 0 (all_gone parts) kept inside i)
  where
    by_case : (fate_at (fates_of parts kept) i ≡ fate_at (all_gone parts) i) ⊎ IsFate 0 kept i (fate_at (fates_of parts kept) i)
        → IsFate 0 kept i (fate_at (fates_of parts kept) i)
    by_case (inl same) =
        absurd (both_ways ((fate_at (fates_of parts kept) i).place == 0) stays
        (ap (λ (f : Fate). f.place == 0) (same ∙ gone_at parts i)))
    by_case (inr found) = found

module _ (layer feature : ℕ) (parts : List (List Point)) (kept : List Kept) (less : AllByRecursion (IsLess parts) kept) (apart : AreApart kept) where
  inside : inside_all (all_gone parts) kept
  inside = still_inside (length parts) (length (all_gone parts)) kept (sym (length_gone parts)) (all_inside parts kept less)

  -- a part that stays, by its fate
  pub stands : (i : ℕ) → ((fate_at (fates_of parts kept) i).place == 0) ≡ false
      → (j : ℕ) × (k : Kept) × (slice_get kept j ≡ Some k) × (k.index ≡ i) × (fate_at (fates_of parts kept) i ≡ fate_of (j + 1) k)
  stands i stays =
      let found = fate_of_none parts kept inside i stays in
      (found.place, found.part, found.there, found.index, found.is ∙ ap (λ m. fate_of m found.part) (none_more found.place))
    where
      none_more : (a : ℕ) → 0 + a + 1 ≡ a + 1
      none_more a = omega arith

  part_inside : (j : ℕ) (k : Kept) → slice_get kept j ≡ Some k → k.index < length parts
  part_inside j k there = look kept less j there
    where
      look : (ks : List Kept) → AllByRecursion (IsLess parts) ks → (j : ℕ) → slice_get ks j ≡ Some k → k.index < length parts
      look [] all j there = absurd (cc)
      look (q ∷ ks) all zero there = let same : q ≡ k = cc in subst (λ (p : Kept). p.index < length parts) same all.0.inside
      look (q ∷ ks) all (suc j) there = look ks all.1 j there

  there_fate : (j : ℕ) (k : Kept) → slice_get kept j ≡ Some k → fate_at (fates_of parts kept) k.index ≡ fate_of (j + 1) k
  there_fate j k there = fate_there 0 (all_gone parts) kept inside apart j k there ∙ ap (λ m. fate_of m k) (none_more j)
    where
      none_more : (a : ℕ) → 0 + a + 1 ≡ a + 1
      none_more a = omega arith

  some : (n : ℕ) → ((n + 1) == 0) ≡ false
  some n = grind arith

  zero_on : (i : ℕ) → 0 + i ≡ i
  zero_on i = omega arith

  pub turn_is : (i : ℕ) → IsOneOf (told_from layer feature (fates_of parts kept) 0 0 parts) (TurnedRing layer feature i)
      → (j : ℕ) × (k : Kept) × (slice_get kept j ≡ Some k) × (k.index ≡ i) × (are_opposite (slice_index_or parts i []) k.points ≡ true)
  unfolding is_turned
  turn_is i is =
      let found = told_at_some layer feature (fates_of parts kept) 0 0 parts (TurnedRing layer feature i) is in
      let m = found.0 in
      let told = found.1 in
      let tells = tells_turn layer feature (0 + m) (before_at (fates_of parts kept) 0 0 m) (slice_index_or parts m [])
      (fate_at (fates_of parts kept) (0 + m)) i told.told in
      let at : m ≡ i = sym (zero_on m) ∙ tells.at in
      let stays : ((fate_at (fates_of parts kept) i).place == 0) ≡ false =
      ap (λ x. (fate_at (fates_of parts kept) x).place == 0) (sym tells.at) ∙ tells.stays in
      let stand = stands i stays in
      let turned : is_turned (slice_index_or parts i []) (fate_at (fates_of parts kept) i) ≡ true =
      ap₂ (λ x y. is_turned (slice_index_or parts x []) (fate_at (fates_of parts kept) y)) (sym at) (sym tells.at) ∙ tells.turned in (
        stand.0,
        stand.1,
        stand.2,
        stand.3,
        ap (is_turned (slice_index_or parts i [])) (sym stand.4) ∙ turned,
      )

  pub is_turn : (i j : ℕ) (k : Kept) → slice_get kept j ≡ Some k → k.index ≡ i → are_opposite (slice_index_or parts i []) k.points ≡ true
      → IsOneOf (told_from layer feature (fates_of parts kept) 0 0 parts) (TurnedRing layer feature i)
  unfolding is_turned
  is_turn i j k there at opposite =
      let fate : fate_at (fates_of parts kept) (0 + i) ≡ fate_of (j + 1) k =
      ap (fate_at (fates_of parts kept)) (zero_on i ∙ sym at) ∙ there_fate j k there in
      let tells : TellsTurn (0 + i) i (slice_index_or parts i []) (fate_at (fates_of parts kept) (0 + i)) =
      record {
        at = zero_on i;
        stays = ap (λ (f : Fate). f.place == 0) fate ∙ some j;
        turned = ap (is_turned (slice_index_or parts i [])) fate ∙ opposite;
      } in
      told_some_at layer feature (fates_of parts kept) 0 0 parts (TurnedRing layer feature i) i
      (record {
        within = subst (λ x. x < length parts) at (part_inside j k there);
        told = turn_tells layer feature (0 + i) (before_at (fates_of parts kept) 0 0 i) (slice_index_or parts i [])
            (fate_at (fates_of parts kept) (0 + i)) i tells;
      })

  counted : (i : ℕ) → i < length parts → before_at (fates_of parts kept) 0 0 i ≡ count_by (λ k. nat_lt k.index i) kept
  counted i within = before_is parts kept less apart i (omega arith)

  pub move_is : (i j : ℕ) → IsOneOf (told_from layer feature (fates_of parts kept) 0 0 parts) (MovedRing layer feature i j)
      → (k : Kept) × (slice_get kept j ≡ Some k) × (k.index ≡ i) × (j ≢ count_by (λ q. nat_lt q.index i) kept)
  move_is i j is =
      let found = told_at_some layer feature (fates_of parts kept) 0 0 parts (MovedRing layer feature i j) is in
      let m = found.0 in
      let told = found.1 in
      let tells = tells_move layer feature (0 + m) (before_at (fates_of parts kept) 0 0 m) (slice_index_or parts m [])
      (fate_at (fates_of parts kept) (0 + m)) i j told.told in
      let at : m ≡ i = sym (zero_on m) ∙ tells.at in
      let stays : ((fate_at (fates_of parts kept) i).place == 0) ≡ false =
      ap (λ x. (fate_at (fates_of parts kept) x).place == 0) (sym tells.at) ∙ tells.stays in
      let stand = stands i stays in
      let place : (fate_at (fates_of parts kept) (0 + m)).place ≡ stand.0 + 1 =
      ap (λ x. (fate_at (fates_of parts kept) x).place) tells.at ∙ ap (λ (f : Fate). f.place) stand.4 in
      let to : stand.0 ≡ j = less_one _ _ _ place tells.to in
      let count : before_at (fates_of parts kept) 0 0 m ≡ count_by (λ q. nat_lt q.index i) kept =
      ap (before_at (fates_of parts kept) 0 0) at ∙ counted i (subst (λ x. x < length parts) at told.within) in (
        stand.1,
        subst (λ x. slice_get kept x ≡ Some stand.1) to stand.2,
        stand.3,
        λ same. absurd (both_ways _ tells.moved (eq-eqb (fate_at (fates_of parts kept) (0 + m)).place (before_at (fates_of parts kept) 0 0 m + 1)
            (place ∙ ap (λ x. x + 1) (to ∙ same ∙ sym count)))),
      )
    where
      less_one : (p s j : ℕ) → p ≡ s + 1 → p - 1 ≡ j → s ≡ j
      less_one p s j first second = omega arith

  pub is_move : (i j : ℕ) (k : Kept) → slice_get kept j ≡ Some k → k.index ≡ i → j ≢ count_by (λ q. nat_lt q.index i) kept
      → IsOneOf (told_from layer feature (fates_of parts kept) 0 0 parts) (MovedRing layer feature i j)
  is_move i j k there at other =
      let within : i < length parts = subst (λ x. x < length parts) at (part_inside j k there) in
      let fate : fate_at (fates_of parts kept) (0 + i) ≡ fate_of (j + 1) k =
      ap (fate_at (fates_of parts kept)) (zero_on i ∙ sym at) ∙ there_fate j k there in
      let place : (fate_at (fates_of parts kept) (0 + i)).place ≡ j + 1 = ap (λ (f : Fate). f.place) fate in
      let count = counted i within in
      let tells : TellsMove (0 + i) i j (before_at (fates_of parts kept) 0 0 i) (fate_at (fates_of parts kept) (0 + i)) =
      record {
        at = zero_on i;
        stays = ap (λ n. n == 0) place ∙ some j;
        moved = differs _ _ (λ same. other (one_less _ _ _ _ place same count));
        to = to_is _ _ place;
      } in
      told_some_at layer feature (fates_of parts kept) 0 0 parts (MovedRing layer feature i j) i
      (record {
        within = within;
        told = move_tells layer feature (0 + i) (before_at (fates_of parts kept) 0 0 i) (slice_index_or parts i [])
            (fate_at (fates_of parts kept) (0 + i)) i j tells;
      })
    where
      to_is : (p j : ℕ) → p ≡ j + 1 → p - 1 ≡ j
      to_is p j is = omega arith

      one_less : (p j b c : ℕ) → p ≡ j + 1 → p ≡ b + 1 → b ≡ c → j ≡ c
      one_less p j b c first second third = omega arith

      differs : (a b : ℕ) → (a ≡ b → ⊥) → (a == b) ≡ false
      differs a b other = ne_eqb a b other

  none_there : (i : ℕ) → ((fate_at (fates_of parts kept) i).place == 0) ≡ true → (ks : List Kept)
      → ((j : ℕ) (k : Kept) → slice_get ks j ≡ Some k → (k.index ≡ i → ⊥)) → AllByRecursion (λ (k : Kept). k.index ≢ i) ks
  none_there i out [] look = tt
  none_there i out (k ∷ ks) look = (look 0 k refl, none_there i out ks (λ j q there. look (suc j) q there))

  pub gone_is : (i count : ℕ) → IsOneOf (told_from layer feature (fates_of parts kept) 0 0 parts) (PartLeftOut layer feature i count)
      → (i < length parts) × (length (slice_index_or parts i []) ≡ count) × AllByRecursion (λ (k : Kept). k.index ≢ i) kept
  gone_is i count is =
      let found = told_at_some layer feature (fates_of parts kept) 0 0 parts (PartLeftOut layer feature i count) is in
      let m = found.0 in
      let told = found.1 in
      let tells = tells_gone layer feature (0 + m) (before_at (fates_of parts kept) 0 0 m) (slice_index_or parts m [])
      (fate_at (fates_of parts kept) (0 + m)) i count told.told in
      let at : m ≡ i = sym (zero_on m) ∙ tells.at in
      let out : ((fate_at (fates_of parts kept) i).place == 0) ≡ true =
      ap (λ x. (fate_at (fates_of parts kept) x).place == 0) (sym tells.at) ∙ tells.gone in (
        subst (λ x. x < length parts) at told.within,
        ap (λ x. length (slice_index_or parts x [])) (sym at) ∙ tells.points,
        none_there i out kept (λ j k there same. absurd (both_ways ((fate_at (fates_of parts kept) i).place == 0)
            (ap (λ x. (fate_at (fates_of parts kept) x).place == 0) (sym same) ∙ ap (λ (f : Fate). f.place == 0) (there_fate j k there) ∙ some j) out)),
      )

  pub is_gone : (i count : ℕ) → i < length parts → length (slice_index_or parts i []) ≡ count
      → AllByRecursion (λ (k : Kept). k.index ≢ i) kept
      → IsOneOf (told_from layer feature (fates_of parts kept) 0 0 parts) (PartLeftOut layer feature i count)
  is_gone i count within points others =
      let fate : fate_at (fates_of parts kept) (0 + i) ≡ gone =
      ap (fate_at (fates_of parts kept)) (zero_on i) ∙ untouched 0 (all_gone parts) kept i others ∙ gone_at parts i in
      let tells : TellsGone (0 + i) i count (slice_index_or parts i []) (fate_at (fates_of parts kept) (0 + i)) =
      record { at = zero_on i; gone = ap (λ (f : Fate). f.place == 0) fate; points = points } in
      told_some_at layer feature (fates_of parts kept) 0 0 parts (PartLeftOut layer feature i count) i
      (record {
        within = within;
        told = gone_tells layer feature (0 + i) (before_at (fates_of parts kept) 0 0 i) (slice_index_or parts i [])
            (fate_at (fates_of parts kept) (0 + i)) i count tells;
      })

  pub fewer_is : (i count : ℕ) → IsOneOf (told_from layer feature (fates_of parts kept) 0 0 parts) (RepeatedPoint layer feature i count)
      → (j : ℕ) × (k : Kept) × (slice_get kept j ≡ Some k) × (k.index ≡ i) × (0 < count) × (length k.points + count ≡ length (slice_index_or parts i []))
  fewer_is i count is =
      let found = told_at_some layer feature (fates_of parts kept) 0 0 parts (RepeatedPoint layer feature i count) is in
      let m = found.0 in
      let told = found.1 in
      let tells = tells_fewer layer feature (0 + m) (before_at (fates_of parts kept) 0 0 m) (slice_index_or parts m [])
      (fate_at (fates_of parts kept) (0 + m)) i count told.told in
      let at : m ≡ i = sym (zero_on m) ∙ tells.at in
      let stays : ((fate_at (fates_of parts kept) i).place == 0) ≡ false =
      ap (λ x. (fate_at (fates_of parts kept) x).place == 0) (sym tells.at) ∙ tells.stays in
      let stand = stands i stays in
      let points : (fate_at (fates_of parts kept) (0 + m)).points ≡ length (stand.1).points =
      ap (λ x. (fate_at (fates_of parts kept) x).points) tells.at ∙ ap (λ (f : Fate). f.points) stand.4 in
      let whole : length (slice_index_or parts m []) ≡ length (slice_index_or parts i []) = ap (λ x. length (slice_index_or parts x [])) at in
      let sums = less_more _ _ _ _ _ points whole tells.fewer tells.points in
      (stand.0, stand.1, stand.2, stand.3, sums.0, sums.1)
    where
      less_more : (p q a b c : ℕ) → p ≡ q → a ≡ b → nat_lt p a ≡ true → a - p ≡ c → (0 < c) × (q + c ≡ b)
      less_more p q a b c first second less rest =
          let less_is : p < a = grind (arith, nat_tests) in (omega arith, omega arith)

  pub is_fewer : (i count j : ℕ) (k : Kept) → slice_get kept j ≡ Some k → k.index ≡ i → 0 < count
      → length k.points + count ≡ length (slice_index_or parts i [])
      → IsOneOf (told_from layer feature (fates_of parts kept) 0 0 parts) (RepeatedPoint layer feature i count)
  is_fewer i count j k there at some_count sum =
      let fate : fate_at (fates_of parts kept) (0 + i) ≡ fate_of (j + 1) k =
      ap (fate_at (fates_of parts kept)) (zero_on i ∙ sym at) ∙ there_fate j k there in
      let points : (fate_at (fates_of parts kept) (0 + i)).points ≡ length k.points = ap (λ (f : Fate). f.points) fate in
      let sums = more_less _ _ _ _ points some_count sum in
      let tells : TellsFewer (0 + i) i count (slice_index_or parts i []) (fate_at (fates_of parts kept) (0 + i)) =
      record { at = zero_on i; stays = ap (λ (f : Fate). f.place == 0) fate ∙ some j; fewer = sums.0; points = sums.1 } in
      told_some_at layer feature (fates_of parts kept) 0 0 parts (RepeatedPoint layer feature i count) i
      (record {
        within = subst (λ x. x < length parts) at (part_inside j k there);
        told = fewer_tells layer feature (0 + i) (before_at (fates_of parts kept) 0 0 i) (slice_index_or parts i [])
            (fate_at (fates_of parts kept) (0 + i)) i count tells;
      })
    where
      more_less : (p q a c : ℕ) → p ≡ q → 0 < c → q + c ≡ a → (nat_lt p a ≡ true) × (a - p ≡ c)
      more_less p q a c first some_count sum =
          let less_is : nat_lt p a ≡ true = grind (arith, nat_tests) in (less_is, omega arith)
