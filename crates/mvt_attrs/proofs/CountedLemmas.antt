-- Entries that were counted and are marked, and uses that are undone.
use Rattle.std.proofs.Common.{◌≡◌, ◌≢◌, ◌⊎◌, ℕ, zero, suc, ◌+◌, ◌-◌, ◌<◌, ◌≤◌, List, [], ◌∷◌, length, take, get_or, Some, None, Result, Ok, Err, IfOk, slice_get, slice_index, inl, inr, refl, sym, ap, subst, ◌∙◌, arith, append-nil}
use Rattle.std.proofs.lemmas.Bool.{cases_lt}
use Rattle.std.proofs.lemmas.List.{length-take-le, nil_from_length, take-take, take_all}
use Rattle.std.proofs.lemmas.Option.{slice_get_within}
use Rattle.mvt_base.proofs.ListLemmas.{front_more}
use Rattle.mvt_base.specs.Related.{Extends}
use Rattle.mvt_attrs.specs.declared.used_entries.UsedEntries.{UsedEntries}
use Rattle.mvt_attrs.specs.FirstUse.{AreDistinct}
use Rattle.mvt_attrs.specs.FirstUses.{IsUseOf}
use Rattle.mvt_attrs.specs.Inner.Places.{AreFirstMarks, AreIndices, IsPut}
use Rattle.mvt_attrs.specs.Inner.UsedTags.{AreMarksUpTo, IsGrown, IsOneUse, IsUndone}
use Rattle.mvt_attrs.specs.Using.{AreCounted, AreUses, AreUsesOf, UsesAre, used_of}
use Rattle.mvt_attrs.proofs.FrontLemmas.{distinct_front, distinct_take, front_at, front_within, one_place, use_step}
use Rattle.mvt_attrs.proofs.UsesLemmas.{all_used, counted_of, placed_of, used_added, used_counted}

-- without entries nothing is counted
not_counted : {A : Type 0} → (u : UsedEntries A) (count : ℕ) → u.front ≡ Some count → AreUsesOf u [] → ⊥
not_counted u count counted uses =
    subst (λ f. UsesAre u.distinct f u.places.items u.marks.items u.used.items []) counted uses

take_none : {A : Type 0} → (n : ℕ) (xs : List A) → xs ≡ [] → take n xs ≡ []
take_none zero xs none = refl
take_none (suc n) [] none = refl
take_none (suc n) (x ∷ xs) none = absurd (let size = ap length none in omega arith)

slice_there : {A : Type 0} → (xs : List A) (i : ℕ) → i < length xs → (x : A) × (x ≡ get_or xs i x)
slice_there [] i lt = absurd (omega arith)
slice_there (x ∷ xs) zero lt = (x, refl)
slice_there (x ∷ xs) (suc i) lt = slice_there xs i (omega arith)

-- ---- the first entries are used, and are marked

module _ {A : Type 0} (distinct entries : List A) (count : ℕ) (are : AreCounted distinct entries count) (places marks : List ℕ)
    (are_places : AreIndices places (length distinct)) (are_marks : AreFirstMarks marks (length distinct) count) where
  front_marked : (p i : ℕ) → p < length distinct → slice_index marks p ≡ i + 1
      → slice_get (take count distinct) i ≡ slice_get distinct p
  front_marked p i within at =
      elim (cases_lt p count) [
        | inl before ↦ (
            let same : i ≡ p = omega (arith, are_marks.front p within before, at) in
            ap (slice_get (take count distinct)) same ∙ front_at distinct count p before)
        | inr past ↦ absurd (omega (arith, are_marks.rest p past, at))
      ]

  front_recorded : (i : ℕ) (x : A) → slice_get (take count distinct) i ≡ Some x
      → (p : ℕ) × (slice_get distinct p ≡ Some x) × (slice_index marks p ≢ 0)
  front_recorded i x at =
      let inside : i < count = front_within distinct count i x at in (
        i,
        sym (front_at distinct count i inside) ∙ at,
        λ none. omega (arith, are_marks.front i (omega (arith, inside, are.within)) inside, none),
      )

  pub front_uses : AreUses distinct places marks (take count distinct) entries
  front_uses = record {
    apart = are.apart;
    count = are_places.count ∙ ap length are.same;
    placed = λ i x at.
        let there : slice_get distinct i ≡ Some x = ap (λ l. slice_get l i) are.same ∙ at in
        ap (slice_get distinct) (are_places.here i (slice_get_within distinct i x there)) ∙ there;
    room = are_marks.count;
    marked = front_marked;
    once = distinct_front distinct count are.within are.apart;
    recorded = front_recorded;
  }

module _ {A : Type 0} (u new : UsedEntries A) (count : ℕ) (counted : u.front ≡ Some count) (placed : new.front ≡ None)
    (same : new.distinct ≡ u.distinct) (are_places : AreIndices new.places.items (length u.distinct))
    (are_marks : AreFirstMarks new.marks.items (length u.distinct) count) (used : new.used.items ≡ take count u.distinct) where
  spread_uses : (entries : List A) → AreUsesOf u entries → AreUsesOf new entries
  spread_uses entries uses =
      subst (λ f. UsesAre new.distinct f new.places.items new.marks.items new.used.items entries) (sym placed)
      (by_entries entries uses (counted_of u entries count counted uses))
    where
      by_entries : (es : List A) → AreUsesOf u es → AreCounted u.distinct es count
          → UsesAre new.distinct None new.places.items new.marks.items new.used.items es
      by_entries [] uses are = absurd (not_counted u count counted uses)
      by_entries (x ∷ es) uses are =
          subst (λ us. AreUses new.distinct new.places.items new.marks.items us (x ∷ es)) (sym used)
          (subst (λ ds. AreUses ds new.places.items new.marks.items (take count u.distinct) (x ∷ es)) (sym same)
          (front_uses u.distinct (x ∷ es) count are new.places.items new.marks.items are_places are_marks))

  spread_used : used_of new ≡ used_of u
  spread_used = by_places new.places.items refl ∙ sym (used_counted u count counted)
    where
      by_places : (ps : List ℕ) → new.places.items ≡ ps → used_of new ≡ take count u.distinct
      by_places [] none =
          let empty : u.distinct ≡ [] = nil_from_length u.distinct (sym are_places.count ∙ ap length none) in
          all_used new placed none ∙ same ∙ empty ∙ sym (take_none count u.distinct empty)
      by_places (p ∷ ps) some =
          used_added new placed (omega (arith, ap length some)) ∙ used

  pub spread : ((entries : List A) → AreUsesOf u entries → AreUsesOf new entries) × (used_of new ≡ used_of u)
  spread = (spread_uses, spread_used)

-- ---- one use more of entries that are counted

of_counted : {A : Type 0} → (new : UsedEntries A) (entries : List A) (count : ℕ) → new.front ≡ Some count
    → AreCounted new.distinct entries count → (entries ≡ [] → ⊥) → AreUsesOf new entries
of_counted {A = A} new entries count counted are some =
    subst (λ f. UsesAre new.distinct f new.places.items new.marks.items new.used.items entries) (sym counted) (by_entries entries are some)
  where
    by_entries : (es : List A) → AreCounted new.distinct es count → (es ≡ [] → ⊥)
        → UsesAre new.distinct (Some count) new.places.items new.marks.items new.used.items es
    by_entries [] are some = absurd (some refl)
    by_entries (x ∷ es) are some = are

module _ {A : Type 0} (u new : UsedEntries A) (count after entry : ℕ) (counted : u.front ≡ Some count) (still : new.front ≡ Some after)
    (same : new.distinct ≡ u.distinct) (step_is : IsUseOf count entry after) (inside : entry ≡ count → entry < length u.distinct) where
  module _ (entries : List A) (uses : AreUsesOf u entries) where
    are : AreCounted u.distinct entries count
    are = counted_of u entries count counted uses

    some : entries ≡ [] → ⊥
    some none = not_counted u count counted (subst (AreUsesOf u) none uses)

    after_within : after ≤ length u.distinct
    after_within =
        elim step_is [
          | inl (lt, is) ↦ omega (arith, is, are.within)
          | inr (last, is) ↦ omega (arith, is, last, inside last)
        ]

    counted_uses : AreUsesOf new entries
    counted_uses =
        of_counted new entries after still
        (record { apart = subst AreDistinct (sym same) are.apart; same = same ∙ are.same; within = omega (arith, after_within, ap length same) })
        some

    counted_grown : IsGrown entries (used_of u) (used_of new)
    counted_grown = (
      subst (λ l. Extends l (used_of new)) (sym (used_counted u count counted))
          (subst (Extends (take count u.distinct)) (sym (used_counted new after still ∙ ap (take after) same)) more),
      λ none. absurd (some none),
    )
      where
        more : Extends (take count u.distinct) (take after u.distinct)
        more =
            elim step_is [
              | inl (lt, is) ↦ ([], ap (λ n. take n u.distinct) is ∙ sym (append-nil (take count u.distinct)))
              | inr (last, is) ↦ (
                  let x = slice_there u.distinct count (omega (arith, last, inside last)) in
                  (x.0 ∷ [], ap (λ n. take n u.distinct) is ∙ front_more u.distinct count x.0 (omega (arith, last, inside last)) x.1))
            ]

    module _ (x : A) (at : slice_get entries entry ≡ Some x) where
      step : IsPut (take count u.distinct) (take after u.distinct) x × (slice_get (take after u.distinct) entry ≡ Some x)
          × (after ≤ length u.distinct)
      step = use_step u.distinct are.apart count are.within entry after x (ap (λ l. slice_get l entry) are.same ∙ at) step_is

      now_used : used_of new ≡ take after u.distinct
      now_used = used_counted new after still ∙ ap (take after) same

      counted_put : IsPut (used_of u) (used_of new) x
      counted_put =
          subst (λ l. IsPut l (used_of new) x) (sym (used_counted u count counted))
          (subst (λ l. IsPut (take count u.distinct) l x) (sym now_used) step.0)

      counted_index : slice_get (used_of new) entry ≡ Some x
      counted_index = ap (λ l. slice_get l entry) now_used ∙ step.1

  pub counted_use : IsOneUse entry u new entry
  counted_use = record {
    uses = counted_uses;
    grown = counted_grown;
    put = λ entries x uses at. (counted_put entries uses x at, counted_index entries uses x at);
  }

-- the same once the entries are marked
module _ {A : Type 0} (u marked new : UsedEntries A) (entry : ℕ)
    (still : (entries : List A) → AreUsesOf u entries → AreUsesOf marked entries) (same : used_of marked ≡ used_of u) where
  use_there : (index : ℕ) → IsOneUse entry marked new index → IsOneUse entry u new index
  use_there index use_is = record {
    uses = λ entries uses. use_is.uses entries (still entries uses);
    grown = λ entries uses. subst (λ l. IsGrown entries l (used_of new)) same (use_is.grown entries (still entries uses));
    put = λ entries x uses at.
        let put = use_is.put entries x (still entries uses) at in
        (subst (λ l. IsPut l (used_of new) x) same put.0, put.1);
  }

  pub spread_use : {E : Type 0} → (result : Result ℕ E) → IfOk result (IsOneUse entry marked new) → IfOk result (IsOneUse entry u new)
  spread_use (Ok index) use_is = use_there index use_is
  spread_use (Err error) use_is = use_is

-- ---- uses that are undone

module _ {A : Type 0} (distinct : List A) (places marks new_marks : List ℕ) (used entries : List A) (count : ℕ)
    (uses : AreUses distinct places marks used entries) (cleared : AreMarksUpTo count marks new_marks) where
  undone_marked : (p i : ℕ) → p < length distinct → slice_index new_marks p ≡ i + 1
      → slice_get (take count used) i ≡ slice_get distinct p
  undone_marked p i within at =
      elim (cases_lt count (slice_index marks p)) [
        | inl above ↦ absurd (omega (arith, cleared.gone p above, at))
        | inr below ↦ (
            let is : slice_index marks p ≡ i + 1 = sym (cleared.kept p below) ∙ at in
            front_at used count i (omega (arith, is, below)) ∙ uses.marked p i within is)
      ]

  undone_recorded : (i : ℕ) (x : A) → slice_get (take count used) i ≡ Some x
      → (p : ℕ) × (slice_get distinct p ≡ Some x) × (slice_index new_marks p ≢ 0)
  undone_recorded i x at =
      let inside : i < count = front_within used count i x at in
      let here : slice_get used i ≡ Some x = sym (front_at used count i inside) ∙ at in
      let (p, there, mark) = uses.recorded i x here in
      let some : slice_index marks p ≡ (slice_index marks p - 1) + 1 = omega (arith, mark) in
      let named : slice_get used (slice_index marks p - 1) ≡ Some x =
      uses.marked p (slice_index marks p - 1) (slice_get_within distinct p x there) some ∙ there in
      let one : slice_index marks p - 1 ≡ i = one_place used (slice_index marks p - 1) i x uses.once named here in (
        p,
        there,
        λ none. omega (arith, mark, one, inside, cleared.kept p (omega (arith, one, inside)), none),
      )

  pub undone : AreUses distinct places new_marks (take count used) entries
  undone = record {
    apart = uses.apart;
    count = uses.count;
    placed = uses.placed;
    room = cleared.size ∙ uses.room;
    marked = undone_marked;
    once = distinct_take used count uses.once;
    recorded = undone_recorded;
  }

module _ {A : Type 0} (u new : UsedEntries A) (count : ℕ) (placed : u.front ≡ None) (still : new.front ≡ None)
    (same : new.distinct ≡ u.distinct) (places : new.places.items ≡ u.places.items)
    (cleared : AreMarksUpTo count u.marks.items new.marks.items) (used : new.used.items ≡ take count u.used.items)
    (entries : List A) (uses : AreUsesOf u entries) where
  by_entries : (es : List A) → UsesAre u.distinct None u.places.items u.marks.items u.used.items es
      → UsesAre u.distinct None u.places.items new.marks.items (take count u.used.items) es
      × IsUndone es count (used_of u) (used_of new)
  by_entries [] are = (
    record {
      apart = are.apart;
      no_places = are.no_places;
      no_marks = nil_from_length new.marks.items (cleared.size ∙ ap length are.no_marks);
      no_used = take_none count u.used.items are.no_used;
    },
    all_used new still (places ∙ are.no_places) ∙ same ∙ sym (all_used u placed are.no_places),
  )
  by_entries (x ∷ es) are = (
    undone u.distinct u.places.items u.marks.items new.marks.items u.used.items (x ∷ es) count are cleared,
    (let size = are.count in
        used_added new still (omega (arith, size, ap length places)) ∙ used
        ∙ ap (take count) (sym (used_added u placed (omega (arith, size))))),
  )

  pub undone_uses : AreUsesOf new entries
  undone_uses =
      subst (λ f. UsesAre new.distinct f new.places.items new.marks.items new.used.items entries) (sym still)
      (subst (λ us. UsesAre new.distinct None new.places.items new.marks.items us entries) (sym used)
      (subst (λ ps. UsesAre new.distinct None ps new.marks.items (take count u.used.items) entries) (sym places)
      (subst (λ ds. UsesAre ds None u.places.items new.marks.items (take count u.used.items) entries) (sym same)
      (by_entries entries (placed_of u entries placed uses)).0)))

  pub undone_used : IsUndone entries count (used_of u) (used_of new)
  undone_used = (by_entries entries (placed_of u entries placed uses)).1

-- the same where they are counted
module _ {A : Type 0} (u new : UsedEntries A) (used count after : ℕ) (counted : u.front ≡ Some used) (still : new.front ≡ Some after)
    (same : new.distinct ≡ u.distinct) (less : ((count < used) × (after ≡ count)) ⊎ ((used ≤ count) × (after ≡ used)))
    (entries : List A) (uses : AreUsesOf u entries) where
  counted_less : take after u.distinct ≡ take count (take used u.distinct)
  counted_less =
      elim less [
        | inl (lt, is) ↦ ap (λ n. take n u.distinct) is ∙ sym (take-take count used u.distinct (omega (arith, lt)))
        | inr (le, is) ↦ (
            let are = counted_of u entries used counted uses in
            ap (λ n. take n u.distinct) is
            ∙ sym (take_all count (take used u.distinct) (omega (arith, le, length-take-le used u.distinct are.within))))
      ]

  pub counted_undone_uses : AreUsesOf new entries
  counted_undone_uses =
      let are = counted_of u entries used counted uses in
      of_counted new entries after still
      (record {
        apart = subst AreDistinct (sym same) are.apart;
        same = same ∙ are.same;
        within =
            elim less [
              | inl (lt, is) ↦ omega (arith, lt, is, are.within, ap length same)
              | inr (le, is) ↦ omega (arith, is, are.within, ap length same)
            ];
      })
      (λ none. not_counted u used counted (subst (AreUsesOf u) none uses))

  pub counted_undone : IsUndone entries count (used_of u) (used_of new)
  counted_undone = by_entries entries uses
    where
      by_entries : (es : List A) → AreUsesOf u es → IsUndone es count (used_of u) (used_of new)
      by_entries [] uses = absurd (not_counted u used counted uses)
      by_entries (x ∷ es) uses =
          used_counted new after still ∙ ap (take after) same ∙ counted_less ∙ ap (take count) (sym (used_counted u used counted))
