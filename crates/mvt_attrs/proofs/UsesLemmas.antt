-- Entries that are known by their places, and those of them that are used.
use Rattle.std.proofs.Common.{◌≡◌, ◌≢◌, ◌⊎◌, ℕ, zero, suc, ◌+◌, ◌-◌, ◌<◌, ◌≤◌, Bool, List, [], ◌∷◌, ◌++◌, Option, length, map, set, get_or, drop, take, Some, None, Contains, Decides, bytes_eq, slice_get, slice_index, inl, inr, refl, sym, ap, ap₂, subst, ◌∙◌, ⊎_elim, arith, append_assoc, append-nil}
use Rattle.std.specs.Option.{option_to_list}
use Rattle.std.proofs.lemmas.Bool.{cases_eq}
use Rattle.std.proofs.lemmas.List.{get_or_default, get_or-set_same, get_or-set_other, get_or_append_left, length_push, length-set, map-append}
use Rattle.std.proofs.lemmas.Option.{slice_get_within, slice_get-get_or}
use Rattle.std.proofs.Math.Seq.{get_or-append_seam}
use Rattle.std.proofs.lemmas.Slice.Eq.{bytes_eq-Decides}
use Rattle.mvt_attrs.specs.declared.value.Attribute.{Attribute}
use Rattle.mvt_attrs.specs.Values.{Value}
use Rattle.mvt_attrs.specs.FirstUse.{AreDistinct, first_use}
use Rattle.mvt_attrs.specs.Inner.Places.{IsPut, AreFirstMarks}
use Rattle.mvt_attrs.specs.Inner.UsedTags.{TagsSoFar, UsedSoFar}
use Rattle.mvt_attrs.specs.Tags.{Names, NamesOne}
use Rattle.mvt_attrs.specs.TagPlaces.{tags_in}
use Rattle.mvt_attrs.specs.TagRules.{pairs_of}
use Rattle.mvt_attrs.specs.Using.{AreAllUsed, AreCounted, AreUses, AreUsesOf, UsesAre, HasUses, IsUsedBy, entries_at, entries_in, entries_of, used_in, used_of}
use Rattle.mvt_attrs.specs.Values.{equal_values}
use Rattle.mvt_base.specs.Related.{AreRelated}
use Rattle.mvt_attrs.specs.declared.used_entries.LayerEntries.{LayerEntries}
use Rattle.mvt_attrs.specs.declared.used_entries.UsedEntries.{UsedEntries}
use Rattle.mvt_attrs.proofs.JudgingLemmas.{named_front, named_none}
use Rattle.mvt_attrs.proofs.ResolvedLemmas.{related_from_names, there}
use Rattle.mvt_attrs.proofs.EqualityLemmas.{equal_values-Decides}
use Rattle.mvt_attrs.proofs.FrontLemmas.{distinct_front, one_place}
use Rattle.mvt_attrs.proofs.FirstUseLemmas.{put, put_is, put_cases, first_use-push, first_use-own, first_use-distinct}
use Rattle.mvt_attrs.proofs.PlaceLemmas.{names_push, names_longer, names_places}
use Rattle.mvt_attrs.proofs.PlacingLemmas.{names_none}
use Rattle.mvt_attrs.proofs.PoolLemmas.{distinct_more, slice_get-front, last_there}

-- ---- what is used

pub used_added : {A : Type 0} → (u : UsedEntries A) → u.front ≡ None → 0 < length u.places.items → used_of u ≡ u.used.items
unfolding used_of
used_added u placed some = ap (λ f. used_in f u.places.items u.distinct u.used.items) placed ∙ by_places u.places.items some
  where
    by_places : (places : List ℕ) → 0 < length places → used_in None places u.distinct u.used.items ≡ u.used.items
    by_places [] none = absurd (omega arith)
    by_places (p ∷ places) some = refl

-- what is used hangs on these alone
pub still_used : {A : Type 0} → (old new : UsedEntries A) → new.front ≡ old.front → new.places.items ≡ old.places.items
    → new.distinct ≡ old.distinct → new.used.items ≡ old.used.items → used_of new ≡ used_of old
unfolding used_of
still_used old new front places distinct used =
    ap₂ (λ f ps. used_in f ps new.distinct new.used.items) front places
    ∙ ap₂ (λ ds us. used_in old.front old.places.items ds us) distinct used

pub all_used : {A : Type 0} → (u : UsedEntries A) → u.front ≡ None → u.places.items ≡ [] → used_of u ≡ u.distinct
unfolding used_of
all_used u placed none = ap₂ (λ f ps. used_in f ps u.distinct u.used.items) placed none

pub used_counted : {A : Type 0} → (u : UsedEntries A) (count : ℕ) → u.front ≡ Some count → used_of u ≡ take count u.distinct
unfolding used_of
used_counted u count counted = ap (λ f. used_in f u.places.items u.distinct u.used.items) counted

-- entries that are known by their places, or are counted
pub placed_of : {A : Type 0} → (u : UsedEntries A) (entries : List A) → u.front ≡ None → AreUsesOf u entries
    → UsesAre u.distinct None u.places.items u.marks.items u.used.items entries
placed_of u entries placed uses = subst (λ f. UsesAre u.distinct f u.places.items u.marks.items u.used.items entries) placed uses

pub placed_again : {A : Type 0} → (distinct : List A) (front : Option ℕ) (places marks : List ℕ) (used entries : List A) → front ≡ None
    → UsesAre distinct None places marks used entries → UsesAre distinct front places marks used entries
placed_again distinct front places marks used entries placed uses = subst (λ f. UsesAre distinct f places marks used entries) (sym placed) uses

pub placed_count : {A : Type 0} → (u : UsedEntries A) (entries : List A) → u.front ≡ None → AreUsesOf u entries
    → length u.places.items ≡ length entries
placed_count {A = A} u entries placed uses = by_entries entries (placed_of u entries placed uses)
  where
    by_entries : (es : List A) → UsesAre u.distinct None u.places.items u.marks.items u.used.items es
        → length u.places.items ≡ length es
    by_entries [] are = ap length are.no_places
    by_entries (x ∷ es) are = are.count

pub counted_of : {A : Type 0} → (u : UsedEntries A) (entries : List A) (count : ℕ) → u.front ≡ Some count → AreUsesOf u entries
    → AreCounted u.distinct entries count
counted_of {A = A} u entries count counted uses =
    by_entries entries (subst (λ f. UsesAre u.distinct f u.places.items u.marks.items u.used.items entries) counted uses)
  where
    by_entries : (es : List A) → UsesAre u.distinct (Some count) u.places.items u.marks.items u.used.items es
        → AreCounted u.distinct es count
    by_entries [] uses = absurd uses
    by_entries (x ∷ es) uses = uses

-- no entry was added
pub none_added : {A : Type 0} → (u : UsedEntries A) → AreUsesOf u []
    → (u.front ≡ None) × AreAllUsed u.distinct u.places.items u.marks.items u.used.items
none_added u uses = by_front u.front refl uses
  where
    by_front : (f : Option ℕ) → u.front ≡ f → UsesAre u.distinct f u.places.items u.marks.items u.used.items []
        → (u.front ≡ None) × AreAllUsed u.distinct u.places.items u.marks.items u.used.items
    by_front None placed are = (placed, are)
    by_front (Some count) counted are = absurd are

pub used_once : {A : Type 0} → (u : UsedEntries A) (entries : List A) → AreUsesOf u entries → AreDistinct (used_of u)
used_once {A = A} u entries uses = by_front u.front refl
  where
    by_placed : (es : List A) → u.front ≡ None → UsesAre u.distinct None u.places.items u.marks.items u.used.items es
        → AreDistinct (used_of u)
    by_placed [] placed uses = subst AreDistinct (sym (all_used u placed uses.no_places)) uses.apart
    by_placed (x ∷ es) placed uses =
        subst AreDistinct (sym (used_added u placed (let count = uses.count in omega arith))) uses.once

    by_front : (f : Option ℕ) → u.front ≡ f → AreDistinct (used_of u)
    by_front None placed = by_placed entries placed (placed_of u entries placed uses)
    by_front (Some count) counted =
        let are = counted_of u entries count counted uses in
        subst AreDistinct (sym (used_counted u count counted)) (distinct_front u.distinct count are.within are.apart)

-- with an entry at a place there are entries
pub some_added : {A : Type 0} → (distinct : List A) (places marks : List ℕ) (used entries : List A) (i : ℕ) (x : A)
    → UsesAre distinct None places marks used entries → slice_get entries i ≡ Some x
    → AreUses distinct places marks used entries × (0 < length places)
some_added distinct places marks used [] i x uses at = cc
some_added distinct places marks used (y ∷ entries) i x uses at = (uses, let count = uses.count in omega arith)

pub still_uses : {A : Type 0} → (distinct : List A) (places marks new_marks : List ℕ) (used longer entries : List A) (i : ℕ)
    → i < length places
    → UsesAre distinct None places marks used entries
    → (AreUses distinct places marks used entries → AreUses distinct places new_marks longer entries)
    → UsesAre distinct None places new_marks longer entries
still_uses distinct places marks new_marks used longer [] i within uses more = absurd (let none = ap length uses.no_places in omega arith)
still_uses distinct places marks new_marks used longer (x ∷ entries) i within uses more = more uses

-- no entry was added: what attributes brought is used by its marks
pub brought : {A : Type 0} → (u : UsedEntries A) (entries : List A) (marks : List ℕ) (used : List A)
    → UsesAre u.distinct None u.places.items u.marks.items u.used.items entries
    → u.places.items ≡ [] → AreFirstMarks marks (length u.distinct) (length u.distinct) → used ≡ u.distinct
    → AreUses u.distinct u.places.items marks used entries
brought u [] marks used uses none are_marks is =
    subst (λ us. AreUses u.distinct u.places.items marks us []) (sym is) (record {
      apart = uses.apart;
      count = ap length none;
      placed = λ i x at. cc;
      room = are_marks.count;
      marked = λ p i within at.
          let same : i ≡ p = omega (arith, are_marks.front p within within, at) in ap (slice_get u.distinct) same;
      once = uses.apart;
      recorded = λ i x at.
          let inside = slice_get_within u.distinct i x at in (i, at, λ zero_there. omega (arith, are_marks.front i inside inside, zero_there));
    })
brought u (x ∷ entries) marks used uses none are_marks is =
    let count = uses.count in let size = ap length none in absurd (omega arith)

pub is_added : {A : Type 0} → (distinct : List A) (places marks : List ℕ) (used entries : List A) (x : A)
    → AreUses distinct places marks used (entries ++ x ∷ []) → UsesAre distinct None places marks used (entries ++ x ∷ [])
is_added distinct places marks used [] x uses = uses
is_added distinct places marks used (y ∷ entries) x uses = uses

-- the first entries, which stand once each
module _ {A : Type 0} (u new : UsedEntries A) (before entries : List A) (placed : u.front ≡ None) (none : u.distinct ≡ [])
    (uses : AreUsesOf u before) where
  none_before : before ≡ []
  none_before = by_entries before (placed_of u before placed uses)
    where
      by_entries : (es : List A) → UsesAre u.distinct None u.places.items u.marks.items u.used.items es → es ≡ []
      by_entries [] uses = refl
      by_entries (x ∷ es) uses =
          let within = slice_get_within u.distinct _ x (uses.placed 0 x refl) in
          absurd (omega (arith, within, ap length none))

  pub are_counted : new.front ≡ Some 0 → new.distinct ≡ entries → AreDistinct entries → 0 < length entries
      → AreUsesOf new (before ++ entries)
  are_counted counted is apart some =
      subst (λ f. UsesAre new.distinct f new.places.items new.marks.items new.used.items (before ++ entries)) (sym counted)
      (subst (UsesAre new.distinct (Some 0) new.places.items new.marks.items new.used.items)
      (sym (ap (λ bs. bs ++ entries) none_before)) (by_entries entries is apart some))
    where
      by_entries : (es : List A) → new.distinct ≡ es → AreDistinct es → 0 < length es
          → UsesAre new.distinct (Some 0) new.places.items new.marks.items new.used.items es
      by_entries [] is apart some = absurd (omega arith)
      by_entries (x ∷ es) is apart some = record { apart = subst AreDistinct (sym is) apart; same = is; within = omega arith }

-- with one place more the list of what is used counts
pub used_kept : {A : Type 0} → (old new : UsedEntries A) (place : ℕ) → old.front ≡ None → new.front ≡ None
    → (old.places.items ≡ [] → old.used.items ≡ old.distinct)
    → new.places.items ≡ old.places.items ++ place ∷ [] → new.used.items ≡ old.used.items → used_of new ≡ used_of old
used_kept old new place placed still_placed kept pushed same =
    used_added new still_placed (omega (arith, ap length pushed, length_push old.places.items place)) ∙ same
    ∙ before old.places.items refl
  where
    before : (ps : List ℕ) → ps ≡ old.places.items → old.used.items ≡ used_of old
    before [] none = kept (sym none) ∙ sym (all_used old placed (sym none))
    before (p ∷ ps) some = sym (used_added old placed (omega (arith, ap length some)))

-- one of two entries at the places of a longer list
push_cases : {A : Type 0} → (xs : List A) (x y : A) (i : ℕ) → slice_get (xs ++ x ∷ []) i ≡ Some y
    → (slice_get xs i ≡ Some y) ⊎ ((i ≡ length xs) × (x ≡ y))
push_cases [] x y zero at = inr (refl, cc)
push_cases [] x y (suc i) at = cc
push_cases (w ∷ xs) x y zero at = inl at
push_cases (w ∷ xs) x y (suc i) at =
    elim (push_cases xs x y i at) [
      | inl front ↦ inl front
      | inr last ↦ inr (ap suc last.0, last.1)
    ]

-- ---- one entry more

pub grown : {A : Type 0} → (same : A → A → Bool) (decides : (x y : A) → Decides (same x y) (x ≡ y)) (old new : List A) (x : A)
    → (Contains old x → new ≡ old) → ((Contains old x → ⊥) → new ≡ old ++ x ∷ []) → (new ≡ old) ⊎ (new ≡ old ++ x ∷ [])
grown same decides old new x kept added =
    subst (λ ys. (ys ≡ old) ⊎ (ys ≡ old ++ x ∷ [])) (sym (put_is same decides old new x kept added))
    (put_cases same decides (λ ys. (ys ≡ old) ⊎ (ys ≡ old ++ x ∷ [])) old x (λ e. inl refl) (λ e. inr refl))

module _ {A : Type 0} (distinct : List A) (places marks : List ℕ) (used entries : List A) (x : A) (place : ℕ)
    (uses : AreUses distinct places marks used entries) where
  placed_more : (after : List A) → ((i : ℕ) (y : A) → slice_get distinct i ≡ Some y → slice_get after i ≡ Some y)
      → slice_get after place ≡ Some x → (i : ℕ) (y : A) → slice_get (entries ++ x ∷ []) i ≡ Some y
      → slice_get after (slice_index (places ++ place ∷ []) i) ≡ Some y
  placed_more after stay at i y at_i =
      elim (push_cases entries x y i at_i) [
        | inl front ↦ (
            let within : i < length places = omega (arith, uses.count, slice_get_within entries i y front) in
            ap (slice_get after) (get_or_append_left places (place ∷ []) 0 i within) ∙ stay _ y (uses.placed i y front))
        | inr last ↦ (
            let seam : get_or (places ++ place ∷ []) i 0 ≡ place =
            ap (λ k. get_or (places ++ place ∷ []) k 0) (last.0 ∙ sym uses.count) ∙ get_or-append_seam places place [] 0 in
            ap (slice_get after) seam ∙ at ∙ ap Some last.1)
      ]

  -- one that was there
  pub old_entry : slice_get distinct place ≡ Some x → AreUses distinct (places ++ place ∷ []) marks used (entries ++ x ∷ [])
  old_entry at = record {
    apart = uses.apart;
    count = omega (arith, length_push places place, length_push entries x, uses.count);
    placed = placed_more distinct (λ i y e. e) at;
    room = uses.room;
    marked = uses.marked;
    once = uses.once;
    recorded = uses.recorded;
  }

  -- one that is new
  pub new_entry : AreDistinct (distinct ++ x ∷ []) → slice_get (distinct ++ x ∷ []) place ≡ Some x
      → AreUses (distinct ++ x ∷ []) (places ++ place ∷ []) (marks ++ 0 ∷ []) used (entries ++ x ∷ [])
  new_entry apart at = record {
    apart = apart;
    count = omega (arith, length_push places place, length_push entries x, uses.count);
    placed = placed_more (distinct ++ x ∷ []) (λ i y e. slice_get-front distinct (x ∷ []) i y e) at;
    room = omega (arith, length_push marks 0, length_push distinct x, uses.room);
    marked = marked;
    once = uses.once;
    recorded = recorded;
  }
    where
      marked : (p i : ℕ) → p < length (distinct ++ x ∷ []) → slice_index (marks ++ 0 ∷ []) p ≡ i + 1
          → slice_get used i ≡ slice_get (distinct ++ x ∷ []) p
      marked p i within at_p =
          ⊎_elim
          (λ (e : p ≡ length marks).
          let zero_there : get_or (marks ++ 0 ∷ []) p 0 ≡ 0 =
          ap (λ k. get_or (marks ++ 0 ∷ []) k 0) e ∙ get_or-append_seam marks 0 [] 0 in
          absurd (omega (arith, zero_there, at_p)))
          (λ (ne : p ≡ length marks → ⊥).
          let small : p < length marks = omega (arith, within, ne, length_push distinct x, uses.room) in
          let before : slice_get used i ≡ slice_get distinct p =
          uses.marked p i (omega (arith, small, uses.room)) (sym (get_or_append_left marks (0 ∷ []) 0 p small) ∙ at_p) in
          let there : slice_get distinct p ≡ Some (get_or distinct p x) = slice_get-get_or distinct p x (omega (arith, small, uses.room)) in
          before ∙ there ∙ sym (slice_get-front distinct (x ∷ []) p (get_or distinct p x) there))
          (cases_eq p (length marks))

      recorded : (i : ℕ) (y : A) → slice_get used i ≡ Some y
          → (p : ℕ) × (slice_get (distinct ++ x ∷ []) p ≡ Some y) × (slice_index (marks ++ 0 ∷ []) p ≢ 0)
      recorded i y at_i =
          let before = uses.recorded i y at_i in
          let small : before.0 < length marks = omega (arith, uses.room, slice_get_within distinct before.0 y before.1) in (
            before.0,
            slice_get-front distinct (x ∷ []) before.0 y before.1,
            λ e. before.2 (sym (get_or_append_left marks (0 ∷ []) 0 before.0 small) ∙ e),
          )

pub uses_more : {A : Type 0} (distinct after : List A) (places new_places marks new_marks : List ℕ) (used entries : List A) (x : A)
    (place : ℕ)
    → AreUses distinct places marks used entries → (after ≡ distinct) ⊎ (after ≡ distinct ++ x ∷ []) → AreDistinct after
    → slice_get after place ≡ Some x → (length marks < length after → new_marks ≡ marks ++ 0 ∷ [])
    → (length after ≤ length marks → new_marks ≡ marks) → new_places ≡ places ++ place ∷ []
    → AreUses after new_places new_marks used (entries ++ x ∷ [])
uses_more distinct after places new_places marks new_marks used entries x place uses (inl e) apart at new same pushed =
    let marks_are : new_marks ≡ marks = same (omega (arith, uses.room, ap length e)) in
    subst (λ ps. AreUses after ps new_marks used (entries ++ x ∷ [])) (sym pushed)
    (subst (λ ms. AreUses after (places ++ place ∷ []) ms used (entries ++ x ∷ [])) (sym marks_are)
    (subst (λ ds. AreUses ds (places ++ place ∷ []) marks used (entries ++ x ∷ [])) (sym e)
    (old_entry distinct places marks used entries x place uses (ap (λ ds. slice_get ds place) (sym e) ∙ at))))
uses_more distinct after places new_places marks new_marks used entries x place uses (inr e) apart at new same pushed =
    let marks_are : new_marks ≡ marks ++ 0 ∷ [] = new (omega (arith, uses.room, ap length e, length_push distinct x)) in
    subst (λ ps. AreUses after ps new_marks used (entries ++ x ∷ [])) (sym pushed)
    (subst (λ ms. AreUses after (places ++ place ∷ []) ms used (entries ++ x ∷ [])) (sym marks_are)
    (subst (λ ds. AreUses ds (places ++ place ∷ []) (marks ++ 0 ∷ []) used (entries ++ x ∷ [])) (sym e)
    (new_entry distinct places marks used entries x place uses (subst AreDistinct e apart) (ap (λ ds. slice_get ds place) (sym e) ∙ at))))

-- ---- one use more

module _ {A : Type 0} (distinct : List A) (places marks : List ℕ) (used entries : List A)
    (uses : AreUses distinct places marks used entries)
    (entry : ℕ) (x : A) (at : slice_get entries entry ≡ Some x) where
  -- the entry stands among the distinct ones
  pub stands : slice_get distinct (slice_index places entry) ≡ Some x
  stands = uses.placed entry x at

  -- a mark tells where it is used
  pub used_there : (i : ℕ) → slice_index marks (slice_index places entry) ≡ i + 1 → slice_get used i ≡ Some x
  used_there i mark = uses.marked (slice_index places entry) i (slice_get_within distinct _ x stands) mark ∙ stands

  -- where there is none, it isn't
  pub not_used : slice_index marks (slice_index places entry) ≡ 0 → Contains used x → ⊥
  not_used none (i, within, is) =
      let recorded = uses.recorded i x (slice_get-get_or used i x within ∙ ap Some is) in
      let one = one_place distinct recorded.0 (slice_index places entry) x uses.apart recorded.1 stands in
      recorded.2 (ap (slice_index marks) one ∙ none)

  within : slice_index places entry < length marks
  within = omega (arith, uses.room, slice_get_within distinct (slice_index places entry) x stands)

  -- its mark, and the others
  mark_here : (q : ℕ) → q ≡ slice_index places entry
      → slice_index (set marks (slice_index places entry) (length used + 1)) q ≡ length used + 1
  mark_here q e =
      let p = slice_index places entry in
      ap (λ k. get_or (set marks p (length used + 1)) k 0) e ∙ get_or-set_same marks p (length used + 1) 0 within

  mark_there : (q : ℕ) → (q ≡ slice_index places entry → ⊥)
      → slice_index (set marks (slice_index places entry) (length used + 1)) q ≡ slice_index marks q
  mark_there q ne = get_or-set_other marks (slice_index places entry) q (length used + 1) 0 ne

  marked_more : (q i : ℕ) → q < length distinct
      → slice_index (set marks (slice_index places entry) (length used + 1)) q ≡ i + 1
      → slice_get (used ++ x ∷ []) i ≡ slice_get distinct q
  marked_more q i in_q at_q =
      ⊎_elim
      (λ (e : q ≡ slice_index places entry).
      let last : i ≡ length used = omega (arith, at_q, mark_here q e) in
      ap (slice_get (used ++ x ∷ [])) last ∙ last_there used x ∙ sym (ap (slice_get distinct) e ∙ stands))
      (λ (ne : q ≡ slice_index places entry → ⊥).
      let before : slice_get used i ≡ slice_get distinct q = uses.marked q i in_q (sym (mark_there q ne) ∙ at_q) in
      let there : slice_get distinct q ≡ Some (get_or distinct q x) = slice_get-get_or distinct q x in_q in
      slice_get-front used (x ∷ []) i (get_or distinct q x) (before ∙ there) ∙ sym there)
      (cases_eq q (slice_index places entry))

  still_marked : (q : ℕ) → slice_index marks q ≢ 0 → slice_index (set marks (slice_index places entry) (length used + 1)) q ≢ 0
  still_marked q marked e =
      ⊎_elim
      (λ (here : q ≡ slice_index places entry). let at = mark_here q here in absurd (omega arith))
      (λ (ne : q ≡ slice_index places entry → ⊥). marked (sym (mark_there q ne) ∙ e))
      (cases_eq q (slice_index places entry))

  recorded_more : (i : ℕ) (y : A) → slice_get (used ++ x ∷ []) i ≡ Some y
      → (q : ℕ) × (slice_get distinct q ≡ Some y) × (slice_index (set marks (slice_index places entry) (length used + 1)) q ≢ 0)
  recorded_more i y at_i =
      elim (push_cases used x y i at_i) [
        | inl front ↦ (let before = uses.recorded i y front in (before.0, before.1, still_marked before.0 before.2))
        | inr last ↦ (
          slice_index places entry,
          stands ∙ ap Some last.1,
          λ e. (let at = mark_here (slice_index places entry) refl in absurd (omega arith)),
        )
      ]

  -- the entry is used from now on
  pub use_more : slice_index marks (slice_index places entry) ≡ 0
      → AreUses distinct places (set marks (slice_index places entry) (length used + 1)) (used ++ x ∷ []) entries
  use_more none = record {
    apart = uses.apart;
    count = uses.count;
    placed = uses.placed;
    room = length-set marks (slice_index places entry) (length used + 1) ∙ uses.room;
    marked = marked_more;
    once = distinct_more used x uses.once (not_used none);
    recorded = recorded_more;
  }

-- what was read of a list
pub read_is : (xs : List ℕ) (i n : ℕ) → i < length xs → n ≡ get_or xs i n → n ≡ slice_index xs i
read_is xs i n lt e = e ∙ get_or_default xs i n 0 lt

pub read_at : (xs ys : List ℕ) (i n : ℕ) → xs ≡ ys → n ≡ get_or xs i n → n ≡ get_or ys i n
read_at xs ys i n same at = at ∙ ap (λ l. get_or l i n) same

-- the place and the mark of an entry, as they are read
module _ {A : Type 0} (distinct : List A) (places marks : List ℕ) (used entries : List A)
    (uses : AreUses distinct places marks used entries)
    (entry place : ℕ) (lt : entry < length entries) (read : place ≡ get_or places entry place) where
  pub place_is : place ≡ slice_index places entry
  place_is = read_is places entry place (omega (arith, lt, uses.count)) read

  pub place_stands : (x : A) → slice_get entries entry ≡ Some x → slice_get distinct place ≡ Some x
  place_stands x at = ap (slice_get distinct) place_is ∙ stands distinct places marks used entries uses entry x at

  pub place_within : place < length marks
  place_within =
      let (x, at) = there entries entry lt in
      omega (arith, uses.room, slice_get_within distinct place x (place_stands x at))

  module _ (mark : ℕ) (marked : mark ≡ get_or marks place mark) where
    mark_is : slice_index marks (slice_index places entry) ≡ mark
    mark_is = ap (slice_index marks) (sym place_is) ∙ sym (read_is marks place mark place_within marked)

    pub found_there : (x : A) → slice_get entries entry ≡ Some x → (mark ≡ 0 → ⊥) → slice_get used (mark - 1) ≡ Some x
    found_there x at some =
        used_there distinct places marks used entries uses entry x at (mark - 1) (let is = mark_is in omega (arith, some))

    pub found_none : (x : A) → slice_get entries entry ≡ Some x → mark ≡ 0 → Contains used x → ⊥
    found_none x at none = not_used distinct places marks used entries uses entry x at (mark_is ∙ none)

    pub used_more : (x : A) (count : ℕ) (longer : List A) → Some x ≡ slice_get distinct place → mark ≡ 0 → count ≡ length used
        → longer ≡ used ++ x ∷ [] → AreUses distinct places (set marks place (count + 1)) longer entries
    used_more x count longer here none counted grown =
        let (y, at) = there entries entry lt in
        let both : Some x ≡ Some y = here ∙ place_stands y at in
        let same : y ≡ x = cc in
        subst (λ us. AreUses distinct places (set marks place (count + 1)) us entries) (sym grown)
        (subst (λ c. AreUses distinct places (set marks place (c + 1)) (used ++ x ∷ []) entries) (sym counted)
        (subst (λ p. AreUses distinct places (set marks p (length used + 1)) (used ++ x ∷ []) entries) (sym place_is)
        (use_more distinct places marks used entries uses entry x (at ∙ ap Some same) (mark_is ∙ none))))

pub used_last : {A : Type 0} (used longer : List A) (x y : A) (count : ℕ) → count ≡ length used → longer ≡ used ++ x ∷ []
    → Some x ≡ Some y → slice_get longer count ≡ Some y
used_last used longer x y count counted grown same =
    ap (λ us. slice_get us count) grown ∙ ap (slice_get (used ++ x ∷ [])) counted ∙ last_there used x ∙ same

-- ---- pools by attributes, from the front on

abbrev key_of : Attribute → List ℕ
key_of a = a.key

abbrev value_of : Attribute → Value
value_of a = a.value

module _ {A : Type 0} (same : A → A → Bool) (decides : (x y : A) → Decides (same x y) (x ≡ y)) (part : Attribute → A) where
  pool_start : (held : List A) → AreDistinct held → held ≡ first_use same (held ++ map part [])
  pool_start held distinct = sym (ap (first_use same) (append-nil held) ∙ first_use-own same decides held distinct)

  pool_push : (held pool after : List A) (done : List Attribute) (a : Attribute) → pool ≡ first_use same (held ++ map part done)
      → (Contains pool (part a) → after ≡ pool) → ((Contains pool (part a) → ⊥) → after ≡ pool ++ part a ∷ [])
      → after ≡ first_use same (held ++ map part (done ++ a ∷ []))
  pool_push held pool after done a so_far kept added =
      put_is same decides pool after (part a) kept added
      ∙ ap (λ p. put same decides p (part a)) so_far
      ∙ sym (first_use-push same decides (held ++ map part done) (part a))
      ∙ ap (first_use same) (append_assoc held (map part done) (part a ∷ [])
      ∙ ap (λ xs. held ++ xs) (sym (map-append part done (a ∷ []))))

  pool_more : (pool after : List A) (x : A) → (Contains pool x → after ≡ pool) → ((Contains pool x → ⊥) → after ≡ pool ++ x ∷ [])
      → (more : List A) × (after ≡ pool ++ more)
  pool_more pool after x kept added =
      elim (grown same decides pool after x kept added) [
        | inl e ↦ ([], e ∙ sym (append-nil pool))
        | inr e ↦ (x ∷ [], e)
      ]

-- tags so far, of attributes whose entries are used: those that were used before, and theirs
pub tags_start : (keys : List (List ℕ)) (values : List Value) → AreDistinct keys → AreDistinct values
    → TagsSoFar [] keys keys values values []
tags_start keys values distinct_keys distinct_values = record {
  keys_are = pool_start bytes_eq bytes_eq-Decides key_of keys distinct_keys;
  values_are = pool_start equal_values equal_values-Decides value_of values distinct_values;
  names = names_none keys values;
}

pub tags_step : (done : List Attribute) (held_keys keys new_keys : List (List ℕ)) (held_values values new_values : List Value)
    (tags : List ℕ) (a : Attribute) (k v : ℕ) → TagsSoFar done held_keys keys held_values values tags
    → IsPut keys new_keys a.key → IsPut values new_values a.value
    → slice_get new_keys k ≡ Some a.key → slice_get new_values v ≡ Some a.value
    → TagsSoFar (done ++ a ∷ []) held_keys new_keys held_values new_values (tags ++ k ∷ (v ∷ []))
tags_step done held_keys keys new_keys held_values values new_values tags a k v so_far key value at_k at_v =
    let more_keys = pool_more bytes_eq bytes_eq-Decides key_of keys new_keys a.key key.kept key.added in
    let more_values = pool_more equal_values equal_values-Decides value_of values new_values a.value value.kept value.added in
    let longer : Names new_keys new_values tags done =
    subst (λ ks. Names ks new_values tags done) (sym more_keys.1)
    (subst (λ vs. Names (keys ++ more_keys.0) vs tags done) (sym more_values.1)
    (names_longer keys more_keys.0 values more_values.0 tags done so_far.names)) in
    record {
      keys_are = pool_push bytes_eq bytes_eq-Decides key_of held_keys keys new_keys done a so_far.keys_are key.kept key.added;
      values_are =
          pool_push equal_values equal_values-Decides value_of held_values values new_values done a so_far.values_are
          value.kept value.added;
      names = names_push new_keys new_values tags done k v a longer at_k at_v;
    }

-- in the end tags are places
pub tags_are_places : (attributes : List Attribute) (held_keys keys : List (List ℕ)) (held_values values : List Value) (tags : List ℕ)
    → TagsSoFar attributes held_keys keys held_values values tags → tags ≡ tags_in keys values attributes
tags_are_places attributes held_keys keys held_values values tags all =
    let distinct_keys : AreDistinct keys = subst AreDistinct (sym all.keys_are) (first_use-distinct bytes_eq bytes_eq-Decides _) in
    let distinct_values : AreDistinct values = subst AreDistinct (sym all.values_are)
    (first_use-distinct equal_values equal_values-Decides _) in
    names_places keys [] values [] tags attributes distinct_keys distinct_values all.names
    ∙ ap₂ (λ ks vs. tags_in ks vs attributes) (append-nil keys) (append-nil values)

-- ---- a walk over tags

module _ (keys : List (List ℕ)) (values : List Value) (attributes : List Attribute) (old : LayerEntries) (before : List ℕ) where
  pub used_start : (tags : List ℕ) → HasUses old keys values → Names keys values tags attributes
      → UsedSoFar keys values attributes tags old old before before
  used_start tags uses names = record {
    done = [];
    to_come = attributes;
    parts = refl;
    named = related_from_names keys values tags attributes names;
    uses = uses;
    tags = [];
    out = sym (append-nil before);
    so_far = tags_start (used_of old.keys) (used_of old.values) (used_once old.keys keys uses.0) (used_once old.values values uses.1);
  }

  pub used_step : (rest left : List ℕ) (now next : LayerEntries) (after longer : List ℕ) (k v : ℕ)
      → (so_far : UsedSoFar keys values attributes rest old now before after) → (some : 2 ≤ length rest)
      → left ≡ drop 2 rest → HasUses next keys values
      → ((x : List ℕ) → slice_get keys (get_or rest 0 0) ≡ Some x
      → IsPut (used_of now.keys) (used_of next.keys) x × (slice_get (used_of next.keys) k ≡ Some x))
      → ((x : Value) → slice_get values (get_or rest 1 0) ≡ Some x
      → IsPut (used_of now.values) (used_of next.values) x × (slice_get (used_of next.values) v ≡ Some x))
      → longer ≡ after ++ k ∷ (v ∷ []) → UsedSoFar keys values attributes left old next before longer
  used_step rest left now next after longer k v so_far some is uses key value grown =
      let front = named_front keys values rest so_far.to_come some so_far.named in
      let a = front.0 in
      let of_key = key a.key front.3.0 in
      let of_value = value a.value front.3.1 in
      record {
        done = so_far.done ++ a ∷ [];
        to_come = front.1;
        parts = so_far.parts ∙ ap (λ as'. so_far.done ++ as') front.2 ∙ sym (append_assoc so_far.done (a ∷ []) front.1);
        named = subst (λ l. AreRelated (NamesOne keys values) (pairs_of l) front.1) (sym is) front.4;
        uses = uses;
        tags = so_far.tags ++ k ∷ (v ∷ []);
        out = grown ∙ ap (λ o. o ++ k ∷ (v ∷ [])) so_far.out ∙ append_assoc before so_far.tags (k ∷ (v ∷ []));
        so_far = tags_step so_far.done (used_of old.keys) (used_of now.keys) (used_of next.keys) (used_of old.values)
            (used_of now.values) (used_of next.values) so_far.tags a k v so_far.so_far of_key.0 of_value.0 of_key.1 of_value.1;
      }

  module _ (rest : List ℕ) (now : LayerEntries) (after : List ℕ) (so_far : UsedSoFar keys values attributes rest old now before after)
      (none : length rest < 2) where
    used_all : so_far.done ≡ attributes
    used_all =
        sym (so_far.parts
        ∙ ap (λ as'. so_far.done ++ as') (named_none keys values rest so_far.to_come none so_far.named) ∙ append-nil so_far.done)

    all_so_far : TagsSoFar attributes (used_of old.keys) (used_of now.keys) (used_of old.values) (used_of now.values) so_far.tags
    all_so_far =
        subst
        (λ as'. TagsSoFar as' (used_of old.keys) (used_of now.keys) (used_of old.values) (used_of now.values) so_far.tags) used_all
        so_far.so_far

    places : so_far.tags ≡ tags_in (used_of now.keys) (used_of now.values) attributes
    places =
        tags_are_places attributes (used_of old.keys) (used_of now.keys) (used_of old.values) (used_of now.values) so_far.tags
        all_so_far

    pub used_end : IsUsedBy attributes old now
    used_end = record {
      keys = all_so_far.keys_are;
      values = all_so_far.values_are;
      names = subst (λ ts. Names (used_of now.keys) (used_of now.values) ts attributes) places all_so_far.names;
    }

    pub tags_end : after ≡ before ++ tags_in (used_of now.keys) (used_of now.values) attributes
    tags_end = so_far.out ∙ ap (λ ts. before ++ ts) places

-- the entries that were added

entries_are : {A : Type 0} → (distinct : List A) (places : List ℕ) (entries : List A) → length places ≡ length entries
    → ((i : ℕ) (x : A) → slice_get entries i ≡ Some x → slice_get distinct (slice_index places i) ≡ Some x)
    → entries ≡ entries_at distinct places
entries_are distinct [] [] size placed = refl
entries_are distinct [] (x ∷ entries) size placed = absurd (omega (arith, size))
entries_are distinct (p ∷ places) [] size placed = absurd (omega (arith, size))
entries_are distinct (p ∷ places) (x ∷ entries) size placed =
    ap (λ ys. x ∷ ys) (entries_are distinct places entries (omega (arith, size)) (λ i y at. placed (suc i) y at))
    ∙ ap (λ o. option_to_list o ++ entries_at distinct places) (sym (placed 0 x refl))

pub entries_told : {A : Type 0} → (uses : UsedEntries A) (entries : List A) → AreUsesOf uses entries → entries ≡ entries_of uses
entries_told {A = A} uses entries are = by_front uses.front refl
  where
    by_placed : (es : List A) → UsesAre uses.distinct None uses.places.items uses.marks.items uses.used.items es
        → es ≡ entries_at uses.distinct uses.places.items
    by_placed [] are = sym (ap (entries_at uses.distinct) are.no_places)
    by_placed (x ∷ es) are = entries_are uses.distinct uses.places.items (x ∷ es) are.count are.placed

    by_front : (f : Option ℕ) → uses.front ≡ f → entries ≡ entries_of uses
    by_front None placed =
        by_placed entries (placed_of uses entries placed are)
        ∙ ap (λ f. entries_in uses.distinct f uses.places.items) (sym placed)
    by_front (Some count) counted =
        sym (counted_of uses entries count counted are).same
        ∙ ap (λ f. entries_in uses.distinct f uses.places.items) (sym counted)

pub keys_told : (uses : UsedEntries (List ℕ)) (entries : List (List ℕ)) → AreUsesOf uses entries → entries ≡ entries_of uses
keys_told uses entries are = entries_told uses entries are

pub values_told : (uses : UsedEntries Value) (entries : List Value) → AreUsesOf uses entries → entries ≡ entries_of uses
values_told uses entries are = entries_told uses entries are
