-- What a builder holds, step by step.
use Rattle.std.proofs.Common.{◌≡◌, ℕ, zero, suc, ◌+◌, ◌-◌, ◌<◌, ◌≤◌, Bool, true, false, cond, List, [], ◌∷◌, ◌++◌, length, Some, Ok, Contains, Decides, nat_lt, slice_get, Option, None, Result, Err, IfOk, IfErr, IfSome, OnOk, OnErr, IsSomeAnd, IsErrOf, refl, sym, ap, ap₂, subst, ◌∙◌, inl, inr, arith, rules, tests, length-append, append_assoc, append-nil, unwrap_or, is_some}
use Rattle.std.specs.declared.alloc.AllocError.{AllocError}
use Rattle.std.proofs.lemmas.Bool.{cases_lt, false≢true, false_from_ne_true}
use Rattle.std.proofs.lemmas.List.Sums.{fold-append}
use Rattle.std.proofs.lemmas.Option.{slice_get_within, get_or_from_slice_get, slice_get-get_or}
use Rattle.mvt_attrs.specs.FirstUse.{AreDistinct}
use Rattle.mvt_attrs.specs.Placed.{IsPlaced}
use Rattle.mvt_attrs.specs.TagPlaces.{place_in}
use Rattle.mvt_rows.specs.declared.builder.BuildError.{BuildError}
use Rattle.mvt_rows.specs.declared.builder.BuildError.TheVariants.{Memory, OutOfTurn}
use Rattle.mvt_rows.specs.declared.builder.Builder.{Builder}
use Rattle.mvt_rows.specs.declared.builder.OpenFeature.{OpenFeature}
use Rattle.mvt_rows.specs.declared.builder.Turn.{Turn}
use Rattle.mvt_rows.specs.declared.builder.Turn.TheVariants as turn
use Rattle.mvt_rows.specs.declared.rows.FeatureRow.{FeatureRow}
use Rattle.mvt_rows.specs.declared.rows.PartRow.{PartRow}
use Rattle.mvt_rows.specs.declared.rows.PointRow.{PointRow}
use Rattle.mvt_rows.specs.declared.words.Given.{Given}
use Rattle.mvt_rows.specs.Building.{HasTold, Holds, IsCalled, open_feature, with_points_of}
use Rattle.mvt_rows.specs.Tables.{Table, truth_number}
use Rattle.mvt_rows.specs.Told.{Told, ToldPart, ToldFeature, ToldLayer, Begun, new_part, Nothing, InLayer, InFeature, InPart, part_ended, feature_ended, with_part, same_given, with_entry}
use Rattle.mvt_rows.specs.ToldRows.{part_rows, points_of, with_drawn, told_row, with_told_feature, with_told_features}

-- ---- a part more

abbrev pub one_row : ℕ → ToldPart → PartRow
one_row start p = record { exterior = truth_number p.exterior; points = record { start = start; len = length p.points } }

points_of-push : (parts : List ToldPart) (p : ToldPart) → points_of (parts ++ p ∷ []) ≡ points_of parts ++ p.points
points_of-push [] p = append-nil p.points
points_of-push (q ∷ parts) p = ap (λ l. q.points ++ l) (points_of-push parts p) ∙ sym (append_assoc q.points (points_of parts) p.points)

part_rows-push : (start : ℕ) (parts : List ToldPart) (p : ToldPart)
    → part_rows start (parts ++ p ∷ []) ≡ part_rows start parts ++ one_row (start + length (points_of parts)) p ∷ []
part_rows-push start [] p = ap (λ n. one_row n p ∷ []) (omega arith)
part_rows-push start (q ∷ parts) p =
    let row : PartRow = one_row start q in
    ap (λ l. row ∷ l)
    (part_rows-push (start + length q.points) parts p
    ∙ ap (λ n. part_rows (start + length q.points) parts ++ one_row n p ∷ []) (omega (arith, length-append q.points (points_of parts))))

pub length-part_rows : (start : ℕ) (parts : List ToldPart) → length (part_rows start parts) ≡ length parts
length-part_rows start [] = refl
length-part_rows start (q ∷ parts) = omega (arith, length-part_rows (start + length q.points) parts)

-- the row of a part, from what a builder keeps of it
abbrev pub row_from : Bool → ℕ → List PointRow → PartRow
row_from exterior at points = record { exterior = truth_number exterior; points = record { start = at; len = length points - at } }

row_is : (held : List PointRow) (p : ToldPart) (exterior : Bool) (at : ℕ) → exterior ≡ p.exterior → at ≡ length held
    → row_from exterior at (held ++ p.points) ≡ one_row (length held) p
row_is held p exterior at e begins =
    let count : length (held ++ p.points) - at ≡ length p.points = omega (arith, begins, length-append held p.points) in
    λ j. record { exterior = truth_number (e j); points = record { start = begins j; len = count j } }

-- a table with the row of the part that was told last
abbrev pub with_row : Table → Bool → ℕ → Table
with_row t exterior at = record t { parts = t.parts ++ row_from exterior at t.points ∷ [] }

drawn_more : (t : Table) (f : ToldFeature) (p : ToldPart) (exterior : Bool) (at : ℕ) → exterior ≡ p.exterior
    → at ≡ length (with_drawn t f).points → with_row (with_points_of (with_drawn t f) p) exterior at ≡ with_drawn t (with_part f p)
drawn_more t f p exterior at e begins =
    let held = t.points ++ points_of f.parts in
    let parts : (t.parts ++ part_rows (length t.points) f.parts) ++ row_from exterior at (held ++ p.points) ∷ []
    ≡ t.parts ++ part_rows (length t.points) (f.parts ++ p ∷ []) =
    append_assoc t.parts (part_rows (length t.points) f.parts) _
    ∙ ap (λ l. t.parts ++ l)
    (ap (λ (row : PartRow). part_rows (length t.points) f.parts ++ row ∷ [])
    (row_is held p exterior at e begins ∙ ap (λ n. one_row n p) (length-append t.points (points_of f.parts)))
    ∙ sym (part_rows-push (length t.points) f.parts p)) in
    let points : held ++ p.points ≡ t.points ++ points_of (f.parts ++ p ∷ []) =
    append_assoc t.points (points_of f.parts) p.points ∙ ap (λ l. t.points ++ l) (sym (points_of-push f.parts p)) in
    λ j. record t {
      tags = t.tags ++ f.tags;
      parts = parts j;
      points = points j;
      integers = t.integers ++ f.integers;
    }

-- a part with its points, whose row is added at once
pub part_more : (b : Builder) (after : Table) (t : Table) (l : ToldLayer) (f : ToldFeature) (exterior : Bool) (points : List PointRow)
    → Holds b t (InFeature l f)
    → after ≡ with_row (with_points_of b.table (new_part exterior points)) exterior (length b.table.points)
    → Holds (record b { table = after }) t (InFeature l (with_part f (new_part exterior points)))
part_more b after t l f exterior points h e = (
  h.0,
  record { name = h.1.name; extent = h.1.extent; open_at = h.1.open_at; keys = h.1.keys; values = h.1.values },
  h.2,
  e ∙ ap (λ held. with_row (with_points_of held (new_part exterior points)) exterior (length held.points)) h.3
      ∙ drawn_more (with_told_features t l.features) f (new_part exterior points) exterior
      (length (with_drawn (with_told_features t l.features) f).points) refl refl,
)

-- ---- what ends

is_part : Turn → Bool
is_part turn.Nothing = false
is_part turn.Layer = false
is_part turn.Feature = false
is_part turn.Part = true

pub part_over : (b : Builder) (after : Table) (t : Table) (begun : Begun) → b.turn ≡ turn.Part
    → after ≡ with_row b.table b.exterior b.part_at → Holds b t begun
    → Holds (record b { table = after; turn = turn.Feature }) t (part_ended begun)
unfolding is_part
part_over b after t Nothing is e h = absurd (false≢true (ap is_part (sym h.0 ∙ is)))
part_over b after t (InLayer l) is e h = absurd (false≢true (ap is_part (sym h.0 ∙ is)))
part_over b after t (InFeature l f) is e h = absurd (false≢true (ap is_part (sym h.0 ∙ is)))
part_over b after t (InPart l f p) is e h = (
  refl,
  record { name = h.1.name; extent = h.1.extent; open_at = h.1.open_at; keys = h.1.keys; values = h.1.values },
  h.2,
  e ∙ ap (λ held. with_row held b.exterior b.part_at) h.5 ∙ drawn_more (with_told_features t l.features) f p b.exterior b.part_at h.3 h.4,
)

-- the row of a feature, from what a builder keeps of it
abbrev feature_from : Table → OpenFeature → FeatureRow
feature_from t begun = record {
  id = unwrap_or begun.id 0;
  has_id = truth_number (is_some begun.id);
  kind = begun.kind;
  tags = record { start = begun.tags_at; len = length t.tags - begun.tags_at };
  parts = record { start = begun.parts_at; len = length t.parts - begun.parts_at };
  integers = record { start = begun.integers_at; len = length t.integers - begun.integers_at };
}

feature_is : (t : Table) (f : ToldFeature) → feature_from (with_drawn t f) (open_feature t f) ≡ told_row t f
feature_is t f =
    let tags : length (t.tags ++ f.tags) - length t.tags ≡ length f.tags = omega (arith, length-append t.tags f.tags) in
    let rows = part_rows (length t.points) f.parts in
    let parts : length (t.parts ++ rows) - length t.parts ≡ length f.parts =
    omega (arith, length-append t.parts rows, length-part_rows (length t.points) f.parts) in
    let integers : length (t.integers ++ f.integers) - length t.integers ≡ length f.integers =
    omega (arith, length-append t.integers f.integers) in
    λ j. record {
      id = unwrap_or f.id 0;
      has_id = truth_number (is_some f.id);
      kind = f.kind;
      tags = record { start = length t.tags; len = tags j };
      parts = record { start = length t.parts; len = parts j };
      integers = record { start = length t.integers; len = integers j };
    }

abbrev with_feature_from : Table → OpenFeature → Table
with_feature_from t begun = record t { features = t.features ++ feature_from t begun ∷ [] }

feature_more : (t : Table) (f : ToldFeature) → with_feature_from (with_drawn t f) (open_feature t f) ≡ with_told_feature t f
feature_more t f =
    ap (λ (row : FeatureRow). let made : Table = record (with_drawn t f) { features = t.features ++ row ∷ [] } in made) (feature_is t f)

pub feature_over : (b : Builder) (after : Table) (t : Table) (begun : Begun) → b.turn ≡ turn.Feature
    → after ≡ with_feature_from b.table b.feature → Holds b t begun
    → Holds (record b { table = after; turn = turn.Layer }) t (feature_ended begun)
feature_over b after t Nothing is e h = grind arith
feature_over b after t (InLayer l) is e h = grind arith
feature_over b after t (InPart l f p) is e h = grind arith
feature_over b after t (InFeature l f) is e h = (
  refl,
  record { name = h.1.name; extent = h.1.extent; open_at = h.1.open_at; keys = h.1.keys; values = h.1.values },
  e ∙ ap₂ with_feature_from h.3 h.2 ∙ feature_more (with_told_features t l.features) f
      ∙ sym (fold-append with_told_feature t l.features (f ∷ [])),
)

pub ended_twice : (begun : Begun) → feature_ended (part_ended begun) ≡ feature_ended begun
ended_twice Nothing = refl
ended_twice (InLayer l) = refl
ended_twice (InFeature l f) = refl
ended_twice (InPart l f p) = refl

-- ---- entries of pools

module _ {A : Type 0} (same : A → A → Bool) (decides : (x y : A) → Decides (same x y) (x ≡ y)) where
  place_there : (ys : List A) (x : A) → place_in same ys x < length ys → slice_get ys (place_in same ys x) ≡ Some x
  place_there [] x lt = absurd (omega (arith, lt))
  place_there (y ∷ ys) x lt = by (same y x) refl lt (place_there ys x)
    where
      by : (b : Bool) → same y x ≡ b → cond b 0 (suc (place_in same ys x)) < length (y ∷ ys)
          → (place_in same ys x < length ys → slice_get ys (place_in same ys x) ≡ Some x)
          → slice_get (y ∷ ys) (cond b 0 (suc (place_in same ys x))) ≡ Some x
      by true e lt rest = ap Some ((decides y x).0 e)
      by false e lt rest = rest (omega (arith, lt))

  place_of_distinct : (xs : List A) (i : ℕ) (x : A) → AreDistinct xs → slice_get xs i ≡ Some x → place_in same xs x ≡ i
  place_of_distinct [] i x distinct at = cc
  place_of_distinct (y ∷ ys) zero x distinct at =
      let one : y ≡ x = cc in
      ap (λ b. cond b 0 (suc (place_in same ys x))) ((decides y x).1 one)
  place_of_distinct (y ∷ ys) (suc i) x distinct at =
      let within = slice_get_within ys i x at in
      let other : same y x ≡ false =
      false_from_ne_true (same y x)
      (λ e. distinct 0 (suc i) y (omega arith) (omega arith) ((decides y x).0 e ∙ sym (get_or_from_slice_get ys i x y at))) in
      ap (λ b. cond b 0 (suc (place_in same ys x))) other
      ∙ ap suc (place_of_distinct ys i x (λ j k d before small. distinct (suc j) (suc k) d (omega arith) (omega arith)) at)

  place_of_none : (ys : List A) (x : A) → (Contains ys x → ⊥) → place_in same ys x ≡ length ys
  place_of_none [] x absent = refl
  place_of_none (y ∷ ys) x absent =
      let other : same y x ≡ false = false_from_ne_true (same y x) (λ e. absent (0, omega arith, (decides y x).0 e)) in
      ap (λ b. cond b 0 (suc (place_in same ys x))) other
      ∙ ap suc (place_of_none ys x (λ h. absent (suc h.0, omega (arith, h.1), h.2)))

  last_place : (xs : List A) (x : A) (i : ℕ) → (Contains xs x → ⊥) → slice_get (xs ++ x ∷ []) i ≡ Some x → i ≡ length xs
  last_place [] x zero absent at = refl
  last_place [] x (suc i) absent at = cc
  last_place (y ∷ xs) x zero absent at =
      let one : y ≡ x = cc in
      absurd (absent (0, omega arith, one))
  last_place (y ∷ xs) x (suc i) absent at = ap suc (last_place xs x i (λ h. absent (suc h.0, omega (arith, h.1), h.2)) at)

  contains_at : (xs : List A) (x : A) (i : ℕ) → slice_get xs i ≡ Some x → Contains xs x
  contains_at xs x i at = (i, slice_get_within xs i x at, get_or_from_slice_get xs i x x at)

  at_contained : (xs : List A) (x : A) (h : Contains xs x) → slice_get xs h.0 ≡ Some x
  at_contained xs x h = slice_get-get_or xs h.0 x h.1 ∙ ap Some h.2

  -- an entry that was placed is where it stands first, or last where it is new
  pub placed_entry : (old new : List A) (x : A) (i : ℕ) → AreDistinct old → IsPlaced old new x (Ok i)
      → (i ≡ place_in same old x) × (new ≡ with_entry same old x)
  placed_entry old new x i distinct placed =
      elim (cases_lt (place_in same old x) (length old)) [
        | inl there ↦ (
            let has = contains_at old x (place_in same old x) (place_there old x there) in
            let kept = placed.kept has in (
              sym (place_of_distinct old i x distinct (subst (λ l. slice_get l i ≡ Some x) kept placed.index)),
              kept ∙ sym (test_true (place_in same old x) (length old) old (old ++ x ∷ []) there),
            )
            )
        | inr beyond ↦ (
            let absent : Contains old x → ⊥ =
            (λ h. omega (arith, beyond, h.1, place_of_distinct old h.0 x distinct (at_contained old x h))) in
            let added = placed.added absent in (
              last_place old x i absent (subst (λ l. slice_get l i ≡ Some x) added placed.index) ∙ sym (place_of_none old x absent),
              added ∙ sym (test_false (place_in same old x) (length old) old (old ++ x ∷ []) beyond),
            )
            )
      ]
    where
      test_true : (m n : ℕ) (a b : List A) → m < n → cond (nat_lt m n) a b ≡ a
      test_true m n a b lt = search (rules, tests)

      test_false : (m n : ℕ) (a b : List A) → n ≤ m → cond (nat_lt m n) a b ≡ b
      test_false m n a b le = search (rules, tests)

module _ {A : Type 0} (same : A → A → Bool) (decides : (x y : A) → Decides (same x y) (x ≡ y)) (old new : List A) (x : A)
    (distinct : AreDistinct old) where
  -- what is answered of an entry, and what becomes of all that holds the pool
  pub placed_index : (r : Result ℕ AllocError) → IfOk r (λ i. IsPlaced old new x (Ok i)) → IfOk r (λ i. i ≡ place_in same old x)
  placed_index (Ok i) placed = (placed_entry same decides old new x i distinct placed).0
  placed_index (Err e) placed = tt

  pub placed_in : {B : Type 0} (f : List A → B) (r : Result ℕ AllocError) → IfOk r (λ i. IsPlaced old new x (Ok i))
      → OnOk r (f new ≡ f (with_entry same old x))
  placed_in f (Ok i) placed = ap f (placed_entry same decides old new x i distinct placed).1
  placed_in f (Err e) placed = tt

pub same_given-decides : (a b : Given) → Decides (same_given a b) (a ≡ b)
same_given-decides a b = search rules

-- ---- what a call answers that is due and wants memory

ok_not_err : {A E : Type 0} (x : A) (e : E) → Ok x ≡ Err e → ⊥
ok_not_err x e same = grind arith

pub some_not_none : {A : Type 0} (x : A) → Some x ≡ None → ⊥
some_not_none x same = grind arith

not_late : {A : Type 0} (r : Result A BuildError) → r ≡ Err Memory → r ≡ Err OutOfTurn → ⊥
not_late r memory late = grind arith

pub called : {A : Type 0} (old mid new : Builder) (made : Result A AllocError) (result : Result A BuildError) (next : Told → Option Told)
    → old.failure ≡ None → OnOk made ((told : Told) → HasTold old told → IsSomeAnd (next told) (HasTold mid))
    → ((told : Told) → HasTold old told → next told ≡ None → ⊥)
    → IfOk made (λ x. (result ≡ Ok x) × (new ≡ mid)) → OnErr made ((result ≡ Err Memory) × (new.failure ≡ Some Memory))
    → IsCalled old new result next
called old mid new (Ok x) result next fresh step due ok err = record {
  done = subst (λ r. OnOk r ((told : Told) → HasTold old told → IsSomeAnd (next told) (HasTold new))) (sym ok.0)
      (λ told h. subst (λ b. IsSomeAnd (next told) (HasTold b)) (sym ok.1) (step told h));
  due = λ told h. ((λ late. absurd (ok_not_err x OutOfTurn (sym ok.0 ∙ late))), (λ none. absurd (due told h none)));
  failed = subst (λ r. IfErr r (λ error. new.failure ≡ Some error)) (sym ok.0) tt;
  sticky = subst (λ f. IfSome f (λ error. IsErrOf result error × (new ≡ old))) (sym fresh) tt;
}
called old mid new (Err e) result next fresh step due ok err = record {
  done = subst (λ r. OnOk r ((told : Told) → HasTold old told → IsSomeAnd (next told) (HasTold new))) (sym err.0) tt;
  due = λ told h. ((λ late. absurd (not_late result err.0 late)), (λ none. absurd (due told h none)));
  failed = subst (λ r. IfErr r (λ error. new.failure ≡ Some error)) (sym err.0) err.1;
  sticky = subst (λ f. IfSome f (λ error. IsErrOf result error × (new ≡ old))) (sym fresh) tt;
}
