-- The kinds of value that occur in fields.
use Rattle.std.proofs.Common.{◌≡◌, ℕ, ◌+◌, ◌==◌, ◌&&◌, Bool, true, false, List, [], ◌∷◌, ◌++◌, Option, Some, None, Ok, refl, sym, ap, ◌∙◌, append_assoc, append-nil, subst, if◌then◌else◌}
use Rattle.std.specs.Prelude.{IfSome, MatchOption}
use Rattle.std.specs.List.{list_all, last_or}
use Rattle.std.proofs.Math.Bool.{and-true}
use Rattle.std.proofs.lemmas.Bool.{eqb-true, eqb-false, eq-eqb, ne_eqb, and_left, and_right, and_parts, and_from}
use Rattle.std.proofs.lemmas.List.Elements.{filter-append}
use Rattle.std.proofs.lemmas.List.Folds.{list_all-append}
use Rattle.mvt_base.specs.Rules.{each, first}
use Rattle.mvt_base.proofs.RuleLemmas.{each_more, each_stops, first-map_faults}
use Rattle.mvt_base.proofs.SelectionLemmas.{last_or-more}
use Rattle.mvt_attrs.specs.Values.{Value}
use Rattle.mvt_wire.specs.Field.{Entry, IsFieldAt}
use Rattle.mvt_wire.proofs.WireLaws.{field_function_end}
use Rattle.mvt_feature.specs.declared.cause.Cause.{Cause}
use Rattle.mvt_feature.specs.declared.value.Kinds.{Kinds}
use Rattle.mvt_feature.specs.declared.value.Kinds.TheVariants.{Nothing, One, Several}
use Rattle.mvt_feature.specs.Faults.{fault_at}
use Rattle.mvt_feature.specs.Forms.{number_rules}
use Rattle.mvt_feature.specs.Values.{value_forms, IsValueOf, Means}
use Rattle.mvt_feature.specs.ValueRules.{is_kind, kinds, are_one_kind, value_field_rules}
use Rattle.mvt_feature.proofs.ValueLemmas.{rules_clean, value_from}
use Rattle.mvt_feature.specs.Inner.{kinds_with, AreKindsOf, AreSoFar}

kinds_take : (done : List Entry) (x : Entry) → is_kind x ≡ true → kinds (done ++ x ∷ []) ≡ kinds done ++ x ∷ []
kinds_take done x h = filter-append is_kind done (x ∷ []) ∙ ap (λ b. kinds done ++ (if b then x ∷ [] else [])) h

kinds_skip : (done : List Entry) (x : Entry) → is_kind x ≡ false → kinds (done ++ x ∷ []) ≡ kinds done
kinds_skip done x h = filter-append is_kind done (x ∷ []) ∙ ap (λ b. kinds done ++ (if b then x ∷ [] else [])) h ∙ append-nil (kinds done)

-- the last of fields of one number has that number
same_number : (k : ℕ) (o : Entry) (xs : List Entry) (last : Entry) → o.number ≡ k
    → list_all (λ (y : Entry). y.number == k) xs ≡ true → last_or (Some o) xs ≡ Some last → last.number ≡ k
same_number k o [] last e all is =
    let same : o ≡ last = cc in
    ap (λ (x : Entry). x.number) (sym same) ∙ e
same_number k o (x ∷ xs) last e all is =
    let parts = and_parts (x.number == k) (list_all (λ (y : Entry). y.number == k) xs) all in
    same_number k x xs last (eqb-true x.number k parts.0) parts.1 is

one_number : (y : Entry) (ys : List Entry) (x : Entry) → are_one_kind (y ∷ ys ++ x ∷ []) ≡ (are_one_kind (y ∷ ys) && (x.number == y.number))
one_number y ys x =
    list_all-append (λ (z : Entry). z.number == y.number) ys (x ∷ [])
    ∙ ap (λ b. list_all (λ (z : Entry). z.number == y.number) ys && b) (and-true (x.number == y.number))

-- one more field of a kind, after an only kind
one_more : (y : Entry) (ys : List Entry) (x last : Entry) (number : ℕ) (old m : Value) (b : Bool)
    → (number == x.number) ≡ b → are_one_kind (y ∷ ys) ≡ true → last_or None (y ∷ ys) ≡ Some last → last.number ≡ number
    → Means x.number x.content m
    → AreKindsOf (y ∷ ys ++ x ∷ []) (if b then One x.number m else Several)
one_more y ys x last number old m true same one is named means =
    let of_first : last.number ≡ y.number = same_number y.number y ys last refl one is in
    let equal : number ≡ x.number = eqb-true number x.number same in (
      one_number y ys x ∙ and_from _ _ one (eq-eqb x.number y.number (sym equal ∙ sym named ∙ of_first)),
      (x, (last_or-more None (y ∷ ys) x, (refl, means))),
    )
one_more y ys x last number old m false same one is named means =
    let of_first : last.number ≡ y.number = same_number y.number y ys last refl one is in
    let differ : x.number ≡ y.number → ⊥ = λ e. eqb-false number x.number same (sym named ∙ of_first ∙ sym e) in
    (λ e. cc, one_number y ys x ∙ and_right (are_one_kind (y ∷ ys)) (x.number == y.number) (ne_eqb x.number y.number differ))

-- one more field of a kind
with_more : (ys : List Entry) (k : Kinds) (x : Entry) (m : Value) → AreKindsOf ys k
    → Means x.number x.content m → AreKindsOf (ys ++ x ∷ []) (kinds_with k x.number m)
with_more ys Nothing x m are means = rw are (refl, (x, (refl, (refl, means))))
with_more [] (One number old) x m are means = cc (are.0)
with_more (y ∷ ys) (One number old) x m (one, (last, (is, (named, old_means)))) means =
    one_more y ys x last number old m (number == x.number) refl one is named means
with_more [] Several x m are means = absurd (are.0 refl)
with_more (y ∷ ys) Several x m are means = (λ e. cc, one_number y ys x ∙ and_left (are_one_kind (y ∷ ys)) (x.number == y.number) are.1)

field_broken : (payload_at : ℕ) (x : Entry) (cause : Cause)
    → first (number_rules value_forms x.number x.content) ≡ Some cause
    → first (value_field_rules payload_at x) ≡ Some (fault_at (payload_at + x.at) cause)
unfolding value_field_rules
field_broken payload_at x cause broken =
    rw (first-map_faults (fault_at (payload_at + x.at)) (number_rules value_forms x.number x.content), broken) refl

-- the steps of the walk
pub so_far_skip : (payload_at : ℕ) (done : List Entry) (k : Kinds) (x : Entry) → AreSoFar payload_at done (Ok k)
    → first (number_rules value_forms x.number x.content) ≡ None → is_kind x ≡ false
    → AreSoFar payload_at (done ++ x ∷ []) (Ok k)
so_far_skip payload_at done k x so_far clean skip = (
  each_more (λ _. value_field_rules payload_at) done x so_far.0 ∙ rules_clean payload_at x clean,
  subst (λ ys. AreKindsOf ys k) (sym (kinds_skip done x skip)) so_far.1,
)

pub so_far_with : (payload_at : ℕ) (done : List Entry) (k : Kinds) (x : Entry) (m : Value)
    → AreSoFar payload_at done (Ok k) → first (number_rules value_forms x.number x.content) ≡ None → is_kind x ≡ true
    → Means x.number x.content m → AreSoFar payload_at (done ++ x ∷ []) (Ok (kinds_with k x.number m))
so_far_with payload_at done k x m so_far clean take means = (
  each_more (λ _. value_field_rules payload_at) done x so_far.0 ∙ rules_clean payload_at x clean,
  subst (λ ys. AreKindsOf ys (kinds_with k x.number m)) (sym (kinds_take done x take))
      (with_more (kinds done) k x m so_far.1 means),
)

pub so_far_stops : (payload_at : ℕ) (done : List Entry) (k : Kinds) (x : Entry) (cause : Cause)
    → AreSoFar payload_at done (Ok k) → first (number_rules value_forms x.number x.content) ≡ Some cause → (more : List Entry)
    → first (each (λ _. value_field_rules payload_at) [] ((done ++ x ∷ []) ++ more)) ≡ Some (fault_at (payload_at + x.at) cause)
so_far_stops payload_at done k x cause so_far broken more =
    rw append_assoc
    (each_stops (λ _. value_field_rules payload_at) done x more (fault_at (payload_at + x.at) cause) so_far.0
    (field_broken payload_at x cause broken))

-- a payload of one field of a kind is the value that this says
pub only_meant : (payload : List ℕ) (x : Entry) (found : Option Value) → IsFieldAt 0 payload x
    → first (number_rules value_forms x.number x.content) ≡ None
    → MatchOption found (is_kind x ≡ false) (λ m. (is_kind x ≡ true) × Means x.number x.content m)
    → IfSome found (IsValueOf payload)
only_meant payload x None is clean means = tt
only_meant payload x (Some m) is clean (take, means) =
    let so_far = so_far_with 0 [] Nothing x m (refl, refl) clean take means in
    let (one, (last, (is_last, (named, said)))) = so_far.1 in (
      x ∷ [],
      (payload, [], sym (append-nil payload), is, (refl, field_function_end)),
      value_from 0 (x ∷ []) last m so_far.0 one is_last
          (subst (λ n. Means n last.content m) (sym named) said),
    )
