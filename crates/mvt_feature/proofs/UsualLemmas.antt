-- Features whose fields stand once each, in any order, judged in their bytes.
use Rattle.std.proofs.Common.{◌≡◌, ◌≢◌, ◌⊎◌, inl, inr, ℕ, List, [], ◌∷◌, ◌++◌, Result, Ok, Err, refl, sym, ap, subst, ◌∙◌, append_assoc}
use Rattle.std.specs.Prelude.{OnErr}
use Rattle.std.proofs.lemmas.Bool.{cases_eq, ne_eqb}
use Rattle.mvt_base.proofs.RuleLemmas.{each_more}
use Rattle.mvt_attrs.specs.Values.{Value}
use Rattle.mvt_attrs.specs.Tags.{Resolved}
use Rattle.mvt_geometry.specs.declared.shape.Geometry.{Geometry}
use Rattle.mvt_geometry.specs.declared.shape.Geometry.TheVariants.{Unknown, Points, Lines, Polygons}
use Rattle.mvt_geometry.specs.declared.shape.Kind.{Kind}
use Rattle.mvt_geometry.specs.declared.shape.Kind.TheVariants as kinds
use Rattle.mvt_geometry.specs.declared.shape.Point.{Point}
use Rattle.mvt_geometry.specs.Drawing.{Draws}
use Rattle.mvt_geometry.specs.Shape.{kind_of}
use Rattle.mvt_geometry.specs.Visiting.{Part, parts_of, HasDrawn, HasDrawnPacked}
use Rattle.mvt_wire.specs.Field.{Entry, bytes}
use Rattle.mvt_wire.specs.Packed.{ArePacked}
use Rattle.mvt_wire.specs.Split.{Whole, split}
use Rattle.mvt_feature.specs.declared.canonical_feature.Parts.{Parts}
use Rattle.mvt_feature.specs.declared.feature.Feature.{Feature}
use Rattle.mvt_feature.specs.declared.numbers.feature.TheConstants.{TAGS, GEOMETRY}
use Rattle.mvt_feature.specs.Canonical.{plain, id_fields, type_fields}
use Rattle.mvt_feature.specs.Copying.{packed_tags, parts_fields}
use Rattle.mvt_feature.specs.FeatureRules.{feature_field_rules, joined}
use Rattle.mvt_feature.specs.Features.{feature_forms, IsFeatureOf}
use Rattle.mvt_feature.specs.Forms.{HaveForms}
use Rattle.mvt_feature.specs.Listing.{IsListedIn, ListsNumbers}
use Rattle.mvt_feature.specs.Ordering.{IsInAnyOrder}
use Rattle.mvt_feature.specs.Selection.{only}
use Rattle.mvt_feature.proofs.CanonicalLemmas.{only_plain, parts_forms, parts_integers, parts_read}
use Rattle.mvt_feature.proofs.FeatureLemmas.{FieldsClean, all_joined_are, field_clean}
use Rattle.mvt_feature.proofs.FormLemmas.{forms_split}
use Rattle.mvt_feature.proofs.OrderingLemmas.{only_alike}
use Rattle.mvt_feature.proofs.OrFaultLemmas.{numbers_clean}
use Rattle.mvt_wire.proofs.WireLaws.{spelled_whole_whole, split_function_only}

-- parts that stand in any order are a feature's
pub usual_feature : (payload : List ℕ) (p : Parts) (keys : List (List ℕ)) (held : List Value) (tags integers : List ℕ) (f : Feature)
    → IsInAnyOrder payload p → f.id ≡ p.id → ArePacked p.tags.now tags → ArePacked p.integers.now integers
    → Resolved keys held tags f.attributes → Draws p.kind integers f.geometry
    → IsFeatureOf payload keys held f × (tags ≡ joined TAGS (split payload).fields)
usual_feature payload p keys held tags integers f order id tags_are integers_are resolved draws =
    let (xs, whole, plain_are) = spelled_whole_whole order.fields order.fit in
    let all : Whole payload xs = subst (λ b. Whole b xs) (sym order.is) whole in
    let rest = packed_tags p.tags.now ++ (type_fields p.kind ++ plain GEOMETRY (bytes p.integers.now) ∷ []) in
    let (is, joined_are) =
    parts_read xs keys held p.kind p.tags.now p.integers.now tags integers f
    (λ k. ap (only_plain k) plain_are ∙ only_alike order.fields (parts_fields p) order.alike k
    ∙ ap (λ i. only_plain k (id_fields i ++ rest)) (sym id)) tags_are integers_are resolved draws in (
      (xs, all, is),
      (all_joined_are (only TAGS xs) tags joined_are).1 ∙ ap (joined TAGS) (split_function_only payload [] xs all).0,
    )

-- the first of its lists
abbrev IsListedFrom : ℕ → List Entry → List Entry → Type 0
IsListedFrom payload_at done xs =
    FieldsClean payload_at done → HaveForms feature_forms xs → only GEOMETRY xs ≢ [] → IsListedIn payload_at (done ++ xs)

listed_first : (payload_at : ℕ) (done xs : List Entry) → IsListedFrom payload_at done xs
listed_first payload_at done [] clean forms some = absurd (some refl)
listed_first payload_at done (x ∷ xs) clean forms some = by_tags (listed_first payload_at (done ++ x ∷ []) xs) (cases_eq x.number TAGS)
  where
    here : (x.number ≡ TAGS) ⊎ (x.number ≡ GEOMETRY) → IsListedIn payload_at (done ++ x ∷ xs)
    here listed = record { before = done; field = x; after = xs; fields_are = refl; unbroken = clean; listed = listed }

    skip : (x.number ≡ GEOMETRY → ⊥) → only GEOMETRY (x ∷ xs) ≡ only GEOMETRY xs
    skip other = rw (ne_eqb x.number GEOMETRY other) refl

    by_integers : IsListedFrom payload_at (done ++ x ∷ []) xs → (x.number ≡ TAGS → ⊥) → (x.number ≡ GEOMETRY) ⊎ (x.number ≡ GEOMETRY → ⊥)
        → IsListedIn payload_at (done ++ x ∷ xs)
    by_integers later no_tags (inl integers) = here (inr integers)
    by_integers later no_tags (inr no_integers) =
        let parts = forms_split feature_forms x xs forms in
        let form = numbers_clean x (λ e. absurd (no_tags e)) (λ e. absurd (no_integers e)) parts.0 in
        subst (IsListedIn payload_at) (append_assoc done (x ∷ []) xs)
        (later (each_more (λ _. feature_field_rules payload_at) done x clean ∙ field_clean payload_at x form) parts.1
        (λ none. some (skip no_integers ∙ none)))

    by_tags : IsListedFrom payload_at (done ++ x ∷ []) xs → (x.number ≡ TAGS) ⊎ (x.number ≡ TAGS → ⊥) → IsListedIn payload_at (done ++ x ∷ xs)
    by_tags later (inl tags) = here (inl tags)
    by_tags later (inr no_tags) = by_integers later no_tags (cases_eq x.number GEOMETRY)

pub usual_lists : (payload : List ℕ) (payload_at : ℕ) (p : Parts) → IsInAnyOrder payload p → ListsNumbers payload payload_at
usual_lists payload payload_at p order =
    let (xs, whole, plain_are) = spelled_whole_whole order.fields order.fit in
    let is_split = split_function_only payload [] xs (subst (λ b. Whole b xs) (sym order.is) whole) in
    let same = λ (k : ℕ). ap (only_plain k) plain_are ∙ only_alike order.fields (parts_fields p) order.alike k in
    record {
      whole = sym is_split.1;
      listed = subst (IsListedIn payload_at) is_split.0
          (listed_first payload_at [] xs refl (parts_forms xs p.id p.tags.now p.kind p.integers.now same)
          (λ none. let one = parts_integers xs p.id p.tags.now p.kind p.integers.now same in let both = sym none ∙ one.1 in cc));
    }

-- a geometry of known type was told as parts
told_by : {V : Type 0} (HasParts : V → List Part → List Point → V → Type 0) (HasIntegers : V → List ℕ → V → Type 0)
    (start now : V) (g : Geometry) → kind_of g ≢ kinds.Unknown → HasDrawn HasParts HasIntegers start now g
    → (parts : List Part) × (begun : List Point) × HasParts start parts begun now
told_by HasParts HasIntegers start now (Unknown integers) known told = absurd (known refl)
told_by HasParts HasIntegers start now (Points points) known told = (parts_of (Points points), [], told)
told_by HasParts HasIntegers start now (Lines lines) known told = (parts_of (Lines lines), [], told)
told_by HasParts HasIntegers start now (Polygons polygons) known told = (parts_of (Polygons polygons), [], told)

pub told_parts : {V : Type 0} (HasParts : V → List Part → List Point → V → Type 0) (HasIntegers : V → List ℕ → V → Type 0)
    (start now : V) (kind : Kind) (d : List ℕ) → kind ≢ kinds.Unknown → HasDrawnPacked HasParts HasIntegers start now kind d
    → (parts : List Part) × (begun : List Point) × HasParts start parts begun now
told_parts HasParts HasIntegers start now kind d known drawn =
    told_by HasParts HasIntegers start now drawn.2 (λ e. known (drawn.3.same_kind ∙ e)) drawn.4

pub on_any_error : {A E : Type 0} (r : Result A E) (P : Type 0) → P → OnErr r P
on_any_error (Ok a) P holds = tt
on_any_error (Err e) P holds = holds
