-- Features whose fields stand in any order.
use Rattle.std.proofs.Common.{◌≡◌, ◌≢◌, ℕ, ◌==◌, ◌^◌, ◌<◌, Bool, true, false, List, [], ◌∷◌, ◌++◌, length, map, drop, Bor, Some, None, refl, sym, ap, ap₂, subst, ◌∙◌, append_assoc, append-nil, lit<, lit≤, if◌then◌else◌}
use Rattle.std.specs.Prelude.{IfSome}
use Rattle.std.proofs.lemmas.Bool.{eqb-true}
use Rattle.mvt_base.proofs.ListLemmas.{all_joined}
use Rattle.mvt_geometry.specs.declared.shape.Kind.{Kind}
use Rattle.mvt_geometry.specs.declared.shape.Kind.TheVariants as kinds
use Rattle.mvt_wire.specs.Field.{Content, varint, bytes}
use Rattle.mvt_wire.specs.Spelling.{Plain, IsFit, short_field, spelled}
use Rattle.mvt_wire.proofs.WireLaws.{spelled_parts}
use Rattle.mvt_feature.specs.declared.canonical_feature.Parts.{Parts}
use Rattle.mvt_feature.specs.declared.numbers.feature.TheConstants.{ID, TAGS, TYPE, GEOMETRY}
use Rattle.mvt_feature.specs.Canonical.{plain, id_fields, type_fields, type_number}
use Rattle.mvt_feature.specs.Copying.{packed_tags}
use Rattle.mvt_feature.specs.Ordering.{AreMet, met_fields, met_integers, met_type}
use Rattle.mvt_feature.specs.Selection.{AreAlike, contents_at}
use Rattle.mvt_feature.proofs.CanonicalLemmas.{only_plain}

pub contents_joined : (k : ℕ) (ps qs : List Plain) → contents_at k (ps ++ qs) ≡ contents_at k ps ++ contents_at k qs
contents_joined k [] qs = refl
contents_joined k (p ∷ ps) qs = by_test (p.number == k) (contents_joined k ps qs)
  where
    by_test : (b : Bool) → contents_at k (ps ++ qs) ≡ contents_at k ps ++ contents_at k qs
        → (if b then p.content ∷ contents_at k (ps ++ qs) else contents_at k (ps ++ qs)) ≡
        (if b then p.content ∷ contents_at k ps else contents_at k ps) ++ contents_at k qs
    by_test true h = ap (λ l. p.content ∷ l) h
    by_test false h = h

-- a field behind others of which none has its number
field_behind : (k : ℕ) (p : Plain) (qs : List Plain) → contents_at p.number qs ≡ []
    → contents_at k qs ++ contents_at k (p ∷ []) ≡ contents_at k (p ∷ []) ++ contents_at k qs
field_behind k p qs none = by_test (p.number == k) refl
  where
    one : (b : Bool) → List Content
    one b = if b then p.content ∷ [] else []

    by_test : (b : Bool) → (p.number == k) ≡ b
        → contents_at k qs ++ contents_at k (p ∷ []) ≡ contents_at k (p ∷ []) ++ contents_at k qs
    by_test true e =
        let nothing : contents_at k qs ≡ [] = subst (λ j. contents_at j qs ≡ []) (eqb-true p.number k e) none in
        ap (λ c. c ++ contents_at k (p ∷ [])) nothing ∙ sym (append-nil (contents_at k (p ∷ [])))
        ∙ ap (λ c. contents_at k (p ∷ []) ++ c) (sym nothing)
    by_test false e =
        let nothing : contents_at k (p ∷ []) ≡ [] = ap one e in
        ap (λ c. contents_at k qs ++ c) nothing ∙ append-nil (contents_at k qs) ∙ ap (λ c. c ++ contents_at k qs) (sym nothing)

-- it may as well stand in front of them
pub contents_between : (front back : List Plain) (p : Plain) → contents_at p.number back ≡ []
    → AreAlike ((front ++ back) ++ p ∷ []) (front ++ p ∷ back)
contents_between front back p none k =
    ap (contents_at k) (append_assoc front back (p ∷ []))
    ∙ contents_joined k front (back ++ p ∷ [])
    ∙ ap (λ c. contents_at k front ++ c)
    (contents_joined k back (p ∷ []) ∙ field_behind k p back none ∙ sym (contents_joined k (p ∷ []) back))
    ∙ sym (contents_joined k front (p ∷ back))

none_joined : (k : ℕ) (ps qs : List Plain) → contents_at k ps ≡ [] → contents_at k qs ≡ [] → contents_at k (ps ++ qs) ≡ []
none_joined k ps qs first second = contents_joined k ps qs ∙ ap₂ (λ a b. a ++ b) first second

-- parts of other numbers
one_other : (j k : ℕ) (c : Content) → (j == k) ≡ false → contents_at k (plain j c ∷ []) ≡ []
one_other j k c other = ap (λ (b : Bool). if b then c ∷ [] else []) other

other_tags : (k : ℕ) (d : List ℕ) → (TAGS == k) ≡ false → contents_at k (packed_tags d) ≡ []
other_tags k [] other = refl
other_tags k (b ∷ bs) other = one_other TAGS k (bytes (b ∷ bs)) other

other_type : (k : ℕ) (kind : Kind) → (TYPE == k) ≡ false → contents_at k (met_type kind) ≡ []
other_type k kinds.Unknown other = refl
other_type k kinds.Point other = one_other TYPE k (varint 1) other
other_type k kinds.LineString other = one_other TYPE k (varint 2) other
other_type k kinds.Polygon other = one_other TYPE k (varint 3) other

other_integers : (k : ℕ) (d : List ℕ) → (GEOMETRY == k) ≡ false → contents_at k (met_integers d) ≡ []
other_integers k [] other = refl
other_integers k (b ∷ bs) other = one_other GEOMETRY k (bytes (b ∷ bs)) other

-- parts that are there
tags_there : (d : List ℕ) → d ≢ [] → packed_tags d ≡ plain TAGS (bytes d) ∷ []
tags_there [] some = absurd (some refl)
tags_there (b ∷ bs) some = refl

integers_there : (d : List ℕ) → d ≢ [] → met_integers d ≡ plain GEOMETRY (bytes d) ∷ []
integers_there [] some = absurd (some refl)
integers_there (b ∷ bs) some = refl

type_there : (kind : Kind) → kind ≢ kinds.Unknown → met_type kind ≡ type_fields kind
type_there kinds.Unknown known = absurd (known refl)
type_there kinds.Point known = refl
type_there kinds.LineString known = refl
type_there kinds.Polygon known = refl

type_small : (kind : Kind) → type_number kind < 2 ^ 64
type_small kinds.Unknown = lit< tt
type_small kinds.Point = lit< tt
type_small kinds.LineString = lit< tt
type_small kinds.Polygon = lit< tt

-- one more field
met_more : (payload : List ℕ) (at end : ℕ) (before after : Parts) (field : Plain) → AreMet payload at before → IsFit field
    → drop at payload ≡ short_field field.number field.content ++ drop end payload
    → AreAlike (met_fields before ++ field ∷ []) (met_fields after)
    → (IfSome before.id (λ n. n < 2 ^ 64) → IfSome after.id (λ n. n < 2 ^ 64)) → AreMet payload end after
met_more payload at end before after field met fit stands alike id =
    let own = short_field field.number field.content in
    record {
      fields = met.fields ++ field ∷ [];
      fit = all_joined IsFit met.fields (field ∷ []) met.fit (fit, tt);
      stand = met.stand ∙ ap (λ r. spelled met.fields ++ r) stands ∙ sym (append_assoc (spelled met.fields) own (drop end payload))
          ∙ ap (λ l. l ++ drop end payload)
          (sym (spelled_parts met.fields (field ∷ []) ∙ ap (λ l. spelled met.fields ++ l) (append-nil own)));
      alike = λ k.
          contents_joined k met.fields (field ∷ []) ∙ ap (λ c. c ++ contents_at k (field ∷ [])) (met.alike k)
          ∙ sym (contents_joined k (met_fields before) (field ∷ [])) ∙ alike k;
      id = id met.id;
    }

module _ (payload : List ℕ) (at end : ℕ) (p : Parts) (met : AreMet payload at p) where
  abbrev tags : List Plain
  tags = packed_tags p.tags.now

  abbrev type : List Plain
  type = met_type p.kind

  abbrev integers : List Plain
  integers = met_integers p.integers.now

  pub id_met : (n : ℕ) → p.id ≡ None → drop at payload ≡ short_field ID (varint n) ++ drop end payload → n < 2 ^ 64
      → AreMet payload end (record { id = Some n; tags = p.tags; kind = p.kind; integers = p.integers })
  id_met n none stands small =
      let field = plain ID (varint n) in
      let rest = tags ++ (type ++ integers) in
      let nothing = none_joined ID tags (type ++ integers) (other_tags ID p.tags.now refl)
      (none_joined ID type integers (other_type ID p.kind refl) (other_integers ID p.integers.now refl)) in
      met_more payload at end p _ field met (record { first = lit≤ tt; last = lit< tt; content = small }) stands
      (λ k. ap (λ i. contents_at k ((id_fields i ++ rest) ++ field ∷ [])) none ∙ contents_between [] rest field nothing k) (λ _. small)

  pub tags_met : (d : Bor (List ℕ)) → p.tags.now ≡ [] → d.now ≢ [] → drop at payload ≡ short_field TAGS (bytes d.now) ++ drop end payload
      → length d.now < 2 ^ 64
      → AreMet payload end (record { id = p.id; tags = d; kind = p.kind; integers = p.integers })
  tags_met d none some stands small =
      let field = plain TAGS (bytes d.now) in
      let rest = type ++ integers in
      let nothing = none_joined TAGS type integers (other_type TAGS p.kind refl) (other_integers TAGS p.integers.now refl) in
      met_more payload at end p _ field met (record { first = lit≤ tt; last = lit< tt; content = small }) stands
      (λ k. ap (λ t. contents_at k ((id_fields p.id ++ (packed_tags t ++ rest)) ++ field ∷ [])) none
      ∙ contents_between (id_fields p.id) rest field nothing k
      ∙ ap (λ ts. contents_at k (id_fields p.id ++ (ts ++ rest))) (sym (tags_there d.now some))) (λ id. id)

  pub kind_met : (kind : Kind) → p.kind ≡ kinds.Unknown → kind ≢ kinds.Unknown
      → drop at payload ≡ spelled (type_fields kind) ++ drop end payload
      → AreMet payload end (record { id = p.id; tags = p.tags; kind = kind; integers = p.integers })
  kind_met kind none known stands =
      let field = plain TYPE (varint (type_number kind)) in
      let front = id_fields p.id ++ tags in
      let own = short_field TYPE (varint (type_number kind)) in
      met_more payload at end p _ field met (record { first = lit≤ tt; last = lit< tt; content = type_small kind })
      (stands ∙ ap (λ l. l ++ drop end payload) (append-nil own))
      (λ k. ap (λ t. contents_at k ((id_fields p.id ++ (tags ++ (met_type t ++ integers))) ++ field ∷ [])) none
      ∙ ap (λ l. contents_at k (l ++ field ∷ [])) (sym (append_assoc (id_fields p.id) tags integers))
      ∙ contents_between front integers field (other_integers TYPE p.integers.now refl) k
      ∙ ap (contents_at k) (append_assoc (id_fields p.id) tags (field ∷ integers))
      ∙ ap (λ ts. contents_at k (id_fields p.id ++ (tags ++ (ts ++ integers)))) (sym (type_there kind known))) (λ id. id)

  pub integers_met : (d : Bor (List ℕ)) → p.integers.now ≡ [] → d.now ≢ []
      → drop at payload ≡ short_field GEOMETRY (bytes d.now) ++ drop end payload → length d.now < 2 ^ 64
      → AreMet payload end (record { id = p.id; tags = p.tags; kind = p.kind; integers = d })
  integers_met d none some stands small =
      let field = plain GEOMETRY (bytes d.now) in
      met_more payload at end p _ field met (record { first = lit≤ tt; last = lit< tt; content = small }) stands
      (λ k. ap (λ t. contents_at k ((id_fields p.id ++ (tags ++ (type ++ met_integers t))) ++ field ∷ [])) none
      ∙ ap (λ l. contents_at k ((id_fields p.id ++ (tags ++ l)) ++ field ∷ [])) (append-nil type)
      ∙ ap (contents_at k) (append_assoc (id_fields p.id) (tags ++ type) (field ∷ [])
      ∙ ap (λ l. id_fields p.id ++ l) (append_assoc tags type (field ∷ [])))
      ∙ ap (λ is. contents_at k (id_fields p.id ++ (tags ++ (type ++ is)))) (sym (integers_there d.now some))) (λ id. id)

-- fields that are alike have the same fields of each number
only_as_contents : (k : ℕ) (ps : List Plain) → only_plain k ps ≡ map (plain k) (contents_at k ps)
only_as_contents k [] = refl
only_as_contents k (p ∷ ps) = by_test (p.number == k) refl (only_as_contents k ps)
  where
    by_test : (b : Bool) → (p.number == k) ≡ b → only_plain k ps ≡ map (plain k) (contents_at k ps)
        → (if b then p ∷ only_plain k ps else only_plain k ps)
        ≡ map (plain k) (if b then p.content ∷ contents_at k ps else contents_at k ps)
    by_test true e h = ap₂ (λ n l. plain n p.content ∷ l) (eqb-true p.number k e) h
    by_test false e h = h

pub only_alike : (ps qs : List Plain) → AreAlike ps qs → (k : ℕ) → only_plain k ps ≡ only_plain k qs
only_alike ps qs alike k = only_as_contents k ps ∙ ap (map (plain k)) (alike k) ∙ sym (only_as_contents k qs)
