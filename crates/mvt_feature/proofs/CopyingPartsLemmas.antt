-- Payloads of values and features that are canonical as they stand.
use Rattle.std.proofs.Common.{◌≡◌, ℕ, zero, suc, ◌<◌, ◌^◌, true, false, List, [], ◌∷◌, ◌++◌, None, refl, sym, ap, ap₂, subst, ◌∙◌, arith, append-nil}
use Rattle.std.specs.Prelude.{IfSome}
use Rattle.std.specs.List.{AllByRecursion}
use Rattle.std.specs.Int.{w64, cast_signed}
use Rattle.std.proofs.lemmas.Int.{of_z-to_z}
use Rattle.mvt_attrs.specs.Values.{Value}
use Rattle.mvt_attrs.specs.declared.value.ValueOf.TheVariants.{Float, Double, Int, Uint, Sint, Bool as Truth}
use Rattle.mvt_attrs.specs.declared.value.Attribute.{Attribute}
use Rattle.mvt_attrs.specs.FirstUses.{AreFirstUses}
use Rattle.mvt_attrs.specs.Tags.{Names}
use Rattle.mvt_attrs.specs.TagPlaces.{tags_in}
use Rattle.mvt_attrs.specs.TagRules.{tag_fault}
use Rattle.mvt_geometry.specs.declared.shape.Geometry.{Geometry}
use Rattle.mvt_geometry.specs.Drawing.{Draws}
use Rattle.mvt_geometry.specs.Shape.{kind_of}
use Rattle.mvt_wire.specs.Field.{Content, varint, fixed64, bytes, fixed32}
use Rattle.mvt_wire.specs.Spelling.{short_numbers, spelled}
use Rattle.mvt_wire.specs.Zigzag.{unzig}
use Rattle.mvt_feature.specs.declared.canonical_feature.CanonicalFeature.{CanonicalFeature}
use Rattle.mvt_feature.specs.declared.canonical_feature.Parts.{Parts}
use Rattle.mvt_feature.specs.declared.feature.Feature.{Feature}
use Rattle.mvt_feature.specs.declared.numbers.feature.TheConstants.{GEOMETRY}
use Rattle.mvt_feature.specs.declared.numbers.value.TheConstants.{FLOAT, DOUBLE, INT, UINT, SINT, BOOL}
use Rattle.mvt_feature.specs.Canonical.{plain, field_of_value, id_fields, tags_fields, type_fields, drawing_fields, feature_fields}
use Rattle.mvt_feature.specs.Copying.{AreReady, IsCanonicalAfter, parts_fields}
use Rattle.mvt_feature.specs.Ordering.{IsOfParts, IsOfPartsAfter}
use Rattle.mvt_feature.specs.Valid.{ValidValue}
use Rattle.mvt_feature.proofs.CanonicalLemmas.{tags_packed}
use Rattle.mvt_feature.proofs.RangeLemmas.{signed_range, code_range, attributes_valid}
use Rattle.mvt_attrs.proofs.AttrsLaws.{attributes_or_fault_there, tags_stay}
use Rattle.mvt_wire.proofs.WireLaws.{zigzag_function_code}

-- a value that a field says in the canonical way
abbrev pub SaysValue : ℕ → Content → Type 0
SaysValue number content = (value : Value) × ValidValue value × (field_of_value value ≡ plain number content)

pub says_int : (n : ℕ) → n < 2 ^ 64 → SaysValue INT (varint n)
says_int n fits = (Int (cast_signed w64 n), code_range n fits, ap (λ k. plain INT (varint k)) (of_z-to_z w64 n fits))

pub says_uint : (n : ℕ) → n < 2 ^ 64 → SaysValue UINT (varint n)
says_uint n fits = (Uint n, fits, refl)

pub says_sint : (n : ℕ) → n < 2 ^ 64 → SaysValue SINT (varint n)
says_sint n fits =
    let code = zigzag_function_code n in
    (Sint (unzig n), signed_range (unzig n) (subst (λ k. k < 2 ^ 64) (sym code) fits), ap (λ k. plain SINT (varint k)) code)

pub says_float : (n : ℕ) → n < 2 ^ 32 → SaysValue FLOAT (fixed32 n)
says_float n fits = (Float n, fits, refl)

pub says_double : (n : ℕ) → n < 2 ^ 64 → SaysValue DOUBLE (fixed64 n)
says_double n fits = (Double n, fits, refl)

pub says_bool : (n : ℕ) → n < 2 → SaysValue BOOL (varint n)
says_bool zero small = (Truth false, tt, refl)
says_bool (suc zero) small = (Truth true, tt, refl)
says_bool (suc (suc n)) small = absurd (omega arith)

-- a feature from its parts
pub feature_found : (Holds : Geometry → Type 0) (p : Parts) (keys : List (List ℕ)) (held : List Value) (tags ints : List ℕ)
    (geometry : Geometry)
    (used after : ℕ × ℕ) → AreReady keys held used → IfSome p.id (λ n. n < 2 ^ 64) → p.tags.now ≡ short_numbers tags
    → AllByRecursion (λ n. n < 2 ^ 32) tags
    → p.integers.now ≡ short_numbers ints → tag_fault keys held tags ≡ None → Draws p.kind ints geometry → Holds geometry
    → ((attributes : List Attribute) → Names keys held tags attributes → AreFirstUses keys held attributes used.0 used.1 after)
    → (f : Feature) × IsOfParts p keys held used after f × (f.id ≡ p.id) × (p.kind ≡ kind_of f.geometry) × Holds f.geometry
feature_found Holds p keys held tags ints geometry used after ready id tags_are small ints_are no_tag_fault draws holds uses =
    let (attributes, resolved) = attributes_or_fault_there keys held tags no_tag_fault in
    let f : Feature = record { id = p.id; attributes = attributes; geometry = geometry } in
    let places : tags ≡ tags_in keys held attributes =
    tags_stay keys [] held [] tags attributes ready.keys_apart ready.values_apart resolved.named
    ∙ ap₂ (λ ks vs. tags_in ks vs attributes) (append-nil keys) (append-nil held) in
    let fields : parts_fields p ≡ feature_fields (tags_in keys held attributes) f =
    ap₂ (λ ts d. id_fields p.id ++ (ts ++ (type_fields p.kind ++ plain GEOMETRY (bytes d) ∷ []))) (tags_packed tags p.tags.now tags_are)
    ints_are
    ∙ ap₂ (λ ts k. id_fields p.id ++ (tags_fields ts ++ drawing_fields k ints)) places draws.same_kind
    ∙ ap (λ is. id_fields p.id ++ (tags_fields (tags_in keys held attributes) ++ drawing_fields (kind_of geometry) is)) draws.spelled in (
      f,
      record {
        valid = record {
          id = id;
          attributes = attributes_valid keys held tags attributes ready.texts ready.valid resolved.named;
          distinct = resolved.distinct;
          drawn = draws.valid;
        };
        uses = uses attributes resolved.named;
        fields = fields;
        named = subst (λ ts. Names keys held ts attributes) places resolved.named;
        small = subst (AllByRecursion (λ n. n < 2 ^ 32)) places small;
      },
      refl,
      draws.same_kind,
      holds,
    )

-- parts that stand in the canonical order
pub parts_in_place : (Holds : Geometry → Type 0) (payload : List ℕ) (p : Parts) (keys : List (List ℕ)) (held : List Value) (used : ℕ × ℕ)
    (known : CanonicalFeature) → payload ≡ spelled (parts_fields p) → IsOfPartsAfter p keys held used Holds known
    → IsCanonicalAfter payload keys held used Holds known
parts_in_place Holds payload p keys held used known is after ready =
    let (f, of_parts, id, kind, holds) = after ready in
    (f, record { valid = of_parts.valid; uses = of_parts.uses; spelled_as = is ∙ ap spelled of_parts.fields }, id, kind, holds)
