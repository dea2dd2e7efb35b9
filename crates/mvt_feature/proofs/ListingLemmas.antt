-- Fields of tags and of integers, at whose numbers memory may run out.
use Rattle.std.proofs.Common.{◌≡◌, ◌⊎◌, ℕ, ◌<◌, ◌==◌, false, List, [], ◌∷◌, ◌++◌, length, Option, Some, None, Ok, inl, inr, refl, sym, ap, subst, ◌∙◌, arith}
use Rattle.std.specs.Option.{option_or}
use Rattle.std.proofs.lemmas.Bool.{cases_eq, ne_eqb}
use Rattle.mvt_base.specs.Rules.{each, first}
use Rattle.mvt_base.proofs.RuleLemmas.{each-append, first-append}
use Rattle.mvt_attrs.specs.declared.resolving.TagError.{TagError}
use Rattle.mvt_attrs.specs.declared.resolving.TagError.TheVariants as tag_errors
use Rattle.mvt_geometry.specs.declared.fault.GeometryError.{GeometryError}
use Rattle.mvt_geometry.specs.declared.fault.GeometryError.TheVariants as geometry_errors
use Rattle.mvt_wire.specs.declared.field.Field.{Field}
use Rattle.mvt_wire.specs.Field.{Entry, entry_of}
use Rattle.mvt_wire.specs.Fields.{GivesEntry}
use Rattle.mvt_wire.specs.Split.{Parts, split}
use Rattle.mvt_feature.specs.declared.feature_fields.FeatureFields.{FeatureFields}
use Rattle.mvt_feature.specs.declared.message_error.MessageError.TheVariants.{Memory}
use Rattle.mvt_feature.specs.declared.numbers.feature.TheConstants.{TAGS, GEOMETRY}
use Rattle.mvt_feature.specs.FeatureRules.{feature_field_rules, joined}
use Rattle.mvt_feature.specs.Faults.{of_tag_error, of_geometry_error}
use Rattle.mvt_feature.specs.Listing.{ListsNumbers}
use Rattle.mvt_feature.specs.Walks.{Walk}
use Rattle.mvt_feature.proofs.FeatureLemmas.{Says}

-- the next field of a walk
pub listed_next : (payload : List ℕ) (old new : Parts) (done : List Entry) (field : Field) (payload_at : ℕ) → Walk payload old done
    → GivesEntry old (Some (Ok field)) new → first (each (λ _. feature_field_rules payload_at) [] done) ≡ None
    → (split payload).rest ≡ [] → (field.number ≡ TAGS) ⊎ (field.number ≡ GEOMETRY) → ListsNumbers payload payload_at
listed_next payload old new done field payload_at walk step unbroken whole listed = record {
  whole = whole;
  listed = record {
    before = done;
    field = entry_of field;
    after = new.fields;
    fields_are = walk.fields ∙ ap (λ (p : Parts). done ++ p.fields) step.0;
    unbroken = unbroken;
    listed = listed;
  };
}

-- the first field that has numbers
joined_skip : (k : ℕ) (x : Entry) (xs : List Entry) → (x.number == k) ≡ false → joined k (x ∷ xs) ≡ joined k xs
joined_skip k x xs other = rw other refl

first_listed : (k : ℕ) (xs : List Entry) → 0 < length (joined k xs)
    → (before : List Entry) × (x : Entry) × (after : List Entry) × (xs ≡ before ++ x ∷ after) × (x.number ≡ k)
first_listed k [] some = absurd (omega (arith, some))
first_listed k (x ∷ xs) some =
    elim (cases_eq x.number k) [
      | inl here ↦ ([], x, xs, refl, here)
      | inr other ↦ (
          let skip = joined_skip k x xs (ne_eqb x.number k other) in
          let later = first_listed k xs (omega (arith, some, ap length skip)) in
          (x ∷ later.0, later.1, later.2, ap (λ l. x ∷ l) later.3, later.4))
    ]

none_front : {F : Type 0} → (o p : Option F) → option_or o p ≡ None → o ≡ None
none_front None p h = refl
none_front (Some f) p h = cc

front_unbroken : (payload_at : ℕ) (before after : List Entry)
    → first (each (λ _. feature_field_rules payload_at) [] (before ++ after)) ≡ None
    → first (each (λ _. feature_field_rules payload_at) [] before) ≡ None
front_unbroken payload_at before after h =
    none_front _ _ (sym (ap first (each-append (λ _. feature_field_rules payload_at) [] before after) ∙ first-append _ _) ∙ h)

-- there are tags
pub tags_listed : {payload : List ℕ} {payload_at : ℕ} {known : FeatureFields} {tags integers : List ℕ}
    → Says payload payload_at known tags integers → 2 < length tags → ListsNumbers payload payload_at
tags_listed {payload} {payload_at} says many =
    let (before, x, after, is, number) =
    first_listed TAGS (split payload).fields (omega (arith, many, ap length says.known_is.tags_are)) in
    record {
      whole = says.whole;
      listed = record {
        before = before;
        field = x;
        after = after;
        fields_are = is;
        unbroken =
            front_unbroken payload_at before (x ∷ after)
            (subst (λ xs. first (each (λ _. feature_field_rules payload_at) [] xs) ≡ None) is says.clean);
        listed = inl number;
      };
    }

-- errors of want of memory
pub tag_memory : (e : TagError) → of_tag_error e ≡ Memory → e ≡ tag_errors.Memory
tag_memory tag_errors.Memory is = refl
tag_memory (tag_errors.Fault index cause) is = cc

pub geometry_memory : (e : GeometryError) → of_geometry_error e ≡ Memory → e ≡ geometry_errors.Memory
geometry_memory geometry_errors.Memory is = refl
geometry_memory (geometry_errors.Fault index cause) is = cc
