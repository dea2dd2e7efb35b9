-- A name and a version by fields one after the other.
use Rattle.std.proofs.Common.{◌≡◌, ℕ, ◌==◌, Bool, true, false, List, [], ◌∷◌, Option, Some, None, if◌then◌else◌, refl, sym, ap, ap₂, ◌∙◌}
use Rattle.std.specs.List.{last_or}
use Rattle.std.specs.Option.{option_map, option_to_list}
use Rattle.mvt_wire.specs.Field.{Entry}
use Rattle.mvt_wire.specs.Split.{Parts, split}
use Rattle.mvt_feature.specs.Features.{number_in, number_of}
use Rattle.mvt_feature.specs.Selection.{only}
use Rattle.mvt_message.specs.declared.numbers.layer.TheConstants.{NAME, VERSION}
use Rattle.mvt_message.specs.LayerFields.{bytes_of, is_two}
use Rattle.mvt_message.specs.ItemRules.{payload_names}

-- whether the last version is 2, and the last name, of fields after others
abbrev pub version_from : Bool → List Entry → Bool
version_from before [] = before
version_from before (x ∷ xs) = version_from (if x.number == VERSION then is_two (number_of x.content) else before) xs

abbrev pub name_from : Option (List ℕ) → List Entry → Option (List ℕ)
name_from before [] = before
name_from before (x ∷ xs) = name_from (if x.number == NAME then Some (bytes_of x.content) else before) xs

abbrev name_of : Option Entry → Option (List ℕ)
name_of o = option_map (λ (x : Entry). bytes_of x.content) o

version_last : (o : Option Entry) (xs : List Entry)
    → version_from (is_two (number_in o)) xs ≡ is_two (number_in (last_or o (only VERSION xs)))
version_last o [] = refl
version_last o (x ∷ xs) = by_test (x.number == VERSION) (version_last (Some x) xs) (version_last o xs)
  where
    by_test : (b : Bool) → version_from (is_two (number_of x.content)) xs ≡ is_two (number_in (last_or (Some x) (only VERSION xs)))
        → version_from (is_two (number_in o)) xs ≡ is_two (number_in (last_or o (only VERSION xs)))
        → version_from (if b then is_two (number_of x.content) else is_two (number_in o)) xs
        ≡ is_two (number_in (last_or o (if b then x ∷ only VERSION xs else only VERSION xs)))
    by_test true here over = here
    by_test false here over = over

name_last : (o : Option Entry) (xs : List Entry) → name_from (name_of o) xs ≡ name_of (last_or o (only NAME xs))
name_last o [] = refl
name_last o (x ∷ xs) = by_test (x.number == NAME) (name_last (Some x) xs) (name_last o xs)
  where
    by_test : (b : Bool) → name_from (Some (bytes_of x.content)) xs ≡ name_of (last_or (Some x) (only NAME xs))
        → name_from (name_of o) xs ≡ name_of (last_or o (only NAME xs))
        → name_from (if b then Some (bytes_of x.content) else name_of o) xs
        ≡ name_of (last_or o (if b then x ∷ only NAME xs else only NAME xs))
    by_test true here over = here
    by_test false here over = over

-- the name of all fields, where the version is 2
names_by : (two : Bool) (name : Option (List ℕ)) (payload : List ℕ) → version_from false (split payload).fields ≡ two
    → name_from None (split payload).fields ≡ name → (if two then option_to_list name else []) ≡ payload_names payload
unfolding payload_names
names_by two name payload version named =
    let xs = (split payload).fields in
    ap₂ (λ b o. if b then option_to_list o else []) (sym version ∙ version_last None xs) (sym named ∙ name_last None xs)

-- one more field, and the last
module _ (payload : List ℕ) (two : Bool) (name : Option (List ℕ)) (old new : Parts) where
  abbrev Same : Bool → Option (List ℕ) → Parts → Type 0
  Same t n to_come = (version_from false (split payload).fields ≡ version_from t to_come.fields)
      × (name_from None (split payload).fields ≡ name_from n to_come.fields)

  pub naming_ends : Same two name old → old.fields ≡ [] → (if two then option_to_list name else []) ≡ payload_names payload
  naming_ends same none =
      names_by two name payload (same.0 ∙ ap (λ (xs : List Entry). version_from two xs) none)
      (same.1 ∙ ap (λ (xs : List Entry). name_from name xs) none)
