-- The tags that name attributes in pools: positions (4.4).
use Rattle.std.specs.Prelude.{ℕ, suc, Bool, List, [], ◌∷◌, Contains, bytes_eq, if◌then◌else◌}
use Rattle.std.specs.List.{flat_map}
use Rattle.mvt_attrs.specs.Values.{Value}
use Rattle.mvt_attrs.specs.declared.value.Attribute.{Attribute}
use Rattle.mvt_attrs.specs.Values.{equal_values}

-- the position of the first entry that equals x, or the length where none does
abbrev pub place_in : {A : Type 0} → (A → A → Bool) → List A → A → ℕ
place_in same [] x = 0
place_in same (y ∷ ys) x = if same y x then 0 else suc (place_in same ys x)

-- for each attribute the position of its key and that of its value
abbrev pub tags_in : List (List ℕ) → List Value → List Attribute → List ℕ
tags_in keys values attributes =
    flat_map (λ (a : Attribute). place_in bytes_eq keys a.key ∷ (place_in equal_values values a.value ∷ [])) attributes

-- the pools hold an attribute's key and its value
abbrev pub IsIn : List (List ℕ) → List Value → Attribute → Type 0
IsIn keys values a = Contains keys a.key × Contains values a.value
