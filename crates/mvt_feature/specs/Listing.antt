-- Where memory may run out before a feature is judged: at the numbers of tags and of integers, which are listed.
use Rattle.std.specs.Prelude.{◌≡◌, ◌⊎◌, ℕ, List, [], ◌∷◌, ◌++◌, None}
use Rattle.mvt_base.specs.Rules.{each, first}
use Rattle.mvt_wire.specs.Field.{Entry}
use Rattle.mvt_wire.specs.Split.{split}
use Rattle.mvt_feature.specs.declared.numbers.feature.TheConstants.{TAGS, GEOMETRY}
use Rattle.mvt_feature.specs.FeatureRules.{feature_field_rules}

-- a field of tags or of integers, before which no field breaks a rule
pub record IsListedIn (payload_at : ℕ) (fields : List Entry) : Type 0 where
  pub before : List Entry
  pub field : Entry
  pub after : List Entry
  pub fields_are : fields ≡ before ++ field ∷ after
  pub unbroken : first (each (λ _. feature_field_rules payload_at) [] before) ≡ None
  pub listed : (field.number ≡ TAGS) ⊎ (field.number ≡ GEOMETRY)

-- a payload that splits wholly into fields has such a one: memory stands for no other fault than one from there on
pub record ListsNumbers (payload : List ℕ) (payload_at : ℕ) : Type 0 where
  pub whole : (split payload).rest ≡ []
  pub listed : IsListedIn payload_at (split payload).fields
