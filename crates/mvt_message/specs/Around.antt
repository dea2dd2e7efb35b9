-- The version, the name and the extent of a layer, which stand around its features, keys and values in any order.
use Rattle.std.specs.Prelude.{◌≡◌, ℕ, ◌^◌, ◌<◌, List, [], ◌∷◌, ◌++◌, drop, Bool, true, false, Option, Some, None, IfSome, IsUtf8}
use Rattle.std.specs.List.{AllByRecursion}
use Rattle.std.specs.Borrow.{Bor}
use Rattle.mvt_wire.specs.Field.{bytes, varint}
use Rattle.mvt_wire.specs.Spelling.{Plain, IsFit, short_field, spelled}
use Rattle.mvt_feature.specs.Canonical.{plain}
use Rattle.mvt_feature.specs.Selection.{AreAlike}
use Rattle.mvt_message.specs.declared.around.Around.{Around}
use Rattle.mvt_message.specs.declared.numbers.layer.TheConstants.{NAME, VERSION}
use Rattle.mvt_message.specs.CanonicalItems.{head_fields, extent_fields}

-- a version of 2
abbrev pub version_fields : Bool → List Plain
version_fields true = plain VERSION (varint 2) ∷ []
version_fields false = []

abbrev pub name_fields : Option (Bor (List ℕ)) → List Plain
name_fields (Some name) = plain NAME (bytes name.now) ∷ []
name_fields None = []

abbrev pub extent_option_fields : Option ℕ → List Plain
extent_option_fields (Some extent) = extent_fields extent
extent_option_fields None = []

-- what was met, in the canonical order
abbrev pub around_fields : Around → List Plain
around_fields around = version_fields around.has_version ++ (name_fields around.name ++ extent_option_fields around.extent)

-- a name is a text, and an extent has 32 bits
abbrev pub IsValidAround : Around → Type 0
IsValidAround around = IfSome around.name (λ name. IsUtf8 name.now) × IfSome around.extent (λ extent. extent < 2 ^ 32)

-- the field at a place is one more of these, none of which was met before
pub record IsOneMore (body : List ℕ) (at : ℕ) (before : Around) (after : Around) (end : ℕ) : Type 0 where
  pub field : Plain
  pub fit : IsFit field
  pub stands : drop at body ≡ short_field field.number field.content ++ drop end body
  pub alike : AreAlike (around_fields before ++ field ∷ []) (around_fields after)
  pub valid : IsValidAround before → IsValidAround after

-- the fields from a place to another, after what was met before
pub record AreAroundFrom (body : List ℕ) (start : ℕ) (before : Around) (after : Around) (at : ℕ) : Type 0 where
  pub fields : List Plain
  pub fit : AllByRecursion IsFit fields
  pub stand : drop start body ≡ spelled fields ++ drop at body
  pub alike : AreAlike (around_fields before ++ fields) (around_fields after)
  pub valid : IsValidAround before → IsValidAround after

-- what stands up to a place in front of the other fields
abbrev pub IsHead : List ℕ → Around → ℕ → Type 0
IsHead body head at = AreAroundFrom body 0 (record { has_version = false; name = None; extent = None }) head at

-- the name and the extent of a layer of version 2, whose other fields stand from one place to another
pub record IsAround (body name : List ℕ) (extent start end : ℕ) : Type 0 where
  pub head : List Plain
  pub tail : List Plain
  pub head_fit : AllByRecursion IsFit head
  pub tail_fit : AllByRecursion IsFit tail
  pub begins : body ≡ spelled head ++ drop start body
  pub ends : drop end body ≡ spelled tail
  pub alike : AreAlike (head ++ tail) (head_fields name ++ extent_fields extent)
  pub text : IsUtf8 name
  pub small : extent < 2 ^ 32
