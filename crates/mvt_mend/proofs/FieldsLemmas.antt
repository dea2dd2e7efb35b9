-- Walks over the fields of a payload.
use Rattle.std.proofs.Common.{◌≡◌, ◌≢◌, ℕ, ◌^◌, ◌<◌, ◌≤◌, ◌+◌, length, ◌==◌, Bool, true, false, List, [], ◌∷◌, Option, Some, None, if◌then◌else◌, not, nat_lt, is_none, refl, sym, arith}
use Rattle.std.specs.List.{AllByRecursion, last_or}
use Rattle.mvt_base.specs.Rules.{Rules, first, map_faults, under, when}
use Rattle.mvt_geometry.specs.declared.shape.Kind.{Kind}
use Rattle.mvt_geometry.specs.declared.shape.Kind.TheVariants as kinds
use Rattle.mvt_wire.proofs.WireLaws.{split_function_is}
use Rattle.mvt_wire.specs.Field.{Entry, varint, fixed64, bytes, fixed32}
use Rattle.mvt_wire.specs.Packed.{is_nil, packed_rules}
use Rattle.mvt_wire.specs.Split.{SplitFrom, split}
use Rattle.mvt_feature.specs.declared.numbers.feature.TheConstants.{GEOMETRY, TYPE}
use Rattle.mvt_feature.specs.declared.cause.Cause.TheVariants.{NumberRange}
use Rattle.mvt_feature.specs.Causes.{of_packed}
use Rattle.mvt_feature.specs.Features.{kind_of_type, number_in, number_of}
use Rattle.mvt_feature.specs.FeatureRules.{kind_in}
use Rattle.mvt_feature.specs.Selection.{only}
use Rattle.mvt_mend.specs.Features.{is_list, integers_after, integers_of}

-- a field's number is in range
pub record IsNumbered (x : Entry) : Type 0 where
  pub first : 1 ≤ x.number
  pub last : x.number < 2 ^ 29

split_numbered : (at : ℕ) (b : List ℕ) (es : List Entry) (rest : List ℕ) → SplitFrom at b es rest → AllByRecursion IsNumbered es
split_numbered at b [] rest s = tt
split_numbered at b (e ∷ es) rest (front, back, joined, is, more) =
    let field = is.field in
    (record { first = field.numbered; last = omega (arith, field.tag_fits) }, split_numbered (at + length front) back es rest more)

pub fields_numbered : (b : List ℕ) → AllByRecursion IsNumbered (split b).fields
fields_numbered b = split_numbered 0 b (split b).fields (split b).rest (split_function_is b)

-- the type of fields after others, the last of which counts
abbrev pub kind_from : Kind → List Entry → Kind
kind_from before [] = before
kind_from before (x ∷ xs) = kind_from (if x.number == TYPE then kind_of_type (number_of x.content) else before) xs

kind_last : (o : Option Entry) (xs : List Entry)
    → kind_from (kind_of_type (number_in o)) xs ≡ kind_of_type (number_in (last_or o (only TYPE xs)))
kind_last o [] = refl
kind_last o (x ∷ xs) = by_test (x.number == TYPE) (kind_last (Some x) xs) (kind_last o xs)
  where
    by_test : (b : Bool) → kind_from (kind_of_type (number_of x.content)) xs ≡ kind_of_type (number_in (last_or (Some x) (only TYPE xs)))
        → kind_from (kind_of_type (number_in o)) xs ≡ kind_of_type (number_in (last_or o (only TYPE xs)))
        → kind_from (if b then kind_of_type (number_of x.content) else kind_of_type (number_in o)) xs
        ≡ kind_of_type (number_in (last_or o (if b then x ∷ only TYPE xs else only TYPE xs)))
    by_test true here over = here
    by_test false here over = over

pub kind_of_all : (xs : List Entry) → kind_from kinds.Unknown xs ≡ kind_in xs
kind_of_all xs = kind_last None xs

-- what is no list of numbers
first_under : {F G : Type 0} (f : F → G) (n : ℕ) (rules : Rules F) → is_none (first rules) ≡ is_none (first (under n (map_faults f rules)))
first_under f n [] = refl
first_under f n (rule ∷ rules) = refl

pub list_number : (n : ℕ) → nat_lt n (2 ^ 32) ≡ is_list (varint n)
unfolding is_list
list_number n = by_test (nat_lt n (2 ^ 32))
  where
    by_test : (b : Bool) → b ≡ is_none (first (under 1 (under 0 (when (not b) NumberRange))))
    by_test true = refl
    by_test false = refl

pub list_numbers : (d : List ℕ) → is_none (first (packed_rules d)) ≡ is_list (bytes d)
unfolding is_list
list_numbers d = first_under of_packed 1 (packed_rules d)

pub list_fixed64 : (n : ℕ) → false ≡ is_list (fixed64 n)
unfolding is_list
list_fixed64 n = refl

pub list_fixed32 : (n : ℕ) → false ≡ is_list (fixed32 n)
unfolding is_list
list_fixed32 n = refl

-- the integers of a payload
pub not_listed : (payload : List ℕ) → integers_after [] (split payload).fields ≡ None → None ≡ integers_of payload
unfolding integers_of
not_listed payload none = by_test (is_nil (split payload).rest)
  where
    by_test : (b : Bool) → None ≡ (if b then integers_after [] (split payload).fields else None)
    by_test true = sym none
    by_test false = refl

pub not_whole : (payload rest : List ℕ) → rest ≡ (split payload).rest → rest ≢ [] → None ≡ integers_of payload
unfolding integers_of
not_whole payload [] is some = absurd (some refl)
not_whole payload (b ∷ rest) is some = rw (← is) refl

pub listed : (payload rest integers : List ℕ) → rest ≡ (split payload).rest → rest ≡ []
    → Some integers ≡ integers_after [] (split payload).fields → Some integers ≡ integers_of payload
unfolding integers_of
listed payload rest integers is none read = rw (← is, none) read

pub listing_stops : (before : List ℕ) (x : Entry) (xs : List Entry) → x.number ≡ GEOMETRY → is_list x.content ≡ false
    → integers_after before (x ∷ xs) ≡ None
listing_stops before x xs is unlisted = rw (is, unlisted) refl
