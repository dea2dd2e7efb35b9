-- Values: the rules and the grammar say the same.
use Rattle.std.proofs.Common.{◌≡◌, ℕ, zero, suc, ◌+◌, ◌≤◌, ◌==◌, ◌↔◌, inl, inr, Bool, true, false, not, nat_le, ℤ, List, [], ◌∷◌, Option, Some, None, refl, sym, ap, ◌∙◌, subst, arith, rules, if◌then◌else◌}
use Rattle.std.specs.Int.{w64, cast_signed}
use Rattle.std.specs.List.{AllByRecursion, list_all, last_or}
use Rattle.std.specs.Option.{option_or}
use Rattle.std.proofs.lemmas.Bool.{eqb-true, eq-eqb, ne_eqb, cases_eq, and_parts, and_from, leb-true, le-leb, not-false, false_from_ne_true, both_ways}
use Rattle.mvt_base.specs.Reports.{Reports}
use Rattle.mvt_base.specs.Rules.{AreOrdered, IsLeast, when, each, first}
use Rattle.mvt_base.proofs.RuleLemmas.{first-when, first-when_not, option_or-none, option_or-nones, option_or-right}
use Rattle.mvt_base.proofs.ListLemmas.{all_weaker}
use Rattle.mvt_attrs.specs.Values.{Value}
use Rattle.mvt_attrs.specs.declared.value.ValueOf.TheVariants.{Text, Float, Double, Int, Uint, Sint, Bool as Truth}
use Rattle.mvt_wire.specs.Field.{Content, varint, fixed64, bytes, fixed32, Entry}
use Rattle.mvt_wire.specs.Split.{Parts, Whole, split}
use Rattle.mvt_feature.specs.declared.numbers.value.TheConstants.{STRING, FLOAT, DOUBLE, INT, UINT, SINT, BOOL}
use Rattle.mvt_wire.specs.Zigzag.{zig, unzig}
use Rattle.mvt_feature.specs.declared.value.Kinds.TheVariants.{One}
use Rattle.mvt_feature.specs.Inner.{AreKinds}
use Rattle.mvt_base.proofs.OrderLemmas.{first_is_least, least_is_first, AreRowsFrom, rows_ordered, each_ordered, when_ordered}
use Rattle.mvt_base.proofs.TableLemmas.{firsts, first-rows_all, when_none, none_each}
use Rattle.mvt_base.proofs.SelectionLemmas.{only_number, only_all, last_of_all, last_there}
use Rattle.mvt_feature.proofs.WalkLemmas.{rest_none, none_rest}
use Rattle.mvt_feature.specs.declared.cause.Cause.TheVariants.{ValueKind}
use Rattle.mvt_feature.specs.Faults.{MessageFault, fault_at, rest_rules, rest_rules_at, fault_of}
use Rattle.mvt_feature.specs.declared.message_error.MessageError.{MessageError}
use Rattle.mvt_feature.specs.declared.message_error.MessageError.TheVariants.{Memory, Fault}
use Rattle.mvt_feature.specs.Selection.{only, last_only}
use Rattle.mvt_feature.specs.Forms.{any_varint, float, double, string, HasForm, HaveForms, number_rules}
use Rattle.mvt_feature.specs.Values.{value_forms, IsKind, Means, IsValue, IsValueOf}
use Rattle.mvt_feature.specs.ValueRules.{is_kind, kinds, are_one_kind, value_field_rules, value_table, value_rules, value_fault}
use Rattle.mvt_feature.proofs.FormLemmas.{has_form, clean_at, reported_clean, forms_have, forms_clean, forms_ordered}
use Rattle.mvt_wire.proofs.WireLaws.{split_function_only, zigzag_function_number, zigzag_function_code, split_function_whole}

-- the fields of a value have no fault
abbrev pub ValuesClean : ℕ → List Entry → Type 0
ValuesClean payload_at xs = first (each (λ _. value_field_rules payload_at) [] xs) ≡ None

-- the fault of a value from its parts
pub value_chain : (payload : List ℕ) (payload_at tag_at : ℕ)
    → value_fault payload payload_at tag_at ≡ firsts (value_table payload payload_at tag_at)
unfolding value_fault value_rules
value_chain payload payload_at tag_at = first-rows_all (value_table payload payload_at tag_at)

front_some : {F : Type 0} → (a b d : Option F) (f : F) → option_or a b ≡ Some f → option_or a (option_or b d) ≡ Some f
front_some None None d f h = cc
front_some None (Some x) d f h = h
front_some (Some x) b d f h = h

-- a fault of the first rows
pub reports_front : (e : MessageError) (a b d : Option MessageFault) → Reports (fault_of e) (option_or a b)
    → Reports (fault_of e) (option_or a (option_or b d))
reports_front Memory a b d h = tt
reports_front (Fault feature at cause) a b d h = front_some a b d _ h

pub reports_value : (payload : List ℕ) (payload_at tag_at : ℕ) (e : MessageError)
    → Reports (fault_of e)
    (option_or (first (rest_rules payload_at (split payload)))
    (first (each (λ _. value_field_rules payload_at) [] (split payload).fields)))
    → Reports (fault_of e) (value_fault payload payload_at tag_at)
reports_value payload payload_at tag_at e h =
    subst (λ o. Reports (fault_of e) o) (sym (value_chain payload payload_at tag_at))
    (reports_front e (first (rest_rules payload_at (split payload)))
    (first (each (λ _. value_field_rules payload_at) [] (split payload).fields))
    (option_or (first (when (not (are_one_kind (kinds (split payload).fields))) (fault_at tag_at ValueKind))) None) h)

-- a payload that splits wholly into fields without a fault
module _ (payload : List ℕ) (payload_at tag_at : ℕ) (whole : (split payload).rest ≡ [])
    (clean : ValuesClean payload_at (split payload).fields) where
  after_fields : value_fault payload payload_at tag_at
      ≡ first (when (not (are_one_kind (kinds (split payload).fields))) (fault_at tag_at ValueKind))
  after_fields =
      value_chain payload payload_at tag_at ∙ option_or-none _ _ (rest_none payload_at (split payload) whole) ∙ option_or-none _ _ clean
      ∙ option_or-right _

  pub value_kind_reported : are_one_kind (kinds (split payload).fields) ≡ false
      → value_fault payload payload_at tag_at ≡ Some (fault_at tag_at ValueKind)
  value_kind_reported several = after_fields ∙ first-when _ _ (ap not several)

  pub value_clean : are_one_kind (kinds (split payload).fields) ≡ true → value_fault payload payload_at tag_at ≡ None
  value_clean one = after_fields ∙ first-when_not _ _ (ap not one)

-- a fact for each of the seven numbers
for_seven : (P : ℕ → Type 0) → P 1 → P 2 → P 3 → P 4 → P 5 → P 6 → P 7 → (n : ℕ) → 1 ≤ n → n ≤ 7 → P n
for_seven P p1 p2 p3 p4 p5 p6 p7 zero low high = absurd (omega arith)
for_seven P p1 p2 p3 p4 p5 p6 p7 (suc zero) low high = p1
for_seven P p1 p2 p3 p4 p5 p6 p7 (suc (suc zero)) low high = p2
for_seven P p1 p2 p3 p4 p5 p6 p7 (suc (suc (suc zero))) low high = p3
for_seven P p1 p2 p3 p4 p5 p6 p7 (suc (suc (suc (suc zero)))) low high = p4
for_seven P p1 p2 p3 p4 p5 p6 p7 (suc (suc (suc (suc (suc zero))))) low high = p5
for_seven P p1 p2 p3 p4 p5 p6 p7 (suc (suc (suc (suc (suc (suc zero)))))) low high = p6
for_seven P p1 p2 p3 p4 p5 p6 p7 (suc (suc (suc (suc (suc (suc (suc zero))))))) low high = p7
for_seven P p1 p2 p3 p4 p5 p6 p7 (suc (suc (suc (suc (suc (suc (suc (suc n)))))))) low high = absurd (omega arith)

-- a field's rules and its form
clean_rules : (payload_at : ℕ) (x : Entry) → first (value_field_rules payload_at x) ≡ None
    → first (number_rules value_forms x.number x.content) ≡ None
unfolding value_field_rules
clean_rules payload_at x h = clean_at value_forms payload_at x h

pub rules_clean : (payload_at : ℕ) (x : Entry) → first (number_rules value_forms x.number x.content) ≡ None
    → first (value_field_rules payload_at x) ≡ None
unfolding value_field_rules
rules_clean payload_at x h = reported_clean value_forms payload_at x h

-- fields without a fault have the forms of their kinds, and such fields have no fault
values_have : (payload_at : ℕ) (xs : List Entry) → ValuesClean payload_at xs → HaveForms value_forms xs
unfolding value_field_rules
values_have payload_at xs clean =
    forms_have value_forms payload_at xs (λ c. refl, (λ c. refl, (λ c. refl, (λ c. refl, (λ c. refl, (λ c. refl, (λ c. refl, tt))))))) clean

values_clean : (payload_at : ℕ) (xs : List Entry) → HaveForms value_forms xs → ValuesClean payload_at xs
unfolding value_field_rules
values_clean payload_at xs h = forms_clean value_forms payload_at xs h

kind_test : (x : Entry) → IsKind x.number → is_kind x ≡ true
kind_test x h = and_from _ _ (le-leb STRING x.number h.0) (le-leb x.number BOOL h.1)

test_kind : (x : Entry) → is_kind x ≡ true → IsKind x.number
test_kind x h =
    let parts = and_parts (nat_le STRING x.number) (nat_le x.number BOOL) h in
    (leb-true STRING x.number parts.0, leb-true x.number BOOL parts.1)

-- the fields of the kinds are those of the only kind
abbrev IsOnly : ℕ → Entry → Type 0
IsOnly kind x = IsKind x.number → x.number ≡ kind

only_step : (kind : ℕ) (a b : Bool) (x : Entry) (xs ys : List Entry) → a ≡ b → xs ≡ ys
    → (if a then x ∷ xs else xs) ≡ (if b then x ∷ ys else ys)
only_step kind true true x xs ys e f = ap (λ l. x ∷ l) f
only_step kind false false x xs ys e f = f
only_step kind true false x xs ys e f = cc
only_step kind false true x xs ys e f = cc

same_test : (kind : ℕ) (x : Entry) → IsKind kind → IsOnly kind x → (x.number == kind) ≡ is_kind x
same_test kind x is one = elim (cases_eq x.number kind) [
  | inl e ↦ eq-eqb x.number kind e ∙ sym (kind_test x (subst IsKind (sym e) is))
  | inr d ↦ ne_eqb x.number kind d ∙ sym (false_from_ne_true (is_kind x) (λ t. d (one (test_kind x t))))
]

pub only_kinds : (kind : ℕ) (xs : List Entry) → IsKind kind → AllByRecursion (IsOnly kind) xs → only kind xs ≡ kinds xs
only_kinds kind [] is one = refl
only_kinds kind (x ∷ xs) is one =
    only_step kind (x.number == kind) (is_kind x) x (only kind xs) (kinds xs) (same_test kind x is one.0)
    (only_kinds kind xs is one.1)

-- each field of a kind is of the number of all kinds
kinds_one : (kind : ℕ) (xs : List Entry) → AllByRecursion (λ (x : Entry). x.number ≡ kind) (kinds xs) → AllByRecursion (IsOnly kind) xs
kinds_one kind [] h = tt
kinds_one kind (x ∷ xs) h = by_test (is_kind x) refl h (kinds_one kind xs)
  where
    by_test : (b : Bool) → is_kind x ≡ b
        → AllByRecursion (λ (y : Entry). y.number ≡ kind) (if b then x ∷ kinds xs else kinds xs)
        → (AllByRecursion (λ (y : Entry). y.number ≡ kind) (kinds xs) → AllByRecursion (IsOnly kind) xs)
        → AllByRecursion (IsOnly kind) (x ∷ xs)
    by_test true e h more = (λ _. h.0, more h.1)
    by_test false e h more = (λ is. absurd (both_ways (is_kind x) e (kind_test x is)), more h)

-- the number of fields of one kind is that of the last
numbered : (k : ℕ) (xs : List Entry) → list_all (λ (y : Entry). y.number == k) xs ≡ true → AllByRecursion (λ (y : Entry). y.number ≡ k) xs
numbered k [] h = tt
numbered k (x ∷ xs) h =
    let parts = and_parts (x.number == k) (list_all (λ (y : Entry). y.number == k) xs) h in
    (eqb-true x.number k parts.0, numbered k xs parts.1)

all_numbered : (xs : List Entry) (last : Entry) → are_one_kind xs ≡ true → last_or None xs ≡ Some last
    → AllByRecursion (λ (y : Entry). y.number ≡ last.number) xs
all_numbered [] last one is = cc
all_numbered (x ∷ xs) last one is =
    let all : AllByRecursion (λ (y : Entry). y.number ≡ x.number) (x ∷ xs) = (refl, numbered x.number xs one) in
    let of_last : last.number ≡ x.number = last_of_all (λ (y : Entry). y.number ≡ x.number) (x ∷ xs) last all is in
    all_weaker (λ (y : Entry). y.number ≡ x.number) (λ (y : Entry). y.number ≡ last.number) (λ y e. e ∙ sym of_last) (x ∷ xs) all

pub means_kind : (n : ℕ) (c : Content) (v : Value) → Means n c v → IsKind n
means_kind n (bytes d) (Text t) h = let e : n ≡ STRING = h.0 in (omega arith, omega arith)
means_kind n (fixed32 m) (Float b) h = let e : n ≡ FLOAT = h.0 in (omega arith, omega arith)
means_kind n (fixed64 m) (Double b) h = let e : n ≡ DOUBLE = h.0 in (omega arith, omega arith)
means_kind n (varint m) (Int z) h = let e : n ≡ INT = h.0 in (omega arith, omega arith)
means_kind n (varint m) (Uint b) h = let e : n ≡ UINT = h.0 in (omega arith, omega arith)
means_kind n (varint m) (Sint z) h = let e : n ≡ SINT = h.0 in (omega arith, omega arith)
means_kind n (varint m) (Truth b) h = let e : n ≡ BOOL = h.0 in (omega arith, omega arith)
means_kind n c v h = absurd (search rules)

-- fields of one kind without a fault are the value that the last of them says
pub value_from : (payload_at : ℕ) (xs : List Entry) (last : Entry) (v : Value) → ValuesClean payload_at xs
    → are_one_kind (kinds xs) ≡ true → last_or None (kinds xs) ≡ Some last → Means last.number last.content v → IsValue xs v
value_from payload_at xs last v clean one is means =
    let same = all_numbered (kinds xs) last one is in
    let only_one = kinds_one last.number xs same in
    let kind = means_kind last.number last.content v means in
    record {
      forms = values_have payload_at xs clean;
      kind = last.number;
      one = only_one;
      last = last;
      is_last = ap (last_or None) (only_kinds last.number xs kind only_one) ∙ is;
      means = means;
    }

-- a payload that splits wholly into these fields
pub split_of : (payload : List ℕ) (xs : List Entry) → Whole payload xs → ((split payload).fields ≡ xs) × ((split payload).rest ≡ [])
split_of payload xs whole = let only = split_function_only payload [] xs whole in (sym only.0, sym only.1)

-- the value of `read_value_ref`
pub kinds_value : (payload : List ℕ) (payload_at number : ℕ) (m : Value) → (split payload).rest ≡ []
    → ValuesClean payload_at (split payload).fields → AreKinds (split payload).fields (One number m)
    → IsValueOf payload m
kinds_value payload payload_at number m rest clean (one, (last, (is, (named, means)))) = (
  (split payload).fields,
  split_function_whole payload rest,
  value_from payload_at (split payload).fields last m clean one is
      (subst (λ n. Means n last.content m) (sym named) means),
)

-- a field of a kind, of the right form, says a value
text_means : (c : Content) → HasForm string c → (v : Value) × Means STRING c v
text_means (bytes d) h = (Text d, (refl, refl))
text_means (varint n) h = absurd h
text_means (fixed64 n) h = absurd h
text_means (fixed32 n) h = absurd h

float_means : (c : Content) → HasForm float c → (v : Value) × Means FLOAT c v
float_means (fixed32 n) h = (Float n, (refl, refl))
float_means (bytes d) h = absurd h
float_means (varint n) h = absurd h
float_means (fixed64 n) h = absurd h

double_means : (c : Content) → HasForm double c → (v : Value) × Means DOUBLE c v
double_means (fixed64 n) h = (Double n, (refl, refl))
double_means (bytes d) h = absurd h
double_means (varint n) h = absurd h
double_means (fixed32 n) h = absurd h

varint_means : (k : ℕ) (c : Content) (make : ℕ → Value) → ((n : ℕ) → Means k (varint n) (make n)) → HasForm any_varint c
    → (v : Value) × Means k c v
varint_means k (varint n) make means h = (make n, means n)
varint_means k (bytes d) make means h = absurd h
varint_means k (fixed64 n) make means h = absurd h
varint_means k (fixed32 n) make means h = absurd h

means_there : (n : ℕ) → IsKind n → (c : Content) → first (number_rules value_forms n c) ≡ None → (v : Value) × Means n c v
means_there n is = for_seven (λ k. (c : Content) → first (number_rules value_forms k c) ≡ None → (v : Value) × Means k c v)
    (λ c h. text_means c (has_form string c h))
    (λ c h. float_means c (has_form float c h))
    (λ c h. double_means c (has_form double c h))
    (λ c h. varint_means INT c (λ n. Int (cast_signed w64 n)) (λ n. (refl, refl)) (has_form any_varint c h))
    (λ c h. varint_means UINT c (λ n. Uint n) (λ n. (refl, refl)) (has_form any_varint c h))
    (λ c h. varint_means SINT c (λ n. Sint (unzig n)) (λ n. (refl, zigzag_function_code n)) (has_form any_varint c h))
    (λ c h. varint_means BOOL c (λ n. Truth (not (n == 0))) (λ n. (refl, refl)) (has_form any_varint c h))
    n is.0 is.1

filter_kinds : (xs : List Entry) → AllByRecursion (λ (x : Entry). IsKind x.number) (kinds xs)
filter_kinds [] = tt
filter_kinds (x ∷ xs) = by_test (is_kind x) refl (filter_kinds xs)
  where
    by_test : (b : Bool) → is_kind x ≡ b → AllByRecursion (λ (y : Entry). IsKind y.number) (kinds xs)
        → AllByRecursion (λ (y : Entry). IsKind y.number) (if b then x ∷ kinds xs else kinds xs)
    by_test true e more = (test_kind x e, more)
    by_test false e more = more

filter_all : (P : Entry → Type 0) (xs : List Entry) → AllByRecursion P xs → AllByRecursion P (kinds xs)
filter_all P [] h = tt
filter_all P (x ∷ xs) h = by_test (is_kind x) (filter_all P xs h.1)
  where
    by_test : (b : Bool) → AllByRecursion P (kinds xs) → AllByRecursion P (if b then x ∷ kinds xs else kinds xs)
    by_test true more = (h.0, more)
    by_test false more = more

value_of_last : (payload_at : ℕ) (xs : List Entry) (last : Entry) → ValuesClean payload_at xs
    → are_one_kind (kinds xs) ≡ true → last_or None (kinds xs) ≡ Some last → (v : Value) × IsValue xs v
value_of_last payload_at xs last clean one is =
    let kind = last_of_all (λ (x : Entry). IsKind x.number) (kinds xs) last (filter_kinds xs) is in
    let rule =
    last_of_all (λ (x : Entry). first (value_field_rules payload_at x) ≡ None) (kinds xs) last
    (filter_all (λ (x : Entry). first (value_field_rules payload_at x) ≡ None) xs
    (none_each (value_field_rules payload_at) [] xs clean))
    is in
    let found = means_there last.number kind last.content (clean_rules payload_at last rule) in
    (found.0, value_from payload_at xs last found.0 clean one is found.1)

last_kind : (xs : List Entry) → are_one_kind xs ≡ true → (x : Entry) × (last_or None xs ≡ Some x)
last_kind [] h = cc
last_kind (x ∷ xs) h = last_there x xs

-- no fault: the payload is a value
pub value_there : (payload : List ℕ) (payload_at tag_at : ℕ) → value_fault payload payload_at tag_at ≡ None
    → (v : Value) × IsValueOf payload v
value_there payload payload_at tag_at h =
    let parts = option_or-nones _ _ (sym (value_chain payload payload_at tag_at) ∙ h) in
    let later = option_or-nones _ _ parts.1 in
    let one = when_none (not (are_one_kind (kinds (split payload).fields))) (fault_at tag_at ValueKind) (option_or-nones _ _ later.1).0 in
    let kind = not-false (are_one_kind (kinds (split payload).fields)) one in
    let last = last_kind (kinds (split payload).fields) kind in
    let found = value_of_last payload_at (split payload).fields last.0 later.0 kind last.1 in
    (found.0, ((split payload).fields, split_function_whole payload (none_rest payload_at (split payload) parts.0), found.1))

-- the grammar keeps the rules
all_one : (k : ℕ) (xs : List Entry) (last : Entry) → AllByRecursion (λ (y : Entry). y.number ≡ k) xs
    → last_or None xs ≡ Some last → are_one_kind xs ≡ true
all_one k [] last h is = cc
all_one k (x ∷ xs) last h is = go xs h.1
  where
    go : (ys : List Entry) → AllByRecursion (λ (y : Entry). y.number ≡ k) ys → list_all (λ (y : Entry). y.number == x.number) ys ≡ true
    go [] more = refl
    go (y ∷ ys) more = and_from _ _ (eq-eqb y.number x.number (more.0 ∙ sym h.0)) (go ys more.1)

pub value_keeps : (payload : List ℕ) (payload_at tag_at : ℕ) (v : Value) → IsValueOf payload v
    → value_fault payload payload_at tag_at ≡ None
value_keeps payload payload_at tag_at v (xs, whole, is) =
    let only = split_of payload xs whole in
    let clean = values_clean payload_at xs is.forms in
    let kind = means_kind is.kind is.last.content v is.means in
    let numbers =
    subst (λ ys. AllByRecursion (λ (y : Entry). y.number ≡ is.kind) ys) (only_kinds is.kind xs kind is.one)
    (only_number (λ (x : Entry). x.number) is.kind xs) in
    let one = all_one is.kind (kinds xs) is.last numbers (ap (last_or None) (sym (only_kinds is.kind xs kind is.one)) ∙ is.is_last) in
    value_clean payload payload_at tag_at only.1 (rw only.0 clean) (rw only.0 one)

-- at most one value
zig-same : (y z : ℤ) → zig y ≡ zig z → y ≡ z
zig-same y z h = sym (zigzag_function_number y) ∙ ap unzig h ∙ zigzag_function_number z

means_same : (n : ℕ) (c : Content) (v w : Value) → Means n c v → Means n c w → v ≡ w
means_same n (bytes d) (Text s) (Text t) h g = ap Text (h.1 ∙ sym g.1)
means_same n (fixed32 m) (Float a) (Float b) h g = ap Float (h.1 ∙ sym g.1)
means_same n (fixed64 m) (Double a) (Double b) h g = ap Double (h.1 ∙ sym g.1)
means_same n (varint m) (Int y) (Int z) h g = ap Int (h.1 ∙ sym g.1)
means_same n (varint m) (Uint a) (Uint b) h g = ap Uint (h.1 ∙ sym g.1)
means_same n (varint m) (Sint y) (Sint z) h g = ap Sint (zig-same y z (h.1 ∙ sym g.1))
means_same n (varint m) (Truth a) (Truth b) h g = ap Truth (h.1 ∙ sym g.1)
means_same n c v w h g = absurd (search rules)

pub value_same : (xs : List Entry) (v w : Value) → IsValue xs v → IsValue xs w → v ≡ w
value_same xs v w a b =
    let a_kind = means_kind a.kind a.last.content v a.means in
    let named : a.last.number ≡ a.kind =
    last_of_all (λ (x : Entry). x.number ≡ a.kind) (only a.kind xs) a.last (only_number (λ (x : Entry). x.number) a.kind xs)
    a.is_last in
    let other : IsKind a.last.number → a.last.number ≡ b.kind =
    last_of_all (λ (x : Entry). IsKind x.number → x.number ≡ b.kind) (only a.kind xs) a.last
    (only_all (λ (x : Entry). x.number) (λ (x : Entry). IsKind x.number → x.number ≡ b.kind) a.kind xs b.one) a.is_last in
    let same : a.kind ≡ b.kind = sym named ∙ other (subst IsKind (sym named) a_kind) in
    let lasts : Some a.last ≡ Some b.last = sym a.is_last ∙ ap (λ k. last_only k xs) same ∙ b.is_last in
    let last : a.last ≡ b.last = cc in
    means_same b.kind b.last.content v w
    (subst (λ (x : Entry). Means b.kind x.content v) last (subst (λ k. Means k a.last.content v) same a.means)) b.means

pub value_once : (payload : List ℕ) (v w : Value) → IsValueOf payload v → IsValueOf payload w → v ≡ w
value_once payload v w (xs, whole, is) (ys, also_whole, also_is) =
    let a = split_of payload xs whole in
    let b = split_of payload ys also_whole in
    value_same xs v w is (subst (λ zs. IsValue zs w) (sym b.0 ∙ a.0) also_is)

-- the table is in order
field_ordered : (payload_at : ℕ) (x : Entry) → AreOrdered (value_field_rules payload_at x)
unfolding value_field_rules
field_ordered payload_at x = forms_ordered value_forms payload_at x

pub rest_ordered : (payload_at : ℕ) (parts : Parts) → AreOrdered (rest_rules payload_at parts)
unfolding rest_rules
rest_ordered payload_at parts = of_rest parts.rest
  where
    of_rest : (r : List ℕ) → AreOrdered (rest_rules_at (payload_at + parts.rest_at) r)
    of_rest [] = tt
    of_rest (b ∷ bs) = (tt, tt)

value_rows : (payload : List ℕ) (payload_at tag_at : ℕ) → AreRowsFrom 0 (value_table payload payload_at tag_at)
value_rows payload payload_at tag_at = (
  omega arith,
  (
    rest_ordered payload_at (split payload),
    (
      omega arith,
      (
        each_ordered (λ _. value_field_rules payload_at) [] (split payload).fields (λ seen x. field_ordered payload_at x),
        (omega arith, (when_ordered _ (fault_at tag_at ValueKind), tt)),
      ),
    ),
  ),
)

pub value_ordered : (payload : List ℕ) (payload_at tag_at : ℕ) → AreOrdered (value_rules payload payload_at tag_at)
unfolding value_rules
value_ordered payload payload_at tag_at = rows_ordered 0 (value_table payload payload_at tag_at) (value_rows payload payload_at tag_at)

pub value_least : (payload : List ℕ) (payload_at tag_at : ℕ) (fault : MessageFault)
    → (value_fault payload payload_at tag_at ≡ Some fault) ↔ IsLeast (value_rules payload payload_at tag_at) fault
unfolding value_fault
value_least payload payload_at tag_at fault = (
  λ h. first_is_least (value_rules payload payload_at tag_at) fault (value_ordered payload payload_at tag_at) h,
  λ h. least_is_first (value_rules payload payload_at tag_at) fault (value_ordered payload payload_at tag_at) h,
)
