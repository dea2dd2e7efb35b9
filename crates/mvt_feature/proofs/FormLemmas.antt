-- The forms of fields and their rules say the same.
use Rattle.std.proofs.Common.{◌≡◌, ℕ, ◌+◌, ◌^◌, ◌==◌, Bool, true, false, not, nat_lt, nat_le, List, [], ◌∷◌, None, refl, sym, ap, ◌∙◌, subst, rules, Some}
use Rattle.std.specs.Prelude.{IsUtf8}
use Rattle.std.specs.List.{AllByRecursion}
use Rattle.std.specs.Option.{option_map}
use Rattle.std.specs.Str.{is_utf8}
use Rattle.std.proofs.lemmas.Bool.{ltb-true, lt-ltb, leb-true, le-leb, not-false, false_from_ne_true}
use Rattle.std.proofs.lemmas.Str.{IsUtf8-from_is_utf8, is_utf8-from_IsUtf8}
use Rattle.mvt_base.specs.Rules.{AreOrdered, when, each, first}
use Rattle.mvt_base.proofs.ListLemmas.{all_weaker}
use Rattle.mvt_base.proofs.OrderLemmas.{map_faults_ordered, when_ordered}
use Rattle.mvt_base.proofs.RuleLemmas.{first-map_faults, first-when_not, first-when}
use Rattle.mvt_base.proofs.TableLemmas.{none_mapped, when_none, none_each, each_none, by_number, if_ordered}
use Rattle.mvt_wire.specs.Field.{Content, varint, fixed64, bytes, fixed32, Entry}
use Rattle.mvt_feature.specs.declared.cause.Cause.TheVariants.{WrongType, NumberRange, NotUtf8, GeomType}
use Rattle.mvt_feature.specs.Faults.{fault_at}
use Rattle.mvt_feature.specs.Forms.{Form, any_varint, uint32, geom_type, float, double, string, message, HasForm, form_rules, HaveForms, number_rules, IsFirst, forms_rules}
use Rattle.mvt_feature.specs.Selection.{HaveForm}

utf8_form : (d : List ℕ) (b : Bool) → is_utf8 d ≡ b → first (when (not b) NotUtf8) ≡ None → IsUtf8 d
utf8_form d true e h = IsUtf8-from_is_utf8 d e
utf8_form d false e h = cc

pub has_form : (form : Form) (c : Content) → first (form_rules form c) ≡ None → HasForm form c
has_form any_varint (varint n) h = tt
has_form uint32 (varint n) h = ltb-true n (2 ^ 32) (not-false (nat_lt n (2 ^ 32)) (when_none (not (nat_lt n (2 ^ 32))) NumberRange h))
has_form geom_type (varint n) h = leb-true n 3 (not-false (nat_le n 3) (when_none (not (nat_le n 3)) GeomType h))
has_form float (fixed32 n) h = tt
has_form double (fixed64 n) h = tt
has_form string (bytes d) h = utf8_form d (is_utf8 d) refl h
has_form message (bytes d) h = tt
has_form form c h = cc

pub form_clean : (form : Form) (c : Content) → HasForm form c → first (form_rules form c) ≡ None
form_clean any_varint (varint n) h = refl
form_clean uint32 (varint n) h = first-when_not (not (nat_lt n (2 ^ 32))) NumberRange (ap not (lt-ltb n (2 ^ 32) h))
form_clean geom_type (varint n) h = first-when_not (not (nat_le n 3)) GeomType (ap not (le-leb n 3 h))
form_clean float (fixed32 n) h = refl
form_clean double (fixed64 n) h = refl
form_clean string (bytes d) h = first-when_not (not (is_utf8 d)) NotUtf8 (ap not (is_utf8-from_IsUtf8 d h))
form_clean message (bytes d) h = refl
form_clean form c h = absurd (search rules)

pub text_broken : (d : List ℕ) → (IsUtf8 d → ⊥) → first (form_rules string (bytes d)) ≡ Some NotUtf8
text_broken d h =
    first-when (not (is_utf8 d)) NotUtf8 (ap not (false_from_ne_true (is_utf8 d) (λ e. h (IsUtf8-from_is_utf8 d e))))

form_ordered : (form : Form) (c : Content) → AreOrdered (form_rules form c)
form_ordered any_varint (varint n) = tt
form_ordered uint32 (varint n) = when_ordered (not (nat_lt n (2 ^ 32))) NumberRange
form_ordered geom_type (varint n) = when_ordered (not (nat_le n 3)) GeomType
form_ordered float (fixed32 n) = tt
form_ordered double (fixed64 n) = tt
form_ordered string (bytes d) = when_ordered (not (is_utf8 d)) NotUtf8
form_ordered message (bytes d) = tt
form_ordered form c = when_ordered true WrongType

-- by the numbers of fields
pub number_ordered : (forms : List (ℕ × Form)) (number : ℕ) (c : Content) → AreOrdered (number_rules forms number c)
number_ordered [] number c = tt
number_ordered (known ∷ others) number c = if_ordered (number == known.0) _ _ (form_ordered known.1 c) (number_ordered others number c)

pub number_clean : (forms : List (ℕ × Form)) (number : ℕ) (c : Content)
    → AllByRecursion (λ (known : ℕ × Form). number ≡ known.0 → HasForm known.1 c) forms
    → first (number_rules forms number c) ≡ None
number_clean [] number c h = refl
number_clean (known ∷ others) number c h =
    by_number number _ _ known.0 (λ e. form_clean known.1 c (h.0 e)) (number_clean others number c h.1)

-- what holds of the first field, and of the others
pub forms_split : (forms : List (ℕ × Form)) (x : Entry) (xs : List Entry) → HaveForms forms (x ∷ xs)
    → AllByRecursion (λ (known : ℕ × Form). x.number ≡ known.0 → HasForm known.1 x.content) forms × HaveForms forms xs
forms_split [] x xs h = (tt, tt)
forms_split (known ∷ others) x xs h = let more = forms_split others x xs h.1 in ((h.0.0, more.0), (h.0.1, more.1))

pub number_form : (forms : List (ℕ × Form)) (known : ℕ × Form) → IsFirst forms known → (xs : List Entry)
    → AllByRecursion (λ (x : Entry). first (number_rules forms x.number x.content) ≡ None) xs
    → HaveForm known.0 (HasForm known.1) xs
number_form forms known is xs clean =
    all_weaker (λ (x : Entry). first (number_rules forms x.number x.content) ≡ None)
    (λ (x : Entry). x.number ≡ known.0 → HasForm known.1 x.content)
    (λ x none same. has_form known.1 x.content
    (ap first (sym (is x.content)) ∙ subst (λ n. first (number_rules forms n x.content) ≡ None) same none))
    xs clean

-- the rules of fields, told at their places
pub clean_at : (forms : List (ℕ × Form)) (payload_at : ℕ) (x : Entry) → first (forms_rules forms payload_at x) ≡ None
    → first (number_rules forms x.number x.content) ≡ None
clean_at forms payload_at x h =
    none_mapped (fault_at (payload_at + x.at)) _
    (sym (first-map_faults (fault_at (payload_at + x.at)) (number_rules forms x.number x.content)) ∙ h)

pub reported_clean : (forms : List (ℕ × Form)) (payload_at : ℕ) (x : Entry)
    → first (number_rules forms x.number x.content) ≡ None → first (forms_rules forms payload_at x) ≡ None
reported_clean forms payload_at x h =
    first-map_faults (fault_at (payload_at + x.at)) (number_rules forms x.number x.content)
    ∙ ap (option_map (fault_at (payload_at + x.at))) h

pub forms_ordered : (forms : List (ℕ × Form)) (payload_at : ℕ) (x : Entry) → AreOrdered (forms_rules forms payload_at x)
forms_ordered forms payload_at x =
    map_faults_ordered (fault_at (payload_at + x.at)) (number_rules forms x.number x.content)
    (number_ordered forms x.number x.content)

pub forms_have : (forms : List (ℕ × Form)) (payload_at : ℕ) (xs : List Entry) → AllByRecursion (IsFirst forms) forms
    → first (each (λ _. forms_rules forms payload_at) [] xs) ≡ None → HaveForms forms xs
forms_have forms payload_at xs firsts clean =
    all_weaker (IsFirst forms) (λ (known : ℕ × Form). HaveForm known.0 (HasForm known.1) xs)
    (λ known is. number_form forms known is xs all) forms firsts
  where
    all : AllByRecursion (λ (x : Entry). first (number_rules forms x.number x.content) ≡ None) xs
    all =
        all_weaker (λ (x : Entry). first (forms_rules forms payload_at x) ≡ None)
        (λ (x : Entry). first (number_rules forms x.number x.content) ≡ None) (λ x h. clean_at forms payload_at x h) xs
        (none_each (forms_rules forms payload_at) [] xs clean)

pub forms_clean : (forms : List (ℕ × Form)) (payload_at : ℕ) (xs : List Entry) → HaveForms forms xs
    → first (each (λ _. forms_rules forms payload_at) [] xs) ≡ None
forms_clean forms payload_at xs h = each_none (forms_rules forms payload_at) [] xs (all xs h)
  where
    all : (ys : List Entry) → HaveForms forms ys → AllByRecursion (λ (y : Entry). first (forms_rules forms payload_at y) ≡ None) ys
    all [] g = tt
    all (y ∷ ys) g =
        let parts = forms_split forms y ys g in
        (reported_clean forms payload_at y (number_clean forms y.number y.content parts.0), all ys parts.1)
