-- The value of a payload, as the relation and as the function.
use Rattle.std.proofs.Common.{◌≡◌, ℕ, List, [], Some, None, sym, ap, ◌∙◌, subst, rules, option_and_then}
use Rattle.std.specs.List.{last_or}
use Rattle.std.proofs.lemmas.Bool.{eq-eqb}
use Rattle.mvt_base.proofs.SelectionLemmas.{only_number, last_of_all}
use Rattle.mvt_attrs.specs.Values.{Value}
use Rattle.mvt_attrs.specs.declared.value.ValueOf.TheVariants.{Text, Float, Double, Int, Uint, Sint, Bool as Truth}
use Rattle.mvt_wire.specs.Field.{Content, varint, fixed64, bytes, fixed32, Entry}
use Rattle.mvt_wire.specs.Zigzag.{unzig}
use Rattle.mvt_feature.specs.Selection.{only}
use Rattle.mvt_feature.specs.Values.{Means, IsValueOf}
use Rattle.mvt_feature.specs.ValueIn.{said, value_in}
use Rattle.mvt_feature.specs.ValueRules.{kinds}
use Rattle.mvt_feature.proofs.ValueLemmas.{means_kind, only_kinds}
use Rattle.mvt_wire.proofs.WireLaws.{split_function_only, zigzag_function_number}

-- what means a value says it
said_means : (n : ℕ) (c : Content) (v : Value) → Means n c v → said n c ≡ Some v
said_means n (bytes d) (Text t) h = rw (eq-eqb n 1 h.0) (ap (λ x. Some (Text x)) (sym h.1))
said_means n (fixed32 m) (Float b) h = rw (eq-eqb n 2 h.0) (ap (λ x. Some (Float x)) (sym h.1))
said_means n (fixed64 m) (Double b) h = rw (eq-eqb n 3 h.0) (ap (λ x. Some (Double x)) (sym h.1))
said_means n (varint m) (Int z) h = subst (λ k. said k (varint m) ≡ Some (Int z)) (sym h.0) (ap (λ x. Some (Int x)) (sym h.1))
said_means n (varint m) (Uint k) h = subst (λ k'. said k' (varint m) ≡ Some (Uint k)) (sym h.0) (ap (λ x. Some (Uint x)) (sym h.1))
said_means n (varint m) (Sint z) h =
    subst (λ k. said k (varint m) ≡ Some (Sint z)) (sym h.0)
    (ap (λ x. Some (Sint x)) (ap unzig (sym h.1) ∙ zigzag_function_number z))
said_means n (varint m) (Truth b) h = subst (λ k. said k (varint m) ≡ Some (Truth b)) (sym h.0) (ap (λ x. Some (Truth x)) (sym h.1))
said_means n c v h = absurd (search rules)

pub value_said : (payload : List ℕ) (v : Value) → IsValueOf payload v → value_in payload ≡ Some v
unfolding value_in
value_said payload v (xs, whole, is) =
    let kind = means_kind is.kind is.last.content v is.means in
    let numbered : is.last.number ≡ is.kind =
    last_of_all (λ (x : Entry). x.number ≡ is.kind) (only is.kind xs) is.last
    (only_number (λ (x : Entry). x.number) is.kind xs) is.is_last in
    let last : last_or None (kinds xs) ≡ Some is.last = ap (last_or None) (sym (only_kinds is.kind xs kind is.one)) ∙ is.is_last in
    ap (λ fields. option_and_then (λ (x : Entry). said x.number x.content) (last_or None (kinds fields)))
    (sym (split_function_only payload [] xs whole).0)
    ∙ ap (option_and_then (λ (x : Entry). said x.number x.content)) last ∙ ap (λ n. said n is.last.content) numbered
    ∙ said_means is.kind is.last.content v is.means
