use Rattle.mvt_feature.proofs.WritingLemmas.{varint_field_len, fixed32_field_len, fixed64_field_len, short_field_len}
use Rattle.std.proofs.Common.{Bool, true, false, ◌<◌, length, ap, ◌∙◌, lit<, rules, w64, if◌then◌else◌}
use Rattle.std.specs.Prelude.{FitsSigned}
use Rattle.std.proofs.lemmas.Int.{to_z-of_z}
use Rattle.mvt_wire.specs.Varint.{short}
use Rattle.mvt_feature.proofs.writing.value_len.Goals as goal

pub returns-in-Float : goal.returns-in-Float
returns-in-Float c = rw c.in-Float.is (fixed32_field_len 2 c.in-Float.field-0 (lit< tt))

pub returns-in-Double : goal.returns-in-Double
returns-in-Double c = rw c.in-Double.is (fixed64_field_len 3 c.in-Double.field-0 (lit< tt))

pub returns-in-Int : goal.returns-in-Int
returns-in-Int c =
    let fits : FitsSigned w64 c.in-Int.number = search rules in
    rw c.in-Int.is
    (varint_field_len 4 _ c.varint_len.result (lit< tt)
    (c.varint_len.ensures.len
    ∙ ap (λ n. length (short n)) (simp (to_z-of_z w64 c.in-Int.number fits) at c.cast_unsigned.ensures)))

pub returns-in-Uint : goal.returns-in-Uint
returns-in-Uint c =
    rw c.in-Uint.is (varint_field_len 5 c.in-Uint.number c.varint_len-in-Uint.result (lit< tt) c.varint_len-in-Uint.ensures.len)

pub returns-in-Sint : goal.returns-in-Sint
returns-in-Sint c =
    let fits : FitsSigned w64 c.in-Sint.number = search rules in
    rw c.in-Sint.is
    (varint_field_len 6 _ c.varint_len-in-Sint.result (lit< tt)
    (c.varint_len-in-Sint.ensures.len
    ∙ ap (λ n. length (short n)) (simp (to_z-of_z w64 c.in-Sint.number fits) at c.zigzag64.ensures)))

pub returns-in-Bool : goal.returns-in-Bool
returns-in-Bool c = rw c.in-Bool.is (short_field_len 7 _ (lit< tt) (small c.in-Bool.field-0))
  where
    small : (b : Bool) → (if b then 1 else 0) < 128
    small true = lit< tt
    small false = lit< tt
