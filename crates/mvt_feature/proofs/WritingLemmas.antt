-- Lengths of what is written, and the lists that an error leaves.
use Rattle.std.proofs.Common.{◌≡◌, ℕ, ◌+◌, ◌*◌, ◌<◌, List, [], ◌∷◌, length, take, inl, sym, ap, subst, ◌∙◌, append-nil, arith}
use Rattle.std.proofs.lemmas.List.{take_all}
use Rattle.std.proofs.lemmas.Option.{slice_get_within}
use Rattle.mvt_attrs.specs.declared.used_entries.LayerEntries.{LayerEntries}
use Rattle.mvt_attrs.specs.declared.value.Attribute.{Attribute}
use Rattle.mvt_attrs.specs.Using.{AreToldUpTo, AreUsedUpTo, IsUsedBy, IsUsedUpAt}
use Rattle.mvt_wire.specs.Field.{Content, varint, fixed64, fixed32, wire_type}
use Rattle.mvt_wire.specs.Varint.{short}
use Rattle.mvt_wire.specs.Spelling.{short_payload, short_field, spelled}
use Rattle.mvt_feature.specs.Canonical.{plain}
use Rattle.mvt_wire.proofs.WireLaws.{short_lengths_field, short_lengths_one}

-- one field, whose tag takes a byte
pub one_len : (number : ℕ) (c : Content) → 8 * number + wire_type c < 128
    → length (spelled (plain number c ∷ [])) ≡ 1 + length (short_payload c)
one_len number c small =
    ap length (append-nil (short_field number c)) ∙ short_lengths_field number c
    ∙ ap (λ n. n + length (short_payload c)) (short_lengths_one (8 * number + wire_type c) small)

pub varint_field_len : (number n len : ℕ) → number < 8 → len ≡ length (short n) → 1 + len ≡ length (spelled (plain number (varint n) ∷ []))
varint_field_len number n len small is = ap (λ k. 1 + k) is ∙ sym (one_len number (varint n) (omega arith))

pub fixed32_field_len : (number n : ℕ) → number < 8 → 5 ≡ length (spelled (plain number (fixed32 n) ∷ []))
fixed32_field_len number n small = sym (one_len number (fixed32 n) (omega arith))

pub fixed64_field_len : (number n : ℕ) → number < 8 → 9 ≡ length (spelled (plain number (fixed64 n) ∷ []))
fixed64_field_len number n small = sym (one_len number (fixed64 n) (omega arith))

pub short_field_len : (number n : ℕ) → number < 8 → n < 128 → 2 ≡ length (spelled (plain number (varint n) ∷ []))
short_field_len number n small low = varint_field_len number n 1 small (sym (short_lengths_one n low))

-- attributes that were passed on are all used, and none is left that finds no place
module _ (attributes passed : List Attribute) (is : passed ≡ attributes) (old new : LayerEntries) where
  whole : attributes ≡ take (length attributes) attributes
  whole = sym (take_all (length attributes) attributes (omega arith))

  used_whole : IsUsedBy passed old new → IsUsedBy (take (length attributes) attributes) old new
  used_whole used = subst (λ as'. IsUsedBy as' old new) (is ∙ whole) used

  pub all_used : IsUsedBy passed old new → AreUsedUpTo (length attributes) attributes old new
  all_used used =
      let all = used_whole used in record { within = omega arith; keys_are = inl all.keys; values_are = all.values }

  pub all_told : IsUsedBy passed old new → AreToldUpTo (length attributes) attributes old new
  all_told used =
      let all = used_whole used in record { within = omega arith; keys_are = inl all.keys; values_are = inl all.values }

  pub none_left : IsUsedUpAt (length attributes) attributes new → ⊥
  none_left full = omega (arith, slice_get_within attributes (length attributes) full.0 full.1)
