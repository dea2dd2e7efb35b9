-- A text of plain bytes is what stands for it between two tags.
use Rattle.std.proofs.Common.{◌≡◌, ◌∙◌, ℕ, ◌==◌, ◌+◌, ◌/◌, ◌<◌, ◌≤◌, true, false, List, [], ◌∷◌, ◌++◌, inl, inr, refl, sym, ap₂, subst, arith}
use Rattle.std.proofs.lemmas.Bool.{and_parts, cases_lt}
use Rattle.std.proofs.lemmas.Grind.{common_steps}
use Rattle.std.proofs.lemmas.Str.{encodes-chars}
use Rattle.std.proofs.lemmas.List.Folds.{list_all-append}
use Rattle.std.specs.Char.{encode_utf8}
use Rattle.std.specs.List.{flat_map, list_all}
use Rattle.std.specs.Prelude.{IsUtf8, chars, encode_utf8_all}
use Rattle.mvt_view.specs.Xml.{escaped, escaped_char, is_plain, is_xml}

unmarked : (c : ℕ) → (c == 38) ≡ false → (c == 60) ≡ false → (c == 62) ≡ false → (c == 13) ≡ false → is_xml c ≡ true
    → escaped_char c ≡ encode_utf8 c
unfolding escaped_char
unmarked c a b d e x = grind (arith, common_steps, a, b, d, e, x)

low_stays : (c : ℕ) → is_plain c ≡ true → c < 128 → escaped_char c ≡ encode_utf8 c
low_stays c plain low = unmarked c (grind (arith, common_steps, plain)) (grind (arith, common_steps, plain))
    (grind (arith, common_steps, plain)) (grind (arith, common_steps, plain)) (grind (arith, common_steps, plain, low))

middle_stays : (c : ℕ) → 127 < c → c < 61440 → escaped_char c ≡ encode_utf8 c
middle_stays c over low = unmarked c (grind (arith, common_steps, over)) (grind (arith, common_steps, over))
    (grind (arith, common_steps, over)) (grind (arith, common_steps, over)) (grind (arith, common_steps, over, low))

high_stays : (c : ℕ) → 65535 < c → escaped_char c ≡ encode_utf8 c
high_stays c over = unmarked c (grind (arith, common_steps, over)) (grind (arith, common_steps, over)) (grind (arith, common_steps, over))
    (grind (arith, common_steps, over)) (grind (arith, common_steps, over))

three : (c : ℕ) → is_plain (224 + c / 4096) ≡ true → c < 65536 → c < 61440
three c plain low = grind (arith, common_steps)

low_plain : (c : ℕ) → c < 128 → list_all is_plain (encode_utf8 c) ≡ true → is_plain c ≡ true
unfolding encode_utf8
low_plain c low plain = grind (arith, common_steps, and_parts)

wide_plain : (c : ℕ) → 2048 ≤ c → c < 65536 → list_all is_plain (encode_utf8 c) ≡ true → is_plain (224 + c / 4096) ≡ true
unfolding encode_utf8
wide_plain c over few plain = grind (arith, common_steps, and_parts)

char_stays : (c : ℕ) → list_all is_plain (encode_utf8 c) ≡ true → escaped_char c ≡ encode_utf8 c
char_stays c plain = elim (cases_lt c 128) [
  | inl low ↦ low_stays c (low_plain c low plain) low
  | inr over ↦ elim (cases_lt c 65536) [
    | inl few ↦ elim (cases_lt c 2048) [
      | inl two ↦ middle_stays c (omega (arith, over)) (omega (arith, two))
      | inr more ↦ middle_stays c (omega (arith, over)) (three c (wide_plain c more few plain) few)
    ]
    | inr many ↦ high_stays c (omega (arith, many))
  ]
]

all_stay : (cs : List ℕ) → list_all is_plain (encode_utf8_all cs) ≡ true → flat_map escaped_char cs ≡ encode_utf8_all cs
all_stay [] plain = refl
all_stay (c ∷ cs) plain =
    let both = and_parts _ _ (sym (list_all-append is_plain (encode_utf8 c) (encode_utf8_all cs)) ∙ plain) in
    ap₂ (λ xs ys. xs ++ ys) (char_stays c both.0) (all_stay cs both.1)

pub plain_stays : (text : List ℕ) → IsUtf8 text → list_all is_plain text ≡ true → escaped text ≡ text
plain_stays text utf8 plain =
    let same = encodes-chars text utf8 in
    all_stay (chars text) (subst (λ xs. list_all is_plain xs ≡ true) (sym same) plain) ∙ same
