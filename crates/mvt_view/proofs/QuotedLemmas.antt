-- A text as a string of JSON, run by run.
use Rattle.std.proofs.Common.{◌≡◌, ◌∙◌, ℕ, List, [], ◌∷◌, ◌++◌, true, false, ◌&&◌, codes, refl, sym, ap, ap₂, ◌+◌, ◌-◌, ◌/◌, ◌%◌, ◌≤◌, ◌<◌, length, take, drop, get_or, append_assoc, append-nil, drop-drop, arith}
use Rattle.std.proofs.lemmas.Bool.{and_parts}
use Rattle.std.proofs.lemmas.Grind.{common_steps, flat_map-append}
use Rattle.std.proofs.lemmas.List.{take-append-drop, take-take, drop-take, at_drop_more}
use Rattle.std.specs.Char.{digit_char}
use Rattle.std.specs.List.{list_all}
use Rattle.mvt_base.specs.Related.{Extends}
use Rattle.json.specs.Print.{escape, escape_byte, escape_letter}
use Rattle.mvt_view.specs.JsonForms.{is_clean}
use Rattle.mvt_view.specs.Runs.{RunsTo}

clean_byte : (b : ℕ) → is_clean b ≡ true → escape_byte b ≡ b ∷ []
unfolding escape_byte
clean_byte b clean = grind (arith, common_steps, clean)

pub clean_escape : (text : List ℕ) → list_all is_clean text ≡ true → escape text ≡ text
clean_escape [] clean = refl
clean_escape (b ∷ bs) clean =
    let both = and_parts _ _ clean in
    ap₂ (λ xs ys. xs ++ ys) (clean_byte b both.0) (clean_escape bs both.1)

-- ---- runs of clean bytes, and what stands for the bytes between them

block_stays : (text : List ℕ) (at n : ℕ) → list_all is_clean (take n (drop at text)) ≡ true
    → escape (drop at text) ≡ take n (drop at text) ++ escape (drop (at + n) text)
block_stays text at n clean =
    let block = take n (drop at text) in
    ap escape (sym (take-append-drop n (drop at text))) ∙ flat_map-append escape_byte block (drop n (drop at text))
    ∙ ap₂ (λ xs ys. xs ++ ys) (clean_escape block clean) (ap escape (drop-drop n at text))

take_both : (xs : List ℕ) (m n : ℕ) → take (m + n) xs ≡ take m xs ++ take n (drop m xs)
take_both xs m n =
    sym (take-append-drop m (take (m + n) xs)) ∙ ap₂ (λ ys zs. ys ++ zs) (take-take m (m + n) xs (omega arith)) (drop-take m n xs)

pub runs_block : (text : List ℕ) (from end n : ℕ) → RunsTo text from end → end + n ≤ length text
    → list_all is_clean (take n (drop end text)) ≡ true → RunsTo text from (end + n)
runs_block text from end n so_far within clean =
    let m = end - from in
    let at : from + m ≡ end = omega (arith, so_far.0) in
    let count : m + n ≡ end + n - from = omega (arith, so_far.0) in
    let rest = escape (drop (end + n) text) in
    let longer : take m (drop from text) ++ take n (drop end text) ≡ take (end + n - from) (drop from text) =
    ap (λ xs. take m (drop from text) ++ take n xs) (sym (ap (λ k. drop k text) at) ∙ sym (drop-drop m from text))
    ∙ sym (take_both (drop from text) m n) ∙ ap (λ k. take k (drop from text)) count in (
      omega (arith, so_far.0),
      within,
      so_far.2 ∙ ap (λ xs. take m (drop from text) ++ xs) (block_stays text end n clean)
          ∙ sym (append_assoc (take m (drop from text)) (take n (drop end text)) rest) ∙ ap (λ xs. xs ++ rest) longer,
    )

pub runs_byte : (text : List ℕ) (from end : ℕ) → RunsTo text from end → end < length text → is_clean (get_or text end 0) ≡ true
    → RunsTo text from (end + 1)
runs_byte text from end so_far within clean =
    let alone : list_all is_clean (take 1 (drop end text)) ≡ true =
    at_drop_more (λ xs. list_all is_clean (take 1 xs)) text end 0 within ∙ ap (λ b. b && true) clean in
    runs_block text from end 1 so_far (omega (arith, within)) alone

-- a text that grows

pub extends_none : (a : List ℕ) → Extends a a
extends_none a = ([], sym (append-nil a))

pub extends_by : (a b c more : List ℕ) → Extends a b → c ≡ b ++ more → Extends a c
extends_by a b c more h is = (h.0 ++ more, is ∙ ap (λ l. l ++ more) h.1 ∙ append_assoc a h.0 more)

-- what is appended, and what is still to come
abbrev pub HasCome : List ℕ → List ℕ → List ℕ → ℕ → Type 0
HasCome start now text at = now ++ escape (drop at text) ≡ start ++ escape text

pub run_comes : (start t1 t2 text : List ℕ) (at stop : ℕ) → HasCome start t1 text at → RunsTo text at stop
    → t2 ≡ t1 ++ take (stop - at) (drop at text) → HasCome start t2 text stop
run_comes start t1 t2 text at stop come run is =
    ap (λ t. t ++ escape (drop stop text)) is
    ∙ append_assoc t1 (take (stop - at) (drop at text)) (escape (drop stop text))
    ∙ ap (λ t. t1 ++ t) (sym run.2) ∙ come

pub mark_comes : (start t1 t2 text : List ℕ) (at : ℕ) → HasCome start t1 text at → at < length text
    → t2 ≡ t1 ++ escape_byte (get_or text at 0) → HasCome start t2 text (at + 1)
mark_comes start t1 t2 text at come within is =
    ap (λ t. t ++ escape (drop (at + 1) text)) is
    ∙ append_assoc t1 (escape_byte (get_or text at 0)) (escape (drop (at + 1) text))
    ∙ ap (λ t. t1 ++ t) (sym (at_drop_more escape text at 0 within)) ∙ come

pub control_text : (b : ℕ) → b < 32 → escape_letter b ≡ 0
    → escape_byte b ≡ codes "\\u00" ++ (digit_char (b / 16) ∷ digit_char (b % 16) ∷ [])
unfolding escape_byte
control_text b low letter = rw letter (grind (arith, common_steps, low))

-- a byte that isn't clean is ASCII
pub mark_ascii : (b : ℕ) → is_clean b ≡ false → b < 128
mark_ascii b mark = grind (arith, common_steps, mark)
