-- Short texts, compared with the zeros after them.
use Rattle.std.proofs.Common.{◌≡◌, ◌∙◌, ◌+◌, drop, subst, IsAscii, IsUtf8, ℕ, zero, suc, ◌≤◌, ◌&&◌, List, [], ◌∷◌, length, take, get_or, nat_eq, bytes_eq, true, refl, ap, arith}
use Rattle.std.proofs.lemmas.Str.{IsUtf8-append, IsUtf8-from_ascii}
use Rattle.std.proofs.lemmas.List.{take-append-drop, get_or-drop}

zeros_same : (a b : List ℕ) → length a ≡ length b → ((k : ℕ) → get_or a k 0 ≡ 0) → ((k : ℕ) → get_or b k 0 ≡ 0)
    → bytes_eq a b ≡ true
zeros_same [] [] size a_zero b_zero = refl
zeros_same [] (y ∷ ys) size a_zero b_zero = absurd (omega arith)
zeros_same (x ∷ xs) [] size a_zero b_zero = absurd (omega arith)
zeros_same (x ∷ xs) (y ∷ ys) size a_zero b_zero =
    let first : x ≡ 0 = a_zero 0 in
    let other : y ≡ 0 = b_zero 0 in
    rw first (rw other (zeros_same xs ys (omega arith) (λ k. a_zero (suc k)) (λ k. b_zero (suc k))))

-- equal lists of one length that are zero from some place on have equal fronts, and the other way round
pub fronts_same : (n : ℕ) (a b : List ℕ) → length a ≡ length b
    → ((k : ℕ) → n ≤ k → get_or a k 0 ≡ 0) → ((k : ℕ) → n ≤ k → get_or b k 0 ≡ 0)
    → bytes_eq a b ≡ bytes_eq (take n a) (take n b)
fronts_same zero a b size a_zero b_zero = zeros_same a b size (λ k. a_zero k (omega arith)) (λ k. b_zero k (omega arith))
fronts_same (suc n) [] [] size a_zero b_zero = refl
fronts_same (suc n) [] (y ∷ ys) size a_zero b_zero = absurd (omega arith)
fronts_same (suc n) (x ∷ xs) [] size a_zero b_zero = absurd (omega arith)
fronts_same (suc n) (x ∷ xs) (y ∷ ys) size a_zero b_zero =
    ap (λ rest. nat_eq x y && rest)
    (fronts_same n xs ys (omega arith) (λ k h. a_zero (suc k) (omega arith)) (λ k h. b_zero (suc k) (omega arith)))

zeros_ascii : (a : List ℕ) → ((k : ℕ) → get_or a k 0 ≡ 0) → IsAscii a
zeros_ascii a zeros = λ k. (let is = zeros k in omega arith)

-- a text with zeros after it is one
pub padded_utf8 : (n : ℕ) (a : List ℕ) → IsUtf8 (take n a) → ((k : ℕ) → n ≤ k → get_or a k 0 ≡ 0) → IsUtf8 a
padded_utf8 n a text zeros =
    let behind : (k : ℕ) → get_or (drop n a) k 0 ≡ 0 = λ k. get_or-drop n a k 0 ∙ zeros (n + k) (omega arith) in
    subst IsUtf8 (take-append-drop n a)
    (IsUtf8-append (take n a) (drop n a) text (IsUtf8-from_ascii (drop n a) (zeros_ascii (drop n a) behind)))
