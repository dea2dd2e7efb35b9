-- The shortest spelling of a number.
use Rattle.std.proofs.Common.{◌≡◌, ℕ, zero, suc, ◌+◌, ◌-◌, ◌*◌, ◌/◌, ◌%◌, ◌^◌, ◌<◌, ◌≤◌, ◌++◌, take, set, append_assoc, inl, inr, cond, List, [], ◌∷◌, length, get_or, refl, sym, ap, subst, ◌∙◌, arith, pow-suc, lt-ltb, le-ltb, mod-eq_of_lt}
use Rattle.std.proofs.lemmas.Bool.{cases_lt}
use Rattle.std.proofs.lemmas.Nat.{mod_below, div_below, pow_pos, le-div}
use Rattle.std.proofs.lemmas.List.{take_more_set}
use Rattle.std.proofs.Math.Pow.{pow_mono}
use Rattle.mvt_wire.specs.Varint.{groups_from, Spells, short_within, short}
use Rattle.mvt_wire.proofs.VarintLemmas.{groups_from-lt, pow-128}

-- the form of a spelling, without its number
pub record IsSpelling (b : List ℕ) : Type 0 where
  pub some : 1 ≤ length b
  pub goes_on : (i : ℕ) → i + 1 < length b → 128 ≤ get_or b i 0
  pub ends : get_or b (length b - 1) 0 < 128
  pub bytes : (i : ℕ) → get_or b i 0 < 256

below_256 : (n i : ℕ) → n < 128 → get_or (n ∷ []) i 0 < 256
below_256 n zero small = omega arith
below_256 n (suc i) small = omega arith

alone : (n : ℕ) → n < 128 → IsSpelling (n ∷ [])
alone n small = record { some = omega arith; goes_on = λ i h. absurd (omega arith); ends = small; bytes = λ i. below_256 n i small }

goes_before : (x i : ℕ) (xs : List ℕ) → 128 ≤ x → IsSpelling xs → i + 1 < length (x ∷ xs) → 128 ≤ get_or (x ∷ xs) i 0
goes_before x zero xs large s h = large
goes_before x (suc i) xs large s h = s.goes_on i (omega arith)

byte_before : (x i : ℕ) (xs : List ℕ) → x < 256 → IsSpelling xs → get_or (x ∷ xs) i 0 < 256
byte_before x zero xs small s = small
byte_before x (suc i) xs small s = s.bytes i

before : (x : ℕ) (xs : List ℕ) → 128 ≤ x → x < 256 → IsSpelling xs → IsSpelling (x ∷ xs)
before x xs large small s =
    let some : 1 ≤ length xs = s.some in
    let place : suc (length xs - 1) ≡ length (x ∷ xs) - 1 = omega arith in
    record {
      some = omega arith;
      goes_on = λ i h. goes_before x i xs large s h;
      ends = subst (λ (k : ℕ). get_or (x ∷ xs) k 0 < 128) place s.ends;
      bytes = λ i. byte_before x i xs small s;
    }

-- one step of `short_within`
pub short_one : (k n : ℕ) → n < 128 → short_within k n ≡ n ∷ []
unfolding short_within
short_one zero n small = refl
short_one (suc k) n small = ap (λ t. cond t (n ∷ []) ((n % 128 + 128) ∷ short_within k (n / 128))) (lt-ltb n 128 small)

pub short_more : (k n : ℕ) → 128 ≤ n → short_within (suc k) n ≡ (n % 128 + 128) ∷ short_within k (n / 128)
unfolding short_within
short_more k n large = ap (λ t. cond t (n ∷ []) ((n % 128 + 128) ∷ short_within k (n / 128))) (le-ltb n 128 large)

quotient : (n k : ℕ) → n < 128 ^ suc k → n / 128 < 128 ^ k
quotient n k h = div_below n 128 (128 ^ k) (omega arith) (let power : 128 ^ suc k ≡ 128 ^ k * 128 = pow-suc 128 k in omega arith)

pub short_spelling : (k n : ℕ) → n < 128 ^ suc k → IsSpelling (short_within k n)
short_spelling zero n h = subst IsSpelling (sym (short_one zero n (omega arith))) (alone n (omega arith))
short_spelling (suc k) n h =
    elim (cases_lt n 128) [
      | inl small ↦ subst IsSpelling (sym (short_one (suc k) n small)) (alone n small)
      | inr large ↦
          (let low : n % 128 < 128 = mod_below n 128 (omega arith) in
          subst IsSpelling (sym (short_more k n large)) (before (n % 128 + 128) (short_within k (n / 128))
          (omega arith) (omega arith) (short_spelling k (n / 128) (quotient n (suc k) h))))
    ]

-- the same groups one place higher
pub groups_from-suc : (i : ℕ) (xs : List ℕ) → groups_from (suc i) xs ≡ 128 * groups_from i xs
groups_from-suc i [] = refl
groups_from-suc i (x ∷ xs) =
    let more : groups_from (suc (suc i)) xs ≡ 128 * groups_from (suc i) xs = groups_from-suc (suc i) xs in
    let power : 128 ^ suc i ≡ 128 ^ i * 128 = pow-suc 128 i in
    let high : (x % 128) * 128 ^ suc i ≡ (x % 128) * (128 ^ i * 128) = ap (λ k. (x % 128) * k) power in
    omega (arith, more, high)

-- the number of a spelling, from its first byte and the others
pub groups_first : (x : ℕ) (xs : List ℕ) → groups_from 0 (x ∷ xs) ≡ x % 128 + 128 * groups_from 0 xs
groups_first x xs = omega (arith, groups_from-suc 0 xs)

pub short_sum : (k n : ℕ) → n < 128 ^ suc k → groups_from 0 (short_within k n) ≡ n
short_sum zero n h =
    ap (groups_from 0) (short_one zero n (omega arith))
    ∙ omega (arith, groups_first n [], mod-eq_of_lt {n = n} {m = 128} (omega arith))
short_sum (suc k) n h =
    elim (cases_lt n 128) [
      | inl small ↦ ap (groups_from 0) (short_one (suc k) n small) ∙ omega (arith, groups_first n [], mod-eq_of_lt small)
      | inr large ↦
          (let more : groups_from 0 (short_within k (n / 128)) ≡ n / 128 = short_sum k (n / 128) (quotient n (suc k) h) in
          let first : groups_from 0 ((n % 128 + 128) ∷ short_within k (n / 128))
          ≡ (n % 128 + 128) % 128 + 128 * groups_from 0 (short_within k (n / 128)) =
          groups_first (n % 128 + 128) (short_within k (n / 128)) in
          ap (groups_from 0) (short_more k n large) ∙ omega (arith, more, first))
    ]

short_zero : (n m : ℕ) → length (short_within zero n) ≤ suc m
unfolding short_within
short_zero n m = omega arith

-- no more bytes than the number needs
pub short_length : (k m n : ℕ) → n < 128 ^ suc m → length (short_within k n) ≤ suc m
short_length zero m n h = short_zero n m
short_length (suc k) zero n h = omega (arith, ap length (short_one (suc k) n (omega arith)))
short_length (suc k) (suc m) n h =
    elim (cases_lt n 128) [
      | inl small ↦ omega (arith, ap length (short_one (suc k) n small))
      | inr large ↦ omega (arith, ap length (short_more k n large), short_length k m (n / 128) (quotient n (suc m) h))
    ]

pub short_within_spells : (n : ℕ) → n < 2 ^ 64 → Spells (short_within 9 n) n
short_within_spells n fits =
    let small : n < 128 ^ 10 = omega arith in
    let s = short_spelling 9 n small in
    record {
      some = s.some;
      at_most_ten = short_length 9 9 n small;
      goes_on = s.goes_on;
      ends = s.ends;
      sum = sym (short_sum 9 n small);
      fits = fits;
    }

pub short_spells : (n : ℕ) → n < 2 ^ 64 → Spells (short n) n
unfolding short
short_spells n fits = short_within_spells n fits

spelled_small : (b : List ℕ) (n : ℕ) → Spells b n → n < 128 ^ suc (length b - 1)
spelled_small b n s =
    let some : 1 ≤ length b = s.some in
    let place : suc (length b - 1) ≡ 0 + length b = omega arith in
    let sum : n ≡ groups_from 0 b = s.sum in
    let below : groups_from 0 b + 128 ^ 0 ≤ 128 ^ (0 + length b) = groups_from-lt 0 b in
    let power : 128 ^ suc (length b - 1) ≡ 128 ^ (0 + length b) = ap (λ k. 128 ^ k) place in
    omega arith

pub short_shortest : (b : List ℕ) (n : ℕ) → Spells b n → length (short n) ≤ length b
unfolding short
short_shortest b n s = let some : 1 ≤ length b = s.some in omega (arith, short_length 9 (length b - 1) n (spelled_small b n s))

-- a spelling is known from its number and its length
last_byte : (x y : ℕ) → x < 128 → y < 128 → x % 128 ≡ y % 128 → x ≡ y
last_byte x y hx hy e = omega arith

first_byte : (x y : ℕ) → 128 ≤ x → x < 256 → 128 ≤ y → y < 256 → x % 128 ≡ y % 128 → x ≡ y
first_byte x y lx hx ly hy e = omega arith

low_part : (x y p q : ℕ) → x % 128 + 128 * p ≡ y % 128 + 128 * q → x % 128 ≡ y % 128
low_part x y p q e = omega arith

high_part : (x y p q : ℕ) → x % 128 + 128 * p ≡ y % 128 + 128 * q → p ≡ q
high_part x y p q e = omega arith

tail : (x y : ℕ) (xs : List ℕ) → IsSpelling (x ∷ (y ∷ xs)) → IsSpelling (y ∷ xs)
tail x y xs s =
    let place : length (x ∷ (y ∷ xs)) - 1 ≡ suc (length (y ∷ xs) - 1) = omega arith in
    record {
      some = omega arith;
      goes_on = λ i h. s.goes_on (suc i) (omega arith);
      ends = subst (λ (k : ℕ). get_or (x ∷ (y ∷ xs)) k 0 < 128) place s.ends;
      bytes = λ i. s.bytes (suc i);
    }

pub same_spelling : (a b : List ℕ) → length a ≡ length b → IsSpelling a → IsSpelling b → groups_from 0 a ≡ groups_from 0 b → a ≡ b
same_spelling [] [] size s t sum = refl
same_spelling [] (y ∷ ys) size s t sum = absurd (omega arith)
same_spelling (x ∷ xs) [] size s t sum = absurd (omega arith)
same_spelling (x ∷ []) (y ∷ []) size s t sum =
    ap (λ k. k ∷ []) (last_byte x y s.ends t.ends (omega (arith, sum, groups_first x [], groups_first y [])))
same_spelling (x ∷ []) (y ∷ (v ∷ vs)) size s t sum = absurd (omega arith)
same_spelling (x ∷ (u ∷ us)) (y ∷ []) size s t sum = absurd (omega arith)
same_spelling (x ∷ (u ∷ us)) (y ∷ (v ∷ vs)) size s t sum =
    let left : groups_from 0 (x ∷ (u ∷ us)) ≡ x % 128 + 128 * groups_from 0 (u ∷ us) = groups_first x (u ∷ us) in
    let right : groups_from 0 (y ∷ (v ∷ vs)) ≡ y % 128 + 128 * groups_from 0 (v ∷ vs) = groups_first y (v ∷ vs) in
    let whole : x % 128 + 128 * groups_from 0 (u ∷ us) ≡ y % 128 + 128 * groups_from 0 (v ∷ vs) = sym left ∙ sum ∙ right in
    let here = first_byte x y (s.goes_on 0 (omega arith)) (s.bytes 0) (t.goes_on 0 (omega arith)) (t.bytes 0) (low_part x y _ _ whole) in
    let more = same_spelling (u ∷ us) (v ∷ vs) (omega arith) (tail x u us s) (tail y v vs t) (high_part x y _ _ whole) in
    ap (λ k. k ∷ (u ∷ us)) here ∙ ap (λ l. y ∷ l) more

pub short_only : (b : List ℕ) (n : ℕ) → ((k : ℕ) → get_or b k 0 < 256) → Spells b n → length b ≡ length (short n) → b ≡ short n
unfolding short
short_only b n bytes s size =
    let fits : n < 2 ^ 64 = s.fits in
    let small : n < 128 ^ 10 = omega arith in
    same_spelling b (short_within 9 n) size (record { some = s.some; goes_on = s.goes_on; ends = s.ends; bytes = bytes })
    (short_spelling 9 n small) (sym s.sum ∙ sym (short_sum 9 n small))

-- ---- lengths

short_zero_some : (n : ℕ) → 1 ≤ length (short_within zero n)
unfolding short_within
short_zero_some n = omega arith

pub short_within_some : (k n : ℕ) → 1 ≤ length (short_within k n)
short_within_some zero n = short_zero_some n
short_within_some (suc k) n =
    elim (cases_lt n 128) [
      | inl small ↦ omega (arith, ap length (short_one (suc k) n small))
      | inr large ↦ omega (arith, ap length (short_more k n large))
    ]

pub short_within_most : (k n : ℕ) → length (short_within k n) ≤ suc k
short_within_most zero n = short_zero n 0
short_within_most (suc k) n =
    elim (cases_lt n 128) [
      | inl small ↦ omega (arith, ap length (short_one (suc k) n small))
      | inr large ↦ omega (arith, ap length (short_more k n large), short_within_most k (n / 128))
    ]

-- as many bytes as the number needs
pub short_needs : (k m n : ℕ) → m ≤ k → 128 ^ m ≤ n → suc m ≤ length (short_within k n)
short_needs k zero n within h = short_within_some k n
short_needs zero (suc m) n within h = absurd (omega arith)
short_needs (suc k) (suc m) n within h =
    let power : 128 ^ suc m ≡ 128 ^ m * 128 = pow-suc 128 m in
    let some : 1 ≤ 128 ^ m = subst (λ (q : ℕ). 1 ≤ q) (sym (pow-128 m)) (pow_pos (7 * m)) in
    let large : 128 ≤ n = omega arith in
    let rest : 128 ^ m ≤ n / 128 = le-div (128 ^ m) n 128 (omega arith) (omega arith) in
    omega (arith, ap length (short_more k n large), short_needs k m (n / 128) (omega arith) rest)

pub short_some : (n : ℕ) → 1 ≤ length (short n)
unfolding short
short_some n = short_within_some 9 n

pub short_most : (n : ℕ) → length (short n) ≤ 10
unfolding short
short_most n = short_within_most 9 n

pub short_is_one : (n : ℕ) → n < 128 → short n ≡ n ∷ []
unfolding short
short_is_one n small = short_one 9 n small

pub short_is_two : (n : ℕ) → 128 ≤ n → n < 2 ^ 14 → short n ≡ (n % 128 + 128) ∷ n / 128 ∷ []
unfolding short
short_is_two n large small = short_more 8 n large ∙ ap (λ s. (n % 128 + 128) ∷ s) (short_one 8 (n / 128) (omega arith))

-- the length from the highest bit
pub short_len : (n j : ℕ) → j < 64 → 2 ^ j ≤ n → n < 2 * 2 ^ j → j / 7 + 1 ≡ length (short n)
unfolding short
short_len n j fits least most =
    let double : 2 ^ suc j ≡ 2 ^ j * 2 = pow-suc 2 j in
    let top : 2 ^ suc j ≤ 2 ^ (7 * suc (j / 7)) = pow_mono {i = suc j} {j = 7 * suc (j / 7)} (omega arith) in
    let power : 128 ^ suc (j / 7) ≡ 2 ^ (7 * suc (j / 7)) = pow-128 (suc (j / 7)) in
    let below : n < 128 ^ suc (j / 7) = omega arith in
    let upper : length (short_within 9 n) ≤ suc (j / 7) = short_length 9 (j / 7) n below in
    elim (cases_lt j 7) [
      | inl small ↦ (let some = short_within_some 9 n in omega arith)
      | inr large ↦
          (let low : 2 ^ (7 * (j / 7)) ≤ 2 ^ j = pow_mono {i = 7 * (j / 7)} {j = j} (omega arith) in
          let seven : 2 ^ 7 ≤ 2 ^ j = pow_mono {i = 7} {j = j} large in
          let same : 128 ^ (j / 7) ≡ 2 ^ (7 * (j / 7)) = pow-128 (j / 7) in
          let lower : suc (j / 7) ≤ length (short_within 9 n) = short_needs 9 (j / 7) n (omega arith) (omega arith) in
          omega arith)
    ]

-- ---- the loop that spells: what is spelled, and what is left

pub spell_step : (bytes number : List ℕ) (len rest : ℕ) → length bytes ≡ 10 → len ≤ 9 → 128 ≤ rest → rest < 128 ^ (10 - len)
    → take len bytes ++ short_within (9 - len) rest ≡ number
    → (len + 1 ≤ 9) × (rest / 128 < 128 ^ (10 - (len + 1)))
    × (take (len + 1) (set bytes len (rest % 128 + 128)) ++ short_within (9 - (len + 1)) (rest / 128) ≡ number)
spell_step bytes number len rest size within large small is =
    elim (cases_lt len 9) [
      | inl more ↦
          (let left : 10 - len ≡ suc (9 - len) = omega arith in
          let left' : 9 - len ≡ suc (9 - (len + 1)) = omega arith in
          let left'' : 10 - (len + 1) ≡ 9 - len = omega arith in
          let fits : rest / 128 < 128 ^ (9 - len) = quotient rest (9 - len) (subst (λ (k : ℕ). rest < 128 ^ k) left small) in
          let spelled : short_within (9 - len) rest ≡ (rest % 128 + 128) ∷ short_within (9 - (len + 1)) (rest / 128) =
          ap (λ k. short_within k rest) left' ∙ short_more (9 - (len + 1)) rest large in (
            omega arith,
            subst (λ (k : ℕ). rest / 128 < 128 ^ k) (sym left'') fits,
            ap (λ s. s ++ short_within (9 - (len + 1)) (rest / 128)) (take_more_set bytes len (rest % 128 + 128) (omega arith))
                ∙ append_assoc (take len bytes) ((rest % 128 + 128) ∷ []) (short_within (9 - (len + 1)) (rest / 128))
                ∙ ap (λ s. take len bytes ++ s) (sym spelled) ∙ is,
          ))
      | inr last ↦ absurd (let left : 10 - len ≡ 1 = omega arith in let few = subst (λ (k : ℕ). rest < 128 ^ k) left small in omega arith)
    ]

pub spell_end : (bytes number : List ℕ) (len rest : ℕ) → length bytes ≡ 10 → len ≤ 9 → rest < 128
    → take len bytes ++ short_within (9 - len) rest ≡ number → take (len + 1) (set bytes len rest) ≡ number
spell_end bytes number len rest size within small is =
    take_more_set bytes len rest (omega arith) ∙ ap (λ s. take len bytes ++ s) (sym (short_one (9 - len) rest small)) ∙ is

pub short_within_is : (n : ℕ) → short_within 9 n ≡ short n
unfolding short
short_within_is n = refl

pub short_length_one : (n : ℕ) → n < 128 → length (short n) ≡ 1
short_length_one n small = ap length (short_is_one n small)

pub short_length_two : (n : ℕ) → 128 ≤ n → n < 2 ^ 14 → length (short n) ≡ 2
short_length_two n large small = ap length (short_is_two n large small)
