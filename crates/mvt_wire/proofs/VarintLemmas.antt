-- Varints: the sum of groups, and that `number_at` is `Spells`.
use Rattle.std.proofs.Common.{◌≡◌, ℕ, zero, suc, ◌+◌, ◌-◌, ◌*◌, ◌%◌, ◌^◌, ◌<◌, ◌≤◌, inl, inr, true, false, cond, List, [], ◌∷◌, ◌++◌, length, take, drop, get_or, bit_or, bit_and, Result, Ok, Err, refl, sym, ap, subst, ◌∙◌, arith, add-zero, zero-add, pow-suc, pow-add, mod-eq_of_lt, lt-ltb, le-ltb, ltb-true}
use Rattle.std.proofs.Math.Pow.{pow_mono}
use Rattle.std.proofs.lemmas.Bool.{cases_lt, cases_Bool, cond-true, cond-false, and_parts, and_from, and_left, and_right}
use Rattle.std.proofs.lemmas.Nat.{row_fits, mod_below, shl_whole, or_shifted, or_comm, mul-add-lt, and_mask}
use Rattle.std.proofs.lemmas.List.{length-append, length-take-le, get_or-take, take_at, take-append-drop, take_more, drop_more}
use Rattle.mvt_wire.specs.declared.fault.WireCause.{WireCause}
use Rattle.mvt_wire.specs.declared.fault.WireCause.TheVariants.{Truncated, VarintRange}
use Rattle.mvt_wire.specs.Varint.{groups_from, Spells, SpellsNone, spell_cause}
use Rattle.mvt_wire.specs.Fronts.{going_on, number_of, has_number, number_at}

pub groups_from-append : (i : ℕ) (xs ys : List ℕ) → groups_from i (xs ++ ys) ≡ groups_from i xs + groups_from (i + length xs) ys
groups_from-append i [] ys = ap (λ k. groups_from k ys) (sym (add-zero i)) ∙ sym (zero-add _)
groups_from-append i (x ∷ xs) ys =
    let step : groups_from (suc i) (xs ++ ys) ≡ groups_from (suc i) xs + groups_from (suc i + length xs) ys =
    groups_from-append (suc i) xs ys in
    let place : suc i + length xs ≡ i + suc (length xs) = omega arith in
    let moved : groups_from (suc i + length xs) ys ≡ groups_from (i + suc (length xs)) ys = ap (λ k. groups_from k ys) place in
    omega arith

-- n groups from i on are below 128^(i + n)
pub groups_from-lt : (i : ℕ) (xs : List ℕ) → groups_from i xs + 128 ^ i ≤ 128 ^ (i + length xs)
groups_from-lt i [] = omega (arith, ap (λ k. 128 ^ k) (add-zero i))
groups_from-lt i (x ∷ xs) =
    let more : groups_from (suc i) xs + 128 ^ suc i ≤ 128 ^ (suc i + length xs) = groups_from-lt (suc i) xs in
    let place : suc i + length xs ≡ i + suc (length xs) = omega arith in
    let moved : 128 ^ (suc i + length xs) ≡ 128 ^ (i + suc (length xs)) = ap (λ k. 128 ^ k) place in
    let power : 128 ^ suc i ≡ 128 ^ i * 128 = pow-suc 128 i in
    let group : (x % 128) * 128 ^ i + 128 ^ i ≤ 128 * 128 ^ i =
    row_fits (x % 128) (128 ^ i) 128 (128 ^ i) (mod_below x 128 (omega arith)) (omega arith) in
    omega arith

pub pow-128 : (i : ℕ) → 128 ^ i ≡ 2 ^ (7 * i)
pow-128 zero = refl
pow-128 (suc i) =
    let before : 128 ^ i ≡ 2 ^ (7 * i) = pow-128 i in
    let left : 128 ^ suc i ≡ 128 ^ i * 128 = pow-suc 128 i in
    let place : 7 * suc i ≡ 7 * i + 7 = omega arith in
    let right : 2 ^ (7 * i + 7) ≡ 2 ^ (7 * i) * 2 ^ 7 = pow-add 2 (7 * i) 7 in
    let moved : 2 ^ (7 * suc i) ≡ 2 ^ (7 * i + 7) = ap (λ k. 2 ^ k) place in
    omega (arith, left, right, moved, before)

-- a group set above the groups before it
pub or_group : (v c i j : ℕ) → v < 128 ^ i → c < 2 ^ j → j + 7 * i ≤ 64 → bit_or v (c * 2 ^ (7 * i) % 2 ^ 64) ≡ v + c * 128 ^ i
or_group v c i j below small within =
    let power : 128 ^ i ≡ 2 ^ (7 * i) = pow-128 i in
    let whole : c * 2 ^ (7 * i) % 2 ^ 64 ≡ c * 2 ^ (7 * i) = shl_whole c j (7 * i) 64 small within in
    let under : v < 2 ^ (7 * i) = subst (λ (k : ℕ). v < k) power below in
    let joined : bit_or (c * 2 ^ (7 * i)) v ≡ c * 2 ^ (7 * i) + v = or_shifted c (7 * i) v under in
    let turned : bit_or v (c * 2 ^ (7 * i)) ≡ bit_or (c * 2 ^ (7 * i)) v = or_comm v (c * 2 ^ (7 * i)) in
    let same : c * 128 ^ i ≡ c * 2 ^ (7 * i) = ap (λ k. c * k) power in
    let first : bit_or v (c * 2 ^ (7 * i) % 2 ^ 64) ≡ bit_or v (c * 2 ^ (7 * i)) = ap (λ k. bit_or v k) whole in
    omega (arith, first, turned, joined, same)

-- going on at a place
pub going_on-more : (b : List ℕ) (i : ℕ) → i < length b → 128 ≤ get_or b i 0 → going_on (drop i b) ≡ suc (going_on (drop (i + 1) b))
unfolding going_on
going_on-more b i within large =
    ap going_on (drop_more b i 0 within) ∙ ap (λ t. cond t 0 (suc (going_on (drop (i + 1) b)))) (le-ltb _ _ large)

pub going_on-stop : (b : List ℕ) (i : ℕ) → i < length b → get_or b i 0 < 128 → going_on (drop i b) ≡ 0
unfolding going_on
going_on-stop b i within small =
    ap going_on (drop_more b i 0 within) ∙ ap (λ t. cond t 0 (suc (going_on (drop (i + 1) b)))) (lt-ltb _ _ small)

before_here : (xs : List ℕ) (x i : ℕ) → 128 ≤ x → i < suc (going_on xs) → ((k : ℕ) → k < going_on xs → 128 ≤ get_or xs k 0)
    → 128 ≤ get_or (x ∷ xs) i 0
before_here xs x zero large h before = large
before_here xs x (suc i) large h before = before i (omega arith)

-- each byte before goes on
pub going_on-before : (b : List ℕ) (i : ℕ) → i < going_on b → 128 ≤ get_or b i 0
unfolding going_on
going_on-before [] i h = absurd (omega arith)
going_on-before (x ∷ xs) i h =
    elim (cases_lt x 128) [
      | inl small ↦ absurd (let none = rw (lt-ltb x 128 small) at h in omega arith)
      | inr large ↦ before_here xs x i large (rw (le-ltb x 128 large) at h) (going_on-before xs)
    ]

-- the byte after them doesn't
pub going_on-at : (b : List ℕ) → going_on b < length b → get_or b (going_on b) 0 < 128
unfolding going_on
going_on-at [] h = absurd (omega arith)
going_on-at (x ∷ xs) h =
    elim (cases_lt x 128) [
      | inl small ↦ rw (lt-ltb x 128 small) small
      | inr large ↦ rw (le-ltb x 128 large) (going_on-at xs (let more = rw (le-ltb x 128 large) at h in omega arith))
    ]

-- of a spelling with bytes after it, all but one go on
pub going_on_front : (front back : List ℕ) → 1 ≤ length front → ((i : ℕ) → i + 1 < length front → 128 ≤ get_or front i 0)
    → get_or front (length front - 1) 0 < 128 → going_on (front ++ back) + 1 ≡ length front
unfolding going_on
going_on_front [] back some goes_on ends = absurd (omega arith)
going_on_front (x ∷ []) back some goes_on ends = rw (lt-ltb x 128 ends) refl
going_on_front (x ∷ (y ∷ ys)) back some goes_on ends =
    let large : 128 ≤ x = goes_on 0 (omega arith) in
    let place : length (x ∷ (y ∷ ys)) - 1 ≡ suc (length (y ∷ ys) - 1) = omega arith in
    let last : get_or (y ∷ ys) (length (y ∷ ys) - 1) 0 < 128 = subst (λ (k : ℕ). get_or (x ∷ (y ∷ ys)) k 0 < 128) place ends in
    let more : going_on ((y ∷ ys) ++ back) + 1 ≡ length (y ∷ ys) =
    going_on_front (y ∷ ys) back (omega arith) (λ i h. goes_on (suc i) (omega arith)) last in
    rw (le-ltb x 128 large) (omega arith)

-- what the test of `number_at` tells
pub record IsReady (b : List ℕ) : Type 0 where
  pub whole : going_on b < length b
  pub at_most_ten : going_on b < 10
  pub fits : number_of b < 2 ^ 64

pub ready : (b : List ℕ) → has_number b ≡ true → IsReady b
ready b e =
    let p = and_parts _ _ e in
    let q = and_parts _ _ p.1 in
    record { whole = ltb-true _ _ p.0; at_most_ten = ltb-true _ _ q.0; fits = ltb-true _ _ q.1 }

pub has_number_from : (b : List ℕ) → IsReady b → has_number b ≡ true
has_number_from b r = and_from _ _ (lt-ltb _ _ r.whole) (and_from _ _ (lt-ltb _ _ r.at_most_ten) (lt-ltb _ _ r.fits))

pub number_there : (b : List ℕ) → has_number b ≡ true → number_at b ≡ Ok (number_of b, going_on b + 1)
unfolding number_at
number_there b e = cond-true _ _ _ e

pub number_missing : (b : List ℕ) → has_number b ≡ false → number_at b ≡ Err (spell_cause b)
unfolding number_at
number_missing b e = cond-false _ _ _ e

-- too few bytes, too many, or too large a number
pub number_short : (b : List ℕ) → length b ≤ going_on b → number_at b ≡ Err (spell_cause b)
number_short b h = number_missing b (and_left _ _ (le-ltb _ _ h))

pub number_long : (b : List ℕ) → 10 ≤ going_on b → number_at b ≡ Err (spell_cause b)
number_long b h = number_missing b (and_right _ _ (and_left _ _ (le-ltb _ _ h)))

pub number_large : (b : List ℕ) → 2 ^ 64 ≤ number_of b → number_at b ≡ Err (spell_cause b)
number_large b h = number_missing b (and_right _ _ (and_right _ _ (le-ltb _ _ h)))

-- a pair by its parts
abbrev pub pair_of : ℕ → ℕ → ℕ × ℕ
pair_of a b = (a, b)

pub same_pair : {a b c d : ℕ} → a ≡ c → b ≡ d → pair_of a b ≡ pair_of c d
same_pair {b = b} {c = c} p q = ap (λ k. pair_of k b) p ∙ ap (λ k. pair_of c k) q

-- the value of an `Ok`
pub same_ok : {A E : Type 0} (p q : A) (r : Result A E) → r ≡ Ok p → r ≡ Ok q → p ≡ q
same_ok p q r d e = cc

-- the number that a prefix spells is the one at the front
pub number_spelled : (front back : List ℕ) (n : ℕ) → Spells front n → number_at (front ++ back) ≡ Ok (n, length front)
number_spelled front back n s =
    let size : going_on (front ++ back) + 1 ≡ length front = going_on_front front back s.some s.goes_on s.ends in
    let own : take (going_on (front ++ back) + 1) (front ++ back) ≡ front = take_at front back _ (sym size) in
    let number : number_of (front ++ back) ≡ n = ap (groups_from 0) own ∙ sym s.sum in
    let all : length (front ++ back) ≡ length front + length back = length-append front back in
    let ten : length front ≤ 10 = s.at_most_ten in
    let fits : n < 2 ^ 64 = s.fits in
    let there : IsReady (front ++ back) =
    record { whole = omega arith; at_most_ten = omega arith; fits = subst (λ (k : ℕ). k < 2 ^ 64) (sym number) fits } in
    number_there (front ++ back) (has_number_from (front ++ back) there) ∙ ap Ok (same_pair number size)

-- the number at the front is spelled there
pub ready_spells : (b : List ℕ) → IsReady b → Spells (take (going_on b + 1) b) (number_of b)
ready_spells b r =
    let whole : going_on b < length b = r.whole in
    let ten : going_on b < 10 = r.at_most_ten in
    let size : length (take (going_on b + 1) b) ≡ going_on b + 1 = length-take-le (going_on b + 1) b (omega arith) in
    record {
      some = omega arith;
      at_most_ten = omega arith;
      goes_on = λ i h. let at : get_or (take (going_on b + 1) b) i 0 ≡ get_or b i 0 = get_or-take (going_on b + 1) b i 0 (omega arith) in
          subst (λ (k : ℕ). 128 ≤ k) (sym at) (going_on-before b i (omega arith));
      ends =
          let place : length (take (going_on b + 1) b) - 1 ≡ going_on b = omega arith in
          let at : get_or (take (going_on b + 1) b) (going_on b) 0 ≡ get_or b (going_on b) 0 =
          get_or-take (going_on b + 1) b (going_on b) 0 (omega arith) in
          subst (λ (k : ℕ). get_or (take (going_on b + 1) b) k 0 < 128) (sym place)
          (subst (λ (k : ℕ). k < 128) (sym at) (going_on-at b whole));
      sum = refl;
      fits = r.fits;
    }

by_parts : (b : List ℕ) (n k : ℕ) → IsReady b → pair_of (number_of b) (going_on b + 1) ≡ pair_of n k
    → (1 ≤ k) × (k ≤ length b) × Spells (take k b) n
by_parts b n k r e =
    let number : number_of b ≡ n = ap (λ p. p.0) e in
    let size : going_on b + 1 ≡ k = ap (λ p. p.1) e in
    let whole : going_on b < length b = r.whole in (
      omega arith,
      omega arith,
      subst (λ (m : ℕ). Spells (take k b) m) number (subst (λ (m : ℕ). Spells (take m b) (number_of b)) size (ready_spells b r)),
    )

pub number_seen : (b : List ℕ) (n k : ℕ) → number_at b ≡ Ok (n, k) → (1 ≤ k) × (k ≤ length b) × Spells (take k b) n
number_seen b n k e =
    elim (cases_Bool (has_number b)) [
      | inl t ↦ by_parts b n k (ready b t) (same_ok _ _ _ (number_there b t) e)
      | inr f ↦ absurd (let none = sym (number_missing b f) ∙ e in cc)
    ]

-- where there is none, no prefix spells one
pub number_none : (b : List ℕ) (c : WireCause) → number_at b ≡ Err c → SpellsNone b × (c ≡ spell_cause b)
number_none b c e = (
  λ front back n joined s. absurd (let there = sym e ∙ ap number_at joined ∙ number_spelled front back n s in cc),
  elim (cases_Bool (has_number b)) [
    | inl t ↦ absurd (let there = sym (number_there b t) ∙ e in cc)
    | inr f ↦ (let none = sym (number_missing b f) ∙ e in cc)
  ],
)

pub number_none_from : (b : List ℕ) → SpellsNone b → number_at b ≡ Err (spell_cause b)
number_none_from b none =
    elim (cases_Bool (has_number b)) [
      | inl t ↦
          absurd
          (none (take (going_on b + 1) b) (drop (going_on b + 1) b) (number_of b) (sym (take-append-drop (going_on b + 1) b))
          (ready_spells b (ready b t)))
      | inr f ↦ number_missing b f
    ]

-- ---- the loop over the bytes: v is the sum of the i groups before

pub group_step : (b : List ℕ) (i : ℕ) → i < length b
    → groups_from 0 (take (i + 1) b) ≡ groups_from 0 (take i b) + (get_or b i 0 % 128) * 128 ^ i
group_step b i within =
    let size : length (take i b) ≡ i = length-take-le i b (omega arith) in
    let place : 0 + length (take i b) ≡ i = zero-add _ ∙ size in
    let joined : groups_from 0 (take (i + 1) b) ≡ groups_from 0 (take i b ++ get_or b i 0 ∷ []) =
    ap (groups_from 0) (take_more b i 0 within) in
    let parts : groups_from 0 (take i b ++ get_or b i 0 ∷ [])
    ≡ groups_from 0 (take i b) + groups_from (0 + length (take i b)) (get_or b i 0 ∷ []) =
    groups_from-append 0 (take i b) (get_or b i 0 ∷ []) in
    let last : groups_from (0 + length (take i b)) (get_or b i 0 ∷ []) ≡ (get_or b i 0 % 128) * 128 ^ i + 0 =
    ap (λ k. (get_or b i 0 % 128) * 128 ^ k + 0) place in
    omega (arith, joined, parts, last)

pub groups_below : (b : List ℕ) (i : ℕ) → i ≤ length b → groups_from 0 (take i b) < 128 ^ i
groups_below b i within =
    let size : length (take i b) ≡ i = length-take-le i b within in
    let power : 128 ^ (0 + length (take i b)) ≡ 128 ^ i = ap (λ k. 128 ^ k) (zero-add _ ∙ size) in
    omega (arith, groups_from-lt 0 (take i b), power)

pub group_fits : (v c i j : ℕ) → v < 128 ^ i → c < 2 ^ j → j + 7 * i ≤ 64 → v + c * 128 ^ i < 2 ^ 64
group_fits v c i j below small within =
    let place : c * 128 ^ i + v < 128 ^ i * 2 ^ j = mul-add-lt c (128 ^ i) v (2 ^ j) small below in
    let power : 128 ^ i * 2 ^ j ≡ 2 ^ (7 * i) * 2 ^ j = ap (λ k. k * 2 ^ j) (pow-128 i) in
    let joined : 2 ^ (7 * i + j) ≡ 2 ^ (7 * i) * 2 ^ j = pow-add 2 (7 * i) j in
    let most : 2 ^ (7 * i + j) ≤ 2 ^ 64 = pow_mono {i = 7 * i + j} {j = 64} (omega arith) in
    omega (arith, place, power, joined, most)

-- a group that fits the number
pub record IsGroup (i x : ℕ) : Type 0 where
  pub place : i ≤ 9
  pub last : i ≡ 9 → x ≤ 1

pub group_width : (i x : ℕ) → IsGroup i x → (j : ℕ) × (x % 128 < 2 ^ j) × (j + 7 * i ≤ 64)
group_width i x g =
    let place : i ≤ 9 = g.place in
    elim (cases_lt i 9) [
      | inl h ↦ (7, mod_below x 128 (omega arith), omega arith)
      | inr h ↦
          let nine : i ≡ 9 = omega arith in
          let last : x ≤ 1 = g.last nine in
          (1, omega (arith, mod-eq_of_lt {n = x} {m = 128} (omega arith)), omega arith)
    ]

pub group_set : (b : List ℕ) (i v x : ℕ) → i < length b → x ≡ get_or b i 0 → IsGroup i x → v ≡ groups_from 0 (take i b)
    → bit_or v (bit_and x 127 * 2 ^ (7 * i) % 2 ^ 64) ≡ groups_from 0 (take (i + 1) b)
group_set b i v x within is g sum =
    let width = group_width i x g in
    let mask : bit_and x 127 ≡ x % 128 = and_mask x 7 in
    let below : v < 128 ^ i = subst (λ (k : ℕ). k < 128 ^ i) (sym sum) (groups_below b i (omega arith)) in
    let set : bit_or v ((x % 128) * 2 ^ (7 * i) % 2 ^ 64) ≡ v + (x % 128) * 128 ^ i =
    or_group v (x % 128) i width.0 below width.1 width.2 in
    let masked : bit_or v (bit_and x 127 * 2 ^ (7 * i) % 2 ^ 64) ≡ bit_or v ((x % 128) * 2 ^ (7 * i) % 2 ^ 64) =
    ap (λ k. bit_or v (k * 2 ^ (7 * i) % 2 ^ 64)) mask in
    let step : groups_from 0 (take (i + 1) b) ≡ groups_from 0 (take i b) + (get_or b i 0 % 128) * 128 ^ i = group_step b i within in
    let here : (get_or b i 0 % 128) * 128 ^ i ≡ (x % 128) * 128 ^ i = ap (λ k. (k % 128) * 128 ^ i) (sym is) in
    omega (arith, masked, set, step, here, sum)

pub groups_fit : (b : List ℕ) (i x : ℕ) → i < length b → x ≡ get_or b i 0 → IsGroup i x → groups_from 0 (take (i + 1) b) < 2 ^ 64
groups_fit b i x within is g =
    let width = group_width i x g in
    let fits : groups_from 0 (take i b) + (x % 128) * 128 ^ i < 2 ^ 64 =
    group_fits _ (x % 128) i width.0 (groups_below b i (omega arith)) width.1 width.2 in
    let step : groups_from 0 (take (i + 1) b) ≡ groups_from 0 (take i b) + (get_or b i 0 % 128) * 128 ^ i = group_step b i within in
    let here : (get_or b i 0 % 128) * 128 ^ i ≡ (x % 128) * 128 ^ i = ap (λ k. (k % 128) * 128 ^ i) (sym is) in
    omega (arith, fits, step, here)

-- the byte at i ends the number v
pub number_ends : (b : List ℕ) (i v : ℕ) → i ≤ 9 → i < length b → get_or b i 0 < 128 → going_on b ≡ i + going_on (drop i b)
    → groups_from 0 (take (i + 1) b) ≡ v → v < 2 ^ 64 → number_at b ≡ Ok (v, i + 1)
number_ends b i v place within small goes sum fits =
    let stops : going_on (drop i b) ≡ 0 = going_on-stop b i within small in
    let size : going_on b + 1 ≡ i + 1 = omega arith in
    let number : number_of b ≡ v = ap (λ k. groups_from 0 (take k b)) size ∙ sum in
    let there : IsReady b =
    record { whole = omega arith; at_most_ten = omega arith; fits = subst (λ (k : ℕ). k < 2 ^ 64) (sym number) fits } in
    number_there b (has_number_from b there) ∙ ap Ok (same_pair number size)

pub varint_ends : (b : List ℕ) (i v x : ℕ) → i < length b → x ≡ get_or b i 0 → x < 128 → IsGroup i x
    → going_on b ≡ i + going_on (drop i b) → v ≡ groups_from 0 (take i b)
    → number_at b ≡ Ok (bit_or v (bit_and x 127 * 2 ^ (7 * i) % 2 ^ 64), i + 1)
varint_ends b i v x within is small g goes sum =
    let set : groups_from 0 (take (i + 1) b) ≡ bit_or v (bit_and x 127 * 2 ^ (7 * i) % 2 ^ 64) = sym (group_set b i v x within is g sum) in
    number_ends b i _ g.place within (subst (λ (k : ℕ). k < 128) is small) goes set
    (subst (λ (k : ℕ). k < 2 ^ 64) set (groups_fit b i x within is g))

past_ten : (b : List ℕ) → 10 ≤ length b → (let r : Result (ℕ × ℕ) WireCause = Err (spell_cause b) in r) ≡ Err VarintRange
past_ten b h = ap Err (ap (λ t. cond t Truncated VarintRange) (le-ltb (length b) 10 h))

-- the tenth byte is too large
pub varint_past : (b : List ℕ) (i x : ℕ) → i ≡ 9 → i < length b → x ≡ get_or b i 0 → 1 < x
    → going_on b ≡ i + going_on (drop i b) → number_at b ≡ Err VarintRange
varint_past b i x nine within is large goes =
    elim (cases_lt x 128) [
      | inl small ↦
          (let stops : going_on (drop i b) ≡ 0 = going_on-stop b i within (subst (λ (k : ℕ). k < 128) is small) in
          let size : going_on b + 1 ≡ i + 1 = omega arith in
          let number : number_of b ≡ groups_from 0 (take (i + 1) b) = ap (λ k. groups_from 0 (take k b)) size in
          let step : groups_from 0 (take (i + 1) b) ≡ groups_from 0 (take i b) + (get_or b i 0 % 128) * 128 ^ i = group_step b i within in
          let here : (get_or b i 0 % 128) * 128 ^ i ≡ (x % 128) * 128 ^ 9 =
          ap (λ k. (k % 128) * 128 ^ i) (sym is) ∙ ap (λ k. (x % 128) * 128 ^ k) nine in
          let whole : x % 128 ≡ x = mod-eq_of_lt small in
          number_large b (omega (arith, number, step, here, whole)) ∙ past_ten b (omega arith))
      | inr big ↦
          let more : going_on (drop i b) ≡ suc (going_on (drop (i + 1) b)) =
          going_on-more b i within (subst (λ (k : ℕ). 128 ≤ k) is big) in
          number_long b (omega arith) ∙ past_ten b (omega arith)
    ]

-- the bytes end
pub varint_cut : (b : List ℕ) (i : ℕ) → i ≤ 9 → length b ≤ i → going_on b ≡ i + going_on (drop i b) → number_at b ≡ Err Truncated
varint_cut b i place over goes =
    number_short b (omega arith) ∙ ap Err (ap (λ t. cond t Truncated VarintRange) (lt-ltb (length b) 10 (omega arith)))

-- a byte that goes on isn't the tenth
pub varint_goes_on : (i x : ℕ) → IsGroup i x → 128 ≤ x → i + 1 ≤ 9
varint_goes_on i x g large =
    let place : i ≤ 9 = g.place in
    elim (cases_lt i 9) [ inl h ↦ omega arith | inr h ↦ absurd (let last = g.last (omega arith) in omega arith) ]

-- the short cases
pub one_byte : (b : List ℕ) → 0 < length b → get_or b 0 0 < 128 → number_at b ≡ Ok (get_or b 0 0, 1)
one_byte b some small =
    let step : groups_from 0 (take 1 b) ≡ 0 + (get_or b 0 0 % 128) * 128 ^ 0 = group_step b 0 some in
    let whole : get_or b 0 0 % 128 ≡ get_or b 0 0 = mod-eq_of_lt small in
    number_ends b 0 (get_or b 0 0) (omega arith) some small (sym (zero-add _)) (omega (arith, step, whole)) (omega arith)

pub two_bytes : (b : List ℕ) → 1 < length b → 128 ≤ get_or b 0 0 → get_or b 1 0 < 128
    → number_at b ≡ Ok (bit_or (bit_and (get_or b 0 0) 127) (get_or b 1 0 * 2 ^ 7 % 2 ^ 64), 2)
two_bytes b some large small =
    let x = get_or b 0 0 in
    let y = get_or b 1 0 in
    let first : groups_from 0 (take 1 b) ≡ 0 + (get_or b 0 0 % 128) * 128 ^ 0 = group_step b 0 (omega arith) in
    let second : groups_from 0 (take 2 b) ≡ groups_from 0 (take 1 b) + (get_or b 1 0 % 128) * 128 ^ 1 = group_step b 1 some in
    let mask : bit_and (get_or b 0 0) 127 ≡ get_or b 0 0 % 128 = and_mask (get_or b 0 0) 7 in
    let below : get_or b 0 0 % 128 < 128 = mod_below (get_or b 0 0) 128 (omega arith) in
    let whole : get_or b 1 0 % 128 ≡ get_or b 1 0 = mod-eq_of_lt small in
    let set : bit_or (bit_and (get_or b 0 0) 127) (get_or b 1 0 * 2 ^ 7 % 2 ^ 64)
    ≡ bit_and (get_or b 0 0) 127 + get_or b 1 0 * 128 ^ 1 =
    or_group (bit_and (get_or b 0 0) 127) (get_or b 1 0) 1 7 (omega arith) small (omega arith) in
    let more : going_on (drop 0 b) ≡ suc (going_on (drop 1 b)) = going_on-more b 0 (omega arith) large in
    number_ends b 1 _ (omega arith) some small (omega (arith, more)) (omega (arith, first, second, mask, whole, set))
    (omega (arith, mask, below, set))

-- what the public call answers
pub same_found : (b front back : List ℕ) (found : ℕ × ℕ) (n : ℕ) → number_at b ≡ Ok found → b ≡ front ++ back
    → Spells front n → found ≡ pair_of n (length front)
same_found b front back found n e joined s = same_ok _ _ _ e (ap number_at joined ∙ number_spelled front back n s)

pub none_found : (b front back : List ℕ) (c : WireCause) (n : ℕ) → number_at b ≡ Err c → b ≡ front ++ back → Spells front n → ⊥
none_found b front back c n e joined s = let there = sym e ∙ ap number_at joined ∙ number_spelled front back n s in cc
