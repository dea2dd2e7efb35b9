-- A spelling of one byte, or whose last byte isn't 0, is the shortest.
use Rattle.std.proofs.Common.{◌≡◌, ℕ, zero, suc, ◌+◌, ◌-◌, ◌^◌, ◌<◌, ◌≤◌, ◌⊎◌, inl, inr, ◌++◌, take, drop, List, [], ◌∷◌, length, get_or, Ok, sym, ap, ap₂, subst, ◌∙◌, arith, length-append, length-take, take-append-drop, pow-suc}
use Rattle.std.proofs.lemmas.Bool.{cases_lt}
use Rattle.std.proofs.lemmas.List.{take_rest, get_or_append_left, get_or-append-add}
use Rattle.mvt_wire.specs.Fronts.{number_at}
use Rattle.mvt_wire.specs.Packed.{ArePacked}
use Rattle.mvt_wire.specs.Spelling.{short_numbers}
use Rattle.mvt_wire.specs.Varint.{groups_from, Spells, short}
use Rattle.mvt_wire.proofs.ShortLemmas.{groups_first, short_needs, short_only, short_shortest, short_some}
use Rattle.mvt_wire.proofs.VarintLemmas.{number_seen}

-- its part of the number
last_group : (x : ℕ) (xs : List ℕ) → 1 ≤ get_or (x ∷ xs) (length xs) 0 → get_or (x ∷ xs) (length xs) 0 < 128
    → 128 ^ length xs ≤ groups_from 0 (x ∷ xs)
last_group x [] some ends = omega (arith, groups_first x [])
last_group x (y ∷ ys) some ends =
    omega (arith, groups_first x (y ∷ ys), last_group y ys some ends, pow-suc 128 (length ys))

needed : (b : List ℕ) (n : ℕ) → Spells b n → 1 ≤ get_or b (length b - 1) 0 → length b ≤ length (short n)
unfolding short
needed [] n s some = absurd (omega (arith, s.some))
needed (x ∷ xs) n s some =
    let place : length (x ∷ xs) - 1 ≡ length xs = omega arith in
    let here : 1 ≤ get_or (x ∷ xs) (length xs) 0 = subst (λ (k : ℕ). 1 ≤ get_or (x ∷ xs) k 0) place some in
    let ends : get_or (x ∷ xs) (length xs) 0 < 128 = subst (λ (k : ℕ). get_or (x ∷ xs) k 0 < 128) place s.ends in
    let large : 128 ^ length xs ≤ n = omega (arith, s.sum, last_group x xs here ends) in
    omega (arith, short_needs 9 (length xs) n (omega (arith, s.at_most_ten)) large)

pub short_ends : (b : List ℕ) (n : ℕ) → ((k : ℕ) → get_or b k 0 < 256) → Spells b n
    → (length b ≡ 1) ⊎ (1 ≤ get_or b (length b - 1) 0) → b ≡ short n
short_ends b n bytes s (inl one) = short_only b n bytes s (omega (arith, one, short_shortest b n s, short_some n))
short_ends b n bytes s (inr some) = short_only b n bytes s (omega (arith, short_shortest b n s, needed b n s some))

bytes_front : (xs ys : List ℕ) → ((k : ℕ) → get_or (xs ++ ys) k 0 < 256) → (k : ℕ) → get_or xs k 0 < 256
bytes_front [] ys are k = omega arith
bytes_front (x ∷ xs) ys are zero = are 0
bytes_front (x ∷ xs) ys are (suc k) = bytes_front xs ys (λ i. are (suc i)) k

bytes_back : (xs ys : List ℕ) → ((k : ℕ) → get_or (xs ++ ys) k 0 < 256) → (k : ℕ) → get_or ys k 0 < 256
bytes_back [] ys are k = are k
bytes_back (x ∷ xs) ys are k = bytes_back xs ys (λ i. are (suc i)) k

-- the number in front
pub front_short : (b : List ℕ) (n k : ℕ) → ((i : ℕ) → get_or b i 0 < 256) → number_at b ≡ Ok (n, k)
    → (k ≡ 1) ⊎ (1 ≤ get_or b (k - 1) 0) → b ≡ short n ++ take (length b - k) (drop k b)
front_short b n k bytes e ends =
    let seen = number_seen b n k e in
    let parts : take k b ++ drop k b ≡ b = take-append-drop k b in
    let long : length (take k b) ≡ k = omega (arith, length-take k b, seen.1) in
    let front : (i : ℕ) → get_or (take k b) i 0 < 256 =
    bytes_front (take k b) (drop k b) (subst (λ l. (i : ℕ) → get_or l i 0 < 256) (sym parts) bytes) in
    let last : (length (take k b) ≡ 1) ⊎ (1 ≤ get_or (take k b) (length (take k b) - 1) 0) = last_of ends in
    sym parts ∙ ap₂ (λ x y. x ++ y) (short_ends (take k b) n front seen.2 last) (sym (take_rest b k))
  where
    last_of : (k ≡ 1) ⊎ (1 ≤ get_or b (k - 1) 0) → (length (take k b) ≡ 1) ⊎ (1 ≤ get_or (take k b) (length (take k b) - 1) 0)
    last_of (inl one) = inl (omega (arith, length-take k b, one, (number_seen b n k e).1))
    last_of (inr some) =
        let seen = number_seen b n k e in
        let long : length (take k b) ≡ k = omega (arith, length-take k b, seen.1) in
        let same : get_or (take k b ++ drop k b) (k - 1) 0 ≡ get_or (take k b) (k - 1) 0 =
        get_or_append_left (take k b) (drop k b) 0 (k - 1) (omega (arith, long, seen.0)) in
        let here : get_or b (k - 1) 0 ≡ get_or (take k b) (k - 1) 0 =
        ap (λ l. get_or l (k - 1) 0) (sym (take-append-drop k b)) ∙ same in
        inr (subst (λ i. 1 ≤ get_or (take k b) (i - 1) 0) (sym long) (omega (arith, some, here)))

-- no byte of 0 follows one that doesn't end its number
abbrev pub HasNoLong : List ℕ → ℕ → Type 0
HasNoLong b n = (k : ℕ) → k + 1 < n → 128 ≤ get_or b k 0 → 1 ≤ get_or b (k + 1) 0

front_ends : (front back : List ℕ) (n : ℕ) → HasNoLong (front ++ back) (length (front ++ back)) → Spells front n
    → (length front ≡ 1) ⊎ (1 ≤ get_or front (length front - 1) 0)
front_ends front back n none s = elim (cases_lt (length front) 2) [
  | inl few ↦ inl (omega (arith, s.some))
  | inr some ↦ (
      let place = length front - 2 in
      let next : place + 1 ≡ length front - 1 = omega arith in
      let on : 128 ≤ get_or front place 0 = s.goes_on place (omega arith) in
      let here = get_or_append_left front back 0 place (omega arith) in
      let behind = get_or_append_left front back 0 (place + 1) (omega arith) in
      let last = none place (omega (arith, length-append front back)) (omega (arith, on, here)) in
      inr (subst (λ (i : ℕ). 1 ≤ get_or front i 0) next (omega (arith, last, behind)))
      )
]

back_ends : (front back : List ℕ) → HasNoLong (front ++ back) (length (front ++ back)) → HasNoLong back (length back)
back_ends front back none = λ k within on.
    let here = get_or-append-add front back k 0 in
    let next : length front + k + 1 ≡ length front + (k + 1) = omega arith in
    let behind : get_or (front ++ back) (length front + k + 1) 0 ≡ get_or back (k + 1) 0 =
    ap (λ i. get_or (front ++ back) i 0) next ∙ get_or-append-add front back (k + 1) 0 in
    let last = none (length front + k) (omega (arith, length-append front back, within)) (omega (arith, on, here)) in
    omega (arith, last, behind)

pub packed_short : (b ns : List ℕ) → ((k : ℕ) → get_or b k 0 < 256) → HasNoLong b (length b) → ArePacked b ns → b ≡ short_numbers ns
packed_short b [] bytes none are = are
packed_short b (n ∷ ns) bytes none (front, back, is, s, small, are) =
    let all : (k : ℕ) → get_or (front ++ back) k 0 < 256 = subst (λ l. (k : ℕ) → get_or l k 0 < 256) is bytes in
    let whole : HasNoLong (front ++ back) (length (front ++ back)) = subst (λ l. HasNoLong l (length l)) is none in
    is ∙ ap₂ (λ x y. x ++ y) (short_ends front n (bytes_front front back all) s (front_ends front back n whole s))
    (packed_short back ns (bytes_back front back all) (back_ends front back whole) are)
