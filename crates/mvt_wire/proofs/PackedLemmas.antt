-- Packed numbers: that the function `packed` is the relation `SplitNumbers`, and what their rules say.
use Rattle.std.proofs.Common.{◌≡◌, ◌≢◌, ℕ, zero, suc, ◌+◌, ◌-◌, ◌*◌, ◌^◌, ◌<◌, ◌≤◌, ◌⊎◌, inl, inr, Bool, true, false, not, cond, ltb, eqb, get_or, List, [], ◌∷◌, ◌++◌, length, take, drop, Option, None, Some, Ok, Err, refl, sym, ap, subst, ◌∙◌, arith, append_assoc, append-nil, lt-ltb, le-ltb, eqb-true}
use Rattle.std.specs.List.{AllByRecursion, flat_map}
use Rattle.std.proofs.lemmas.Bool.{cases_lt, eqb-false}
use Rattle.std.proofs.lemmas.List.{length-append, length-drop, take-append-drop, take_rest, take_more, nil_from_length}
use Rattle.std.proofs.lemmas.List.Concat.{flat_map-append}
use Rattle.std.proofs.lemmas.List.Folds.{length-flat_map-take}
use Rattle.std.proofs.Math.Seq.{drop-append_seam}
use Rattle.mvt_base.specs.Reports.{Reports}
use Rattle.mvt_base.specs.Rules.{Rules, when, under, each, first, AreOrdered}
use Rattle.mvt_base.proofs.RuleLemmas.{first-append, first-under, first-when, first-when_not, option_or-nones, first_back, first_front, each_more, each_stops}
use Rattle.mvt_base.proofs.OrderLemmas.{all_later, under_from, under_ordered, when_ordered}
use Rattle.mvt_base.proofs.GrowingLemmas.{each_then}
use Rattle.mvt_wire.specs.declared.fault.WireCause.{WireCause}
use Rattle.mvt_wire.specs.declared.fault.WireCause.TheVariants.{Truncated, VarintRange}
use Rattle.mvt_wire.specs.Varint.{Spells, short}
use Rattle.mvt_wire.specs.Fronts.{number_at}
use Rattle.mvt_wire.specs.Inner.{error_of}
use Rattle.mvt_wire.specs.Packed.{ArePacked, SplitNumbers, Numbers, ahead, packed_within, packed, PackedCause, truncated, varint_range, number_range, number_cause, is_nil, small_rules, packed_rules, fault_of}
use Rattle.mvt_wire.specs.Spelling.{short_numbers}
use Rattle.mvt_wire.proofs.PieceLemmas.{Takes, all_step, induct}
use Rattle.mvt_wire.proofs.VarintLemmas.{number_spelled, number_seen, number_none, number_none_from}
use Rattle.mvt_wire.proofs.ShortLemmas.{short_spells, short_length}
use Rattle.mvt_wire.proofs.StepLemmas.{nil_spells}

abbrev pub IsSmall : ℕ → Type 0
IsSmall n = n < 2 ^ 32

abbrev pub no_numbers : List ℕ → Numbers
no_numbers b = record { numbers = []; rest = b }

-- ---- one step of the function

within_step : (k : ℕ) (b : List ℕ) (found : ℕ × ℕ) → number_at b ≡ Ok found
    → packed_within (suc k) b ≡ ahead found.0 (packed_within k (drop found.1 b))
unfolding packed_within
within_step k b found e = rw (e, packed_within) refl

within_stop : (k : ℕ) (b : List ℕ) (c : WireCause) → number_at b ≡ Err c → packed_within k b ≡ no_numbers b
unfolding packed_within
within_stop zero b c e = refl
within_stop (suc k) b c e = rw (e, packed_within) refl

found_size : (b : List ℕ) (found : ℕ × ℕ) → number_at b ≡ Ok found → (1 ≤ found.1) × (found.1 ≤ length b)
found_size b found e = let seen = number_seen b found.0 found.1 e in (seen.0, seen.1)

-- numbers have no places
takes_numbers : Takes (λ _. number_at) ahead (λ _. no_numbers) (λ n _. packed_within n)
takes_numbers = record { step = λ n _. within_step n; stop = λ n _. within_stop n; size = λ _. found_size }

pub packed_stop : (b : List ℕ) (c : WireCause) → number_at b ≡ Err c → packed b ≡ no_numbers b
unfolding packed
packed_stop b c e = within_stop (length b) b c e

pub packed_step : (b : List ℕ) (found : ℕ × ℕ) → number_at b ≡ Ok found → packed b ≡ ahead found.0 (packed (drop found.1 b))
unfolding packed
packed_step b found e = all_step (λ _. number_at) ahead (λ _. no_numbers) (λ n _. packed_within n) takes_numbers 0 b found e

-- ---- the function and the relation

pub packed_is : (b : List ℕ) → SplitNumbers b (packed b).numbers (packed b).rest
unfolding packed
packed_is b =
    induct (λ _. number_at) ahead (λ _. no_numbers) (λ n _. packed_within n) takes_numbers
    (λ _ b p. SplitNumbers b p.numbers p.rest)
    (λ _ b c e. (refl, (number_none b c e).0))
    (λ _ b found e more. (take found.1 b, drop found.1 b, sym (take-append-drop found.1 b), (number_seen b found.0 found.1 e).2, more))
    0 b

pub packed_front : (front back : List ℕ) (n : ℕ) → Spells front n → packed (front ++ back) ≡ ahead n (packed back)
packed_front front back n s =
    packed_step (front ++ back) (n, length front) (number_spelled front back n s)
    ∙ ap (λ r. ahead n (packed r)) (drop-append_seam front back)

pub packed_only : (b ns rest : List ℕ) → SplitNumbers b ns rest → packed b ≡ record { numbers = ns; rest = rest }
packed_only b [] rest s = ap packed s.0 ∙ packed_stop rest _ (number_none_from rest s.1)
packed_only b (n ∷ ns) rest s = ap packed s.2 ∙ packed_front s.0 s.1 n s.3 ∙ ap (ahead n) (packed_only s.1 ns rest s.4)

-- numbers that are packed are split, and small
pub split_from_packed : (b ns : List ℕ) → ArePacked b ns → SplitNumbers b ns []
split_from_packed b [] p = (p, nil_spells)
split_from_packed b (n ∷ ns) p = (p.0, p.1, p.2, p.3, split_from_packed p.1 ns p.5)

pub small_from_packed : (b ns : List ℕ) → ArePacked b ns → AllByRecursion IsSmall ns
small_from_packed b [] p = tt
small_from_packed b (n ∷ ns) p = (p.4, small_from_packed p.1 ns p.5)

pub packed_from_split : (b ns : List ℕ) → SplitNumbers b ns [] → AllByRecursion IsSmall ns → ArePacked b ns
packed_from_split b [] s small = s.0
packed_from_split b (n ∷ ns) s small = (s.0, s.1, s.2, s.3, small.0, packed_from_split s.1 ns s.4 small.1)

-- ---- the rules

pub small_clean : (front : List ℕ) (n : ℕ) → IsSmall n → first (small_rules front n) ≡ None
small_clean front n small = first-when_not _ _ (ap not (lt-ltb n (2 ^ 32) small))

pub small_broken : (front : List ℕ) (n : ℕ) → 2 ^ 32 ≤ n → first (small_rules front n) ≡ Some number_range
small_broken front n large = first-when _ _ (ap not (le-ltb n (2 ^ 32) large))

pub each_clean : (front ns : List ℕ) → AllByRecursion IsSmall ns → first (each small_rules front ns) ≡ None
each_clean front [] small = refl
each_clean front (n ∷ ns) small =
    first_back (under (length front) (small_rules front n)) _
    (first-under (length front) (small_rules front n) ∙ small_clean front n small.0)
    ∙ each_clean (front ++ n ∷ []) ns small.1

small_by : (front : List ℕ) (n : ℕ) → (n < 2 ^ 32) ⊎ (2 ^ 32 ≤ n) → first (small_rules front n) ≡ None → IsSmall n
small_by front n (inl small) none = small
small_by front n (inr large) none = let broken = small_broken front n large in cc

pub clean_each : (front ns : List ℕ) → first (each small_rules front ns) ≡ None → AllByRecursion IsSmall ns
clean_each front [] none = tt
clean_each front (n ∷ ns) none =
    let parts =
    option_or-nones _ _
    (sym (first-append (under (length front) (small_rules front n)) (each small_rules (front ++ n ∷ []) ns)) ∙ none) in (
      small_by front n (cases_lt n (2 ^ 32)) (sym (first-under (length front) (small_rules front n)) ∙ parts.0),
      clean_each (front ++ n ∷ []) ns parts.1,
    )

-- the rules of what `packed` gives
abbrev pub rules_of : Numbers → Rules PackedCause
rules_of p = each small_rules [] p.numbers ++ under (length p.numbers) (when (not (is_nil p.rest)) (number_cause p.rest))

pub rules_is : (b : List ℕ) → packed_rules b ≡ rules_of (packed b)
unfolding packed_rules
rules_is b = refl

nil_by : (rest : List ℕ) → first (when (not (is_nil rest)) (number_cause rest)) ≡ None → rest ≡ []
nil_by [] none = refl
nil_by (b ∷ bs) none = cc

pub clean_rules : (p : Numbers) → first (rules_of p) ≡ None → AllByRecursion IsSmall p.numbers × (p.rest ≡ [])
clean_rules p none =
    let parts =
    option_or-nones _ _
    (sym
    (first-append (each small_rules [] p.numbers)
    (under (length p.numbers) (when (not (is_nil p.rest)) (number_cause p.rest))))
    ∙ none) in (
      clean_each [] p.numbers parts.0,
      nil_by p.rest (sym (first-under (length p.numbers) (when (not (is_nil p.rest)) (number_cause p.rest))) ∙ parts.1),
    )

pub rules_clean : (ns : List ℕ) → AllByRecursion IsSmall ns → first (rules_of (record { numbers = ns; rest = [] })) ≡ None
rules_clean ns small = first_back (each small_rules [] ns) _ (each_clean [] ns small)

-- no rule is broken exactly where the numbers are packed
pub packed_clean : (b : List ℕ) → first (packed_rules b) ≡ None → ArePacked b (packed b).numbers
packed_clean b none =
    let clean = clean_rules (packed b) (ap first (sym (rules_is b)) ∙ none) in
    packed_from_split b (packed b).numbers (subst (λ (r : List ℕ). SplitNumbers b (packed b).numbers r) clean.1 (packed_is b)) clean.0

pub packed_are : (b ns : List ℕ) → ArePacked b ns → (first (packed_rules b) ≡ None) × ((packed b).numbers ≡ ns)
packed_are b ns p =
    let is : packed b ≡ record { numbers = ns; rest = [] } = packed_only b ns [] (split_from_packed b ns p) in
    (ap first (rules_is b) ∙ ap (λ q. first (rules_of q)) is ∙ rules_clean ns (small_from_packed b ns p), ap (λ q. q.numbers) is)

pub packed_ordered : (b : List ℕ) → AreOrdered (packed_rules b)
packed_ordered b =
    subst AreOrdered (sym (rules_is b))
    (each_then small_rules [] (packed b).numbers _ (λ front n. when_ordered _ _) (under_ordered _ _ (when_ordered _ _))
    (all_later _ (length (packed b).numbers) _ (omega arith) (under_from _ _)))

-- ---- short spellings are packed, and only so

pub short_packed : (ns : List ℕ) → AllByRecursion IsSmall ns → ArePacked (short_numbers ns) ns
short_packed [] small = refl
short_packed (n ∷ ns) small =
    let fits : n < 2 ^ 32 = small.0 in
    (short n, short_numbers ns, refl, short_spells n (omega arith), small.0, short_packed ns small.1)

pub packed_once : (b ns ms : List ℕ) → ArePacked b ns → ArePacked b ms → ns ≡ ms
packed_once b ns ms p q = sym (packed_are b ns p).1 ∙ (packed_are b ms q).1

-- ---- the loop: numbers that were read, and the rest

abbrev pub all_ahead : List ℕ → Numbers → Numbers
all_ahead ns p = record { numbers = ns ++ p.numbers; rest = p.rest }

pub read_more : (b rest read : List ℕ) (n k : ℕ) → packed b ≡ all_ahead read (packed rest) → number_at rest ≡ Ok (n, k)
    → packed b ≡ all_ahead (read ++ n ∷ []) (packed (drop k rest))
read_more b rest read n k is e =
    is ∙ ap (all_ahead read) (packed_step rest (n, k) e)
    ∙ ap (λ ns. let p : Numbers = record { numbers = ns; rest = (packed (drop k rest)).rest } in p)
    (sym (append_assoc read (n ∷ []) (packed (drop k rest)).numbers))

pub read_clean : (read : List ℕ) (n : ℕ) → first (each small_rules [] read) ≡ None → IsSmall n
    → first (each small_rules [] (read ++ n ∷ [])) ≡ None
read_clean read n clean small = each_more small_rules read n clean ∙ small_clean read n small

pub read_large : (b rest read : List ℕ) (n k : ℕ) → packed b ≡ all_ahead read (packed rest)
    → first (each small_rules [] read) ≡ None → number_at rest ≡ Ok (n, k) → 2 ^ 32 ≤ n
    → first (packed_rules b) ≡ Some number_range
read_large b rest read n k is clean e large =
    let whole : packed b ≡ all_ahead read (ahead n (packed (drop k rest))) = is ∙ ap (all_ahead read) (packed_step rest (n, k) e) in
    ap first (rules_is b) ∙ ap (λ q. first (rules_of q)) whole
    ∙ first_front (each small_rules [] (read ++ n ∷ (packed (drop k rest)).numbers)) _ number_range
    (each_stops small_rules read n (packed (drop k rest)).numbers number_range clean (small_broken read n large))

rest_broken : (rest : List ℕ) → rest ≢ [] → first (when (not (is_nil rest)) (number_cause rest)) ≡ Some (number_cause rest)
rest_broken [] some = absurd (some refl)
rest_broken (b ∷ bs) some = refl

pub read_stops : (b rest read : List ℕ) (c : WireCause) → packed b ≡ all_ahead read (packed rest)
    → first (each small_rules [] read) ≡ None → number_at rest ≡ Err c → rest ≢ []
    → first (packed_rules b) ≡ Some (number_cause rest)
read_stops b rest read c is clean e some =
    let whole : packed b ≡ record { numbers = read; rest = rest } =
    is ∙ ap (all_ahead read) (packed_stop rest c e)
    ∙ ap (λ ns. let p : Numbers = record { numbers = ns; rest = rest } in p) (append-nil read) in
    ap first (rules_is b) ∙ ap (λ q. first (rules_of q)) whole
    ∙ first_back (each small_rules [] read) _ clean ∙ first-under (length read) (when (not (is_nil rest)) (number_cause rest))
    ∙ rest_broken rest some

reports_by : (t : Bool) (o : Option PackedCause) → o ≡ Some (cond t truncated varint_range)
    → Reports (fault_of (error_of (cond t Truncated VarintRange))) o
reports_by true o e = e
reports_by false o e = e

pub read_reports : (b rest read : List ℕ) (c : WireCause) → packed b ≡ all_ahead read (packed rest)
    → first (each small_rules [] read) ≡ None → number_at rest ≡ Err c → rest ≢ []
    → Reports (fault_of (error_of c)) (first (packed_rules b))
read_reports b rest read c is clean e some =
    subst (λ (k : WireCause). Reports (fault_of (error_of k)) (first (packed_rules b))) (sym (number_none rest c e).1)
    (reports_by (ltb (length rest) 10) _ (read_stops b rest read c is clean e some))

pub read_all : (b rest read : List ℕ) → packed b ≡ all_ahead read (packed rest) → first (each small_rules [] read) ≡ None
    → rest ≡ [] → (first (packed_rules b) ≡ None) × ((packed b).numbers ≡ read)
read_all b rest read is clean end =
    let none : packed rest ≡ no_numbers [] = ap packed end ∙ packed_stop [] _ (number_none_from [] nil_spells) in
    let whole : packed b ≡ record { numbers = read; rest = [] } =
    is ∙ ap (all_ahead read) none ∙ ap (λ ns. let p : Numbers = record { numbers = ns; rest = [] } in p) (append-nil read) in
    (ap first (rules_is b) ∙ ap (λ q. first (rules_of q)) whole ∙ first_back (each small_rules [] read) _ clean, ap (λ q. q.numbers) whole)

-- the same of what a slice of the rest holds
pub read_smaller : (rest : List ℕ) (n k : ℕ) → number_at rest ≡ Ok (n, k) → length (take (length rest - k) (drop k rest)) < length rest
read_smaller rest n k e =
    let seen = number_seen rest n k e in
    let some : 1 ≤ k = seen.0 in
    let within : k ≤ length rest = seen.1 in
    omega (arith, ap length (take_rest rest k), length-drop k rest)

pub read_on : (b rest read : List ℕ) (n k : ℕ) → packed b ≡ all_ahead read (packed rest) → number_at rest ≡ Ok (n, k)
    → packed b ≡ all_ahead (read ++ n ∷ []) (packed (take (length rest - k) (drop k rest)))
read_on b rest read n k is e = read_more b rest read n k is e ∙ ap (λ r. all_ahead (read ++ n ∷ []) (packed r)) (sym (take_rest rest k))

pub nil_from_test : (rest : List ℕ) (r : Bool) → r ≡ eqb (length rest) 0 → r ≡ true → rest ≡ []
nil_from_test rest r is true_is = nil_from_length rest (eqb-true _ _ (sym is ∙ true_is))

pub some_from_test : (rest : List ℕ) (r : Bool) → r ≡ eqb (length rest) 0 → r ≡ false → rest ≢ []
some_from_test rest r is false_is none = eqb-false (length rest) 0 (sym is ∙ false_is) (ap length none)

-- ---- the number in front

pub packed_more : (b ns : List ℕ) (n k : ℕ) → number_at b ≡ Ok (n, k) → IsSmall n
    → ArePacked (take (length b - k) (drop k b)) ns → ArePacked b (n ∷ ns)
packed_more b ns n k e small are =
    (take k b, drop k b, sym (take-append-drop k b), (number_seen b n k e).2, small, subst (λ r. ArePacked r ns) (take_rest b k) are)

pub packed_large : (b ns : List ℕ) (m k : ℕ) → number_at b ≡ Ok (m, k) → 2 ^ 32 ≤ m → ArePacked b ns → ns ≡ []
packed_large b [] m k e large are = refl
packed_large b (n ∷ ns) m k e large are =
    let here = sym e ∙ ap number_at are.2 ∙ number_spelled are.0 are.1 n are.3 in
    let found : (m, k) ≡ (n, length are.0) = cc in
    let number : m ≡ n = ap (λ (p : ℕ × ℕ). p.0) found in
    let small : n < 2 ^ 32 = are.4 in
    absurd (omega (arith, large, number, small))

pub packed_none : (b ns : List ℕ) (c : WireCause) → number_at b ≡ Err c → ArePacked b ns → ns ≡ []
packed_none b [] c e are = refl
packed_none b (n ∷ ns) c e are = let here = sym e ∙ ap number_at are.2 ∙ number_spelled are.0 are.1 n are.3 in cc

-- ---- lengths

pub short_most_small : (n : ℕ) → IsSmall n → length (short n) ≤ 5
unfolding short
short_most_small n small = short_length 9 4 n (omega arith)

pub five_each : (ns : List ℕ) → AllByRecursion IsSmall ns → length (short_numbers ns) ≤ 5 * length ns
five_each [] small = omega arith
five_each (n ∷ ns) small = omega (arith, length-append (short n) (short_numbers ns), short_most_small n small.0, five_each ns small.1)

pub short_numbers_more : (ns : List ℕ) (i : ℕ) → i < length ns
    → short_numbers (take (i + 1) ns) ≡ short_numbers (take i ns) ++ short (get_or ns i 0)
short_numbers_more ns i within =
    ap (flat_map short) (take_more ns i 0 within) ∙ flat_map-append short (take i ns) (get_or ns i 0 ∷ [])
    ∙ ap (λ s. short_numbers (take i ns) ++ s) (append-nil (short (get_or ns i 0)))

pub length_step : (ns : List ℕ) (i : ℕ) → i < length ns
    → length (short_numbers (take (i + 1) ns)) ≡ length (short_numbers (take i ns)) + length (short (get_or ns i 0))
length_step ns i within = ap length (short_numbers_more ns i within) ∙ length-append _ _

-- a number of the list, after those before it, is within the whole
pub room_left : (ns : List ℕ) (i n : ℕ) → i < length ns → n ≡ get_or ns i 0
    → length (short_numbers (take i ns)) + length (short n) ≤ length (short_numbers ns)
room_left ns i n within at =
    let here : length (short n) ≡ length (short (get_or ns i 0)) = ap (λ k. length (short k)) at in
    omega (arith, length-flat_map-take short ns i 0 within, here)

-- in a list with room for all numbers there is room for the next
pub never_full : (old out ns : List ℕ) (i n cap0 cap total old_len out_len : ℕ) → i < length ns → n ≡ get_or ns i 0
    → out ≡ old ++ short_numbers (take i ns)
    → old_len ≡ length old → out_len ≡ length out → total ≡ length (short_numbers ns) → old_len + total ≤ cap0 → cap0 ≤ cap
    → out_len + length (short n) ≤ cap
never_full old out ns i n cap0 cap total old_len out_len within at is old_is out_is all room more =
    let size : length out ≡ length old + length (short_numbers (take i ns)) =
    ap length is ∙ length-append old (short_numbers (take i ns)) in
    omega (arith, size, room_left ns i n within at)

-- a number has a byte at least
pub split_count : (b ns rest : List ℕ) → SplitNumbers b ns rest → length ns + length rest ≤ length b
split_count b [] rest s = omega (arith, ap length s.0)
split_count b (n ∷ ns) rest s =
    let some = s.3.some in
    omega (arith, ap length s.2, length-append s.0 s.1, some, split_count s.1 ns rest s.4)
