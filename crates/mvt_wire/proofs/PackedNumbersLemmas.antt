-- Packed numbers that are being made: bytes that are the shortest spellings of some numbers are seen as these.
use Rattle.std.proofs.Common.{◌≡◌, ℕ, List, [], ◌∷◌, ◌++◌, Result, Ok, Err, sym, ap, subst, ◌∙◌, append-nil}
use Rattle.std.specs.Prelude.{OnOk, OnErr}
use Rattle.std.specs.List.{AllByRecursion}
use Rattle.std.proofs.lemmas.List.Concat.{flat_map-append}
use Rattle.mvt_base.proofs.ListLemmas.{all_joined}
use Rattle.mvt_wire.specs.Varint.{short}
use Rattle.mvt_wire.specs.Packed.{ArePacked, packed}
use Rattle.mvt_wire.specs.Spelling.{short_numbers}
use Rattle.mvt_wire.proofs.PackedLemmas.{IsSmall, packed_are, short_packed}

abbrev pub AreShort : List ℕ → Type 0
AreShort b = AllByRecursion IsSmall (packed b).numbers × (b ≡ short_numbers (packed b).numbers)

pub seen_as : (b ns : List ℕ) → AllByRecursion IsSmall ns → b ≡ short_numbers ns → (packed b).numbers ≡ ns
seen_as b ns small is = (packed_are b ns (subst (λ l. ArePacked l ns) (sym is) (short_packed ns small))).1

pub are_short : (b ns : List ℕ) → AllByRecursion IsSmall ns → b ≡ short_numbers ns → AreShort b
are_short b ns small is =
    let seen = seen_as b ns small is in
    (subst (AllByRecursion IsSmall) (sym seen) small, is ∙ ap short_numbers (sym seen))

-- no numbers
pub none_short : (b : List ℕ) → b ≡ [] → AreShort b
none_short b is = are_short b [] tt is

pub none_seen : (b : List ℕ) → b ≡ [] → (packed b).numbers ≡ []
none_seen b is = seen_as b [] tt is

-- one number more
longer : (old new : List ℕ) (n : ℕ) → AreShort old → new ≡ old ++ short n → new ≡ short_numbers ((packed old).numbers ++ n ∷ [])
longer old new n kept is =
    is ∙ ap (λ b. b ++ short n) kept.1
    ∙ sym (flat_map-append short (packed old).numbers (n ∷ []) ∙ ap (λ s. short_numbers (packed old).numbers ++ s) (append-nil (short n)))

pub more_short : {T E : Type 0} → (r : Result T E) (old new : List ℕ) (n : ℕ) → IsSmall n → AreShort old
    → OnOk r (new ≡ old ++ short n) → OnErr r (new ≡ old) → AreShort new
more_short (Ok x) old new n small kept ok err =
    are_short new ((packed old).numbers ++ n ∷ []) (all_joined IsSmall (packed old).numbers (n ∷ []) kept.0 (small, tt))
    (longer old new n kept ok)
more_short (Err e) old new n small kept ok err = subst AreShort (sym err) kept

pub more_seen : {T E : Type 0} → (r : Result T E) (old new seen : List ℕ) (n : ℕ) → IsSmall n → AreShort old
    → (packed old).numbers ≡ seen → OnOk r (new ≡ old ++ short n) → OnOk r ((packed new).numbers ≡ seen ++ n ∷ [])
more_seen (Ok x) old new seen n small kept is ok =
    seen_as new ((packed old).numbers ++ n ∷ []) (all_joined IsSmall (packed old).numbers (n ∷ []) kept.0 (small, tt))
    (longer old new n kept ok)
    ∙ ap (λ ns. ns ++ n ∷ []) is
more_seen (Err e) old new seen n small kept is ok = tt
