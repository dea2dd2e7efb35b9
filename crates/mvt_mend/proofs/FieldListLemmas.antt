-- Fields of bytes that are mended, and what spells them.
use Rattle.std.proofs.Common.{arith, ◌≡◌, ℕ, ◌+◌, ◌==◌, ◌^◌, ◌<◌, ◌≤◌, not, Bool, true, false, List, [], ◌∷◌, ◌++◌, length, map, refl, sym, ap, ap₂, ◌∙◌, length-append}
use Rattle.std.specs.Prelude.{cond, if◌then◌else◌, ⊤}
use Rattle.std.specs.List.{AllByRecursion}
use Rattle.std.proofs.lemmas.List.Elements.{filter-append}
use Rattle.mvt_base.proofs.ListLemmas.{all_joined, all_weaker}
use Rattle.mvt_wire.specs.Varint.{Spells}
use Rattle.mvt_wire.specs.Field.{Content, varint, fixed64, bytes, fixed32, Entry, IsPayload}
use Rattle.mvt_wire.specs.Spelling.{Plain, plain_of, spelled, short_field, IsFit, FitsContent}
use Rattle.mvt_wire.specs.Split.{SplitFrom, split}
use Rattle.mvt_feature.specs.Ranges.{AreBytes, IsInRange}
use Rattle.mvt_feature.specs.Canonical.{plain}
use Rattle.mvt_mend.specs.Tiles.{field_as, fields_as, fields_with, payload_fields}
use Rattle.mvt_mend.specs.Stays.{fields_of, besides}
use Rattle.mvt_wire.proofs.WireLaws.{spelled_whole_whole, split_function_only, split_function_is, split_function_whole, short_lengths_bytes}
use Rattle.mvt_feature.proofs.FeatureLaws.{read_is_valid_fields}
use Rattle.mvt_mend.proofs.FieldsLemmas.{IsNumbered, fields_numbered}

-- fields that are mended, besides those of a number
besides_payloads : (number n : ℕ) (payloads : List (List ℕ)) → (n == number) ≡ true → besides number (payload_fields n payloads) ≡ []
besides_payloads number n [] same = refl
besides_payloads number n (d ∷ payloads) same = rw same (besides_payloads number n payloads same)

besides_as : (mend : List ℕ → List (List ℕ)) (number n : ℕ) (c : Content) → (n == number) ≡ true → besides number (fields_as mend n c) ≡ []
besides_as mend number n (varint m) same = rw same refl
besides_as mend number n (fixed64 m) same = rw same refl
besides_as mend number n (bytes d) same = besides_payloads number n (mend d) same
besides_as mend number n (fixed32 m) same = rw same refl

pub same_number : (n : ℕ) → (n == n) ≡ true
same_number n = grind arith

besides_field : (mend : List ℕ → List (List ℕ)) (number : ℕ) (x : Entry) → besides number (field_as mend number x) ≡ besides number (plain_of x ∷ [])
besides_field mend number x = by_test (x.number == number) refl
  where
    by_test : (b : Bool) → (x.number == number) ≡ b
        → besides number (if b then fields_as mend number x.content else plain x.number x.content ∷ []) ≡ cond (not b) (plain_of x ∷ []) []
    by_test true is = besides_as mend number number x.content (same_number number)
    by_test false is = rw is refl

pub besides_with : (mend : List ℕ → List (List ℕ)) (number : ℕ) (xs : List Entry)
    → besides number (fields_with mend number xs) ≡ besides number (map plain_of xs)
besides_with mend number [] = refl
besides_with mend number (x ∷ xs) =
    filter-append (λ f. not (f.number == number)) (field_as mend number x) (fields_with mend number xs)
    ∙ ap₂ (λ ps qs. ps ++ qs) (besides_field mend number x) (besides_with mend number xs)
    ∙ sym (filter-append (λ f. not (f.number == number)) (plain_of x ∷ []) (map plain_of xs))

-- what is spelled has just the fields that are spelled
pub record HasFields (b : List ℕ) (ps : List Plain) : Type 0 where
  pub fields : fields_of b ≡ ps
  pub rest : (split b).rest ≡ []

pub fields_spelled : (ps : List Plain) → AllByRecursion IsFit ps → HasFields (spelled ps) ps
fields_spelled ps fit =
    let found = spelled_whole_whole ps fit in
    let only = split_function_only (spelled ps) [] found.0 found.1 in
    record { fields = ap (map plain_of) (sym only.0) ∙ found.2; rest = sym only.1 }

-- a field but for the length of its bytes
abbrev pub SuitsContent : Content → Type 0
SuitsContent (varint n) = n < 2 ^ 64
SuitsContent (fixed64 n) = n < 2 ^ 64
SuitsContent (bytes d) = ⊤
SuitsContent (fixed32 n) = n < 2 ^ 32

pub record Suits (p : Plain) : Type 0 where
  pub first : 1 ≤ p.number
  pub last : p.number < 2 ^ 29
  pub content : SuitsContent p.content

-- and the length
abbrev pub HasSize : Content → Type 0
HasSize (varint n) = ⊤
HasSize (fixed64 n) = ⊤
HasSize (bytes d) = length d < 2 ^ 64
HasSize (fixed32 n) = ⊤

suits_range : (c : Content) → IsInRange c → SuitsContent c
suits_range (varint n) range = range
suits_range (fixed64 n) range = range
suits_range (bytes d) range = tt
suits_range (fixed32 n) range = range

suits_all : (xs : List Entry) → AllByRecursion IsNumbered xs → AllByRecursion (λ (x : Entry). IsInRange x.content) xs
    → AllByRecursion (λ x. Suits (plain_of x)) xs
suits_all [] numbered range = tt
suits_all (x ∷ xs) numbered range = (
  record { first = numbered.0.first; last = numbered.0.last; content = suits_range x.content range.0 },
  suits_all xs numbered.1 range.1,
)

pub in_range : (b : List ℕ) → AreBytes b → (split b).rest ≡ [] → AllByRecursion (λ (x : Entry). IsInRange x.content) (split b).fields
in_range b are whole = read_is_valid_fields b (split b).fields are (split_function_whole b whole)

pub fields_suit : (b : List ℕ) → AreBytes b → (split b).rest ≡ [] → AllByRecursion (λ x. Suits (plain_of x)) (split b).fields
fields_suit b are whole = suits_all (split b).fields (fields_numbered b) (in_range b are whole)

fit_content : (c : Content) → SuitsContent c → HasSize c → FitsContent c
fit_content (varint n) suits size = suits
fit_content (fixed64 n) suits size = suits
fit_content (bytes d) suits size = size
fit_content (fixed32 n) suits size = suits

pub all_fit : (ps : List Plain) → AllByRecursion Suits ps → AllByRecursion (λ p. HasSize p.content) ps → AllByRecursion IsFit ps
all_fit [] suit sized = tt
all_fit (p ∷ ps) suit sized = (
  record { first = suit.0.first; last = suit.0.last; content = fit_content p.content suit.0.content sized.0 },
  all_fit ps suit.1 sized.1,
)

-- what is spelled in so many bytes holds no more
content_sized : (number : ℕ) (c : Content) → length (short_field number c) < 2 ^ 64 → HasSize c
content_sized number (varint n) small = tt
content_sized number (fixed64 n) small = tt
content_sized number (bytes d) small = let longer = short_lengths_bytes number d in omega arith
content_sized number (fixed32 n) small = tt

pub all_sized : (ps : List Plain) → length (spelled ps) < 2 ^ 64 → AllByRecursion (λ p. HasSize p.content) ps
all_sized [] small = tt
all_sized (p ∷ ps) small =
    let both = length-append (short_field p.number p.content) (spelled ps) in
    (content_sized p.number p.content (omega arith), all_sized ps (omega arith))

-- the fields of bytes have the length that their spelling tells
payload_sized : (b : List ℕ) (c : Content) → IsPayload b c → HasSize c
payload_sized b (varint n) is = tt
payload_sized b (fixed64 n) is = tt
payload_sized b (bytes d) is = let spells : Spells is.0 (length d) = is.1 in spells.fits
payload_sized b (fixed32 n) is = tt

split_sized : (at : ℕ) (b : List ℕ) (xs : List Entry) (rest : List ℕ) → SplitFrom at b xs rest
    → AllByRecursion (λ (x : Entry). HasSize x.content) xs
split_sized at b [] rest is = tt
split_sized at b (x ∷ xs) rest (front, back, joined, here, more) =
    let field = here.field in
    (payload_sized field.payload x.content field.carries, split_sized (at + length front) back xs rest more)

pub fields_sized : (b : List ℕ) → AllByRecursion (λ (x : Entry). HasSize x.content) (split b).fields
fields_sized b = split_sized 0 b (split b).fields (split b).rest (split_function_is b)

-- what holds of fields that are mended
module _ (P : Plain → Type 0) (mend : List ℕ → List (List ℕ)) (number : ℕ) where
  all_payloads : (payloads : List (List ℕ)) → AllByRecursion (λ d. P (plain number (bytes d))) payloads
      → AllByRecursion P (payload_fields number payloads)
  all_payloads [] all = tt
  all_payloads (d ∷ payloads) all = (all.0, all_payloads payloads all.1)

  -- what is asked of a field, mended or not
  abbrev pub HoldsOf : Content → Type 0
  HoldsOf (varint n) = P (plain number (varint n))
  HoldsOf (fixed64 n) = P (plain number (fixed64 n))
  HoldsOf (bytes d) = AllByRecursion (λ q. P (plain number (bytes q))) (mend d)
  HoldsOf (fixed32 n) = P (plain number (fixed32 n))

  all_as : (c : Content) → HoldsOf c → AllByRecursion P (fields_as mend number c)
  all_as (varint n) holds = (holds, tt)
  all_as (fixed64 n) holds = (holds, tt)
  all_as (bytes d) holds = all_payloads (mend d) holds
  all_as (fixed32 n) holds = (holds, tt)

  pub all_with : (xs : List Entry) → AllByRecursion (λ x. (x.number == number) ≡ true → HoldsOf x.content) xs
      → AllByRecursion (λ x. (x.number == number) ≡ false → P (plain_of x)) xs → AllByRecursion P (fields_with mend number xs)
  all_with [] here there = tt
  all_with (x ∷ xs) here there =
      all_joined P (field_as mend number x) (fields_with mend number xs) (by_test (x.number == number) here.0 there.0)
      (all_with xs here.1 there.1)
    where
      by_test : (b : Bool) → (b ≡ true → HoldsOf x.content) → (b ≡ false → P (plain_of x))
          → AllByRecursion P (if b then fields_as mend number x.content else plain x.number x.content ∷ [])
      by_test true holds other = all_as x.content (holds refl)
      by_test false holds other = (other refl, tt)

suits_payloads : (number : ℕ) (payloads : List (List ℕ)) → 1 ≤ number → number < 2 ^ 29
    → AllByRecursion (λ q. Suits (plain number (bytes q))) payloads
suits_payloads number [] first last = tt
suits_payloads number (q ∷ payloads) first last =
    (record { first = first; last = last; content = tt }, suits_payloads number payloads first last)

suits_of : (mend : List ℕ → List (List ℕ)) (number : ℕ) (c : Content) → 1 ≤ number → number < 2 ^ 29 → SuitsContent c
    → HoldsOf Suits mend number c
suits_of mend number (varint n) first last suits = record { first = first; last = last; content = suits }
suits_of mend number (fixed64 n) first last suits = record { first = first; last = last; content = suits }
suits_of mend number (bytes d) first last suits = suits_payloads number (mend d) first last
suits_of mend number (fixed32 n) first last suits = record { first = first; last = last; content = suits }

-- fields that are mended suit, and fit where their spelling is short enough
suits_with : (mend : List ℕ → List (List ℕ)) (number : ℕ) (xs : List Entry) → 1 ≤ number → number < 2 ^ 29
    → AllByRecursion (λ x. Suits (plain_of x)) xs → AllByRecursion Suits (fields_with mend number xs)
suits_with mend number xs first last suit =
    all_with Suits mend number xs
    (all_weaker (λ x. Suits (plain_of x)) (λ x. (x.number == number) ≡ true → HoldsOf Suits mend number x.content)
    (λ x suits _. suits_of mend number x.content first last suits.content) xs suit)
    (all_weaker (λ x. Suits (plain_of x)) (λ x. (x.number == number) ≡ false → Suits (plain_of x)) (λ x suits _. suits) xs suit)

-- bytes whose fields are mended have just these fields
pub mended_fields : (mend : List ℕ → List (List ℕ)) (number : ℕ) (b : List ℕ) → 1 ≤ number → number < 2 ^ 29 → AreBytes b
    → (split b).rest ≡ [] → length (spelled (fields_with mend number (split b).fields)) < 2 ^ 64
    → HasFields (spelled (fields_with mend number (split b).fields)) (fields_with mend number (split b).fields)
mended_fields mend number b first last are whole small =
    let new = fields_with mend number (split b).fields in
    fields_spelled new (all_fit new (suits_with mend number (split b).fields first last (fields_suit b are whole)) (all_sized new small))
