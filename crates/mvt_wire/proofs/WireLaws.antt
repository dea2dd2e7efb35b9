-- What the public laws state, for the proofs of the crates above: a lemma for each clause.
pub use Rattle.mvt_wire.proofs.VarintLemmas.{number_spelled as number_function_spelled, number_none_from as number_function_none, number_none as number_function_cause}
pub use Rattle.mvt_wire.proofs.ShortLemmas.{short_spells as short_varint_spells, short_shortest as short_varint_shortest, short_only as short_varint_only, short_some as short_lengths_some, short_most as short_lengths_most, short_length_one as short_lengths_one}
pub use Rattle.mvt_wire.proofs.FieldLemmas.{entry_front as field_function_spelled, entry_none_from as field_function_none}
pub use Rattle.mvt_wire.proofs.StepLemmas.{nil_none as field_function_end, nil_cause as one_cause_end}
pub use Rattle.mvt_wire.proofs.SplitLemmas.{cause_stays as one_cause_stays, split_front as split_steps_field, split_none as split_steps_none, split_place as split_steps_place, split_rest as split_steps_rest, field_shifts as split_shifts_field, split_shifts as split_shifts_split, field_stays as front_stays_field, rest_stays as front_stays_rest}
pub use Rattle.mvt_wire.proofs.PackedLemmas.{packed_is as packed_split_is, packed_clean as packed_function_clean, packed_are as packed_function_only, packed_ordered as packed_is_least_ordered, short_packed as short_packed_packed, short_most_small as short_lengths_five, five_each as packed_lengths}
pub use Rattle.mvt_wire.proofs.SpellingLemmas.{whole_once as spelled_whole_only, length-short_field as short_lengths_field, bytes_longer as short_lengths_bytes, numbers_longer as short_lengths_numbers, spelled-append as spelled_parts, length-bytes as bytes_lengths}
pub use Rattle.mvt_wire.proofs.ZigzagLemmas.{unzig-zig as zigzag_function_number, zig-unzig as zigzag_function_code}
use Rattle.std.proofs.Common.{ap, subst, sym, zero-add, ◌∙◌}
use Rattle.std.specs.List.{AllByRecursion}
use Rattle.std.specs.Prelude.{Err, List, [], Ok, Some, length, take, ℕ, ◌++◌, ◌+◌, ◌<◌, ◌^◌, ◌↔◌, ◌≡◌, ◌≢◌, ◌≤◌}
use Rattle.mvt_base.proofs.OrderLemmas.{first_is_least, least_is_first}
use Rattle.mvt_base.specs.Rules.{IsLeast, first}
use Rattle.mvt_wire.proofs.FieldLemmas.{entry_cause, entry_found, entry_none, entry_none_from, entry_why, rest_cause_is}
use Rattle.mvt_wire.proofs.PackedLemmas.{packed_is, packed_once, packed_only, packed_ordered, short_packed, split_count as numbers_count}
use Rattle.mvt_wire.proofs.SpellingLemmas.{field_short, spelled_from}
use Rattle.mvt_wire.proofs.SplitLemmas.{cause_stays, split_count, split_is, split_joined, split_only, split_place, split_rest}
use Rattle.mvt_wire.proofs.VarintLemmas.{number_seen}
use Rattle.mvt_wire.specs.Field.{Entry, IsField, IsFieldAt, StartsNoField}
use Rattle.mvt_wire.specs.Fronts.{entry_at, number_at, rest_cause}
use Rattle.mvt_wire.specs.Packed.{ArePacked, PackedCause, SplitNumbers, packed, packed_rules}
use Rattle.mvt_wire.specs.Rest.{IsRestCause}
use Rattle.mvt_wire.specs.Spelling.{IsFit, IsWholeAs, Plain, short_field, short_numbers, spelled}
use Rattle.mvt_wire.specs.Split.{Split, Whole, split, split_from}
use Rattle.mvt_wire.specs.Varint.{Spells}
use Rattle.mvt_wire.specs.declared.fault.WireCause.{WireCause}
use Rattle.mvt_wire.specs.declared.fault.WireCause.TheVariants.{Truncated}

pub number_function_number : (b : List ℕ) (n k : ℕ) → number_at b ≡ Ok (n, k)
    → (k ≤ length b) × Spells (take k b) n
number_function_number = λ b n k e. let seen = number_seen b n k e in (seen.1, seen.2)

pub field_function_field : (at : ℕ) (b : List ℕ) (e : Entry) (k : ℕ) → entry_at at b ≡ Ok (e, k)
    → (1 ≤ k) × (k ≤ length b) × IsFieldAt at (take k b) e
field_function_field = λ at b e k is. entry_found at b (e, k) is

pub field_function_cause : (at : ℕ) (b : List ℕ) (c : WireCause) → entry_at at b ≡ Err c
    → StartsNoField b × IsRestCause b c
field_function_cause = λ at b why is. (entry_none at b why is, entry_why at b why is)

pub one_split : (b : List ℕ) (es fs : List Entry) (r s : List ℕ) → Split b es r → Split b fs s
    → (es ≡ fs) × (r ≡ s)
one_split = λ b es fs r s left right.
    let first = split_only 0 b r es left in
    let second = split_only 0 b s fs right in
    (sym first.0 ∙ second.0, sym first.1 ∙ second.1)

pub one_cause_there : (b : List ℕ) → StartsNoField b → IsRestCause b (rest_cause b)
one_cause_there = λ b none. entry_why 0 b _ (entry_none_from 0 b none)

pub one_cause_only : (b : List ℕ) (c : WireCause) → IsRestCause b c
    → StartsNoField b × (c ≡ rest_cause b)
one_cause_only = λ b why is. (entry_none 0 b why (entry_cause 0 b why is), rest_cause_is b why is)

pub split_function_is : (b : List ℕ) → Split b (split b).fields (split b).rest
split_function_is = λ b. split_is 0 b

pub split_function_only : (b rest : List ℕ) (es : List Entry) → Split b es rest
    → (es ≡ (split b).fields) × (rest ≡ (split b).rest)
split_function_only = λ b rest es s. let only = split_only 0 b rest es s in (sym only.0, sym only.1)

pub split_function_place : (b : List ℕ) → (split b).rest_at + length (split b).rest ≡ length b
split_function_place = λ b. split_place 0 b ∙ zero-add _

pub split_function_cause : (b : List ℕ) (c : WireCause) → IsRestCause (split b).rest c
    → c ≡ rest_cause (split b).rest
split_function_cause = λ b why is. rest_cause_is _ why is

pub split_function_count : (b : List ℕ) → length (split b).fields + length (split b).rest ≤ length b
split_function_count = λ b. split_count 0 b

pub split_function_rest : (b : List ℕ) → StartsNoField (split b).rest
split_function_rest = λ b. split_rest 0 b

pub split_function_whole : (b : List ℕ) → (split b).rest ≡ [] → Whole b (split b).fields
split_function_whole = λ b none. subst (Split b (split b).fields) none (split_is 0 b)

pub front_stays_cause : (at : ℕ) (b more : List ℕ) (c : WireCause) → c ≢ Truncated
    → entry_at at b ≡ Err c → entry_at at (b ++ more) ≡ Err c
front_stays_cause = λ at b more why other is. entry_cause at _ why (cause_stays b more why other (entry_why at b why is))

pub split_more_fields : (at : ℕ) (b more : List ℕ) → (split_from at (b ++ more)).fields
    ≡ (split_from at b).fields ++ (split_from (split_from at b).rest_at ((split_from at b).rest ++ more)).fields
split_more_fields = λ at b more. ap (λ p. p.fields) (split_joined at b more)

pub split_more_rest : (at : ℕ) (b more : List ℕ) → (split_from at (b ++ more)).rest
    ≡ (split_from (split_from at b).rest_at ((split_from at b).rest ++ more)).rest
split_more_rest = λ at b more. ap (λ p. p.rest) (split_joined at b more)

pub split_more_place : (at : ℕ) (b more : List ℕ) → (split_from at (b ++ more)).rest_at
    ≡ (split_from (split_from at b).rest_at ((split_from at b).rest ++ more)).rest_at
split_more_place = λ at b more. ap (λ p. p.rest_at) (split_joined at b more)

pub packed_split_only : (b ns rest : List ℕ) → SplitNumbers b ns rest
    → (ns ≡ (packed b).numbers) × (rest ≡ (packed b).rest)
packed_split_only = λ b ns rest s. let only = packed_only b ns rest s in (sym (ap (λ p. p.numbers) only), sym (ap (λ p. p.rest) only))

pub packed_split_count : (b : List ℕ) → length (packed b).numbers + length (packed b).rest ≤ length b
packed_split_count = λ b. numbers_count b _ _ (packed_is b)

pub packed_is_least_least : (b : List ℕ) (c : PackedCause) → (first (packed_rules b) ≡ Some c)
    ↔ IsLeast (packed_rules b) c
packed_is_least_least = λ b why. (first_is_least _ why (packed_ordered b), least_is_first _ why (packed_ordered b))

pub short_packed_only : (ns ms : List ℕ) → AllByRecursion (λ n. n < 2 ^ 32) ns → ArePacked (short_numbers ns) ms → ms ≡ ns
short_packed_only = λ ns ms small p. packed_once _ ms ns p (short_packed ns small)

pub spelled_whole_whole : (fs : List Plain) → AllByRecursion IsFit fs → IsWholeAs (spelled fs) fs
spelled_whole_whole = λ fs fit. spelled_from 0 fs fit

pub spelled_whole_field : (f : Plain) → IsFit f → IsField (short_field f.number f.content) f.number f.content
spelled_whole_field = λ f fit. (field_short f.number f.content fit.first fit.last fit.content).0
