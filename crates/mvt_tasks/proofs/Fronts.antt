-- The first bytes of an input, one more than the limit, tell the same as the whole of it.
use Rattle.std.proofs.Common.{◌≡◌, ℕ, ◌+◌, ◌<◌, ◌≤◌, inl, inr, List, length, take, min, nat_lt, refl, sym, ap, ap₂, subst, ◌∙◌, arith, Option, Some, None, Bool, false, true}
use Rattle.std.proofs.lemmas.List.{length-take, take_all}
use Rattle.std.proofs.lemmas.Bool.{cases_lt}
use Rattle.std.proofs.lemmas.Bool.Decides.{nat_tests}
use Rattle.std.specs.Prelude.{IfSome, ◌++◌, codes, if◌then◌else◌}
use Rattle.std.specs.Option.{option_map}
use Rattle.mvt_base.specs.declared.TheConstants.{LIMIT}
use Rattle.mvt_base.specs.Rules.{first}
use Rattle.mvt_base.proofs.ListLemmas.{take_front, too_long}
use Rattle.mvt_tile.specs.declared.fault.Fault.{Fault}
use Rattle.mvt_tile.specs.TileRules.{fault_within, beyond, tile_rules}
use Rattle.mvt_mend.proofs.MendLaws.{long_cause, long_stays}
use Rattle.mvt_mend.specs.Tiles.{cause_in}
use Rattle.mvt_view.specs.FaultLines.{fault_line}
use Rattle.mvt_view.proofs.ViewLaws.{front_reports_fault, front_reports_lines}
use Rattle.mvt_tasks.specs.declared.reply.Reply.{Reply}
use Rattle.mvt_tasks.specs.declared.task.Task.TheVariants.{Check, Explain, Mend}
use Rattle.mvt_tasks.specs.Output.{IsExplained, IsMendReply, IsReply, fields_reply, unmended_reply}

abbrev judged : ℕ → List ℕ → Option Fault
judged limit input = if nat_lt limit (length input) then beyond limit (first (tile_rules (take limit input))) else first (tile_rules input)

judged-front : (limit : ℕ) (input : List ℕ) → judged limit (take (limit + 1) input) ≡ judged limit input
judged-front limit input = elim (cases_lt limit (length input)) [
  | inl longer ↦
      let whole : nat_lt limit (length input) ≡ nat_lt limit (length (take (limit + 1) input)) = sym (too_long limit input) in
      let over : nat_lt limit (length input) ≡ true = grind (arith, nat_tests) in
      ap₂ (λ (b : Bool) (front : List ℕ). if b then beyond limit (first (tile_rules front)) else first
      (tile_rules (take (limit + 1) input)))
      (sym whole ∙ over) (take_front limit input)
      ∙ sym (ap (λ (b : Bool). if b then beyond limit (first (tile_rules (take limit input))) else first (tile_rules input)) over)
  | inr short ↦ ap (judged limit) (take_all (limit + 1) input (omega arith))
]

fault-front : (limit : ℕ) (input : List ℕ) → fault_within limit (take (limit + 1) input) ≡ fault_within limit input
unfolding fault_within
fault-front limit input = judged-front limit input

-- an input within the limit is the whole of it
whole-front : (limit : ℕ) (input : List ℕ) → length (take (limit + 1) input) ≤ limit → take (limit + 1) input ≡ input
whole-front limit input small =
    take_all (limit + 1) input
    (let long : min (limit + 1) (length input) ≤ limit = subst (λ n. n ≤ limit) (length-take (limit + 1) input) small in omega arith)

pub listed : (limit : ℕ) (left : Option (List ℕ)) (bytes slice : List ℕ) (reply : Reply)
    → IfSome left (λ input. bytes ≡ take (limit + 1) input) → slice ≡ bytes → reply ≡ fields_reply limit slice
    → IfSome left (λ input. reply ≡ fields_reply limit input)
listed limit None bytes slice reply read same is = tt
listed limit (Some input) bytes slice reply read same is =
    is ∙ ap (fields_reply limit) (same ∙ read)
    ∙ ap₂ (λ text printed. record { output = Some text; error_line = option_map (λ f. fault_line f ++ codes "\n") printed; changes = None; has_findings = false })
    (front_reports_lines limit input) (front_reports_fault limit input)

printed-front : (limit : ℕ) (input : List ℕ) (reply : Reply) → IsReply limit Check (take (limit + 1) input) reply
    → IsReply limit Check input reply
printed-front limit input reply (inl (tile, is_tile, is)) =
    let whole = whole-front limit input is_tile.small in
    subst (λ bytes. IsReply limit Check bytes reply) whole (inl (tile, is_tile, is))
printed-front limit input reply (inr (fault, first_is, is)) = inr (fault, sym (fault-front limit input) ∙ first_is, is)

pub checked : (limit : ℕ) (left : Option (List ℕ)) (bytes slice : List ℕ) (reply : Reply)
    → IfSome left (λ input. bytes ≡ take (limit + 1) input) → slice ≡ bytes → IsReply limit Check slice reply
    → IfSome left (λ input. IsReply limit Check input reply)
checked limit None bytes slice reply read same is = tt
checked limit (Some input) bytes slice reply read same is =
    printed-front limit input reply (subst (λ b. IsReply limit Check b reply) (same ∙ read) is)

explained-front : (limit : ℕ) (input : List ℕ) (reply : Reply) → IsExplained limit (take (limit + 1) input) (take (limit + 1) input) reply
    → IsReply limit Explain input reply
explained-front limit input reply (inl (tile, is_tile, is)) =
    let whole = whole-front limit input is_tile.small in
    subst (λ bytes. IsExplained limit (take (limit + 1) input) bytes reply) whole (inl (tile, is_tile, is))
explained-front limit input reply (inr (fault, first_is, is)) = inr (fault, sym (fault-front limit input) ∙ first_is, is)

pub explained : (limit : ℕ) (left : Option (List ℕ)) (bytes slice : List ℕ) (reply : Reply)
    → IfSome left (λ input. bytes ≡ take (limit + 1) input) → slice ≡ bytes → IsExplained limit slice slice reply
    → IfSome left (λ input. IsReply limit Explain input reply)
explained limit None bytes slice reply read same is = tt
explained limit (Some input) bytes slice reply read same is =
    explained-front limit input reply (subst (λ b. IsExplained limit b b reply) (same ∙ read) is)

mended-front : (input : List ℕ) (reply : Reply) → IsMendReply LIMIT (take (LIMIT + 1) input) reply → IsReply LIMIT Mend input reply
mended-front input reply (inl (tile, is_tile, is)) = elim (cases_lt LIMIT (length input)) [
  | inl longer ↦
      let past : LIMIT < length (take (LIMIT + 1) input) = rw (length-take (LIMIT + 1) input) (omega arith) in
      let small : length (take (LIMIT + 1) input) ≤ LIMIT =
      subst (λ bytes. length bytes ≤ LIMIT) (long_stays (take (LIMIT + 1) input) past) is_tile.small in
      let never : ⊥ = omega arith in
      elim never [ ]
  | inr short ↦
      subst (λ bytes. IsMendReply LIMIT bytes reply) (take_all (LIMIT + 1) input (omega arith)) (inl (tile, is_tile, is))
]
mended-front input reply (inr (fault, first_is, broken, is)) = elim (cases_lt LIMIT (length input)) [
  | inl longer ↦
      let here : fault_within LIMIT input ≡ Some fault = sym (fault-front LIMIT input) ∙ first_is in
      let past : LIMIT < length (take (LIMIT + 1) input) = rw (length-take (LIMIT + 1) input) (omega arith) in
      let cause : cause_in (take (LIMIT + 1) input) ≡ cause_in input =
      long_cause (take (LIMIT + 1) input) past ∙ sym (long_cause input longer) in
      inr (fault, here, rw (long_stays input longer, here) refl, is ∙ ap (λ c. unmended_reply c fault) cause)
  | inr short ↦
      subst (λ bytes. IsMendReply LIMIT bytes reply) (take_all (LIMIT + 1) input (omega arith))
      (inr (fault, first_is, broken, is))
]

pub mended : (left : Option (List ℕ)) (bytes slice : List ℕ) (reply : Reply)
    → IfSome left (λ input. bytes ≡ take (LIMIT + 1) input) → slice ≡ bytes → IsMendReply LIMIT slice reply
    → IfSome left (λ input. IsReply LIMIT Mend input reply)
mended None bytes slice reply read same is = tt
mended (Some input) bytes slice reply read same is =
    mended-front input reply (subst (λ b. IsMendReply LIMIT b reply) (same ∙ read) is)
