-- What a refusal tells.
use Rattle.std.proofs.Common.{◌≡◌, ℕ, List, Option, Some, None, Err, refl, subst}
use Rattle.mvt_base.specs.declared.TheConstants.{LIMIT}
use Rattle.mvt_message.specs.declared.item.Item.{Item}
use Rattle.mvt_tile.specs.declared.fault.DecodeError.{DecodeError}
use Rattle.mvt_tile.specs.declared.fault.DecodeError.TheVariants as decoding
use Rattle.mvt_tile.specs.Streams.{Answers, ReportsAtEnd, ReportsEarly}
use Rattle.mvt_tile.specs.TileRules.{fault_within}
use Rattle.mvt_tile.specs.Visiting.{Visiting, StandsAs}
use Rattle.mvt_c.specs.declared.fault.Fault.{Fault}
use Rattle.mvt_c.specs.declared.refusal.Refusal.{Refusal}
use Rattle.mvt_c.specs.declared.refusal.Refusal.TheVariants.{Refused, Memory, TooLarge, NoLayer, BadName}
use Rattle.mvt_c.specs.Calls.{IsReported, NotShown, ReportsFault, of_decode, status_of_refusal}

pub reported_of : (input : List ℕ) (refusal : Refusal) (old new : Fault) → status_of_refusal refusal ≡ 1 → NotShown input refusal
    → ReportsFault refusal old new → IsReported input new
reported_of input (Refused fault) old new one shown reports = (fault, shown, reports)
reported_of input Memory old new one shown reports = cc
reported_of input TooLarge old new one shown reports = absurd shown
reported_of input (NoLayer index) old new one shown reports = absurd shown
reported_of input BadName old new one shown reports = absurd shown

-- what a decoder tells of a stream

early_shown : (error : DecodeError) (s : List ℕ) → ReportsEarly error (fault_within LIMIT s) → NotShown s (of_decode error)
early_shown decoding.Memory s h = tt
early_shown (decoding.Fault f) s h = h.0
early_shown (decoding.Read kind) s h = absurd h

pub fed_shown : (failure : Option DecodeError) (Has : List Item → Type 0) (d : Visiting) (s : List ℕ) (error : DecodeError)
    → StandsAs LIMIT failure Has d s → Answers failure (Err error) → NotShown s (of_decode error)
fed_shown None Has d s error stands answer = cc
fed_shown (Some kept) Has d s error stands answer =
    let same : kept ≡ error = cc in subst (λ e. NotShown s (of_decode e)) same (early_shown kept s stands.1)

pub end_shown : (error : DecodeError) (s : List ℕ) → ReportsAtEnd error (fault_within LIMIT s) → NotShown s (of_decode error)
end_shown decoding.Memory s h = tt
end_shown (decoding.Fault f) s h = h
end_shown (decoding.Read kind) s h = absurd h

pub end_memory : (error : DecodeError) (s : List ℕ) → ReportsAtEnd error (fault_within LIMIT s) → (error ≡ decoding.Memory → ⊥)
    → status_of_refusal (of_decode error) ≡ 2 → ⊥
end_memory decoding.Memory s h none two = none refl
end_memory (decoding.Fault f) s h none two = cc
end_memory (decoding.Read kind) s h none two = absurd h
