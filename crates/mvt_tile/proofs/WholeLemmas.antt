-- Bytes that are judged as a whole.
use Rattle.std.proofs.Common.{◌≡◌, ℕ, ◌+◌, ◌<◌, ◌≤◌, List, [], ◌++◌, length, drop, Option, Some, refl, subst, arith, length-drop}
use Rattle.std.proofs.lemmas.List.{nil_from_length}
use Rattle.mvt_message.specs.declared.item.Item.{Item}
use Rattle.mvt_feature.specs.declared.cause.Cause.TheVariants.{Truncated, TooLarge}
use Rattle.mvt_tile.specs.declared.fault.DecodeError.{DecodeError}
use Rattle.mvt_tile.specs.declared.fault.DecodeError.TheVariants.{Memory, Fault, Read}
use Rattle.mvt_tile.specs.declared.fault.Fault.{Fault as AFault}
use Rattle.mvt_tile.specs.Faults.{outer_fault}
use Rattle.mvt_tile.specs.Inner.Judging.{IsJudged, ReportsAfter}
use Rattle.mvt_tile.specs.Streams.{IsLive, ReportsEarly, ReportsAtEnd}
use Rattle.mvt_tile.specs.TileRules.{fault_within}
use Rattle.mvt_tile_value.specs.Tiles.{IsTile}
use Rattle.mvt_tile.proofs.DecoderLemmas.{live_start, live_fails, live_truncated, live_tile, piece_fits, piece_too_large}

at_end : (e : DecodeError) (o : Option AFault) → ReportsEarly e o → ReportsAtEnd e o
at_end Memory o h = tt
at_end (Fault f) o h = h.0
at_end (Read kind) o h = absurd h

from_zero : (n : ℕ) → 0 + n ≡ n
from_zero n = omega arith

module _ (limit : ℕ) (b fitting beyond : List ℕ) (cut : b ≡ fitting ++ beyond) where
  pub whole_fails : (e : DecodeError) → ReportsAfter e 0 fitting [] → length fitting ≤ limit → ReportsAtEnd e (fault_within limit b)
  whole_fails e reports fits =
      let all : 0 + (length {A = ℕ} [] + length fitting) ≤ limit = omega arith in
      at_end e (fault_within limit b) (live_fails limit 0 [] [] [] (live_start limit) b fitting beyond e reports cut all)

  module _ (items : List Item) (used : ℕ) (judged : IsJudged 0 fitting [] items used) where
    pub whole_too_large : length fitting ≡ limit → (length beyond ≡ 0 → ⊥) → fault_within limit b ≡ Some (outer_fault used TooLarge)
    whole_too_large full some =
        let all : 0 + (length {A = ℕ} [] + length fitting) ≡ limit = omega arith in
        subst (λ n. fault_within limit b ≡ Some (outer_fault n TooLarge)) (from_zero used)
        (piece_too_large limit 0 [] items [] (drop used fitting) fitting used judged refl [] b beyond cut all some (live_start limit)).0

    module _ (fits : length fitting ≤ limit) (none : length beyond ≡ 0) where
      live : IsLive limit used items (drop used fitting) b
      live =
          let all : 0 + (length {A = ℕ} [] + length fitting) ≤ limit = omega arith in
          subst (λ n. IsLive limit n items (drop used fitting) b) (from_zero used)
          (piece_fits limit 0 [] items [] (drop used fitting) fitting used judged refl [] b beyond cut all none (live_start limit))

      pub whole_truncated : used < length fitting → fault_within limit b ≡ Some (outer_fault used Truncated)
      whole_truncated left = live_truncated limit used items (drop used fitting) b live (λ empty. omega (arith, length-drop used fitting))

      pub whole_tile : length fitting ≤ used → IsTile limit b (record { items = items })
      whole_tile all =
          live_tile limit used items (drop used fitting) b live
          (nil_from_length (drop used fitting) (omega (arith, length-drop used fitting)))
