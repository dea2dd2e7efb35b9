-- A decoder that stands for a stream, and more of it.
use Rattle.std.proofs.Common.{◌≡◌, ℕ, ◌+◌, ◌-◌, ◌<◌, ◌≤◌, true, cond, List, [], ◌∷◌, ◌++◌, length, take, drop, Some, None, refl, sym, ap, ap₂, subst, ◌∙◌, arith, append_assoc, append-nil, length-append, length-drop, take-append-drop}
use Rattle.std.proofs.Math.Seq.{take-append_seam}
use Rattle.mvt_base.specs.Rules.{each, first}
use Rattle.mvt_base.proofs.RuleLemmas.{option_or-none}
use Rattle.mvt_wire.specs.declared.fault.WireCause.{WireCause}
use Rattle.mvt_wire.specs.declared.fault.WireCause.TheVariants as wire
use Rattle.mvt_wire.specs.Fronts.{rest_cause}
use Rattle.mvt_wire.specs.Split.{Parts, Split, split, split_from, no_fields}
use Rattle.mvt_feature.specs.Causes.{of_wire}
use Rattle.mvt_feature.specs.declared.cause.Cause.TheVariants.{Truncated, TooLarge}
use Rattle.mvt_message.specs.declared.item.Item.{Item}
use Rattle.mvt_wire.proofs.WireLaws.{field_function_end, split_function_is, split_more_fields, split_more_place, split_more_rest, split_steps_none, split_steps_place}
use Rattle.mvt_tile.specs.declared.fault.DecodeError.{DecodeError}
use Rattle.mvt_tile.specs.declared.fault.DecodeError.TheVariants.{Memory, Fault, Read}
use Rattle.mvt_tile.specs.Faults.{outer_fault, is_open}
use Rattle.mvt_tile.specs.Inner.Judging.{fault_after, IsJudged, ReportsAfter}
use Rattle.mvt_tile.specs.Streams.{IsCalm, IsLive, ReportsEarly}
use Rattle.mvt_tile.specs.TileRules.{field_rules, rest_rules_at, rest_rules, tile_rules, beyond, fault_within}
use Rattle.mvt_tile_value.specs.Tiles.{AreItems, IsTile}
use Rattle.mvt_tile.proofs.ItemLemmas.{are_none, are_clean}
use Rattle.mvt_tile.proofs.TileLemmas.{first-tile, fault_of_short, fault_of_long}
use Rattle.mvt_tile.proofs.StreamLemmas.{rest_with, first-more, fault_stays}
use Rattle.mvt_tile.proofs.JudgeLemmas.{fields_clean}

calm_none : IsCalm None
calm_none f e = cc

-- nothing yet
pub live_start : (limit : ℕ) → IsLive limit 0 [] [] []
live_start limit =
    let all : split [] ≡ no_fields 0 [] = split_steps_none 0 [] field_function_end in
    let none : fault_within limit [] ≡ None = fault_of_short limit [] (omega arith) ∙ first-tile [] ∙ ap (fault_after []) all in
    record {
      small = omega arith;
      rest = ap (λ (p : Parts). p.rest) all;
      place = ap (λ (p : Parts). p.rest_at) all;
      items_are = subst (λ (p : Parts). AreItems p.fields []) (sym all) are_none;
      calm = subst IsCalm (sym none) calm_none;
    }

rest_calm : (at : ℕ) (rest : List ℕ) → rest_cause rest ≡ wire.Truncated → IsCalm (first (rest_rules_at at rest))
rest_calm at [] e f reported = cc
rest_calm at (b ∷ bs) e f reported =
    let is : outer_fault at (of_wire (rest_cause (b ∷ bs))) ≡ f = cc in
    ap is_open (sym is) ∙ ap (λ c. is_open (outer_fault at (of_wire c))) e

too_large_after : (limit offset : ℕ) (raw : List ℕ) → offset + length raw ≡ limit → IsCalm (first (rest_rules_at offset raw))
    → beyond limit (first (rest_rules_at offset raw)) ≡ Some (outer_fault offset TooLarge)
too_large_after limit offset [] size calm =
    let same : limit ≡ offset = omega arith in
    ap (λ n. Some (outer_fault n TooLarge)) same
too_large_after limit offset (b ∷ bs) size calm =
    let f = outer_fault offset (of_wire (rest_cause (b ∷ bs))) in
    ap (λ t. Some (cond t (outer_fault offset TooLarge) f)) (calm f refl)

open_cause : (at : ℕ) (c : WireCause) → is_open (outer_fault at (of_wire c)) ≡ true → of_wire c ≡ Truncated
open_cause at wire.Truncated e = refl
open_cause at wire.VarintRange e = cc
open_cause at wire.FieldNumber e = cc
open_cause at wire.WireType e = cc

rest_open : (at : ℕ) (raw : List ℕ) → (length raw ≡ 0 → ⊥) → IsCalm (first (rest_rules_at at raw))
    → first (rest_rules_at at raw) ≡ Some (outer_fault at Truncated)
rest_open at [] some calm = absurd (some refl)
rest_open at (b ∷ bs) some calm =
    let f = outer_fault at (of_wire (rest_cause (b ∷ bs))) in
    ap (λ c. Some (outer_fault at c)) (open_cause at (rest_cause (b ∷ bs)) (calm f refl))

-- what can't be changed is told of each longer stream
pub reports_stays : (limit : ℕ) (e : DecodeError) (s t : List ℕ) → ReportsEarly e (fault_within limit s)
    → ReportsEarly e (fault_within limit (s ++ t))
reports_stays limit Memory s t h = tt
reports_stays limit (Fault f) s t h = (fault_stays limit s t f h.0 h.1, h.1)
reports_stays limit (Read k) s t h = absurd h

-- a decoder that stands for a stream
module _ (limit offset : ℕ) (items : List Item) (raw s : List ℕ) (live : IsLive limit offset items raw s) where
  pub live_length : length s ≡ offset + length raw
  live_length =
      let whole = split_steps_place 0 s in
      let place = live.place in
      omega (arith, ap length live.rest)

  -- the split of the stream and more
  parts_more : (t : List ℕ) → rest_with s t ≡ split_from offset (raw ++ t)
  parts_more t = ap₂ (λ a r. split_from a (r ++ t)) live.place live.rest

  -- the first fault of the stream and more
  fault_more : (t : List ℕ) → offset + (length raw + length t) ≤ limit
      → fault_within limit (s ++ t) ≡ fault_after (split s).fields (split_from offset (raw ++ t))
  fault_more t fits =
      let size = live_length in
      let small : length (s ++ t) ≤ limit = simp length-append (omega arith) in
      fault_of_short limit (s ++ t) small ∙ first-more s t
      ∙ option_or-none (first (each field_rules [] (split s).fields)) (fault_after (split s).fields (rest_with s t))
      (are_clean (split s).fields items live.items_are)
      ∙ ap (fault_after (split s).fields) (parts_more t)

  live_more : (new : List Item) (after t : List ℕ) (used : ℕ) → IsJudged offset (raw ++ t) items new used → after ≡ drop used (raw ++ t)
      → offset + (length raw + length t) ≤ limit → IsLive limit (offset + used) new after (s ++ t)
  live_more new after t used judged is fits =
      let size = live_length in
      let parts = parts_more t in
      let q = split_from offset (raw ++ t) in
      let now_are : AreItems ((split s).fields ++ q.fields) new = judged.items_are (split s).fields live.items_are in
      record {
        small = simp length-append (omega arith);
        rest = split_more_rest 0 s t ∙ ap (λ (p : Parts). p.rest) parts ∙ judged.rest ∙ sym is;
        place = split_more_place 0 s t ∙ ap (λ (p : Parts). p.rest_at) parts ∙ judged.place;
        items_are = subst (λ xs. AreItems xs new)
            (sym (split_more_fields 0 s t ∙ ap (λ (p : Parts). (split s).fields ++ p.fields) parts)) now_are;
        calm = subst IsCalm
            (sym (fault_more t fits
            ∙ option_or-none (first (each field_rules (split s).fields q.fields)) (first (rest_rules q))
            (fields_clean (split s).fields q.fields new now_are)))
            (rest_calm q.rest_at q.rest (ap rest_cause judged.rest ∙ judged.unfinished));
      }

  pub live_fails : (piece t beyond : List ℕ) (e : DecodeError) → ReportsAfter e offset (raw ++ t) items → piece ≡ t ++ beyond
      → offset + (length raw + length t) ≤ limit → ReportsEarly e (fault_within limit (s ++ piece))
  live_fails piece t beyond e reports is fits =
      subst (λ p. ReportsEarly e (fault_within limit p)) (append_assoc s t beyond ∙ ap (λ p. s ++ p) (sym is))
      (reports_stays limit e (s ++ t) beyond (subst (ReportsEarly e) (sym (fault_more t fits)) (reports (split s).fields live.items_are)))

  -- the first fault of the stream is that of its rest
  live_fault : first (tile_rules s) ≡ first (rest_rules_at offset raw)
  live_fault =
      first-tile s
      ∙ option_or-none (first (each field_rules [] (split s).fields)) (first (rest_rules (split s)))
      (are_clean (split s).fields items live.items_are)
      ∙ ap₂ (λ a r. first (rest_rules_at a r)) live.place live.rest

  -- a stream that goes on after the limit
  live_too_large : (more : List ℕ) → offset + length raw ≡ limit → (length more ≡ 0 → ⊥)
      → ReportsEarly (Fault (outer_fault offset TooLarge)) (fault_within limit (s ++ more))
  live_too_large more full some =
      let size : length s ≡ limit = live_length ∙ full in
      let longer : limit < length (s ++ more) = simp length-append (omega arith) in
      let calm : IsCalm (first (rest_rules_at offset raw)) = subst IsCalm (fault_of_short limit s live.small ∙ live_fault) live.calm in (
        fault_of_long limit (s ++ more) longer
            ∙ ap (λ xs. beyond limit (first (tile_rules xs))) (ap (λ n. take n (s ++ more)) (sym size) ∙ take-append_seam s more)
            ∙ ap (beyond limit) live_fault ∙ too_large_after limit offset raw full calm,
        refl,
      )

  -- a stream that ends in a field
  pub live_truncated : (length raw ≡ 0 → ⊥) → fault_within limit s ≡ Some (outer_fault offset Truncated)
  live_truncated some =
      let is : fault_within limit s ≡ first (rest_rules_at offset raw) = fault_of_short limit s live.small ∙ live_fault in
      is ∙ rest_open offset raw some (subst IsCalm is live.calm)

  -- a stream that ends after a field is the tile
  pub live_tile : raw ≡ [] → IsTile limit s (record { items = items })
  live_tile none = record {
    small = live.small;
    fields = (split s).fields;
    whole = subst (Split s (split s).fields) (live.rest ∙ none) (split_function_is s);
    items = live.items_are.held;
    distinct = live.items_are.distinct;
  }

-- a piece cut where the room ends

pub cut : (piece front back : List ℕ) (n : ℕ) → front ≡ take n piece → back ≡ drop n piece → piece ≡ front ++ back
cut piece front back n e f = sym (ap₂ (λ x y. x ++ y) e f ∙ take-append-drop n piece)

left_length : (raw after t : List ℕ) (used : ℕ) → after ≡ drop used (raw ++ t) → used ≤ length (raw ++ t)
    → used + length after ≡ length raw + length t
left_length raw after t used is within =
    let size : length after ≡ length (raw ++ t) - used = ap length is ∙ length-drop used (raw ++ t) in
    omega (arith, length-append raw t)

module _ (limit offset : ℕ) (items new : List Item) (raw after t : List ℕ) (used : ℕ)
    (judged : IsJudged offset (raw ++ t) items new used) (is : after ≡ drop used (raw ++ t)) where
  pub piece_fits : (s piece more : List ℕ) → piece ≡ t ++ more → offset + (length raw + length t) ≤ limit → length more ≡ 0
      → IsLive limit offset items raw s → IsLive limit (offset + used) new after (s ++ piece)
  piece_fits s piece [] joined fits none live =
      subst (λ p. IsLive limit (offset + used) new after (s ++ p)) (sym (joined ∙ append-nil t))
      (live_more limit offset items raw s live new after t used judged is fits)
  piece_fits s piece (b ∷ bs) joined fits none live = absurd (omega arith)

  pub piece_too_large : (s piece more : List ℕ) → piece ≡ t ++ more → offset + (length raw + length t) ≡ limit → (length more ≡ 0 → ⊥)
      → IsLive limit offset items raw s → ReportsEarly (Fault (outer_fault (offset + used) TooLarge)) (fault_within limit (s ++ piece))
  piece_too_large s piece more joined full some live =
      let size = left_length raw after t used is judged.within in
      let longer = live_more limit offset items raw s live new after t used judged is (omega arith) in
      subst (λ p. ReportsEarly (Fault (outer_fault (offset + used) TooLarge)) (fault_within limit p))
      (append_assoc s t more ∙ ap (λ p. s ++ p) (sym joined))
      (live_too_large limit (offset + used) new after (s ++ t) longer more (omega arith) some)
