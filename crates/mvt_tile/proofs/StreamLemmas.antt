-- What more bytes do to the first fault.
use Rattle.std.proofs.Common.{◌≡◌, ◌≢◌, ℕ, ◌+◌, ◌-◌, ◌<◌, ◌≤◌, ltb, Bool, true, false, cond, List, [], ◌∷◌, ◌++◌, length, take, Option, Some, None, refl, sym, ap, ap₂, ◌∙◌, arith, length-append}
use Rattle.std.specs.Option.{option_or}
use Rattle.std.proofs.lemmas.Bool.{ltb-true, ltb-false}
use Rattle.std.proofs.lemmas.List.{take-append-le}
use Rattle.std.proofs.Math.Seq.{take-append-add}
use Rattle.mvt_base.specs.Rules.{each, first}
use Rattle.mvt_base.proofs.RuleLemmas.{first-append, each-append}
use Rattle.mvt_wire.specs.Field.{Entry, StartsNoField}
use Rattle.mvt_wire.specs.declared.fault.WireCause.TheVariants as wire
use Rattle.mvt_wire.specs.Fronts.{rest_cause}
use Rattle.mvt_wire.specs.Split.{Parts, split, split_from}
use Rattle.mvt_feature.specs.Causes.{of_wire}
use Rattle.mvt_feature.specs.declared.cause.Cause.TheVariants.{TooLarge}
use Rattle.mvt_wire.proofs.WireLaws.{front_stays_rest, split_more_fields, split_more_place, split_more_rest, split_steps_none, split_steps_rest}
use Rattle.mvt_tile.specs.declared.fault.Fault.{Fault}
use Rattle.mvt_tile.specs.Faults.{outer_fault, is_open}
use Rattle.mvt_tile.specs.Inner.Judging.{fault_after}
use Rattle.mvt_tile.specs.TileRules.{field_rules, rest_rules_at, rest_rules, tile_rules, beyond, fault_within}
use Rattle.mvt_tile.specs.Streams.{IsCalm}
use Rattle.mvt_tile.proofs.TileLemmas.{first-tile, fault_of_short, fault_of_long}

-- the split of what is left with more bytes
abbrev pub rest_with : List ℕ → List ℕ → Parts
rest_with s t = split_from (split s).rest_at ((split s).rest ++ t)

option_or_assoc : {F : Type 0} (a b c : Option F) → option_or (option_or a b) c ≡ option_or a (option_or b c)
option_or_assoc None b c = refl
option_or_assoc (Some x) b c = refl

pub first-more : (s t : List ℕ)
    → first (tile_rules (s ++ t)) ≡ option_or (first (each field_rules [] (split s).fields)) (fault_after (split s).fields (rest_with s t))
first-more s t =
    let q = rest_with s t in
    first-tile (s ++ t)
    ∙ ap₂ option_or
    (ap (λ xs. first (each field_rules [] xs)) (split_more_fields 0 s t) ∙ ap first (each-append field_rules [] (split s).fields q.fields)
    ∙ first-append (each field_rules [] (split s).fields) (each field_rules (split s).fields q.fields))
    (ap₂ (λ at r. first (rest_rules_at at r)) (split_more_place 0 s t) (split_more_rest 0 s t))
    ∙ option_or_assoc (first (each field_rules [] (split s).fields)) (first (each field_rules (split s).fields q.fields))
    (first (rest_rules q))

either_stays : {F : Type 0} (o p q : Option F) (f : F) → option_or o p ≡ Some f → (p ≡ Some f → q ≡ Some f) → option_or o q ≡ Some f
either_stays None p q f e k = k e
either_stays (Some x) p q f e k = e

-- the fault of a rest that isn't Truncated stays, whatever comes
rest_stays : (front : List Entry) (at : ℕ) (rest t : List ℕ) (f : Fault) → StartsNoField rest → first (rest_rules_at at rest) ≡ Some f
    → is_open f ≡ false
    → fault_after front (split_from at (rest ++ t)) ≡ Some f
rest_stays front at [] t f starts e shut = cc
rest_stays front at (b ∷ bs) t f starts e shut =
    let is : f ≡ outer_fault at (of_wire (rest_cause (b ∷ bs))) = cc in
    let final : rest_cause (b ∷ bs) ≢ wire.Truncated =
    λ truncated. (let open_at : is_open (outer_fault at (of_wire (rest_cause (b ∷ bs)))) ≡ true =
    ap (λ c. is_open (outer_fault at (of_wire c))) truncated in let same = ap is_open is in cc) in
    let stays = front_stays_rest (b ∷ bs) t starts final in
    ap (fault_after front) (split_steps_none at ((b ∷ bs) ++ t) stays.0)
    ∙ ap (λ c. Some (outer_fault at (of_wire c))) stays.1
    ∙ ap Some (sym is)

pub tile_stays : (s t : List ℕ) (f : Fault) → first (tile_rules s) ≡ Some f → is_open f ≡ false → first (tile_rules (s ++ t)) ≡ Some f
tile_stays s t f e shut =
    first-more s t
    ∙ either_stays (first (each field_rules [] (split s).fields)) (first (rest_rules (split s)))
    (fault_after (split s).fields (rest_with s t)) f (sym (first-tile s) ∙ e)
    (λ reported. rest_stays (split s).fields (split s).rest_at (split s).rest t f (split_steps_rest 0 s) reported shut)

past_stays : (limit : ℕ) (o : Option Fault) (f : Fault) → o ≡ Some f → is_open f ≡ false → beyond limit o ≡ Some f
past_stays limit None f e shut = cc
past_stays limit (Some g) f e shut =
    let same : g ≡ f = cc in
    ap (beyond limit) e ∙ ap (λ b. Some (cond b (outer_fault f.at TooLarge) f)) shut

fits : (limit : ℕ) (s t : List ℕ) → length s ≤ limit → take limit (s ++ t) ≡ s ++ take (limit - length s) t
fits limit s t h =
    let sum : limit ≡ length s + (limit - length s) = omega arith in
    ap (λ n. take n (s ++ t)) sum ∙ take-append-add s t (limit - length s)

pub fault_stays : (limit : ℕ) (s t : List ℕ) (f : Fault) → fault_within limit s ≡ Some f → is_open f ≡ false
    → fault_within limit (s ++ t) ≡ Some f
fault_stays limit s t f e shut = by_length (ltb limit (length s)) refl (ltb limit (length (s ++ t))) refl
  where
    by_length : (a : Bool) → ltb limit (length s) ≡ a → (b : Bool) → ltb limit (length (s ++ t)) ≡ b → fault_within limit (s ++ t) ≡ Some f
    by_length true long b is =
        let past : limit < length s = ltb-true limit (length s) long in
        let further : limit < length (s ++ t) = simp length-append (omega arith) in
        let within : limit ≤ length s = omega arith in
        fault_of_long limit (s ++ t) further ∙ ap (λ xs. beyond limit (first (tile_rules xs))) (take-append-le limit s t within)
        ∙ sym (fault_of_long limit s past) ∙ e
    by_length false short true long =
        let small : length s ≤ limit = ltb-false limit (length s) short in
        fault_of_long limit (s ++ t) (ltb-true limit (length (s ++ t)) long)
        ∙ ap (λ xs. beyond limit (first (tile_rules xs))) (fits limit s t small)
        ∙ past_stays limit (first (tile_rules (s ++ take (limit - length s) t))) f
        (tile_stays s (take (limit - length s) t) f (sym (fault_of_short limit s small) ∙ e) shut) shut
    by_length false short false also =
        fault_of_short limit (s ++ t) (ltb-false limit (length (s ++ t)) also)
        ∙ tile_stays s t f (sym (fault_of_short limit s (ltb-false limit (length s) short)) ∙ e) shut

shut_either : (f : Fault) (b : Bool) → is_open f ≡ b → is_open (cond b (outer_fault f.at TooLarge) f) ≡ false
shut_either f true e = refl
shut_either f false e = e

past_shut : (limit : ℕ) (o : Option Fault) → (f : Fault) × (beyond limit o ≡ Some f) × (is_open f ≡ false)
past_shut limit None = (outer_fault limit TooLarge, refl, refl)
past_shut limit (Some f) = (cond (is_open f) (outer_fault f.at TooLarge) f, refl, shut_either f (is_open f) refl)

pub fault_past_limit : (limit : ℕ) (s : List ℕ) → limit < length s → (f : Fault) × (fault_within limit s ≡ Some f) × (is_open f ≡ false)
fault_past_limit limit s long =
    let some = past_shut limit (first (tile_rules (take limit s))) in
    (some.0, fault_of_long limit s long ∙ some.1, some.2)

-- the front of a stream that is calm is calm
pub calm_front : (limit : ℕ) (s t : List ℕ) → IsCalm (fault_within limit (s ++ t)) → IsCalm (fault_within limit s)
calm_front limit s t calm f e = by_test (is_open f) refl
  where
    by_test : (b : Bool) → is_open f ≡ b → is_open f ≡ true
    by_test true is = is
    by_test false is = calm f (fault_stays limit s t f e is)
