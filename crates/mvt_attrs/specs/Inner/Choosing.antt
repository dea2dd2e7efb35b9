-- Entries that stand in slots that their hashes name, or in order, where both slots are others'.
use Rattle.std.specs.Prelude.{◌≡◌, ◌≢◌, ◌+◌, ◌-◌, ◌<◌, ◌⊎◌, ℕ, List, Option, Some, None, length, slice_get, slice_index, fold, bit_and}
use Rattle.std.specs.declared.cmp.Ordering.{Ordering}
use Rattle.std.specs.Hash.FoldHasher as folding
use Rattle.std.specs.Hash.DefaultHasher as sip
use Rattle.std.specs.BTreeMap.{get}
use Rattle.mvt_attrs.specs.declared.two_choices.TwoChoices.{TwoChoices}

-- the slot of an entry by a hash, among so many
abbrev pub slot_by : {T S : Type 0} → (S → List ℕ → S) → (S → ℕ) → S → (T → List (List ℕ)) → ℕ → T → ℕ
slot_by write finish state input room x = bit_and (finish (fold write state (input x))) (room - 1)

-- its two slots
abbrev pub first_slot : {T : Type 0} → (T → List (List ℕ)) → ℕ → T → ℕ
first_slot = slot_by folding.write folding.finish folding.initial

-- the slot by the hash that costs more
abbrev pub second_slot : {T : Type 0} → (T → List (List ℕ)) → ℕ → T → ℕ
second_slot = slot_by sip.write sip.finish sip.initial

-- a slot is place i's, or it is another's and the rest holds
abbrev pub IsOfOr : ℕ → ℕ → Type 0 → Type 0
IsOfOr mark i Rest = (mark ≡ i + 1) ⊎ ((mark ≢ 0) × Rest)

-- each entry is in its first slot; or that is another's, and it is in its second; or that is another's
-- too, and it is in order; nothing else is in order
pub record IsTwoChoices {T : Type 0} (cmp : T → T → Ordering) (input : T → List (List ℕ)) (two_choices : TwoChoices T)
    (entries : List T) : Type 0 where
  pub room : 0 < length two_choices.slots.items
  pub known : (i : ℕ) (x : T) → slice_get entries i ≡ Some x →
      let mark : ℕ → ℕ = slice_index two_choices.slots.items in
      let room = length two_choices.slots.items in
      IsOfOr (mark (first_slot input room x)) i (IsOfOr (mark (second_slot input room x)) i (get cmp two_choices.overflow x ≡ Some i))
  pub sound : (i : ℕ) (x : T) → get cmp two_choices.overflow x ≡ Some i → slice_get entries i ≡ Some x

-- the first of an entry's slots that is free, or none
abbrev pub IsFreeSlot : List ℕ → ℕ → ℕ → Option ℕ → Type 0
IsFreeSlot slots first second (Some slot) =
    (slot < length slots) × (slice_index slots slot ≡ 0) × ((slot ≡ first) ⊎ ((slice_index slots first ≢ 0) × (slot ≡ second)))
IsFreeSlot slots first second None = (slice_index slots first ≢ 0) × (slice_index slots second ≢ 0)

-- the same of an entry's two slots
abbrev pub IsFreeFor : {T : Type 0} → (T → List (List ℕ)) → TwoChoices T → T → Option ℕ → Type 0
IsFreeFor input two_choices x slot =
    let room = length two_choices.slots.items in
    IsFreeSlot two_choices.slots.items (first_slot input room x) (second_slot input room x) slot
