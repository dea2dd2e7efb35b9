-- What is told of each ring.
use Rattle.std.proofs.Common.{arith, ◌≡◌, ◌≢◌, ℕ, zero, suc, ◌+◌, ◌-◌, ◌==◌, ◌<◌, nat_lt, Bool, true, false, List, [], ◌∷◌, ◌++◌, length, refl, sym, ap, ap₂, subst, slice_index_or, inl, inr}
use Rattle.std.specs.Prelude.{if◌then◌else◌, ◌⊎◌}
use Rattle.mvt_base.specs.Rules.{IsOneOf}
use Rattle.mvt_geometry.specs.declared.shape.Point.{Point}
use Rattle.mvt_mend.specs.declared.fates.Fate.{Fate}
use Rattle.mvt_mend.specs.declared.change.Change.{Change}
use Rattle.mvt_mend.specs.declared.change.Change.TheVariants.{TurnedRing, RepeatedPoint, PartLeftOut, FeatureLeftOut, MovedRing}
use Rattle.mvt_mend.specs.Changes.{fate_at, is_turned, move_told, repeats_told, told_from, told_of, turn_told, with_staying}

-- ---- elements of joined lists

one_joined : {X : Type 0} → (xs ys : List X) (y : X) → IsOneOf (xs ++ ys) y → IsOneOf xs y ⊎ IsOneOf ys y
one_joined [] ys y is = inr is
one_joined {X} (x ∷ xs) ys y is = elim is [ inl same ↦ inl (inl same) | inr more ↦ later (one_joined xs ys y more) ]
  where
    later : IsOneOf xs y ⊎ IsOneOf ys y → IsOneOf (x ∷ xs) y ⊎ IsOneOf ys y
    later (inl front) = inl (inr front)
    later (inr back) = inr back

one_front : {X : Type 0} → (xs ys : List X) (y : X) → IsOneOf xs y → IsOneOf (xs ++ ys) y
one_front [] ys y is = absurd is
one_front {X} (x ∷ xs) ys y is = elim is [ inl same ↦ inl same | inr more ↦ inr (one_front xs ys y more) ]

one_back : {X : Type 0} → (xs ys : List X) (y : X) → IsOneOf ys y → IsOneOf (xs ++ ys) y
one_back [] ys y is = is
one_back (x ∷ xs) ys y is = inr (one_back xs ys y is)

-- ---- what is told of one part

-- how many parts before one stay, of those from an index on
abbrev pub before_at : List Fate → ℕ → ℕ → ℕ → ℕ
before_at fates n before zero = before
before_at fates n before (suc m) = before_at fates (n + 1) (with_staying before (fate_at fates n)) m

-- something is told of the part of this index
pub record IsToldAt (layer feature : ℕ) (fates : List Fate) (n before : ℕ) (parts : List (List Point)) (change : Change) (m : ℕ) : Type 0 where
  pub within : m < length parts
  pub told : IsOneOf (told_of layer feature (n + m) (before_at fates n before m) (slice_index_or parts m []) (fate_at fates (n + m))) change

add_none : (n : ℕ) → n + 0 ≡ n
add_none n = omega arith

one_on : (n m : ℕ) → n + suc m ≡ (n + 1) + m
one_on n m = omega arith

pub told_at_some : (layer feature : ℕ) (fates : List Fate) (n before : ℕ) (parts : List (List Point)) (change : Change)
    → IsOneOf (told_from layer feature fates n before parts) change
    → (m : ℕ) × IsToldAt layer feature fates n before parts change m
told_at_some layer feature fates n before [] change is = absurd is
told_at_some layer feature fates n before (part ∷ parts) change is =
    by_place (one_joined (told_of layer feature n before part (fate_at fates n))
    (told_from layer feature fates (n + 1) (with_staying before (fate_at fates n)) parts) change is)
    (λ more. told_at_some layer feature fates (n + 1) (with_staying before (fate_at fates n)) parts change more)
  where
    by_place : IsOneOf (told_of layer feature n before part (fate_at fates n)) change
        ⊎ IsOneOf (told_from layer feature fates (n + 1) (with_staying before (fate_at fates n)) parts) change
        → (IsOneOf (told_from layer feature fates (n + 1) (with_staying before (fate_at fates n)) parts) change
        → (m : ℕ) × IsToldAt layer feature fates (n + 1) (with_staying before (fate_at fates n)) parts change m)
        → (m : ℕ) × IsToldAt layer feature fates n before (part ∷ parts) change m
    by_place (inl here) more = (
      0,
      record {
        within = omega arith;
        told = subst (λ k. IsOneOf (told_of layer feature k before part (fate_at fates k)) change) (sym (add_none n)) here;
      },
    )
    by_place (inr there) more =
        let found = more there in
        let is = found.1 in (
          suc found.0,
          record {
            within = let w = is.within in omega arith;
            told = subst (λ k. IsOneOf (told_of layer feature k (before_at fates (n + 1) (with_staying before (fate_at fates n)) found.0)
                (slice_index_or parts found.0 []) (fate_at fates k)) change) (sym (one_on n found.0)) is.told;
          },
        )

pub told_some_at : (layer feature : ℕ) (fates : List Fate) (n before : ℕ) (parts : List (List Point)) (change : Change) (m : ℕ)
    → IsToldAt layer feature fates n before parts change m → IsOneOf (told_from layer feature fates n before parts) change
told_some_at layer feature fates n before [] change m is = absurd (let w = is.within in omega arith)
told_some_at layer feature fates n before (part ∷ parts) change zero is =
    one_front (told_of layer feature n before part (fate_at fates n)) _ change
    (subst (λ k. IsOneOf (told_of layer feature k before part (fate_at fates k)) change) (add_none n) is.told)
told_some_at layer feature fates n before (part ∷ parts) change (suc m) is =
    one_back (told_of layer feature n before part (fate_at fates n)) _ change
    (told_some_at layer feature fates (n + 1) (with_staying before (fate_at fates n)) parts change m (record {
      within = let w = is.within in omega arith;
      told = subst (λ k. IsOneOf (told_of layer feature k (before_at fates (n + 1) (with_staying before (fate_at fates n)) m)
          (slice_index_or parts m []) (fate_at fates k)) change) (one_on n m) is.told;
    }))

-- of one part: that it was turned, and that it was moved
pub record TellsTurn (n i : ℕ) (part : List Point) (fate : Fate) : Type 0 where
  pub at : n ≡ i
  pub stays : (fate.place == 0) ≡ false
  pub turned : is_turned part fate ≡ true

pub record TellsMove (n i j before : ℕ) (fate : Fate) : Type 0 where
  pub at : n ≡ i
  pub stays : (fate.place == 0) ≡ false
  pub moved : (fate.place == before + 1) ≡ false
  pub to : fate.place - 1 ≡ j

-- that it was left out, and that points of it were
pub record TellsGone (n i count : ℕ) (part : List Point) (fate : Fate) : Type 0 where
  pub at : n ≡ i
  pub gone : (fate.place == 0) ≡ true
  pub points : length part ≡ count

pub record TellsFewer (n i count : ℕ) (part : List Point) (fate : Fate) : Type 0 where
  pub at : n ≡ i
  pub stays : (fate.place == 0) ≡ false
  pub fewer : nat_lt fate.points (length part) ≡ true
  pub points : length part - fate.points ≡ count

module _ (layer feature n before : ℕ) (part : List Point) (fate : Fate) where
  in_repeats : (change : Change) → ((count : ℕ) → RepeatedPoint layer feature n count ≢ change)
      → IsOneOf (repeats_told layer feature n part fate) change → ⊥
  in_repeats change other is = by_test (nat_lt fate.points (length part)) is
    where
      by_test : (b : Bool) → IsOneOf (if b then RepeatedPoint layer feature n (length part - fate.points) ∷ [] else []) change → ⊥
      by_test true is = elim is [ inl same ↦ other _ same | inr none ↦ none ]
      by_test false is = is

  turn_of : (i : ℕ) → IsOneOf (turn_told layer feature n part fate) (TurnedRing layer feature i) → (n ≡ i) × (is_turned part fate ≡ true)
  turn_of i is = by_test (is_turned part fate) is
    where
      by_test : (b : Bool) → IsOneOf (if b then TurnedRing layer feature n ∷ [] else []) (TurnedRing layer feature i) → (n ≡ i) × (b ≡ true)
      by_test true is = elim is [ inl same ↦ (cc, refl) | inr none ↦ absurd none ]
      by_test false is = absurd is

  move_of : (i j : ℕ) → IsOneOf (move_told layer feature n before fate) (MovedRing layer feature i j)
      → (n ≡ i) × ((fate.place == before + 1) ≡ false) × (fate.place - 1 ≡ j)
  move_of i j is = by_test (fate.place == before + 1) is
    where
      by_test : (b : Bool) → IsOneOf (if b then [] else MovedRing layer feature n (fate.place - 1) ∷ []) (MovedRing layer feature i j)
          → (n ≡ i) × (b ≡ false) × (fate.place - 1 ≡ j)
      by_test true is = absurd is
      by_test false is = elim is [ inl same ↦ (cc, refl, cc) | inr none ↦ absurd none ]

  in_turn : (change : Change) → TurnedRing layer feature n ≢ change → IsOneOf (turn_told layer feature n part fate) change → ⊥
  in_turn change other is = by_test (is_turned part fate) is
    where
      by_test : (b : Bool) → IsOneOf (if b then TurnedRing layer feature n ∷ [] else []) change → ⊥
      by_test true is = elim is [ inl same ↦ other same | inr none ↦ none ]
      by_test false is = is

  in_move : (change : Change) → ((to : ℕ) → MovedRing layer feature n to ≢ change) → IsOneOf (move_told layer feature n before fate) change → ⊥
  in_move change other is = by_test (fate.place == before + 1) is
    where
      by_test : (b : Bool) → IsOneOf (if b then [] else MovedRing layer feature n (fate.place - 1) ∷ []) change → ⊥
      by_test true is = is
      by_test false is = elim is [ inl same ↦ other _ same | inr none ↦ none ]

  pub tells_turn : (i : ℕ) → IsOneOf (told_of layer feature n before part fate) (TurnedRing layer feature i) → TellsTurn n i part fate
  tells_turn i is = by_test (fate.place == 0) refl is
    where
      here : IsOneOf (turn_told layer feature n part fate ++ move_told layer feature n before fate) (TurnedRing layer feature i)
          → (n ≡ i) × (is_turned part fate ≡ true)
      here is = elim (one_joined (turn_told layer feature n part fate) (move_told layer feature n before fate) _ is) [
        | inl turn ↦ turn_of i turn
        | inr move ↦ absurd (in_move _ (λ to same. cc) move)
      ]

      by_test : (b : Bool) → (fate.place == 0) ≡ b
          → IsOneOf (if b then PartLeftOut layer feature n (length part) ∷ []
          else repeats_told layer feature n part fate ++ (turn_told layer feature n part fate ++ move_told layer feature n before fate))
          (TurnedRing layer feature i) → TellsTurn n i part fate
      by_test true out is = elim is [ inl same ↦ absurd (cc) | inr none ↦ absurd none ]
      by_test false stays is =
          elim (one_joined (repeats_told layer feature n part fate) (turn_told layer feature n part fate ++ move_told layer feature n before fate) _ is) [
            | inl repeats ↦ absurd (in_repeats _ (λ count same. cc) repeats)
            | inr more ↦ let found = here more in record { at = found.0; stays = stays; turned = found.1 }
          ]

  pub turn_tells : (i : ℕ) → TellsTurn n i part fate → IsOneOf (told_of layer feature n before part fate) (TurnedRing layer feature i)
  turn_tells i is =
      rw (is.stays, is.turned)
      (one_back (repeats_told layer feature n part fate) (TurnedRing layer feature n ∷ move_told layer feature n before fate) _
      (inl (ap (λ k. TurnedRing layer feature k) is.at)))

  pub tells_move : (i j : ℕ) → IsOneOf (told_of layer feature n before part fate) (MovedRing layer feature i j) → TellsMove n i j before fate
  tells_move i j is = by_test (fate.place == 0) refl is
    where
      here : IsOneOf (turn_told layer feature n part fate ++ move_told layer feature n before fate) (MovedRing layer feature i j)
          → (n ≡ i) × ((fate.place == before + 1) ≡ false) × (fate.place - 1 ≡ j)
      here is = elim (one_joined (turn_told layer feature n part fate) (move_told layer feature n before fate) _ is) [
        | inl turn ↦ absurd (in_turn _ (λ same. cc) turn)
        | inr move ↦ move_of i j move
      ]

      by_test : (b : Bool) → (fate.place == 0) ≡ b
          → IsOneOf (if b then PartLeftOut layer feature n (length part) ∷ []
          else repeats_told layer feature n part fate ++ (turn_told layer feature n part fate ++ move_told layer feature n before fate))
          (MovedRing layer feature i j) → TellsMove n i j before fate
      by_test true out is = elim is [ inl same ↦ absurd (cc) | inr none ↦ absurd none ]
      by_test false stays is =
          elim (one_joined (repeats_told layer feature n part fate) (turn_told layer feature n part fate ++ move_told layer feature n before fate) _ is) [
            | inl repeats ↦ absurd (in_repeats _ (λ count same. cc) repeats)
            | inr more ↦ let found = here more in record { at = found.0; stays = stays; moved = found.1; to = found.2 }
          ]

  pub move_tells : (i j : ℕ) → TellsMove n i j before fate → IsOneOf (told_of layer feature n before part fate) (MovedRing layer feature i j)
  move_tells i j is =
      rw is.stays
      (one_back (repeats_told layer feature n part fate) (turn_told layer feature n part fate ++ move_told layer feature n before fate) _
      (one_back (turn_told layer feature n part fate) (move_told layer feature n before fate) _
      (rw is.moved (inl (ap₂ (λ k l. MovedRing layer feature k l) is.at is.to)))))

  pub tells_gone : (i count : ℕ) → IsOneOf (told_of layer feature n before part fate) (PartLeftOut layer feature i count)
      → TellsGone n i count part fate
  tells_gone i count is = by_test (fate.place == 0) refl is
    where
      none : IsOneOf (turn_told layer feature n part fate ++ move_told layer feature n before fate) (PartLeftOut layer feature i count) → ⊥
      none is = elim (one_joined (turn_told layer feature n part fate) (move_told layer feature n before fate) _ is) [
        | inl turn ↦ in_turn _ (λ same. cc) turn
        | inr move ↦ in_move _ (λ to same. cc) move
      ]

      by_test : (b : Bool) → (fate.place == 0) ≡ b
          → IsOneOf (if b then PartLeftOut layer feature n (length part) ∷ []
          else repeats_told layer feature n part fate ++ (turn_told layer feature n part fate ++ move_told layer feature n before fate))
          (PartLeftOut layer feature i count) → TellsGone n i count part fate
      by_test true out is = elim is [
        | inl same ↦ record { at = cc; gone = out; points = cc }
        | inr none ↦ absurd none
      ]
      by_test false stays is =
          elim (one_joined (repeats_told layer feature n part fate) (turn_told layer feature n part fate ++ move_told layer feature n before fate) _ is) [
            | inl repeats ↦ absurd (in_repeats _ (λ count same. cc) repeats)
            | inr more ↦ absurd (none more)
          ]

  pub gone_tells : (i count : ℕ) → TellsGone n i count part fate
      → IsOneOf (told_of layer feature n before part fate) (PartLeftOut layer feature i count)
  gone_tells i count is = rw is.gone (inl (ap₂ (λ k l. PartLeftOut layer feature k l) is.at is.points))

  fewer_of : (i count : ℕ) → IsOneOf (repeats_told layer feature n part fate) (RepeatedPoint layer feature i count)
      → (n ≡ i) × (nat_lt fate.points (length part) ≡ true) × (length part - fate.points ≡ count)
  fewer_of i count is = by_test (nat_lt fate.points (length part)) is
    where
      by_test : (b : Bool)
          → IsOneOf (if b then RepeatedPoint layer feature n (length part - fate.points) ∷ [] else []) (RepeatedPoint layer feature i count)
          → (n ≡ i) × (b ≡ true) × (length part - fate.points ≡ count)
      by_test true is = elim is [ inl same ↦ (cc, refl, cc) | inr none ↦ absurd none ]
      by_test false is = absurd is

  pub tells_fewer : (i count : ℕ) → IsOneOf (told_of layer feature n before part fate) (RepeatedPoint layer feature i count)
      → TellsFewer n i count part fate
  tells_fewer i count is = by_test (fate.place == 0) refl is
    where
      none : IsOneOf (turn_told layer feature n part fate ++ move_told layer feature n before fate) (RepeatedPoint layer feature i count) → ⊥
      none is = elim (one_joined (turn_told layer feature n part fate) (move_told layer feature n before fate) _ is) [
        | inl turn ↦ in_turn _ (λ same. cc) turn
        | inr move ↦ in_move _ (λ to same. cc) move
      ]

      by_test : (b : Bool) → (fate.place == 0) ≡ b
          → IsOneOf (if b then PartLeftOut layer feature n (length part) ∷ []
          else repeats_told layer feature n part fate ++ (turn_told layer feature n part fate ++ move_told layer feature n before fate))
          (RepeatedPoint layer feature i count) → TellsFewer n i count part fate
      by_test true out is = elim is [ inl same ↦ absurd (cc) | inr none ↦ absurd none ]
      by_test false stays is =
          elim (one_joined (repeats_told layer feature n part fate) (turn_told layer feature n part fate ++ move_told layer feature n before fate) _ is) [
            | inl repeats ↦ let found = fewer_of i count repeats in record { at = found.0; stays = stays; fewer = found.1; points = found.2 }
            | inr more ↦ absurd (none more)
          ]

  pub fewer_tells : (i count : ℕ) → TellsFewer n i count part fate
      → IsOneOf (told_of layer feature n before part fate) (RepeatedPoint layer feature i count)
  fewer_tells i count is =
      rw (is.stays, is.fewer) (inl (ap₂ (λ k l. RepeatedPoint layer feature k l) is.at is.points))

  -- a feature isn't told left out where something is told of its parts
  pub none_left : (count : ℕ) → IsOneOf (told_of layer feature n before part fate) (FeatureLeftOut layer feature count) → ⊥
  none_left count is = by_test (fate.place == 0) is
    where
      none : IsOneOf (turn_told layer feature n part fate ++ move_told layer feature n before fate) (FeatureLeftOut layer feature count) → ⊥
      none is = elim (one_joined (turn_told layer feature n part fate) (move_told layer feature n before fate) _ is) [
        | inl turn ↦ in_turn _ (λ same. cc) turn
        | inr move ↦ in_move _ (λ to same. cc) move
      ]

      by_test : (b : Bool)
          → IsOneOf (if b then PartLeftOut layer feature n (length part) ∷ []
          else repeats_told layer feature n part fate ++ (turn_told layer feature n part fate ++ move_told layer feature n before fate))
          (FeatureLeftOut layer feature count) → ⊥
      by_test true is = elim is [ inl same ↦ cc | inr none ↦ none ]
      by_test false is =
          elim (one_joined (repeats_told layer feature n part fate) (turn_told layer feature n part fate ++ move_told layer feature n before fate) _ is) [
            | inl repeats ↦ in_repeats _ (λ count same. cc) repeats
            | inr more ↦ none more
          ]
