-- The cause that a tile isn't mended holds.
use Rattle.std.proofs.Common.{arith, ◌≡◌, ◌≢◌, ℕ, zero, suc, ◌+◌, ◌==◌, Bool, true, false, ◌||◌, List, [], ◌∷◌, map, Option, Some, None, refl, sym, ap, subst, ◌∙◌, inl, inr}
use Rattle.std.specs.Prelude.{if◌then◌else◌, slice_get, Result, Ok, Err, ◌⊎◌}
use Rattle.mvt_wire.specs.Packed.{is_nil}
use Rattle.mvt_wire.specs.Field.{Content, varint, fixed64, bytes, fixed32, Entry}
use Rattle.mvt_wire.specs.Spelling.{plain_of}
use Rattle.mvt_wire.specs.Split.{split}
use Rattle.mvt_feature.specs.Selection.{contents_at}
use Rattle.mvt_geometry.specs.declared.shape.Kind.{Kind}
use Rattle.mvt_geometry.specs.declared.shape.Kind.TheVariants as kinds
use Rattle.mvt_message.specs.declared.numbers.layer.TheConstants.{FEATURES}
use Rattle.mvt_geometry.specs.declared.shape.Point.{Point}
use Rattle.mvt_rings.specs.declared.rings.Kept.{Kept}
use Rattle.mvt_rings.specs.declared.holding.Crossing.{Crossing}
use Rattle.mvt_mend.specs.declared.geometry.Outcome.{Outcome}
use Rattle.mvt_mend.specs.declared.geometry.Outcome.TheVariants.{Stays, Crosses, Becomes}
use Rattle.mvt_mend.specs.declared.change.Unmended.{Unmended}
use Rattle.mvt_mend.specs.declared.change.Unmended.TheVariants.{RingsCross, TooManySteps, AnotherRule}
use Rattle.mvt_rings.proofs.RingLaws.{crossing_holds_holds}
use Rattle.mvt_mend.specs.Changes.{cause_of, first_cause}
use Rattle.mvt_mend.specs.Drawing.{drawn_parts}
use Rattle.mvt_mend.specs.Reading.{parts_in}
use Rattle.mvt_rings.specs.Mending.{mended_rings}
use Rattle.mvt_mend.specs.Geometry.{if_drawn, if_kept, if_read, is_faultless, kept_in, outcome, outcome_as, points_of}
use Rattle.mvt_mend.specs.Features.{feature_cause, feature_outcome, integers_of, outcome_with}
use Rattle.mvt_feature.specs.FeatureRules.{kind_in}
use Rattle.mvt_tile_value.specs.declared.numbers.tile.TheConstants.{LAYERS}
use Rattle.mvt_mend.specs.Tiles.{cause_at, cause_from, cause_in, has_layers, is_layer, is_long_winded, layer_cause}
use Rattle.mvt_mend.specs.Causes.{HoldsAt, IsFeatureAt, RingsOfCross}

-- ---- of a list of fields

-- one of the fields of a number has this cause
pub record HasCauseAt (cause : ℕ → List ℕ → Unmended) (number n : ℕ) (xs : List Entry) (found : Unmended) : Type 0 where
  pub index : ℕ
  pub payload : List ℕ
  pub there : slice_get (contents_at number (map plain_of xs)) index ≡ Some (bytes payload)
  pub is : cause (n + index) payload ≡ found

next : (n m : ℕ) → (n + 1) + m ≡ n + suc m
next n m = omega arith

none_on : (n : ℕ) → n + 0 ≡ n
none_on n = omega arith

-- what is told first is one of both
first_is : (before other found : Unmended) → first_cause before other ≡ found → (before ≡ found) ⊎ (other ≡ found)
first_is (RingsCross layer feature c) other found is = inl is
first_is TooManySteps other found is = inl is
first_is AnotherRule other found is = inr is

module _ (cause : ℕ → List ℕ → Unmended) (number : ℕ) (found : Unmended) (told : found ≢ AnotherRule) where
  here_cause : (n : ℕ) (c : Content) → cause_at (cause n) c ≡ found → (payload : List ℕ) × (c ≡ bytes payload) × (cause n payload ≡ found)
  here_cause n (varint m) is = absurd (told (sym is))
  here_cause n (fixed64 m) is = absurd (told (sym is))
  here_cause n (bytes d) is = (d, refl, is)
  here_cause n (fixed32 m) is = absurd (told (sym is))

  pub some_cause : (n : ℕ) (before : Unmended) (xs : List Entry) → cause_from cause number n before xs ≡ found
      → (before ≡ found) ⊎ HasCauseAt cause number n xs found
  some_cause n before [] is = inl is
  some_cause n before (x ∷ xs) is = as_record (by_test (x.number == number) (λ m b more. some_cause m b xs more) is)
    where
      as_record : (before ≡ found) ⊎ ((index : ℕ) × (payload : List ℕ)
          × (slice_get (contents_at number (map plain_of (x ∷ xs))) index ≡ Some (bytes payload)) × (cause (n + index) payload ≡ found))
          → (before ≡ found) ⊎ HasCauseAt cause number n (x ∷ xs) found
      as_record (inl old) = inl old
      as_record (inr (index, payload, there, at)) = inr (record { index = index; payload = payload; there = there; is = at })

      by_here : (contents : List Content) → cause_at (cause n) x.content ≡ found
          → (index : ℕ) × (payload : List ℕ) × (slice_get (x.content ∷ contents) index ≡ Some (bytes payload)) × (cause (n + index) payload ≡ found)
      by_here contents at =
          let one = here_cause n x.content at in (0, one.0, ap Some one.1, ap (λ m. cause m one.0) (none_on n) ∙ one.2)

      by_test : (b : Bool)
          → ((m : ℕ) (old : Unmended) → cause_from cause number m old xs ≡ found → (old ≡ found) ⊎ HasCauseAt cause number m xs found)
          → (if b then cause_from cause number (n + 1) (first_cause before (cause_at (cause n) x.content)) xs
          else cause_from cause number n before xs) ≡ found
          → (before ≡ found) ⊎ ((index : ℕ) × (payload : List ℕ)
          × (slice_get (if b then x.content ∷ contents_at number (map plain_of xs) else contents_at number (map plain_of xs)) index ≡ Some (bytes payload))
          × (cause (n + index) payload ≡ found))
      by_test true rest is = later (rest (n + 1) (first_cause before (cause_at (cause n) x.content)) is)
        where
          later : (first_cause before (cause_at (cause n) x.content) ≡ found) ⊎ HasCauseAt cause number (n + 1) xs found
              → (before ≡ found) ⊎ ((index : ℕ) × (payload : List ℕ)
              × (slice_get (x.content ∷ contents_at number (map plain_of xs)) index ≡ Some (bytes payload)) × (cause (n + index) payload ≡ found))
          later (inl first) = elim (first_is before (cause_at (cause n) x.content) found first) [
            | inl old ↦ inl old
            | inr at ↦ inr (by_here (contents_at number (map plain_of xs)) at)
          ]
          later (inr more) = inr (suc more.index, more.payload, more.there, ap (λ m. cause m more.payload) (sym (next n more.index)) ∙ more.is)
      by_test false rest is = elim (rest n before is) [
        | inl old ↦ inl old
        | inr more ↦ inr (more.index, more.payload, more.there, more.is)
      ]

-- ---- of a feature, a layer and a tile

cause_crosses : (layer n l f : ℕ) (c : Crossing) (found : Outcome) → cause_of layer n found ≡ RingsCross l f c
    → (layer ≡ l) × (n ≡ f) × (found ≡ Crosses c)
cause_crosses layer n l f c Stays is = absurd (cc)
cause_crosses layer n l f c (Crosses d) is = let same : d ≡ c = cc in (cc, cc, ap (λ e. Crosses e) same)
cause_crosses layer n l f c (Becomes remade) is = absurd (cc)

if_drawn_stays : (kind : Kind) (parts : List (List Point)) (kept : List Kept) (drawn : Option (List ℕ)) (c : Crossing)
    → if_drawn kind parts kept drawn ≡ Crosses c → ⊥
if_drawn_stays kind parts kept None c is = cc
if_drawn_stays kind parts kept (Some ints) c is = by_test (is_nil ints || is_faultless kind ints) is
  where
    by_test : (b : Bool) → (if b then Becomes (record { parts = parts; kept = kept; integers = ints }) else Stays) ≡ Crosses c → ⊥
    by_test true is = cc
    by_test false is = cc

kept_crosses : (kind : Kind) (ring : Bool) (parts : List (List Point)) (found : Result (List Kept) Crossing) (c : Crossing)
    → if_kept kind ring parts found ≡ Crosses c → found ≡ Err c
kept_crosses kind ring parts (Ok kept) c is = absurd (if_drawn_stays kind parts kept (drawn_parts ring (points_of kept)) c is)
kept_crosses kind ring parts (Err d) c is = let same : d ≡ c = cc in ap (λ e. Err e) same

read_crosses : (kind : Kind) (ring : Bool) (found : Option (List (List Point))) (c : Crossing) → if_read kind ring found ≡ Crosses c
    → (parts : List (List Point)) × (found ≡ Some parts) × (kept_in ring parts ≡ Err c)
read_crosses kind ring None c is = absurd (cc)
read_crosses kind ring (Some parts) c is = (parts, refl, kept_crosses kind ring parts (kept_in ring parts) c is)

as_crosses : (kind : Kind) (ring : Bool) (ints : List ℕ) (c : Crossing) → outcome_as kind ring ints ≡ Crosses c
    → (parts : List (List Point)) × (parts_in ring ints ≡ Some parts) × (kept_in ring parts ≡ Err c)
unfolding outcome_as
as_crosses kind ring ints c is = by_test (is_faultless kind ints) is
  where
    by_test : (b : Bool) → (if b then Stays else if_read kind ring (parts_in ring ints)) ≡ Crosses c
        → (parts : List (List Point)) × (parts_in ring ints ≡ Some parts) × (kept_in ring parts ≡ Err c)
    by_test true is = absurd (cc)
    by_test false is = read_crosses kind ring (parts_in ring ints) c is

outcome_crosses : (kind : Kind) (ints : List ℕ) (c : Crossing) → outcome kind ints ≡ Crosses c
    → (kind ≡ kinds.Polygon) × ((parts : List (List Point)) × (parts_in true ints ≡ Some parts) × (mended_rings parts ≡ Err c))
unfolding outcome
outcome_crosses kinds.Unknown ints c is = absurd (cc)
outcome_crosses kinds.Point ints c is = absurd (cc)
outcome_crosses kinds.LineString ints c is =
    let found = as_crosses kinds.LineString false ints c is in absurd (let e = found.2 in cc)
outcome_crosses kinds.Polygon ints c is = (refl, as_crosses kinds.Polygon true ints c is)

feature_crosses : (payload : List ℕ) (c : Crossing) → feature_outcome payload ≡ Crosses c → RingsOfCross payload c
unfolding feature_outcome
feature_crosses payload c is = by_case (integers_of payload) refl is
  where
    by_case : (read : Option (List ℕ)) → integers_of payload ≡ read → outcome_with (split payload).fields read ≡ Crosses c
        → RingsOfCross payload c
    by_case None read is = absurd (cc)
    by_case (Some ints) read is =
        let found = outcome_crosses (kind_in (split payload).fields) ints c is in
        let parts = found.1 in
        record { kind = found.0; integers = ints; read = read; rings = parts.0; spelled = parts.1; crosses = parts.2; why = crossing_holds_holds parts.0 c parts.2 }

feature_caused : (layer n l f : ℕ) (c : Crossing) (payload : List ℕ) → feature_cause layer n payload ≡ RingsCross l f c
    → (layer ≡ l) × (n ≡ f) × RingsOfCross payload c
unfolding feature_cause
feature_caused layer n l f c payload is =
    let found = cause_crosses layer n l f c (feature_outcome payload) is in (found.0, found.1, feature_crosses payload c found.2)

-- a feature of a layer
pub record HasCrossing (d : List ℕ) (n l f : ℕ) (c : Crossing) : Type 0 where
  pub is_one : is_layer d ≡ true
  pub same : n ≡ l
  pub payload : List ℕ
  pub there : HoldsAt FEATURES d f payload
  pub cross : RingsOfCross payload c

zero_on : (n : ℕ) → 0 + n ≡ n
zero_on n = omega arith

layer_caused : (n l f : ℕ) (c : Crossing) (d : List ℕ) → layer_cause n d ≡ RingsCross l f c → HasCrossing d n l f c
unfolding layer_cause
layer_caused n l f c d is = by_test (is_layer d) refl is
  where
    none : (AnotherRule ≡ RingsCross l f c) ⊎ HasCauseAt (feature_cause n) FEATURES 0 (split d).fields (RingsCross l f c)
        → HasCauseAt (feature_cause n) FEATURES 0 (split d).fields (RingsCross l f c)
    none (inl not) = absurd (cc)
    none (inr at) = at

    by_test : (b : Bool) → is_layer d ≡ b
        → (if b then cause_from (feature_cause n) FEATURES 0 AnotherRule (split d).fields else AnotherRule) ≡ RingsCross l f c
        → HasCrossing d n l f c
    by_test true one is =
        let at = none (some_cause (feature_cause n) FEATURES (RingsCross l f c) (λ e. cc) 0 AnotherRule (split d).fields is) in
        let found = feature_caused n (0 + at.index) l f c at.payload at.is in
        let index : at.index ≡ f = sym (zero_on at.index) ∙ found.1 in
        record {
          is_one = one;
          same = found.0;
          payload = at.payload;
          there = subst (λ m. HoldsAt FEATURES d m at.payload) index at.there;
          cross = found.2;
        }
    by_test false one is = absurd (cc)

-- the rings that a tile's cause tells cross
pub cross_there : (input : List ℕ) (l f : ℕ) (c : Crossing) → cause_in input ≡ RingsCross l f c
    → (payload : List ℕ) × IsFeatureAt input l f payload × RingsOfCross payload c
unfolding cause_in
cross_there input l f c is = by_test (has_layers input) (is_long_winded input) is
  where
    none : (AnotherRule ≡ RingsCross l f c) ⊎ HasCauseAt layer_cause LAYERS 0 (split input).fields (RingsCross l f c)
        → HasCauseAt layer_cause LAYERS 0 (split input).fields (RingsCross l f c)
    none (inl not) = absurd (cc)
    none (inr at) = at

    by_test : (a b : Bool)
        → (if a then (if b then TooManySteps else cause_from layer_cause LAYERS 0 AnotherRule (split input).fields) else AnotherRule)
        ≡ RingsCross l f c → (payload : List ℕ) × IsFeatureAt input l f payload × RingsOfCross payload c
    by_test true true is = absurd (cc)
    by_test true false is =
        let at = none (some_cause layer_cause LAYERS (RingsCross l f c) (λ e. cc) 0 AnotherRule (split input).fields is) in
        let found = layer_caused (0 + at.index) l f c at.payload at.is in
        let index : at.index ≡ l = sym (zero_on at.index) ∙ found.same in (
          found.payload,
          record {
            layer_payload = at.payload;
            layer_there = subst (λ m. HoldsAt LAYERS input m at.payload) index at.there;
            is_one = found.is_one;
            feature_there = found.there;
          },
          found.cross,
        )
    by_test false b is = absurd (cc)

-- ---- where another rule is told

-- of two causes none says more
neither : (before other : Unmended) → first_cause before other ≡ AnotherRule → (before ≡ AnotherRule) × (other ≡ AnotherRule)
neither (RingsCross layer feature c) other is = absurd (cc)
neither TooManySteps other is = absurd (cc)
neither AnotherRule other is = (refl, is)

-- so of each of the fields of a number
no_cause : (cause : ℕ → List ℕ → Unmended) (number n : ℕ) (before : Unmended) (xs : List Entry)
    → cause_from cause number n before xs ≡ AnotherRule
    → (before ≡ AnotherRule) × ((index : ℕ) (payload : List ℕ) → slice_get (contents_at number (map plain_of xs)) index ≡ Some (bytes payload)
    → cause (n + index) payload ≡ AnotherRule)
no_cause cause number n before [] is = (is, λ index payload there. absurd (cc))
no_cause cause number n before (x ∷ xs) is = by_test (x.number == number) (λ m b more. no_cause cause number m b xs more) is
  where
    at_first : cause_at (cause n) x.content ≡ AnotherRule → (payload : List ℕ) → x.content ≡ bytes payload → cause (n + 0) payload ≡ AnotherRule
    at_first none payload same = ap (λ m. cause m payload) (none_on n) ∙ (ap (cause_at (cause n)) (sym same) ∙ none)

    by_index : cause_at (cause n) x.content ≡ AnotherRule
        → ((index : ℕ) (payload : List ℕ) → slice_get (contents_at number (map plain_of xs)) index ≡ Some (bytes payload)
        → cause ((n + 1) + index) payload ≡ AnotherRule)
        → (index : ℕ) (payload : List ℕ) → slice_get (x.content ∷ contents_at number (map plain_of xs)) index ≡ Some (bytes payload)
        → cause (n + index) payload ≡ AnotherRule
    by_index none rest zero payload there = at_first none payload (cc)
    by_index none rest (suc index) payload there = ap (λ m. cause m payload) (sym (next n index)) ∙ rest index payload there

    by_test : (b : Bool)
        → ((m : ℕ) (old : Unmended) → cause_from cause number m old xs ≡ AnotherRule
        → (old ≡ AnotherRule) × ((index : ℕ) (payload : List ℕ) → slice_get (contents_at number (map plain_of xs)) index ≡ Some (bytes payload)
        → cause (m + index) payload ≡ AnotherRule))
        → (if b then cause_from cause number (n + 1) (first_cause before (cause_at (cause n) x.content)) xs
        else cause_from cause number n before xs) ≡ AnotherRule
        → (before ≡ AnotherRule) × ((index : ℕ) (payload : List ℕ)
        → slice_get (if b then x.content ∷ contents_at number (map plain_of xs) else contents_at number (map plain_of xs)) index ≡ Some (bytes payload)
        → cause (n + index) payload ≡ AnotherRule)
    by_test true rest is =
        let found = rest (n + 1) (first_cause before (cause_at (cause n) x.content)) is in
        let both = neither before (cause_at (cause n) x.content) found.0 in (both.0, by_index both.1 found.1)
    by_test false rest is = rest n before is

layer_clear : (n : ℕ) (d : List ℕ) → layer_cause n d ≡ AnotherRule → is_layer d ≡ true → (m : ℕ) (payload : List ℕ) → HoldsAt FEATURES d m payload
    → feature_cause n (0 + m) payload ≡ AnotherRule
unfolding layer_cause
layer_clear n d none one m payload there =
    let all = no_cause (feature_cause n) FEATURES 0 AnotherRule (split d).fields (rw one at none) in all.1 m payload there

feature_clear : (layer n : ℕ) (payload : List ℕ) (c : Crossing) → feature_cause layer n payload ≡ AnotherRule → feature_outcome payload ≡ Crosses c → ⊥
unfolding feature_cause
feature_clear layer n payload c none crosses =
    let is : RingsCross layer n c ≡ AnotherRule = ap (cause_of layer n) (sym crosses) ∙ none in cc

-- where another rule is told no rings cross, and no more steps are taken than are given
pub none_crosses : (input : List ℕ) → has_layers input ≡ true → cause_in input ≡ AnotherRule → (l f : ℕ) (payload : List ℕ) (c : Crossing)
    → IsFeatureAt input l f payload → feature_outcome payload ≡ Crosses c → ⊥
unfolding cause_in
none_crosses input has none l f payload c at crosses = by_test (is_long_winded input) (rw has at none)
  where
    by_test : (b : Bool) → (if b then TooManySteps else cause_from layer_cause LAYERS 0 AnotherRule (split input).fields) ≡ AnotherRule → ⊥
    by_test true none = cc
    by_test false none =
        let layers = no_cause layer_cause LAYERS 0 AnotherRule (split input).fields none in
        let here = layers.1 l at.layer_payload at.layer_there in
        let feature = layer_clear (0 + l) at.layer_payload here at.is_one f payload at.feature_there in
        feature_clear (0 + l) (0 + f) payload c feature crosses

pub few_steps : (input : List ℕ) → has_layers input ≡ true → cause_in input ≡ AnotherRule → is_long_winded input ≡ false
unfolding cause_in
few_steps input has none = by_test (is_long_winded input) (rw has at none)
  where
    by_test : (b : Bool) → (if b then TooManySteps else cause_from layer_cause LAYERS 0 AnotherRule (split input).fields) ≡ AnotherRule
        → b ≡ false
    by_test true none = absurd (cc)
    by_test false none = refl

-- where too many steps are told they are too many
never_of : (layer n : ℕ) (found : Outcome) → cause_of layer n found ≡ TooManySteps → ⊥
never_of layer n Stays is = cc
never_of layer n (Crosses c) is = cc
never_of layer n (Becomes remade) is = cc

feature_never : (layer n : ℕ) (payload : List ℕ) → feature_cause layer n payload ≡ TooManySteps → ⊥
unfolding feature_cause
feature_never layer n payload is = never_of layer n (feature_outcome payload) is

never_from : (cause : ℕ → List ℕ → Unmended) (number : ℕ) (xs : List Entry)
    → ((n : ℕ) (payload : List ℕ) → cause n payload ≡ TooManySteps → ⊥) → cause_from cause number 0 AnotherRule xs ≡ TooManySteps → ⊥
never_from cause number xs none is = by_case (some_cause cause number TooManySteps (λ e. cc) 0 AnotherRule xs is)
  where
    by_case : (AnotherRule ≡ TooManySteps) ⊎ HasCauseAt cause number 0 xs TooManySteps → ⊥
    by_case (inl e) = cc
    by_case (inr at) = none (0 + at.index) at.payload at.is

layer_never : (n : ℕ) (d : List ℕ) → layer_cause n d ≡ TooManySteps → ⊥
unfolding layer_cause
layer_never n d is = by_test (is_layer d) is
  where
    by_test : (b : Bool) → (if b then cause_from (feature_cause n) FEATURES 0 AnotherRule (split d).fields else AnotherRule) ≡ TooManySteps → ⊥
    by_test true is = never_from (feature_cause n) FEATURES (split d).fields (feature_never n) is
    by_test false is = cc

pub many_steps : (input : List ℕ) → cause_in input ≡ TooManySteps → is_long_winded input ≡ true
unfolding cause_in
many_steps input is = by_test (has_layers input) (is_long_winded input) is
  where
    by_test : (a b : Bool)
        → (if a then (if b then TooManySteps else cause_from layer_cause LAYERS 0 AnotherRule (split input).fields) else AnotherRule) ≡ TooManySteps
        → b ≡ true
    by_test true true is = refl
    by_test true false is = absurd (never_from layer_cause LAYERS (split input).fields layer_never is)
    by_test false b is = absurd (cc)
