-- A whole feature that a builder takes at once.
use Rattle.std.proofs.Common.{◌≡◌, ◌&&◌, ℕ, Bool, true, false, is_some, List, [], ◌++◌, Some, Ok, Err, Option, None, Result, OnOk, IsSomeAnd, refl, sym, ap, subst, ◌∙◌, append-nil, arith}
use Rattle.std.specs.declared.alloc.AllocError.{AllocError}
use Rattle.std.proofs.lemmas.Bool.{false≢true}
use Rattle.mvt_rows.specs.declared.builder.Builder.{Builder}
use Rattle.mvt_rows.specs.declared.builder.OpenFeature.{OpenFeature}
use Rattle.mvt_rows.specs.Building.{HasTold, Holds, IsStep, has_layer}
use Rattle.mvt_rows.specs.Tables.{Table}
use Rattle.mvt_rows.specs.Told.{Told, ToldFeature, ToldLayer, Begun, Nothing, InLayer, InFeature, InPart, begin_feature, feature_ended, feature_in, in_layer, new_feature, whole_feature, with_begun, with_feature, with_part}
use Rattle.mvt_rows.specs.ToldRows.{rows_of, with_drawn, with_told_features}

pub ok_to : {A E : Type 0} → (r : Result A E) (P Q : Type 0) → (P → Q) → OnOk r P → OnOk r Q
ok_to (Ok x) P Q f p = f p
ok_to (Err e) P Q f p = tt

-- a step, from what holds of each told that the builder has
pub step_of : (r : Result (Unit {0}) AllocError) (old new : Builder) (next : Told → Option Told)
    → ((told : Told) → HasTold old told → OnOk r (IsSomeAnd (next told) (HasTold new))) → IsStep old new r next
step_of (Ok x) old new next f = record { done = f }
step_of (Err e) old new next f = record { done = tt }

-- where a layer has begun, its features end in it
pub in_a_layer : (b : Builder) (t : Table) (begun : Begun) → has_layer b.turn ≡ true → Holds b t begun
    → (l : ToldLayer) × (feature_ended begun ≡ InLayer l)
in_a_layer b t Nothing due h = absurd (false≢true (sym (ap has_layer h.0) ∙ due))
in_a_layer b t (InLayer l) due h = (l, refl)
in_a_layer b t (InFeature l f) due h = (with_feature l f, refl)
in_a_layer b t (InPart l f p) due h = (with_feature l (with_part f p), refl)

-- a feature that has begun, with an id and with tags
pub whole_begun : (b : Builder) (after : Table) (t : Table) (l : ToldLayer) (kind : ℕ) (id : Option ℕ) (tags : List ℕ)
    → Holds b t (InFeature l (new_feature kind)) → after ≡ record b.table { tags = b.table.tags ++ tags }
    → Holds (record b { table = after; feature = record b.feature { id = id } }) t (InFeature l (whole_feature kind id tags []))
whole_begun b after t l kind id tags h e =
    let held = with_told_features t l.features in
    let tagged : Table → Table = λ one. record one { tags = one.tags ++ tags } in
    let same : tagged (with_drawn held (new_feature kind)) ≡ with_drawn held (whole_feature kind id tags []) =
    ap (λ (all : List ℕ). let made : Table = record (with_drawn held (new_feature kind)) { tags = all ++ tags } in made)
    (append-nil held.tags) in (
      h.0,
      record { name = h.1.name; extent = h.1.extent; open_at = h.1.open_at; keys = h.1.keys; values = h.1.values },
      ap (λ (f : OpenFeature). let made : OpenFeature = record f { id = id } in made) h.2,
      e ∙ ap tagged h.3 ∙ same,
    )

-- what a builder begins in a layer
pub begun_in : (b : Builder) (told : Told) (l : ToldLayer) (kind : ℕ) → feature_ended told.begun ≡ InLayer l
    → IsSomeAnd (begin_feature kind told) (HasTold b) → HasTold b (record told { begun = InFeature l (new_feature kind) })
begun_in b told l kind is h = subst (λ begun. IsSomeAnd (with_begun told (feature_in kind begun)) (HasTold b)) is h

-- and a whole feature more
pub whole_told : (b : Builder) (told : Told) (l : ToldLayer) (f : ToldFeature) → feature_ended told.begun ≡ InLayer l
    → HasTold b (record told { begun = InLayer (with_feature l f) })
    → IsSomeAnd (with_begun told (in_layer (λ l. with_feature l f) (feature_ended told.begun))) (HasTold b)
whole_told b told l f is h =
    subst (λ begun. IsSomeAnd (with_begun told (in_layer (λ l. with_feature l f) begun)) (HasTold b)) (sym is) h

-- what is there, and what two tests tell
pub some_of : {A : Type 0} → (o : Option A) → is_some o ≡ true → (x : A) × (o ≡ Some x)
some_of None e = absurd (false≢true e)
some_of (Some x) e = (x, refl)

pub both : (a b : Bool) → (a && b) ≡ true → (a ≡ true) × (b ≡ true)
both true b e = (refl, e)
both false b e = absurd (false≢true e)

-- where a layer has begun it is due
pub whole_due : (b : Builder) (told : Told) (f : ToldFeature) → has_layer b.turn ≡ true → HasTold b told
    → with_begun told (in_layer (λ l. with_feature l f) (feature_ended told.begun)) ≡ None → ⊥
whole_due b told f due h none =
    let (l, is) = in_a_layer b (rows_of told.items) told.begun due h.1 in
    let there : with_begun told (in_layer (λ l. with_feature l f) (InLayer l)) ≡ None =
    subst (λ begun. with_begun told (in_layer (λ l. with_feature l f) begun) ≡ None) is none in
    grind arith
