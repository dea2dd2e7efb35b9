-- The place of a fault that C hands back, the sentence that is said of it, and the number of what the bytes look like.
use Rattle.std.specs.Prelude.{◌≡◌, ℕ, ℤ, pos, negsuc, ◌⊎◌, List, [], ◌∷◌, ◌++◌, length, min, Option, Some, None}
use Rattle.std.specs.Option.{unwrap_or}
use Rattle.mvt_base.specs.declared.TheConstants.{LIMIT}
use Rattle.mvt_feature.specs.declared.cause.Cause.{Cause}
use Rattle.mvt_feature.specs.Causes.{cause_number}
use Rattle.mvt_tile.specs.declared.fault.Fault.{Fault as TileFault}
use Rattle.mvt_places.specs.declared.lookalike.Lookalike.{Lookalike}
use Rattle.mvt_places.specs.Lookalikes.{lookalike_number}
use Rattle.mvt_places.specs.Places.{layer_name_at, feature_id_at, place_at}
use Rattle.mvt_places.specs.Sentences.{sentence_for}
use Rattle.mvt_c.specs.declared.fault.Fault.{Fault}
use Rattle.mvt_c.specs.declared.places.Place.{Place}
use Rattle.mvt_c.specs.Faults.{is_there}

-- an index that C gives: there is none below 0, and above 2^32 - 1 it is that
abbrev pub index_given : ℤ → Option ℕ
index_given (pos n) = Some (min n 4294967295)
index_given (negsuc n) = None

-- C's fault is this one; its name isn't looked at
pub record IsGiven (given : Fault) (fault : TileFault) : Type 0 where
  pub layer : fault.layer ≡ index_given given.layer
  pub feature : fault.feature ≡ index_given given.feature
  pub at : fault.at ≡ given.at
  pub cause : cause_number fault.cause ≡ given.cause

-- no cause has the number
abbrev pub LacksCause : Fault → Type 0
LacksCause given = (cause : Cause) → cause_number cause ≡ given.cause → ⊥

-- a name, an id, and where bytes begin and end, as C has them
pub record IsPlace (layer_name : Option (List ℕ)) (feature_id : Option ℕ) (first stop : ℕ) (place : Place) : Type 0 where
  pub name : place.layer_name.now ≡ unwrap_or layer_name []
  pub has_name : place.has_layer_name ≡ is_there layer_name
  pub id : place.feature_id ≡ unwrap_or feature_id 0
  pub has_id : place.has_feature_id ≡ is_there feature_id
  pub start : place.start ≡ first
  pub end : place.end ≡ stop

-- the place of a fault
abbrev pub IsPlaceOf : List ℕ → TileFault → Place → Type 0
IsPlaceOf input fault =
    let at = place_at LIMIT input fault in
    IsPlace (layer_name_at LIMIT input fault) (feature_id_at LIMIT input fault) at.start at.end

-- the place of C's fault; without a cause it is the end of the input
abbrev pub IsLocated : List ℕ → Fault → Place → Type 0
IsLocated input given place =
    ((fault : TileFault) × IsGiven given fault × IsPlaceOf input fault place)
    ⊎ (LacksCause given × IsPlace None None (length input) (length input) place)

-- the sentence of C's fault, with a zero at the end
abbrev pub IsExplained : List ℕ → Fault → List ℕ → Type 0
IsExplained input given text =
    (fault : TileFault) × IsGiven given fault × (text ≡ sentence_for input fault.cause ++ 0 ∷ [])

-- the number of what the bytes look like, 0 if that is nothing else
abbrev pub look_number : Option Lookalike → ℕ
look_number (Some lookalike) = lookalike_number lookalike
look_number None = 0
