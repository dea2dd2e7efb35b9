-- Steps of mending a geometry.
use Rattle.std.proofs.Common.{◌≡◌, ◌≢◌, ℕ, true, false, List, Option, None, Some, refl}
use Rattle.std.specs.Prelude.{is_none}
use Rattle.mvt_geometry.specs.declared.shape.Kind.{Kind}
use Rattle.mvt_geometry.specs.Table.{geometry_fault, IndexedCause}
use Rattle.mvt_mend.specs.Geometry.{is_faultless}

-- whether there is a fault
is_some_fault : (fault : Option IndexedCause) → fault ≢ None → false ≡ is_none fault
is_some_fault None some = absurd (some refl)
is_some_fault (Some fault) some = refl

pub has_fault : (kind : Kind) (ints : List ℕ) → geometry_fault kind ints ≢ None → false ≡ is_faultless kind ints
unfolding is_faultless
has_fault kind ints some = is_some_fault (geometry_fault kind ints) some

pub has_none : (kind : Kind) (ints : List ℕ) → geometry_fault kind ints ≡ None → true ≡ is_faultless kind ints
unfolding is_faultless
has_none kind ints none = rw none refl
