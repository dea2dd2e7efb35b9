-- The last point of a path.
use Rattle.std.proofs.Common.{◌≡◌, List, [], ◌∷◌, length, slice_get, Some, refl}
use Rattle.mvt_geometry.specs.declared.shape.Point.{Point}
use Rattle.mvt_geometry.specs.Shape.{last_of}

pub last_read : (p : Point) (ps : List Point) → slice_get (p ∷ ps) (length ps) ≡ Some (last_of p ps)
last_read p [] = refl
last_read p (q ∷ ps) = last_read q ps
