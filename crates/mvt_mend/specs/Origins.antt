-- Where the lines of a mended geometry come from.
use Rattle.std.specs.Prelude.{◌≡◌, ◌⊎◌, List, [], ◌∷◌, ⊤}
use Rattle.mvt_geometry.specs.declared.shape.Point.{Point}
use Rattle.mvt_rings.specs.Repeats.{without_repeats}

-- each comes from a line of its own, without its repeated points, in the order of these; others are left out
abbrev pub ComeFrom : List (List Point) → List (List Point) → Type 0
ComeFrom [] [] = ⊤
ComeFrom [] (m ∷ mended) = ⊥
ComeFrom (p ∷ parts) [] = ⊤
ComeFrom (p ∷ parts) (m ∷ mended) = ((m ≡ without_repeats p) × ComeFrom parts mended) ⊎ ComeFrom parts (m ∷ mended)
