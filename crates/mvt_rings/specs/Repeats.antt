-- Points that repeat the one before them, and last points that repeat the first.
use Rattle.std.specs.Prelude.{ℕ, nat_le, ◌&&◌, Bool, if◌then◌else◌, List, [], ◌∷◌, length, reverse}
use Rattle.std.specs.Ordering.{int_eq}
use Rattle.mvt_geometry.specs.declared.shape.Point.{Point}

-- two points at one place
abbrev pub is_same : Point → Point → Bool
is_same p q = int_eq p.x q.x && int_eq p.y q.y

-- the points, without those that equal the one before them, the first the one given
abbrev pub others_after : Point → List Point → List Point
others_after before [] = []
others_after before (p ∷ points) = if is_same before p then others_after before points else p ∷ others_after p points

-- 4.3.3.2: a line or ring without the points that equal the one before them
abbrev pub without_repeats : List Point → List Point
without_repeats [] = []
without_repeats (p ∷ points) = p ∷ others_after p points

-- the points from the first on that isn't at this place
abbrev pub past : Point → List Point → List Point
past p [] = []
past p (q ∷ points) = if is_same p q then past p points else q ∷ points

-- 4.3.4.3: a ring without last points that equal its first
abbrev pub opened : List Point → List Point
opened [] = []
opened (p ∷ points) = p ∷ reverse (past p (reverse points))

-- a line or ring has this many points at least
abbrev pub is_long : ℕ → List Point → Bool
is_long least points = nat_le least (length points)
