-- The surveyor's formula (Mapbox Vector Tile Specification 2.1, 4.3.4.4).
use Rattle.std.specs.Prelude.{ℤ, pos, ◌+ℤ◌, ◌-ℤ◌, ◌*ℤ◌, List, [], ◌∷◌, ◌++◌, take, drop}
use Rattle.mvt_geometry.specs.declared.shape.Point.{Point}

-- what the edge from p to q adds
abbrev pub cross : Point → Point → ℤ
cross p q = (p.x *ℤ q.y) -ℤ (q.x *ℤ p.y)

-- the sum of `cross` over two lists, place by place
abbrev pub crosses : List Point → List Point → ℤ
crosses [] qs = pos 0
crosses (p ∷ ps) [] = pos 0
crosses (p ∷ ps) (q ∷ qs) = cross p q +ℤ crosses ps qs

-- for each point of a ring the one after it, which after the last is the first
abbrev pub round : List Point → List Point
round ring = drop 1 ring ++ take 1 ring

-- twice the area of a ring, positive for an exterior ring
abbrev pub area2 : List Point → ℤ
area2 ring = crosses ring (round ring)
