-- Steps of drawing lines and rings.
use Rattle.std.proofs.Common.{◌≡◌, ◌-ℤ◌, true, false, ℕ, List, [], ◌∷◌, ◌++◌, refl}
use Rattle.std.proofs.lemmas.List.{append_assoc}
use Rattle.mvt_geometry.specs.declared.shape.Point.{Point}
use Rattle.mvt_geometry.specs.Shape.{wide}
use Rattle.mvt_geometry.specs.Table.{is_outside}
use Rattle.mvt_mend.specs.Drawing.{is_near}

-- whether a pair leads from one point to another
pub far_x : (p q : Point) → is_outside wide (q.x -ℤ p.x) ≡ true → false ≡ is_near p q
unfolding is_near
far_x p q out = rw out refl

pub far_y : (p q : Point) → is_outside wide (q.x -ℤ p.x) ≡ false → is_outside wide (q.y -ℤ p.y) ≡ true → false ≡ is_near p q
unfolding is_near
far_y p q within out = rw (within, out) refl

pub near : (p q : Point) → is_outside wide (q.x -ℤ p.x) ≡ false → is_outside wide (q.y -ℤ p.y) ≡ false → true ≡ is_near p q
unfolding is_near
near p q x y = rw (x, y) refl

-- two numbers appended
pub pushed : (old one two : List ℕ) (a b c d : ℕ) → one ≡ old ++ a ∷ [] → two ≡ one ++ b ∷ [] → a ≡ c → b ≡ d → two ≡ old ++ c ∷ d ∷ []
pushed old one two a b c d first second is_a is_b = rw (second, first, is_a, is_b) (append_assoc old (c ∷ []) (d ∷ []))
