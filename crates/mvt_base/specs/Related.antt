-- Two lists related: one by one, or one of them with more after it.
use Rattle.std.specs.Prelude.{◌≡◌, List, [], ◌∷◌, ◌++◌, ⊤}

-- two lists of one length, related element by element
abbrev pub AreRelated : {X Y : Type 0} → (X → Y → Type 0) → List X → List Y → Type 0
AreRelated R [] [] = ⊤
AreRelated R [] (y ∷ ys) = ⊥
AreRelated R (x ∷ xs) [] = ⊥
AreRelated R (x ∷ xs) (y ∷ ys) = R x y × AreRelated R xs ys

-- the new list is the old one with more after it
abbrev pub Extends : {X : Type 0} → List X → List X → Type 0
Extends {X} old new = (more : List X) × (new ≡ old ++ more)
