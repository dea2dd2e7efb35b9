-- The pair of tags in front of packed ones.
use Rattle.std.specs.Prelude.{◌≡◌, ℕ, ◌<◌, IsTrue, List, ◌∷◌, ◌++◌, length}
use Rattle.mvt_wire.specs.Packed.{ArePacked}
use Rattle.mvt_wire.specs.Varint.{short}
use Rattle.mvt_attrs.specs.declared.packed_tags.Pair.{Pair}

pub record IsPairFront (bytes : List ℕ) (pair : Pair) : Type 0 where
  pub joins : (more : List ℕ) → ArePacked pair.after.now more → ArePacked bytes (pair.key ∷ (pair.value ∷ more))
  pub short : IsTrue pair.is_short → bytes ≡ short pair.key ++ (short pair.value ++ pair.after.now)
  pub shorter : length pair.after.now < length bytes
