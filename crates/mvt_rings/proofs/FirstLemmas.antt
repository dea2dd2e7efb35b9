-- The first of rings that are told is no interior one.
use Rattle.std.proofs.Common.{◌≡◌, Bool, true, false, List, [], ◌∷◌, Ok, Some, None, refl}
use Rattle.mvt_geometry.specs.declared.shape.Point.{Point}
use Rattle.mvt_rings.specs.declared.rings.Kept.{Kept}
use Rattle.mvt_rings.specs.declared.holding.Holders.{Holders}
use Rattle.mvt_rings.specs.Signs.{is_negative}
use Rattle.mvt_rings.specs.Mending.{begins_negative, kept_from, mended_rings}
use Rattle.mvt_rings.specs.EvenOdd.{AreEvenOdd, least_at}
use Rattle.mvt_rings.proofs.SignsSayLemmas.{signs_say_even_odd}

first_of : (h : Holders) (kept : List Kept) → AreEvenOdd h None kept → begins_negative kept ≡ false
first_of h [] even = refl
first_of h (k ∷ kept) even = let first = even.0 in by_test (is_negative k.points) first.behind
  where
    by_test : (b : Bool) → (b ≡ true → None ≡ Some (least_at h k)) → b ≡ false
    by_test true behind = let never = behind refl in absurd (cc)
    by_test false behind = refl

pub told_begins : (rings : List (List Point)) (kept : List Kept) → begins_negative (kept_from 3 0 rings) ≡ true
    → mended_rings rings ≡ Ok kept → begins_negative kept ≡ false
told_begins rings kept begins mended =
    let say = signs_say_even_odd rings kept begins mended in first_of say.0 kept say.2
