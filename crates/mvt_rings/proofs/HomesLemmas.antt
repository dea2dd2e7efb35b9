-- A ring that joins a polygon.
use Rattle.std.proofs.Common.{arith, ◌≡◌, ℕ, zero, suc, ◌<◌, ◌≤◌, List, [], ◌∷◌, ◌++◌, map, length, get_or, refl, ap, ◌∙◌}
use Rattle.std.specs.Prelude.{slice_set}
use Rattle.mvt_rings.specs.declared.rings.Kept.{Kept}
use Rattle.mvt_rings.specs.Homes.{join}

pub join_at : {V : Type 0} (f : V → List Kept) (polygons : List V) (n : ℕ) (r : Kept) (v w : V) → n < length polygons
    → w ≡ get_or polygons n w → f v ≡ f w ++ r ∷ [] → map f (slice_set polygons n v) ≡ join n r (map f polygons)
join_at f [] n r v w short is pushed = absurd (omega arith)
join_at f (p ∷ polygons) zero r v w short is pushed =
    ap (λ q. q ∷ map f polygons) (pushed ∙ ap (λ x. f x ++ r ∷ []) is)
join_at f (p ∷ polygons) (suc n) r v w short is pushed =
    ap (λ qs. f p ∷ qs) (join_at f polygons n r v w (omega arith) is pushed)

pub join_none : (n : ℕ) (r : Kept) (polygons : List (List Kept)) → length polygons ≤ n → polygons ≡ join n r polygons
join_none n r [] past = refl
join_none zero r (p ∷ polygons) past = absurd (omega arith)
join_none (suc n) r (p ∷ polygons) past = ap (λ qs. p ∷ qs) (join_none n r polygons (omega arith))
