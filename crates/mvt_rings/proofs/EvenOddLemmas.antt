-- Every spot lies in as many rings after mending as before.
use Rattle.std.proofs.Common.{arith, ◌≡◌, ℕ, ◌+◌, ◌%◌, ◌<◌, List, [], ◌∷◌, map, length, sum_by, Ok, refl, sym, ap, ◌∙◌}
use Rattle.mvt_geometry.specs.declared.shape.Point.{Point}
use Rattle.mvt_geometry.specs.Shape.{last_of}
use Rattle.mvt_rings.specs.declared.nesting.Spot.{Spot}
use Rattle.mvt_rings.specs.declared.rings.Kept.{Kept}
use Rattle.mvt_rings.specs.Repeats.{without_repeats}
use Rattle.mvt_rings.specs.Turning.{turned}
use Rattle.mvt_rings.specs.Nesting.{edges_from, edges_of, is_crossed}
use Rattle.mvt_rings.specs.Placing.{one_if}
use Rattle.mvt_rings.specs.Mending.{mended_rings}
use Rattle.mvt_rings.specs.Counting.{IsCount, crossings, holds}
use Rattle.mvt_rings.proofs.TourLemmas.{IsCost, path, path_end, repeats_tour, tour, turned_tour}
use Rattle.mvt_rings.proofs.CrossedLemmas.{crossed_back, crossed_still, edge}
use Rattle.mvt_rings.proofs.RingsStayLemmas.{rings_stay}

-- 1 for an edge that is crossed
abbrev crossing : ℕ → Spot → Point → Point → ℕ
crossing parts p a b = one_if (is_crossed parts p (edge a b))

crossing_cost : (parts : ℕ) (p : Spot) → IsCost (crossing parts p)
crossing_cost parts p = record {
  back = λ a b. ap one_if (crossed_back parts p a b);
  still = λ a. ap one_if (crossed_still parts p a);
}

crossings_path : (parts : ℕ) (p : Spot) (a : Point) (points : List Point)
    → crossings parts p (edges_from a points) ≡ path (crossing parts p) (a ∷ points)
crossings_path parts p a [] = refl
crossings_path parts p a (b ∷ points) = ap (λ n. crossing parts p a b + n) (crossings_path parts p b points)

last_first : (a b c : ℕ) → c ≡ b + a → a + b ≡ c
last_first a b c e = omega arith

crossings_tour : (parts : ℕ) (p : Spot) (ring : List Point)
    → crossings parts p (edges_of ring) ≡ path (crossing parts p) (tour ring)
crossings_tour parts p [] = refl
crossings_tour parts p (a ∷ points) =
    let end = last_of a points in
    crossings_path parts p end (a ∷ points)
    ∙ last_first (crossing parts p end a) (path (crossing parts p) (a ∷ points)) _ (path_end (crossing parts p) a points a)

holds_tour : (parts : ℕ) (p : Spot) (ring other : List Point)
    → path (crossing parts p) (tour ring) ≡ path (crossing parts p) (tour other) → holds parts p ring ≡ holds parts p other
holds_tour parts p ring other same =
    ap (λ n. n % 2) (crossings_tour parts p ring ∙ (same ∙ sym (crossings_tour parts p other)))

no_edge : (a : ℕ) → a ≡ 0 → (a + 0) % 2 ≡ 0
no_edge a e = omega arith

two_edges : (a b : ℕ) → a ≡ b → (a + (b + 0)) % 2 ≡ 0
two_edges a b e = omega arith

holds_short : (parts : ℕ) (p : Spot) (ring : List Point) → length ring < 3 → holds parts p ring ≡ 0
holds_short parts p [] short = refl
holds_short parts p (a ∷ []) short =
    ap (λ n. n % 2) (crossings_tour parts p (a ∷ [])) ∙ no_edge _ ((crossing_cost parts p).still a)
holds_short parts p (a ∷ b ∷ []) short =
    ap (λ n. n % 2) (crossings_tour parts p (a ∷ b ∷ [])) ∙ two_edges _ _ ((crossing_cost parts p).back a b)
holds_short parts p (a ∷ b ∷ c ∷ more) short = absurd (omega arith)

pub holds_count : (parts : ℕ) (p : Spot) → IsCount (holds parts p)
holds_count parts p = record {
  turns = λ ring. holds_tour parts p (turned ring) ring (turned_tour (crossing parts p) (crossing_cost parts p) ring);
  repeats = λ ring.
      holds_tour parts p (without_repeats ring) ring (repeats_tour (crossing parts p) (crossing_cost parts p) ring);
  short = holds_short parts p;
}

pub even_odd_stays : (parts : ℕ) (spot : Spot) (rings : List (List Point)) (kept : List Kept) → mended_rings rings ≡ Ok kept
    → sum_by (holds parts spot) (map (λ k. k.points) kept) ≡ sum_by (holds parts spot) rings
even_odd_stays parts spot rings kept mended = rings_stay (holds parts spot) (holds_count parts spot) rings kept mended
