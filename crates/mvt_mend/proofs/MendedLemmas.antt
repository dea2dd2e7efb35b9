-- What stands in place of integers spells parts that come from those that they spell.
use Rattle.std.proofs.Common.{◌≡◌, ℕ, Bool, true, false, List, Some, sym, subst}
use Rattle.std.specs.Prelude.{Ok}
use Rattle.mvt_geometry.specs.declared.shape.Point.{Point}
use Rattle.mvt_geometry.specs.declared.shape.Kind.{Kind}
use Rattle.mvt_geometry.specs.declared.shape.Kind.TheVariants as kinds
use Rattle.mvt_geometry.specs.Shape.{origin}
use Rattle.mvt_geometry.specs.Drawing.{strokes}
use Rattle.mvt_rings.specs.declared.rings.Kept.{Kept}
use Rattle.mvt_rings.specs.Mending.{mended_lines}
use Rattle.mvt_mend.specs.Drawing.{can_draw_all, closing}
use Rattle.mvt_mend.specs.Geometry.{kept_in, mended_geometry, outcome, points_of}
use Rattle.mvt_mend.specs.Origins.{ComeFrom}
use Rattle.mvt_mend.specs.Spelling.{has_rings, IsMendedTo}
use Rattle.mvt_mend.proofs.OnceLemmas.{IsMade, made_as}
use Rattle.mvt_mend.proofs.OriginLemmas.{lines_come_from_lines}
use Rattle.mvt_mend.proofs.SpellingLemmas.{then_some, read_parts_spelled}

come_in_order : (ring : Bool) (parts : List (List Point)) (kept : List Kept) → kept_in ring parts ≡ Ok kept → ring ≡ false
    → ComeFrom parts (points_of kept)
come_in_order true parts kept keeps is = absurd (cc)
come_in_order false parts kept keeps is =
    let e : mended_lines parts ≡ kept = cc in subst (λ ks. ComeFrom parts (points_of ks)) e (lines_come_from_lines parts)

as_mended : (kind : Kind) (ring : Bool) (ints new : List ℕ) → IsMade kind ring ints new → IsMendedTo ring ints new
as_mended kind ring ints new made =
    let drawn = then_some (can_draw_all origin (points_of made.kept)) (Some (strokes (closing ring) origin (points_of made.kept))) new made.draws in
    let is : strokes (closing ring) origin (points_of made.kept) ≡ new = let e = drawn.1 in cc in
    record {
      parts = made.parts;
      kept = made.kept;
      spelled = read_parts_spelled ring ints made.parts made.read;
      keeps = made.keeps;
      comes = come_in_order ring made.parts made.kept made.keeps;
      drawable = drawn.0;
      draws = sym is;
    }

pub mended_comes_from_spelled : (kind : Kind) (ints new : List ℕ) → mended_geometry kind ints ≡ Some new → IsMendedTo (has_rings kind) ints new
unfolding outcome
mended_comes_from_spelled kinds.Unknown ints new h = absurd (cc)
mended_comes_from_spelled kinds.Point ints new h = absurd (cc)
mended_comes_from_spelled kinds.LineString ints new h = as_mended kinds.LineString false ints new (made_as kinds.LineString false ints new h)
mended_comes_from_spelled kinds.Polygon ints new h = as_mended kinds.Polygon true ints new (made_as kinds.Polygon true ints new h)
