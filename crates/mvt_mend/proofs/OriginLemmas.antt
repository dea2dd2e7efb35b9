-- The lines of a mended geometry come from lines.
use Rattle.std.proofs.Common.{◌≡◌, ℕ, ◌+◌, Bool, true, false, List, [], ◌∷◌, ◌++◌, refl, inl, inr}
use Rattle.std.specs.Prelude.{if◌then◌else◌}
use Rattle.mvt_geometry.specs.declared.shape.Point.{Point}
use Rattle.mvt_rings.specs.declared.rings.Kept.{Kept}
use Rattle.mvt_rings.specs.Repeats.{without_repeats, is_long}
use Rattle.mvt_rings.specs.Mending.{kept_from, mended_lines}
use Rattle.mvt_mend.specs.Geometry.{points_of}
use Rattle.mvt_mend.specs.Origins.{ComeFrom}

-- one more line, left out
one_less : (p : List Point) (lines mended : List (List Point)) → ComeFrom lines mended → ComeFrom (p ∷ lines) mended
one_less p lines [] from = tt
one_less p lines (m ∷ mended) from = inr from

one_more : (b : Bool) (k : Kept) (p : List Point) (lines : List (List Point)) (kept : List Kept) → k.points ≡ without_repeats p
    → ComeFrom lines (points_of kept) → ComeFrom (p ∷ lines) (points_of ((if b then k ∷ [] else []) ++ kept))
one_more true k p lines kept is from = inl (is, from)
one_more false k p lines kept is from = one_less p lines (points_of kept) from

come_from : (n : ℕ) (lines : List (List Point)) → ComeFrom lines (points_of (kept_from 2 n lines))
come_from n [] = tt
come_from n (p ∷ lines) =
    one_more (is_long 2 (without_repeats p)) (record { index = n; points = without_repeats p }) p lines (kept_from 2 (n + 1) lines) refl
    (come_from (n + 1) lines)

pub lines_come_from_lines : (lines : List (List Point)) → ComeFrom lines (points_of (mended_lines lines))
unfolding mended_lines
lines_come_from_lines lines = come_from 0 lines
