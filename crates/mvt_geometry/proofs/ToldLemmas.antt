-- What was told when no bytes are left.
use Rattle.std.proofs.Common.{◌≡◌, ℕ, ◌+◌, ◌*◌, ◌^◌, ◌<◌, Bool, true, false, ◌||◌, List, [], ◌∷◌, ◌++◌, ℤ, pos, ◌≤ℤ◌, refl, sym, ap, subst, ◌∙◌, arith, append-nil}
use Rattle.std.specs.Int.Signed.{lt_z}
use Rattle.std.proofs.lemmas.List.{length_push}
use Rattle.mvt_geometry.specs.declared.shape.Point.{Point}
use Rattle.mvt_geometry.specs.declared.shape.Polygon.{Polygon}
use Rattle.mvt_geometry.specs.declared.shape.Geometry.TheVariants.{Points, Lines, Polygons}
use Rattle.mvt_geometry.specs.Area.{area2}
use Rattle.mvt_geometry.specs.Drawing.{drawn, path_from, stroke, strokes}
use Rattle.mvt_geometry.specs.Parts.{IsStrokeFrom}
use Rattle.mvt_geometry.specs.Shape.{origin, last_of}
use Rattle.mvt_geometry.specs.Valid.{IsValid}
use Rattle.mvt_geometry.specs.Visiting.{ring_part, parts_of}
use Rattle.mvt_geometry.specs.Inner.Grouping.{parts_of_rings}
use Rattle.mvt_geometry.specs.Inner.Telling.{SpellsFront, ArePairs, IsLine, AreInFront, is_still_first}
use Rattle.mvt_geometry.proofs.PartLemmas.{grouped_parts}
use Rattle.mvt_geometry.proofs.PartsLemmas.{stroke_follows, strokes_follow, end_follows}
use Rattle.mvt_geometry.proofs.PolygonLemmas.{HasFineFirst}
use Rattle.mvt_geometry.proofs.TellingLemmas.{spells_none, spells_both}
use Rattle.mvt_geometry.proofs.ValidLemmas.{drawn_valid}
use Rattle.mvt_geometry.proofs.WholeLemmas.{rings_valid}

-- nothing is left behind
spells_all : {I : Type 0} {Are : I → List ℕ → Type 0} {bytes after : I} {ints : List ℕ} → SpellsFront Are bytes ints after → Are after [] → Are bytes ints
spells_all {I} {Are} {bytes} {after} {ints} f none = subst (Are bytes) (append-nil ints) (f.joins [] none)

-- the points of a feature
pub points_told : {I : Type 0} {Are : I → List ℕ → Type 0} {bytes pairs after : I} {count : ℕ} {end : Point} {area : ℤ} {ps : List Point}
    → 0 < count → count < 2 ^ 29
    → SpellsFront Are bytes ((1 + 8 * count) ∷ []) pairs → ArePairs Are false origin pairs after count end area ps → Are after []
    → Are bytes (drawn (Points ps)) × IsValid (Points ps)
points_told {I} {Are} {bytes} {pairs} {after} {count} {end} {area} {ps} some few command p none = (
  subst (λ n. Are bytes ((1 + 8 * n) ∷ path_from origin ps)) (sym p.long) (spells_all (spells_both command p.spelled) none),
  drawn_valid (Points ps) (omega (arith, p.long, some), omega (arith, p.long, few), p.is),
)

-- lines or rings, one after the other
pub none_in_front : {I : Type 0} {Are : I → List ℕ → Type 0} {size : I → ℕ} (least : ℕ) (close : List ℕ) (bytes : I) → 0 < size bytes
    → AreInFront Are size least close bytes bytes origin []
none_in_front least close bytes some = record {
  are = record { are = tt; steps = tt };
  spelled = spells_none bytes;
  cursor_is = refl;
  some = omega (arith, some);
}

pub one_more_in_front : {I : Type 0} {Are : I → List ℕ → Type 0} {size : I → ℕ} {least n : ℕ} {close : List ℕ} {bytes rest after : I}
    {c end : Point} {area : ℤ} {same : Bool} {lines : List (List Point)} {line : List Point}
    → AreInFront Are size least close bytes rest c lines → IsLine Are least close c rest after n end area same line
    → AreInFront Are size least close bytes after end (lines ++ line ∷ [])
one_more_in_front {I} {Are} {size} {least} {n} {close} {bytes} {rest} {after} {c} {end} {area} {same} {lines} {line} f l = record {
  are = (stroke_follows least lines line).1 (f.are, subst (λ q. IsStrokeFrom least q line) f.cursor_is l.is);
  spelled =
      subst (λ ns. SpellsFront Are bytes ns after)
      (ap (λ q. strokes close origin lines ++ stroke close q line) f.cursor_is ∙ sym (strokes_follow close lines line))
      (spells_both f.spelled l.spelled);
  cursor_is = l.end_is ∙ ap (λ q. last_of q line) f.cursor_is ∙ sym (end_follows lines line);
  some = omega (arith, length_push lines line);
}

pub lines_told : {I : Type 0} {Are : I → List ℕ → Type 0} {size : I → ℕ} {bytes rest : I} {c : Point} {lines : List (List Point)}
    → AreInFront Are size 2 [] bytes rest c lines → size rest ≡ 0 → Are rest []
    → Are bytes (drawn (Lines lines)) × IsValid (Lines lines)
lines_told f none done = (spells_all f.spelled done, (omega (arith, f.some, none), f.are.are, f.are.steps))

pub rings_told : {I : Type 0} {Are : I → List ℕ → Type 0} {size : I → ℕ} {bytes rest : I} {c : Point} {rings : List (List Point)}
    → AreInFront Are size 3 (15 ∷ []) bytes rest c rings → HasFineFirst rings → size rest ≡ 0 → Are rest []
    → (polygons : List Polygon) × Are bytes (drawn (Polygons polygons)) × IsValid (Polygons polygons)
    × (parts_of_rings true rings ≡ parts_of (Polygons polygons))
rings_told {I} {Are} {size} {bytes} {rest} {c} {rings} f fine none done =
    let made = rings_valid rings f.are.are f.are.steps (omega (arith, f.some, none)) fine in (
      made.0,
      subst (λ rs. Are bytes (strokes (15 ∷ []) origin rs)) made.1 (spells_all f.spelled done),
      made.2,
      ap (parts_of_rings true) made.1 ∙ grouped_parts made.0 made.2.0,
    )

-- one ring more
pub ring_parts-push : (is_first : Bool) (rings : List (List Point)) (ring : List Point) → parts_of_rings is_first (rings ++ ring ∷ [])
    ≡ parts_of_rings is_first rings ++ ring_part (is_still_first is_first rings || lt_z (pos 0) (area2 ring)) ring ∷ []
ring_parts-push is_first [] ring = refl
ring_parts-push is_first (r ∷ rings) ring =
    ap (λ ps. ring_part (is_first || lt_z (pos 0) (area2 r)) r ∷ ps) (later rings)
  where
    later : (rs : List (List Point)) → parts_of_rings false (rs ++ ring ∷ [])
        ≡ parts_of_rings false rs ++ ring_part (false || lt_z (pos 0) (area2 ring)) ring ∷ []
    later [] = refl
    later (s ∷ rs) = ap (λ ps. ring_part (lt_z (pos 0) (area2 s)) s ∷ ps) (later rs)

pub first_no_more : (rings : List (List Point)) (ring : List Point) → is_still_first true (rings ++ ring ∷ []) ≡ false
first_no_more [] ring = refl
first_no_more (r ∷ rings) ring = refl

pub first_stays_fine : (rings : List (List Point)) (ring : List Point) → HasFineFirst rings
    → (is_still_first true rings ≡ true → pos 0 ≤ℤ area2 ring) → HasFineFirst (rings ++ ring ∷ [])
first_stays_fine [] ring fine area = area refl
first_stays_fine (r ∷ rings) ring fine area = fine
