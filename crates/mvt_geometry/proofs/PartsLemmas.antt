-- A line or a ring more.
use Rattle.std.proofs.Common.{◌≡◌, ℕ, List, [], ◌∷◌, ◌++◌, refl, sym, ap, subst, ◌∙◌, append-nil}
use Rattle.std.specs.Prelude.{◌↔◌}
use Rattle.mvt_base.proofs.ListLemmas.{all_joined, all_left, all_right}
use Rattle.mvt_geometry.specs.declared.shape.Point.{Point}
use Rattle.mvt_geometry.specs.Drawing.{stroke, strokes}
use Rattle.mvt_geometry.specs.Parts.{AreStrokes, IsStrokeFrom, end_of}
use Rattle.mvt_geometry.specs.Shape.{AreSteps, joined, last_of, origin}
use Rattle.mvt_geometry.specs.Valid.{IsStroke}
use Rattle.mvt_geometry.proofs.AreaLemmas.{last_of-append}
use Rattle.mvt_geometry.proofs.StrokeLemmas.{steps-append, steps-front}
use Rattle.mvt_geometry.proofs.WritingLemmas.{joined-append, strokes-append, strokes_front, strokes_back}

pub stroke_follows : (least : ℕ) (lines : List (List Point)) (line : List Point)
    → AreStrokes least (lines ++ line ∷ []) ↔ (AreStrokes least lines × IsStrokeFrom least (end_of lines) line)
stroke_follows least lines line = (
  λ h. (
    record { are = all_left (IsStroke least) lines (line ∷ []) h.are; steps = strokes_front origin lines (line ∷ []) h.steps },
    (
      (all_right (IsStroke least) lines (line ∷ []) h.are).0,
      steps-front (end_of lines) line [] (strokes_back origin (end_of lines) lines (line ∷ []) refl h.steps),
    ),
  ),
  λ h. record {
    are = all_joined (IsStroke least) lines (line ∷ []) h.0.are (h.1.0, tt);
    steps = subst (AreSteps origin) (sym (joined-append lines (line ∷ [])))
        (steps-append origin (joined lines) (line ++ []) h.0.steps (steps-append (end_of lines) line [] h.1.1 tt));
  },
)

pub strokes_follow : (end : List ℕ) (lines : List (List Point)) (line : List Point)
    → strokes end origin (lines ++ line ∷ []) ≡ strokes end origin lines ++ stroke end (end_of lines) line
strokes_follow end lines line =
    strokes-append end origin lines (line ∷ [])
    ∙ ap (λ xs. strokes end origin lines ++ xs) (append-nil (stroke end (end_of lines) line))

pub end_follows : (lines : List (List Point)) (line : List Point) → end_of (lines ++ line ∷ []) ≡ last_of (end_of lines) line
end_follows lines line =
    ap (last_of origin) (joined-append lines (line ∷ [])) ∙ last_of-append origin (joined lines) (line ++ [])
    ∙ ap (last_of (end_of lines)) (append-nil line)
