-- What the writer has put so far.
use Rattle.std.proofs.Common.{◌≡◌, ℕ, ◌+◌, ◌<◌, List, [], ◌∷◌, ◌++◌, length, get_or, drop, ℤ, pos, negsuc, ◌-ℤ◌, ◌≤ℤ◌, FitsSigned, to_z, of_z, w32, refl, sym, ap, ap₂, subst, ◌∙◌, arith, append_assoc}
use Rattle.std.proofs.lemmas.Int.{ints, to_z-of_z}
use Rattle.std.proofs.lemmas.List.{drop_more}
use Rattle.mvt_base.specs.Related.{Extends}
use Rattle.mvt_wire.specs.Zigzag.{zig}
use Rattle.mvt_geometry.specs.declared.shape.Point.{Point}
use Rattle.mvt_geometry.specs.declared.shape.Polygon.{Polygon}
use Rattle.mvt_geometry.specs.Shape.{InRange, AreSteps, joined, rings_of, last_of}
use Rattle.mvt_geometry.specs.Drawing.{path_from, stroke, strokes}
use Rattle.mvt_geometry.proofs.AreaLemmas.{last_of-append}
use Rattle.mvt_geometry.proofs.StrokeLemmas.{steps-front, steps-back}

-- the item at a place, which a loop has read
pub item_at : {X : Type 0} → (xs : List X) (i : ℕ) (x : X) → i < length xs → x ≡ get_or xs i x → drop i xs ≡ x ∷ drop (i + 1) xs
item_at xs i x h e = drop_more xs i x h ∙ ap (λ y. y ∷ drop (i + 1) xs) (sym e)

-- differences that parameters can say fit
pub difference : (a b x y : ℤ) → x ≡ a → y ≡ b → InRange (a -ℤ b) → FitsSigned w32 (x -ℤ y) × (to_z w32 (of_z w32 (x -ℤ y)) ≡ a -ℤ b)
difference a b x y e f range =
    let low : negsuc 2147483646 ≤ℤ (a -ℤ b) = range.low in
    let high : (a -ℤ b) ≤ℤ pos 2147483647 = range.high in
    let fits : FitsSigned w32 (a -ℤ b) = omega (arith, ints, low, high) in
    rw (e, f) (fits, to_z-of_z w32 (a -ℤ b) fits)

pub path_step : (old new whole : List ℕ) (c p : Point) (points rest : List Point) → points ≡ p ∷ rest
    → new ≡ (old ++ zig (p.x -ℤ c.x) ∷ []) ++ zig (p.y -ℤ c.y) ∷ [] → old ++ path_from c points ≡ whole
    → new ++ path_from p rest ≡ whole
path_step old new whole c p points rest e put so_far =
    ap (λ xs. xs ++ path_from p rest) put
    ∙ append_assoc (old ++ zig (p.x -ℤ c.x) ∷ []) (zig (p.y -ℤ c.y) ∷ []) (path_from p rest)
    ∙ append_assoc old (zig (p.x -ℤ c.x) ∷ []) (zig (p.y -ℤ c.y) ∷ path_from p rest) ∙ ap (λ ps. old ++ path_from c ps) (sym e)
    ∙ so_far

pub stroke_step : (old new whole end : List ℕ) (c d : Point) (line l : List Point) (lines rest : List (List Point))
    → lines ≡ l ∷ rest → line ≡ l → d ≡ last_of c line → new ≡ old ++ stroke end c line → old ++ strokes end c lines ≡ whole
    → new ++ strokes end d rest ≡ whole
stroke_step old new whole end c d line l lines rest e same last put so_far =
    ap₂ (λ xs p. xs ++ strokes end p rest) put last ∙ append_assoc old (stroke end c line) (strokes end (last_of c line) rest)
    ∙ ap (λ k. old ++ strokes end c (k ∷ rest)) same ∙ ap (λ ls. old ++ strokes end c ls) (sym e) ∙ so_far

pub steps_of : (c : Point) (line l : List Point) (lines rest : List (List Point)) → lines ≡ l ∷ rest → line ≡ l
    → AreSteps c (joined lines) → AreSteps c line
steps_of c line l lines rest e same steps =
    subst (AreSteps c) (sym same) (steps-front c l (joined rest) (subst (λ ls. AreSteps c (joined ls)) e steps))

pub steps_after : (c d : Point) (line l : List Point) (lines rest : List (List Point)) → lines ≡ l ∷ rest → line ≡ l
    → d ≡ last_of c line → AreSteps c (joined lines) → AreSteps d (joined rest)
steps_after c d line l lines rest e same last steps =
    subst (λ p. AreSteps p (joined rest)) (ap (last_of c) (sym same) ∙ sym last)
    (steps-back c l (joined rest) (subst (λ ls. AreSteps c (joined ls)) e steps))

pub end_after : (c d end : Point) (line l : List Point) (lines rest : List (List Point)) → lines ≡ l ∷ rest → line ≡ l
    → d ≡ last_of c line → last_of c (joined lines) ≡ end → last_of d (joined rest) ≡ end
end_after c d end line l lines rest e same last so_far =
    ap (λ p. last_of p (joined rest)) (last ∙ ap (last_of c) same) ∙ sym (last_of-append c l (joined rest))
    ∙ ap (λ ls. last_of c (joined ls)) (sym e) ∙ so_far

pub joined-append : (ls ms : List (List Point)) → joined (ls ++ ms) ≡ joined ls ++ joined ms
joined-append [] ms = refl
joined-append (l ∷ ls) ms = ap (λ ps. l ++ ps) (joined-append ls ms) ∙ sym (append_assoc l (joined ls) (joined ms))

pub strokes-append : (end : List ℕ) (c : Point) (ls ms : List (List Point))
    → strokes end c (ls ++ ms) ≡ strokes end c ls ++ strokes end (last_of c (joined ls)) ms
strokes-append end c [] ms = refl
strokes-append end c (l ∷ ls) ms =
    ap (λ xs. stroke end c l ++ xs)
    (strokes-append end (last_of c l) ls ms
    ∙ ap (λ p. strokes end (last_of c l) ls ++ strokes end p ms) (sym (last_of-append c l (joined ls))))
    ∙ sym (append_assoc (stroke end c l) (strokes end (last_of c l) ls) (strokes end (last_of c (l ++ joined ls)) ms))

pub strokes_step : (old new whole end : List ℕ) (c d : Point) (ls ms : List (List Point)) → d ≡ last_of c (joined ls)
    → new ≡ old ++ strokes end c ls → old ++ strokes end c (ls ++ ms) ≡ whole → new ++ strokes end d ms ≡ whole
strokes_step old new whole end c d ls ms last put so_far =
    ap₂ (λ xs p. xs ++ strokes end p ms) put last ∙ append_assoc old (strokes end c ls) (strokes end (last_of c (joined ls)) ms)
    ∙ ap (λ xs. old ++ xs) (sym (strokes-append end c ls ms)) ∙ so_far

pub strokes_front : (c : Point) (ls ms : List (List Point)) → AreSteps c (joined (ls ++ ms)) → AreSteps c (joined ls)
strokes_front c ls ms steps = steps-front c (joined ls) (joined ms) (subst (AreSteps c) (joined-append ls ms) steps)

pub strokes_back : (c d : Point) (ls ms : List (List Point)) → d ≡ last_of c (joined ls) → AreSteps c (joined (ls ++ ms))
    → AreSteps d (joined ms)
strokes_back c d ls ms last steps =
    subst (λ p. AreSteps p (joined ms)) (sym last)
    (steps-back c (joined ls) (joined ms) (subst (AreSteps c) (joined-append ls ms) steps))

pub rings_at : (polygons rest : List Polygon) (p : Polygon) → polygons ≡ p ∷ rest → rings_of polygons ≡ p.outer ∷ (p.rest ++ rings_of rest)
rings_at polygons rest p e = ap rings_of e

-- a list that grows begins with what it was
pub begins_same : (old mid new : List ℕ) → Extends old mid → new ≡ mid → Extends old new
begins_same old mid new b e = (b.0, e ∙ b.1)

pub begins_more : (old mid new xs : List ℕ) → Extends old mid → new ≡ mid ++ xs → Extends old new
begins_more old mid new xs b e = (b.0 ++ xs, e ∙ ap (λ ys. ys ++ xs) b.1 ∙ append_assoc old b.0 xs)

pub begins_on : (old mid new : List ℕ) → Extends old mid → Extends mid new → Extends old new
begins_on old mid new b c = begins_more old mid new c.0 b c.1
