-- One geometry for integers, integers of 32 bits, and the narrow range.
use Rattle.std.proofs.Common.{◌≡◌, ℕ, ◌+◌, ◌*◌, ◌^◌, ◌<◌, List, [], ◌∷◌, ◌++◌, length, take, drop, ℤ, pos, negsuc, ◌-ℤ◌, ◌≤ℤ◌, refl, sym, ap, ap₂, subst, ◌∙◌, arith}
use Rattle.std.specs.List.{AllByRecursion}
use Rattle.std.proofs.lemmas.Int.{ints}
use Rattle.std.proofs.lemmas.List.{take_at, drop_at, append_cancel_left}
use Rattle.mvt_base.proofs.ListLemmas.{all_joined, all_weaker}
use Rattle.mvt_wire.specs.Zigzag.{zig}
use Rattle.mvt_geometry.specs.declared.shape.Point.{Point}
use Rattle.mvt_geometry.specs.declared.shape.Geometry.{Geometry}
use Rattle.mvt_geometry.specs.declared.shape.Geometry.TheVariants.{Unknown, Points, Lines, Polygons}
use Rattle.mvt_geometry.specs.declared.shape.Kind.{Kind}
use Rattle.mvt_geometry.specs.Shape.{narrow, InRangeOf, InRange, IsPlaceOf, IsPlace, AreSteps, joined, origin, rings_of, kind_of, last_of}
use Rattle.mvt_geometry.specs.Valid.{IsStrokeOf, IsStroke, IsValidOf, IsValid, IsValidNarrow}
use Rattle.mvt_geometry.specs.Drawing.{path_from, path, strokes, drawn, DrawsOf, Draws, stroke}
use Rattle.mvt_geometry.specs.Inner.Strokes.{AreSmall}
use Rattle.mvt_geometry.specs.Inner.Grouping.{polygons_of}
use Rattle.mvt_geometry.proofs.PathLemmas.{length-path}
use Rattle.mvt_geometry.proofs.BuildLemmas.{positions-path}
use Rattle.mvt_geometry.specs.Commands.{pairs_of, positions}
use Rattle.mvt_geometry.proofs.StrokeLemmas.{stroke-more, steps-front, steps-back}
use Rattle.mvt_geometry.proofs.GroupLemmas.{one_grouping}

-- a path has one list of points
one_path : (c : Point) (ps qs : List Point) → path_from c ps ≡ path_from c qs → ps ≡ qs
one_path c ps qs e = sym (positions-path c ps) ∙ ap (λ xs. positions c (pairs_of xs)) e ∙ positions-path c qs

-- the parts of a list that begins with a pair, a number and a path
tail_same : {x y z a b d : ℕ} {xs ys : List ℕ} → 9 ∷ x ∷ y ∷ z ∷ xs ≡ 9 ∷ a ∷ b ∷ d ∷ ys → (x ∷ y ∷ [] ≡ a ∷ b ∷ []) × (z ≡ d) × (xs ≡ ys)
tail_same {x = x} {y = y} {a = a} {b = b} e = let p : x ≡ a = cc in let q : y ≡ b = cc in (ap₂ (λ m n. m ∷ n ∷ []) p q, cc, cc)

one_stroke : (end : List ℕ) (c p q : Point) (ps qs : List Point) (more others : List ℕ)
    → stroke end c (p ∷ ps) ++ more ≡ stroke end c (q ∷ qs) ++ others → (p ∷ ps ≡ q ∷ qs) × (more ≡ others)
one_stroke end c p q ps qs more others e =
    let parts = tail_same (sym (stroke-more end c p ps more) ∙ e ∙ stroke-more end c q qs others) in
    let head : p ∷ [] ≡ q ∷ [] = one_path c (p ∷ []) (q ∷ []) parts.0 in
    let same : p ≡ q = cc in
    let counts : 2 + 8 * length ps ≡ 2 + 8 * length qs = parts.1 in
    let long : length ps ≡ length qs = omega (arith, counts) in
    let front : path_from p ps ≡ path_from p qs =
    sym (take_at (path_from p ps) (end ++ more) (2 * length ps) (length-path p ps))
    ∙ ap₂ (λ n xs. take (2 * n) xs) long parts.2
    ∙ take_at (path_from q qs) (end ++ others) (2 * length qs) (length-path q qs) ∙ ap (λ r. path_from r qs) (sym same) in
    let back : end ++ more ≡ end ++ others =
    sym (drop_at (path_from p ps) (end ++ more) (2 * length ps) (length-path p ps))
    ∙ ap₂ (λ n xs. drop (2 * n) xs) long parts.2
    ∙ drop_at (path_from q qs) (end ++ others) (2 * length qs) (length-path q qs) in
    (ap₂ (λ (r : Point) rs. r ∷ rs) same (one_path p ps qs front), append_cancel_left end more others back)

one_list : (end : List ℕ) (c : Point) (ls ms : List (List Point)) → AllByRecursion (λ l. 0 < length l) ls
    → AllByRecursion (λ l. 0 < length l) ms → strokes end c ls ≡ strokes end c ms → ls ≡ ms
one_list end c [] [] some others e = refl
one_list end c [] ([] ∷ ms) some others e = absurd (omega (arith, others.0))
one_list end c [] ((q ∷ qs) ∷ ms) some others e = absurd (omega (arith, ap length e))
one_list end c ([] ∷ ls) ms some others e = absurd (omega (arith, some.0))
one_list end c ((p ∷ ps) ∷ ls) [] some others e = absurd (omega (arith, ap length e))
one_list end c ((p ∷ ps) ∷ ls) ([] ∷ ms) some others e = absurd (omega (arith, others.0))
one_list end c ((p ∷ ps) ∷ ls) ((q ∷ qs) ∷ ms) some others e =
    let parts = one_stroke end c p q ps qs (strokes end (last_of p ps) ls) (strokes end (last_of q qs) ms) e in
    let more = one_list end (last_of c (p ∷ ps)) ls ms some.1 others.1 (parts.1 ∙ ap (λ l. strokes end (last_of c l) ms) (sym parts.0)) in
    ap₂ (λ (l : List Point) rs. l ∷ rs) parts.0 more

some_of_strokes : (least : ℕ) (ls : List (List Point)) → 0 < least → AllByRecursion (IsStroke least) ls
    → AllByRecursion (λ l. 0 < length l) ls
some_of_strokes least ls h are = all_weaker (IsStroke least) (λ l. 0 < length l) (λ l is. omega (arith, is.enough)) ls are

one_strokes : (least : ℕ) (end : List ℕ) (ls ms : List (List Point)) → 0 < least → AllByRecursion (IsStroke least) ls
    → AllByRecursion (IsStroke least) ms → strokes end origin ls ≡ strokes end origin ms → ls ≡ ms
one_strokes least end ls ms h are others e =
    one_list end origin ls ms (some_of_strokes least ls h are) (some_of_strokes least ms h others) e

pub one_drawing : (g h : Geometry) → kind_of g ≡ kind_of h → IsValid g → IsValid h → drawn g ≡ drawn h → g ≡ h
one_drawing (Unknown u) (Unknown w) k v w' e = ap Unknown e
one_drawing (Unknown u) (Points qs) k v w e = cc
one_drawing (Unknown u) (Lines ms) k v w e = cc
one_drawing (Unknown u) (Polygons qs) k v w e = cc
one_drawing (Points ps) (Unknown u) k v w e = cc
one_drawing (Points ps) (Points qs) k v w e = let p : path ps ≡ path qs = ap (drop 1) e in ap Points (one_path origin ps qs p)
one_drawing (Points ps) (Lines ms) k v w e = cc
one_drawing (Points ps) (Polygons qs) k v w e = cc
one_drawing (Lines ls) (Unknown u) k v w e = cc
one_drawing (Lines ls) (Points qs) k v w e = cc
one_drawing (Lines ls) (Lines ms) k v w e = ap Lines (one_strokes 2 [] ls ms (omega arith) v.1 w.1 e)
one_drawing (Lines ls) (Polygons qs) k v w e = cc
one_drawing (Polygons ps) (Unknown u) k v w e = cc
one_drawing (Polygons ps) (Points qs) k v w e = cc
one_drawing (Polygons ps) (Lines ms) k v w e = cc
one_drawing (Polygons ps) (Polygons qs) k v w e =
    let rings = one_strokes 3 (15 ∷ []) (rings_of ps) (rings_of qs) (omega arith) v.1 w.1 e in
    ap Polygons (sym (one_grouping (rings_of ps) ps v.0) ∙ ap polygons_of rings ∙ one_grouping (rings_of qs) qs w.0)

pub one_geometry_lem : (kind : Kind) (ints : List ℕ) (g h : Geometry) → Draws kind ints g → Draws kind ints h → g ≡ h
one_geometry_lem kind ints g h d e = one_drawing g h (sym d.same_kind ∙ e.same_kind) d.valid e.valid (sym d.spelled ∙ e.spelled)

-- integers that draw a valid geometry have 32 bits
small_zig : (z : ℤ) → InRange z → zig z < 2 ^ 32
small_zig (pos n) h = let high : pos n ≤ℤ pos 2147483647 = h.high in omega (arith, ints, high)
small_zig (negsuc n) h = let low : negsuc 2147483646 ≤ℤ negsuc n = h.low in omega (arith, ints, low)

small_path : (c : Point) (ps : List Point) → AreSteps c ps → AreSmall (path_from c ps)
small_path c [] steps = tt
small_path c (p ∷ ps) steps = (small_zig (p.x -ℤ c.x) steps.0.0, (small_zig (p.y -ℤ c.y) steps.0.1, small_path p ps steps.1))

small_strokes : (least : ℕ) (end : List ℕ) (c : Point) (ls : List (List Point)) → AreSmall end
    → AllByRecursion (IsStroke least) ls → AreSteps c (joined ls) → AreSmall (strokes end c ls)
small_strokes least end c [] small are steps = tt
small_strokes least end c ([] ∷ ls) small are steps =
    all_joined (λ n. n < 2 ^ 32) end (strokes end c ls) small (small_strokes least end c ls small are.1 steps)
small_strokes least end c ((p ∷ ps) ∷ ls) small are steps =
    let here = steps-front c (p ∷ ps) (joined ls) steps in
    let first = small_path c (p ∷ []) (here.0, tt) in
    let more = small_strokes least end (last_of p ps) ls small are.1 (steps-back c (p ∷ ps) (joined ls) steps) in
    let after =
    all_joined (λ n. n < 2 ^ 32) (path_from p ps) (end ++ strokes end (last_of p ps) ls) (small_path p ps here.1)
    (all_joined (λ n. n < 2 ^ 32) end (strokes end (last_of p ps) ls) small more) in
    subst AreSmall (sym (stroke-more end c p ps (strokes end (last_of p ps) ls)))
    (omega arith, (first.0, (first.1.0, (omega (arith, are.0.few), after))))

pub drawn_small_lem : (g : Geometry) → IsValid g → AreSmall (drawn g)
drawn_small_lem (Unknown u) v = v
drawn_small_lem (Points ps) v = (omega (arith, v.1), small_path origin ps v.3)
drawn_small_lem (Lines ls) v = small_strokes 2 [] origin ls tt v.1 v.2
drawn_small_lem (Polygons ps) v = small_strokes 3 (15 ∷ []) origin (rings_of ps) (omega arith, tt) v.1 v.2

-- positions of the narrow range are in the wide one, and so are their differences
widened : (z : ℤ) → InRangeOf narrow z → InRange z
widened z h =
    let low : negsuc 1073741823 ≤ℤ z = h.low in
    let high : z ≤ℤ pos 1073741823 = h.high in
    record { low = omega (arith, ints, low, high); high = omega (arith, ints, low, high) }

near : (a b : ℤ) → InRangeOf narrow a → InRangeOf narrow b → InRange (b -ℤ a)
near a b h k =
    let low_a : negsuc 1073741823 ≤ℤ a = h.low in let high_a : a ≤ℤ pos 1073741823 = h.high in
    let low_b : negsuc 1073741823 ≤ℤ b = k.low in let high_b : b ≤ℤ pos 1073741823 = k.high in
    record { low = omega (arith, ints, low_a, high_a, low_b, high_b); high = omega (arith, ints, low_a, high_a, low_b, high_b) }

wide_places : (ps : List Point) → AllByRecursion (IsPlaceOf narrow) ps → AllByRecursion IsPlace ps
wide_places ps h = all_weaker (IsPlaceOf narrow) IsPlace (λ p k. (widened p.x k.0, widened p.y k.1)) ps h

wide_strokes : (least : ℕ) (ls : List (List Point)) → AllByRecursion (IsStrokeOf narrow least) ls → AllByRecursion (IsStroke least) ls
wide_strokes least ls are =
    all_weaker (IsStrokeOf narrow least) (IsStroke least)
    (λ l is. record { enough = is.enough; few = is.few; apart = is.apart; places = wide_places l is.places }) ls are

near_steps : (c : Point) (ps : List Point) → IsPlaceOf narrow c → AllByRecursion (IsPlaceOf narrow) ps → AreSteps c ps
near_steps c [] here places = tt
near_steps c (p ∷ ps) here places = ((near c.x p.x here.0 places.0.0, near c.y p.y here.1 places.0.1), near_steps p ps places.0 places.1)

joined_places : (least : ℕ) (ls : List (List Point)) → AllByRecursion (IsStrokeOf narrow least) ls
    → AllByRecursion (IsPlaceOf narrow) (joined ls)
joined_places least [] are = tt
joined_places least (l ∷ ls) are = all_joined (IsPlaceOf narrow) l (joined ls) are.0.places (joined_places least ls are.1)

origin_narrow : IsPlaceOf narrow origin
origin_narrow = (
  record { low = omega (arith, ints); high = omega (arith, ints) },
  record { low = omega (arith, ints); high = omega (arith, ints) },
)

pub old_geometries_stay : (g : Geometry) → IsValidNarrow g → IsValid g
old_geometries_stay (Unknown u) v = v
old_geometries_stay (Points ps) v = (v.0, v.1, wide_places ps v.2, near_steps origin ps origin_narrow v.2)
old_geometries_stay (Lines ls) v = (v.0, wide_strokes 2 ls v.1, near_steps origin (joined ls) origin_narrow (joined_places 2 ls v.1))
old_geometries_stay (Polygons ps) v =
    (v.0, wide_strokes 3 (rings_of ps) v.1, near_steps origin (joined (rings_of ps)) origin_narrow (joined_places 3 (rings_of ps) v.1))

narrow_valid : (g : Geometry) → IsValidOf narrow g → IsValid g
narrow_valid (Unknown u) v = v
narrow_valid (Points ps) v = (v.0, v.1, wide_places ps v.2, v.3)
narrow_valid (Lines ls) v = (v.0, wide_strokes 2 ls v.1, v.2)
narrow_valid (Polygons ps) v = (v.0, wide_strokes 3 (rings_of ps) v.1, v.2)

pub narrow_draws : (kind : Kind) (ints : List ℕ) (g : Geometry) → DrawsOf narrow kind ints g → Draws kind ints g
narrow_draws kind ints g d = record { same_kind = d.same_kind; valid = narrow_valid g d.valid; spelled = d.spelled }
