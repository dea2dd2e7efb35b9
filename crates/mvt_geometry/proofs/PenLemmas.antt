-- What is drawn of positions so far.
use Rattle.std.proofs.Common.{arith, ◌≡◌, ℕ, ◌+◌, ◌-◌, ◌<◌, take, ◌-ℤ◌, Bool, List, [], ◌∷◌, ◌++◌, length, get_or, drop, map, sym, ap, ap₂, subst, ◌∙◌, append_assoc, Result, Ok, Err}
use Rattle.std.specs.Result.{IsErrAnd, IsErrOf}
use Rattle.std.proofs.lemmas.List.{get_or-map, length-map, map_more}
use Rattle.mvt_wire.specs.Zigzag.{zig}
use Rattle.mvt_geometry.specs.declared.shape.Point.{Point}
use Rattle.mvt_geometry.specs.Area.{area2}
use Rattle.mvt_geometry.specs.Drawing.{path_from}
use Rattle.mvt_geometry.specs.Inner.Judging.{edges}
use Rattle.mvt_geometry.specs.Shape.{last_of}
use Rattle.mvt_geometry.specs.Inner.Validity.{IsStepTo, IsPath}
use Rattle.mvt_geometry.proofs.AreaLemmas.{whole_round}
use Rattle.mvt_geometry.proofs.WritingLemmas.{item_at}

pub pair_put : (old mid new : List ℕ) (a b x y : ℕ) → mid ≡ old ++ a ∷ [] → new ≡ mid ++ b ∷ [] → a ≡ x → b ≡ y → new ≡ old ++ x ∷ y ∷ []
pair_put old mid new a b x y first second is_x is_y =
    second ∙ ap (λ l. l ++ b ∷ []) first ∙ append_assoc old (a ∷ []) (b ∷ []) ∙ ap₂ (λ m n. old ++ m ∷ n ∷ []) is_x is_y

-- the points of the positions that are left, the next of which is p
pub points_at : {X : Type 0} → (f : X → Point) (xs : List X) (i : ℕ) (x : X) (p : Point) → i < length xs → x ≡ get_or xs i x → p ≡ f x
    → map f (drop i xs) ≡ p ∷ map f (drop (i + 1) xs)
points_at f xs i x p within is same = ap (map f) (item_at xs i x within is) ∙ ap (λ q. q ∷ map f (drop (i + 1) xs)) (sym same)

-- a pair more
pub path_more : (old new whole : List ℕ) (c p : Point) (points rest : List Point) → points ≡ p ∷ rest
    → new ≡ old ++ zig (p.x -ℤ c.x) ∷ zig (p.y -ℤ c.y) ∷ [] → old ++ path_from c points ≡ whole → new ++ path_from p rest ≡ whole
path_more old new whole c p points rest e put so_far =
    ap (λ xs. xs ++ path_from p rest) put ∙ append_assoc old (zig (p.x -ℤ c.x) ∷ zig (p.y -ℤ c.y) ∷ []) (path_from p rest)
    ∙ ap (λ ps. old ++ path_from c ps) (sym e) ∙ so_far

pub last_more : (c p end : Point) (points rest : List Point) → points ≡ p ∷ rest → last_of c points ≡ end → last_of p rest ≡ end
last_more c p end points rest e so_far = ap (last_of c) (sym e) ∙ so_far

-- a path goes on behind its first point
pub path_behind : (is_line : Bool) (c p : Point) (points rest : List Point) → points ≡ p ∷ rest → IsPath is_line c points
    → IsStepTo is_line c p × IsPath is_line p rest
path_behind is_line c p points rest e path = subst (IsPath is_line c) e path

pub path_before : (is_line : Bool) (c p : Point) (points rest : List Point) → points ≡ p ∷ rest → IsStepTo is_line c p
    → IsPath is_line p rest → IsPath is_line c points
path_before is_line c p points rest e step path = subst (IsPath is_line c) (sym e) (step, path)

-- the positions up to one more
pub points_to : {X : Type 0} → (f : X → Point) (xs : List X) (i : ℕ) (x : X) (p : Point) → i < length xs → x ≡ get_or xs i x → p ≡ f x
    → map f (take (i + 1) xs) ≡ map f (take i xs) ++ p ∷ []
points_to f xs i x p within is same = map_more f xs i x within ∙ ap (λ q. map f (take i xs) ++ q ∷ []) (ap f (sym is) ∙ sym same)

-- round the points of positions, from the last
pub positions_round : {X : Type 0} → (f : X → Point) (ring : List X) (x : X) (p : Point) → 0 < length ring
    → x ≡ get_or ring (length ring - 1) x → p ≡ f x → edges p (map f ring) ≡ area2 (map f ring)
positions_round f ring x p some is same =
    let within : length ring - 1 < length ring = omega arith in
    let long : length (map f ring) ≡ length ring = length-map ring f in
    let last : get_or (map f ring) (length (map f ring) - 1) p ≡ p =
    ap (λ n. get_or (map f ring) (n - 1) p) long ∙ get_or-map f ring (length ring - 1) x p within ∙ ap f (sym is) ∙ sym same in
    subst (λ q. edges q (map f ring) ≡ area2 (map f ring)) last (whole_round (map f ring) p (omega arith))

-- a refusal that is handed on is the same
pub same_refusal : {T U E : Type 0} → (r : Result T E) (e v : E) → IsErrAnd r (λ f. f ≡ e) → IsErrOf r v → IsErrOf {T = U} {E = E} (Err e) v
same_refusal (Ok x) e v is h = absurd is
same_refusal (Err f) e v is h = let same : f ≡ v = cc in ap Err (sym is ∙ same)
