-- Each ring stands in one polygon: what is counted of all.
use Rattle.std.proofs.Common.{arith, ◌≡◌, ℕ, ◌+◌, ◌<◌, ◌==◌, zero, suc, Bool, true, false, List, [], ◌∷◌, ◌++◌, length, refl, sym, ap, ◌∙◌}
use Rattle.std.specs.Prelude.{if◌then◌else◌, slice_index}
use Rattle.std.specs.List.{AllByRecursion}
use Rattle.std.proofs.lemmas.List.{length_push}
use Rattle.mvt_rings.specs.declared.rings.Ring.{Ring}
use Rattle.mvt_rings.specs.declared.rings.Kept.{Kept}
use Rattle.mvt_rings.specs.Homes.{begun, begun_after, exterior, interior, join, joined}
use Rattle.mvt_rings.proofs.TotalLemmas.{spread, total, total-append}

at_end : (a b c : ℕ) → (a + (c + 0)) + b ≡ (a + b) + c
at_end a b c = omega arith

further : (a b c : ℕ) → a + (b + c) ≡ (a + b) + c
further a b c = omega arith

join_spread : (w : Kept → ℕ) (n : ℕ) (k : Kept) (ps : List (List Kept)) → n < length ps
    → spread w (join n k ps) ≡ spread w ps + w k
join_spread w n k [] within = absurd (omega arith)
join_spread w zero k (p ∷ ps) within =
    ap (λ x. x + spread w ps) (total-append w p (k ∷ [])) ∙ at_end (total w p) (spread w ps) (w k)
join_spread w (suc n) k (p ∷ ps) within =
    ap (λ x. total w p + x) (join_spread w n k ps (omega arith)) ∙ further (total w p) (spread w ps) (w k)

length-join : (n : ℕ) (k : Kept) (ps : List (List Kept)) → length (join n k ps) ≡ length ps
length-join n k [] = refl
length-join zero k (p ∷ ps) = refl
length-join (suc n) k (p ∷ ps) = ap suc (length-join n k ps)

-- a ring is the exterior ring of its own polygon
abbrev pub is_home : List ℕ → Ring → Bool
is_home homes r = slice_index homes r.index == r.index

-- what counts of rings that are exteriors, and of others
abbrev pub outer_part : List ℕ → (Ring → ℕ) → Ring → ℕ
outer_part homes v r = if is_home homes r then v r else 0

abbrev pub inner_part : List ℕ → (Ring → ℕ) → Ring → ℕ
inner_part homes v r = if is_home homes r then 0 else v r

begun_one : (w : Kept → ℕ) (v : Ring → ℕ) (b : Bool) (r : Ring) → w (exterior r) ≡ v r
    → total w (if b then exterior r ∷ [] else []) ≡ (if b then v r else 0)
begun_one w v true r same = omega arith
begun_one w v false r same = refl

begun_more : (a b c d : ℕ) → b ≡ c → (a + (b + 0)) + d ≡ a + (c + d)
begun_more a b c d e = omega arith

nothing_more : (a : ℕ) → a ≡ a + 0
nothing_more a = omega arith

pub begun_spread : (w : Kept → ℕ) (v : Ring → ℕ) → ((r : Ring) → w (exterior r) ≡ v r) → (homes : List ℕ) (ps : List (List Kept))
    (rings : List Ring) → spread w (begun_after homes ps rings) ≡ spread w ps + total (outer_part homes v) rings
begun_spread w v same homes ps [] = nothing_more (spread w ps)
begun_spread w v same homes ps (r ∷ rings) =
    begun_spread w v same homes (ps ++ begun homes r ∷ []) rings
    ∙ (ap (λ x. x + total (outer_part homes v) rings) (total-append (total w) ps (begun homes r ∷ []))
    ∙ begun_more (spread w ps) (total w (begun homes r)) (outer_part homes v r) (total (outer_part homes v) rings)
    (begun_one w v (is_home homes r) r (same r)))

one_more : (a b c d : ℕ) → a ≡ b + 1 → c ≡ a + d → c ≡ b + suc d
one_more a b c d e f = omega arith

pub length-begun_after : (homes : List ℕ) (ps : List (List Kept)) (rings : List Ring)
    → length (begun_after homes ps rings) ≡ length ps + length rings
length-begun_after homes ps [] = nothing_more (length ps)
length-begun_after homes ps (r ∷ rings) =
    one_more (length (ps ++ begun homes r ∷ [])) (length ps) _ (length rings) (length_push ps (begun homes r))
    (length-begun_after homes (ps ++ begun homes r ∷ []) rings)

-- the home of each ring is the index of a polygon
abbrev pub HaveHomes : ℕ → List ℕ → List Ring → Type 0
HaveHomes n homes rings = AllByRecursion (λ r. slice_index homes r.index < n) rings

joined_one : (w : Kept → ℕ) (b : Bool) (v s t : ℕ) (here there : List (List Kept)) → spread w here ≡ s + t
    → spread w there ≡ (s + v) + t → spread w (if b then here else there) ≡ s + ((if b then 0 else v) + t)
joined_one w true v s t here there stays more = omega arith
joined_one w false v s t here there stays more = omega arith

pub joined_spread : (w : Kept → ℕ) (v : Ring → ℕ) → ((r : Ring) → w (interior r) ≡ v r) → (homes : List ℕ) (ps : List (List Kept))
    (rings : List Ring) (n : ℕ) → length ps ≡ n → HaveHomes n homes rings
    → spread w (joined homes ps rings) ≡ spread w ps + total (inner_part homes v) rings
joined_spread w v same homes ps [] n long have = nothing_more (spread w ps)
joined_spread w v same homes ps (r ∷ rings) n long have =
    let home = slice_index homes r.index in
    let within : home < length ps = omega (arith, have.0) in
    let stays = joined_spread w v same homes ps rings n long have.1 in
    let more =
    joined_spread w v same homes (join home (interior r) ps) rings n (length-join home (interior r) ps ∙ long) have.1 in
    let joins = join_spread w home (interior r) ps within ∙ ap (λ x. spread w ps + x) (same r) in
    joined_one w (is_home homes r) (v r) (spread w ps) (total (inner_part homes v) rings) (joined homes ps rings)
    (joined homes (join home (interior r) ps) rings) stays (more ∙ ap (λ x. x + total (inner_part homes v) rings) joins)

split_one : (b : Bool) (v s t u : ℕ) → s + t ≡ u → ((if b then v else 0) + s) + ((if b then 0 else v) + t) ≡ v + u
split_one true v s t u e = omega arith
split_one false v s t u e = omega arith

split_total : (homes : List ℕ) (v : Ring → ℕ) (rings : List Ring)
    → total (outer_part homes v) rings + total (inner_part homes v) rings ≡ total v rings
split_total homes v [] = refl
split_total homes v (r ∷ rings) =
    split_one (is_home homes r) (v r) (total (outer_part homes v) rings) (total (inner_part homes v) rings) (total v rings)
    (split_total homes v rings)

none_before : (a : ℕ) → a ≡ 0 + a
none_before a = omega arith

-- of polygons that all rings have joined as much is counted as of the rings
pub told_spread : (w : Kept → ℕ) (v : Ring → ℕ) → ((r : Ring) → w (exterior r) ≡ v r) → ((r : Ring) → w (interior r) ≡ v r)
    → (homes : List ℕ) (rings : List Ring) → HaveHomes (length rings) homes rings
    → spread w (joined homes (begun_after homes [] rings) rings) ≡ total v rings
told_spread w v outer inner homes rings have =
    joined_spread w v inner homes (begun_after homes [] rings) rings (length rings)
    (length-begun_after homes [] rings ∙ sym (none_before (length rings))) have
    ∙ (ap (λ x. x + total (inner_part homes v) rings) (begun_spread w v outer homes [] rings ∙ sym (none_before _))
    ∙ split_total homes v rings)
