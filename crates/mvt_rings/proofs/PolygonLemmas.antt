-- Polygons: each an exterior ring and the rings behind it.
use Rattle.std.proofs.Common.{arith, ◌≡◌, ℕ, zero, suc, ◌+◌, Bool, true, false, List, [], ◌∷◌, ◌++◌, append_assoc, append-nil, map, refl, sym, ap, subst, ◌∙◌}
use Rattle.std.specs.Prelude.{if◌then◌else◌, slice_index, ⊤}
use Rattle.std.specs.List.{AllByRecursion}
use Rattle.std.proofs.lemmas.Bool.{both_ways, eq-eqb}
use Rattle.mvt_base.specs.Related.{AreRelated}
use Rattle.mvt_base.proofs.ListLemmas.{all_joined}
use Rattle.mvt_rings.specs.declared.rings.Ring.{Ring}
use Rattle.mvt_rings.specs.declared.rings.Kept.{Kept}
use Rattle.mvt_rings.specs.declared.holding.Holders.{Holders}
use Rattle.mvt_rings.specs.Homes.{begun, begun_after, exterior, interior, join, joined}
use Rattle.mvt_rings.proofs.JoinedLemmas.{is_home}
use Rattle.mvt_rings.proofs.FixedLemmas.{AreNumbered, IsFixed, IsTree}
use Rattle.mvt_rings.proofs.OuterLemmas.{IsInner, IsSized, inner}

-- the polygon that a ring begins: none, or the ring and those behind it
pub record IsPolygon (h : Holders) (homes : List ℕ) (r : Ring) (p : List Kept) : Type 0 where
  pub begins : is_home homes r ≡ true → (ks : List Kept) × (p ≡ exterior r ∷ ks) × AllByRecursion (IsInner h (exterior r)) ks
  pub is_none : is_home homes r ≡ false → p ≡ []

begun_if : (b : Bool) (k : Kept) → b ≡ true → (if b then k ∷ [] else []) ≡ k ∷ []
begun_if b k is = rw is refl

begun_unless : (b : Bool) (k : Kept) → b ≡ false → (if b then k ∷ [] else []) ≡ []
begun_unless b k is = rw is refl

begun_one : (h : Holders) (homes : List ℕ) (r : Ring) → IsPolygon h homes r (begun homes r)
begun_one h homes r = record {
  begins = λ home. ([], begun_if (is_home homes r) (exterior r) home, tt);
  is_none = λ away. begun_unless (is_home homes r) (exterior r) away;
}

begun_all : (h : Holders) (homes : List ℕ) (rings : List Ring) → AreRelated (IsPolygon h homes) rings (map (begun homes) rings)
begun_all h homes [] = tt
begun_all h homes (r ∷ rings) = (begun_one h homes r, begun_all h homes rings)

begun_map : (homes : List ℕ) (ps : List (List Kept)) (rings : List Ring)
    → begun_after homes ps rings ≡ ps ++ map (begun homes) rings
begun_map homes ps [] = sym (append-nil ps)
begun_map homes ps (r ∷ rings) =
    begun_map homes (ps ++ begun homes r ∷ []) rings ∙ append_assoc ps (begun homes r ∷ []) (map (begun homes) rings)

-- what joins a polygon fits it
abbrev Joins : Holders → List ℕ → ℕ → Kept → List Ring → Type 0
Joins h homes n k [] = ⊤
Joins h homes zero k (r ∷ rings) = (is_home homes r ≡ true) × IsInner h (exterior r) k
Joins h homes (suc n) k (r ∷ rings) = Joins h homes n k rings

joined_polygon : (h : Holders) (homes : List ℕ) (r : Ring) (p : List Kept) (k : Kept) → IsPolygon h homes r p
    → is_home homes r ≡ true → IsInner h (exterior r) k → IsPolygon h homes r (p ++ k ∷ [])
joined_polygon h homes r p k is home fits =
    let old = is.begins home in
    record {
      begins = λ again. (
        old.0 ++ k ∷ [],
        ap (λ ks. ks ++ k ∷ []) old.1,
        all_joined (IsInner h (exterior r)) old.0 (k ∷ []) old.2 (fits, tt),
      );
      is_none = λ away. absurd (both_ways (is_home homes r) away home);
    }

join_all : (h : Holders) (homes : List ℕ) (n : ℕ) (k : Kept) (rings : List Ring) (ps : List (List Kept))
    → AreRelated (IsPolygon h homes) rings ps → Joins h homes n k rings → AreRelated (IsPolygon h homes) rings (join n k ps)
join_all h homes n k [] [] are fits = tt
join_all h homes n k [] (p ∷ ps) are fits = absurd are
join_all h homes n k (r ∷ rings) [] are fits = absurd are
join_all h homes zero k (r ∷ rings) (p ∷ ps) are fits = (joined_polygon h homes r p k are.0 fits.0 fits.1, are.1)
join_all h homes (suc n) k (r ∷ rings) (p ∷ ps) are fits = (are.0, join_all h homes n k rings ps are.1 fits)

-- each ring that is not its own home fits that
abbrev pub AllJoin : Holders → List ℕ → List Ring → List Ring → Type 0
AllJoin h homes all rings =
    AllByRecursion (λ r. is_home homes r ≡ false → Joins h homes (slice_index homes r.index) (interior r) all) rings

joined_if : (h : Holders) (homes : List ℕ) (all : List Ring) (b : Bool) (here there : List (List Kept))
    → (b ≡ true → AreRelated (IsPolygon h homes) all here) → (b ≡ false → AreRelated (IsPolygon h homes) all there)
    → AreRelated (IsPolygon h homes) all (if b then here else there)
joined_if h homes all true here there one other = one refl
joined_if h homes all false here there one other = other refl

joined_all : (h : Holders) (homes : List ℕ) (all : List Ring) (ps : List (List Kept)) (rings : List Ring)
    → AreRelated (IsPolygon h homes) all ps → AllJoin h homes all rings
    → AreRelated (IsPolygon h homes) all (joined homes ps rings)
joined_all h homes all ps [] are fit = are
joined_all h homes all ps (r ∷ rings) are fit =
    let home = slice_index homes r.index in
    joined_if h homes all (is_home homes r) (joined homes ps rings) (joined homes (join home (interior r) ps) rings)
    (λ own. joined_all h homes all ps rings are fit.1)
    (λ away. joined_all h homes all (join home (interior r) ps) rings
    (join_all h homes home (interior r) all ps are (fit.0 away)) fit.1)

pub polygons : (h : Holders) (homes : List ℕ) (rings : List Ring) → AllJoin h homes rings rings
    → AreRelated (IsPolygon h homes) rings (joined homes (begun_after homes [] rings) rings)
polygons h homes rings fit =
    joined_all h homes rings (begun_after homes [] rings) rings
    (subst (AreRelated (IsPolygon h homes) rings) (sym (begun_map homes [] rings)) (begun_all h homes rings)) fit

at_home : (homes : List ℕ) (r : Ring) (x : ℕ) → r.index ≡ x → IsFixed homes x → is_home homes r ≡ true
at_home homes r x is fixed = eq-eqb (slice_index homes r.index) r.index (ap (slice_index homes) is ∙ (fixed ∙ sym is))

joins_from : (h : Holders) (homes : List ℕ) (S : ℕ → Type 0) → IsTree h homes S → (q : Ring) → IsSized S q
    → is_home homes q ≡ false → IsFixed homes (slice_index homes q.index) → (n m : ℕ) (rings : List Ring) → AreNumbered m rings
    → AllByRecursion (IsSized S) rings → m + n ≡ slice_index homes q.index → Joins h homes n (interior q) rings
joins_from h homes S is q sized away fixed n m [] are all at = tt
joins_from h homes S is q sized away fixed zero m (r ∷ rings) are all at =
    let first : m ≡ m + 0 = omega arith in
    let joins = are.0 ∙ (first ∙ at) in
    (at_home homes r (slice_index homes q.index) joins fixed, inner h homes S is r q all.0 sized away joins)
joins_from h homes S is q sized away fixed (suc n) m (r ∷ rings) are all at =
    let next : (m + 1) + n ≡ m + suc n = omega arith in
    joins_from h homes S is q sized away fixed n (m + 1) rings are.1 all.1 (next ∙ at)

pub all_join : (h : Holders) (homes : List ℕ) (S : ℕ → Type 0) → IsTree h homes S → (all rings : List Ring) → AreNumbered 0 all
    → AllByRecursion (IsSized S) all → AllByRecursion (IsSized S) rings
    → AllByRecursion (λ r. IsFixed homes (slice_index homes r.index)) rings → AllJoin h homes all rings
all_join h homes S is all [] are all_sized sized fixed = tt
all_join h homes S is all (r ∷ rings) are all_sized sized fixed = (
  (λ away.
      let none : 0 + slice_index homes r.index ≡ slice_index homes r.index = omega arith in
      joins_from h homes S is r sized.0 away fixed.0 (slice_index homes r.index) 0 all are all_sized none),
  all_join h homes S is all rings are all_sized sized.1 fixed.1,
)
