-- The signs of mended rings say even-odd.
use Rattle.std.proofs.Common.{arith, ◌≡◌, ℕ, ◌+◌, ◌%◌, ◌==◌, Bool, true, false, List, [], ◌∷◌, ◌++◌, Result, Ok, Option, Some, None, refl, sym, ap, subst, ◌∙◌}
use Rattle.std.specs.Prelude.{if◌then◌else◌, cond, slice_index}
use Rattle.std.specs.List.{AllByRecursion, filter, flat_map}
use Rattle.std.proofs.lemmas.Bool.{both_ways}
use Rattle.mvt_base.specs.Related.{AreRelated}
use Rattle.mvt_geometry.specs.declared.shape.Point.{Point}
use Rattle.mvt_rings.specs.declared.rings.Ring.{Ring}
use Rattle.mvt_rings.specs.declared.rings.Kept.{Kept}
use Rattle.mvt_rings.specs.declared.holding.Crossing.{Crossing}
use Rattle.mvt_rings.specs.declared.holding.Holders.{Holders}
use Rattle.mvt_rings.specs.Signs.{is_positive, is_negative}
use Rattle.mvt_rings.specs.Rings.{rings_from}
use Rattle.mvt_rings.specs.Holding.{holders_of}
use Rattle.mvt_rings.specs.Homes.{begun_after, exterior, has_ring, homes_after, joined, told, told_by}
use Rattle.mvt_rings.specs.Mending.{begins_negative, kept_from, mended_rings}
use Rattle.mvt_rings.specs.EvenOdd.{AreEvenOdd, IsEvenOdd, last_after}
use Rattle.mvt_rings.proofs.JoinedLemmas.{is_home}
use Rattle.mvt_rings.proofs.ToldRingsLemmas.{Told, told_one}
use Rattle.mvt_rings.proofs.TurnedSignLemmas.{positive_long}
use Rattle.mvt_rings.proofs.TreeLemmas.{least_solid, tree}
use Rattle.mvt_rings.proofs.FixedLemmas.{IsTree, homes_tails, numbered_from, size_at, sizes, solid_homes}
use Rattle.mvt_rings.proofs.OuterLemmas.{IsInner, IsOuter, IsSized, fixed_homes, outer}
use Rattle.mvt_rings.proofs.PolygonLemmas.{IsPolygon, all_join, polygons}

stays_last : (b : Bool) (before new : Option ℕ) → b ≡ false → (if b then new else before) ≡ before
stays_last b before new is = rw is refl

is_last : (b : Bool) (before new : Option ℕ) → b ≡ true → (if b then new else before) ≡ new
is_last b before new is = rw is refl

-- rings behind an exterior one
inner_is : (h : Holders) (k q : Kept) (before : Option ℕ) → IsInner h k q → (is_positive k.points ≡ true → before ≡ Some k.index)
    → IsEvenOdd h before q
inner_is h k q before is last = record {
  exterior = λ positive. absurd (both_ways (is_positive q.points) is.not_positive positive);
  interior = is.odd;
  behind = λ negative. last (is.under negative) ∙ ap Some (is.home negative);
}

one_inner : (h : Holders) (b : Bool) (q : Kept) (before : Option ℕ) (rest more : List Kept) → IsEvenOdd h before q
    → is_positive q.points ≡ false → AreEvenOdd h before (rest ++ more) → AreEvenOdd h before (cond b (q ∷ rest) rest ++ more)
one_inner h true q before rest more is not_positive are = (
  is,
  subst (λ (x : Option ℕ). AreEvenOdd h x (rest ++ more))
      (sym (stays_last (is_positive q.points) before (Some q.index) not_positive)) are,
)
one_inner h false q before rest more is not_positive are = are

inner_listed : (h : Holders) (k : Kept) (ks more : List Kept) (before : Option ℕ) → AllByRecursion (IsInner h k) ks
    → (is_positive k.points ≡ true → before ≡ Some k.index) → ((last : Option ℕ) → AreEvenOdd h last more)
    → AreEvenOdd h before (filter has_ring ks ++ more)
inner_listed h k [] more before are last rest = rest before
inner_listed h k (q ∷ ks) more before are last rest =
    one_inner h (has_ring q) q before (filter has_ring ks) more (inner_is h k q before are.0 last) are.0.not_positive
    (inner_listed h k ks more before are.1 last rest)

outer_is : (h : Holders) (k : Kept) (before : Option ℕ) → IsOuter h k → IsEvenOdd h before k
outer_is h k before is = record {
  exterior = is.even;
  interior = λ negative. absurd (both_ways (is_negative k.points) is.not_negative negative);
  behind = λ negative. absurd (both_ways (is_negative k.points) is.not_negative negative);
}

one_outer : (h : Holders) (b : Bool) (k : Kept) (rest more : List Kept) (before : Option ℕ) → has_ring k ≡ b → IsOuter h k
    → ((last : Option ℕ) → (is_positive k.points ≡ true → last ≡ Some k.index) → AreEvenOdd h last (rest ++ more))
    → AreEvenOdd h before (cond b (k ∷ rest) rest ++ more)
one_outer h true k rest more before long is behind = (
  outer_is h k before is,
  behind (last_after before k) (λ positive. is_last (is_positive k.points) before (Some k.index) positive),
)
one_outer h false k rest more before short is behind =
    behind before (λ positive. absurd (both_ways (has_ring k) short (positive_long k.points positive)))

-- the rings of a polygon, behind any others
polygon_listed : (h : Holders) (k : Kept) (ks more : List Kept) (before : Option ℕ) → IsOuter h k
    → AllByRecursion (IsInner h k) ks
    → ((last : Option ℕ) → AreEvenOdd h last more) → AreEvenOdd h before (filter has_ring (k ∷ ks) ++ more)
polygon_listed h k ks more before is are rest =
    one_outer h (has_ring k) k (filter has_ring ks) more before refl is
    (λ last ends. inner_listed h k ks more last are ends rest)

one_listed : (h : Holders) (homes : List ℕ) (r : Ring) (p more : List Kept) (before : Option ℕ)
    → (is_home homes r ≡ true → IsOuter h (exterior r)) → IsPolygon h homes r p → ((last : Option ℕ) → AreEvenOdd h last more)
    → AreEvenOdd h before (filter has_ring p ++ more)
one_listed h homes r p more before may is rest =
    by_home (is_home homes r) refl
  where
    by_home : (b : Bool) → is_home homes r ≡ b → AreEvenOdd h before (filter has_ring p ++ more)
    by_home true home =
        let begins = is.begins home in
        subst (λ (ks : List Kept). AreEvenOdd h before (filter has_ring ks ++ more)) (sym begins.1)
        (polygon_listed h (exterior r) begins.0 more before (may home) begins.2 rest)
    by_home false away =
        subst (λ (ks : List Kept). AreEvenOdd h before (filter has_ring ks ++ more)) (sym (is.is_none away)) (rest before)

all_listed : (h : Holders) (homes : List ℕ) (rings : List Ring) (ps : List (List Kept)) (before : Option ℕ)
    → AllByRecursion (λ r. is_home homes r ≡ true → IsOuter h (exterior r)) rings → AreRelated (IsPolygon h homes) rings ps
    → AreEvenOdd h before (flat_map (λ p. filter has_ring p) ps)
all_listed h homes [] [] before may are = tt
all_listed h homes [] (p ∷ ps) before may are = absurd are
all_listed h homes (r ∷ rings) [] before may are = absurd are
all_listed h homes (r ∷ rings) (p ∷ ps) before may are =
    one_listed h homes r p (flat_map (λ p. filter has_ring p) ps) before may.0 are.0
    (λ last. all_listed h homes rings ps last may.1 are.1)

-- the ring at an index has area
abbrev pub HasArea : List Ring → ℕ → Type 0
HasArea rings i = size_at rings i ≡ 0 → ⊥

pub sized_from : (all : List Ring) (m : ℕ) (parts : List (List Point))
    → AllByRecursion (λ r. size_at all r.index ≡ r.size) (rings_from m parts)
    → AllByRecursion (IsSized (HasArea all)) (rings_from m parts)
sized_from all m [] are = tt
sized_from all m (part ∷ parts) are = (
  record { size = refl; there = λ solid none. solid (sym are.0 ∙ none); back = λ there none. there (are.0 ∙ none) },
  sized_from all (m + 1) parts are.1,
)

pub solid_from : (S : ℕ → Type 0) (rings : List Ring) → AllByRecursion (IsSized S) rings
    → AllByRecursion (λ r. (r.size ≡ 0 → ⊥) → S r.index) rings
solid_from S [] are = tt
solid_from S (r ∷ rings) are = (are.0.there, solid_from S rings are.1)

outer_from : (h : Holders) (homes : List ℕ) (S : ℕ → Type 0) → IsTree h homes S → (rings : List Ring)
    → AllByRecursion (IsSized S) rings → AllByRecursion (λ r. is_home homes r ≡ true → IsOuter h (exterior r)) rings
outer_from h homes S is [] are = tt
outer_from h homes S is (r ∷ rings) are = (outer h homes S is r are.0, outer_from h homes S is rings are.1)

-- the homes of rings that are told are a tree
pub told_tree : (parts : List (List Point)) (kept : List Kept) → (one : Told (rings_from 0 parts) kept)
    → IsTree one.0 (homes_after one.0 [] 0 (rings_from 0 parts)) (HasArea (rings_from 0 parts))
told_tree parts kept (h, found, none, same) =
    let rings = rings_from 0 parts in
    let homes = homes_after h [] 0 rings in
    let at = λ (j : ℕ).
    let this : 0 + j ≡ j = omega arith in
    ap (slice_index homes) this ∙ ap (λ (xs : List ℕ). slice_index xs j) (homes_tails h [] 0 rings) in
    record {
      own = λ i there.
          let this : 0 + i ≡ i = omega arith in
          subst (λ j. slice_index homes j ≡ (if slice_index h.counts j % 2 == 0 then j else slice_index h.leasts j)) this
          (solid_homes h homes 0 0 rings (numbered_from 0 parts) at i there);
      less = tree h none;
      solid = least_solid (HasArea rings) rings h (solid_from (HasArea rings) rings (sized_from rings 0 parts (sizes parts))) found;
    }

told_signs : (parts : List (List Point)) (kept : List Kept) → (one : Told (rings_from 0 parts) kept) → AreEvenOdd one.0 None kept
unfolding told_by
told_signs parts kept (h, found, none, same) =
    let rings = rings_from 0 parts in
    let S = HasArea rings in
    let homes = homes_after h [] 0 rings in
    let numbered = numbered_from 0 parts in
    let sized = sized_from rings 0 parts (sizes parts) in
    let solid = solid_from S rings sized in
    let at = λ (j : ℕ).
    let this : 0 + j ≡ j = omega arith in
    ap (slice_index homes) this ∙ ap (λ (xs : List ℕ). slice_index xs j) (homes_tails h [] 0 rings) in
    let is_tree = told_tree parts kept (h, found, none, same) in
    let fixed = fixed_homes h homes S is_tree rings numbered at solid in
    let fit = all_join h homes S is_tree rings rings numbered sized sized fixed in
    subst (AreEvenOdd h None) same
    (all_listed h homes rings (joined homes (begun_after homes [] rings) rings) None
    (outer_from h homes S is_tree rings sized) (polygons h homes rings fit))

pub is_told : (b : Bool) (told other : Result (List Kept) Crossing) (kept : List Kept) → b ≡ true
    → (if b then told else other) ≡ Ok kept → told ≡ Ok kept
is_told true told other kept is mended = mended
is_told false told other kept is mended = absurd (cc)

pub signs_say_even_odd : (rings : List (List Point)) (kept : List Kept) → begins_negative (kept_from 3 0 rings) ≡ true
    → mended_rings rings ≡ Ok kept → (h : Holders) × (holders_of (rings_from 0 rings) ≡ Ok h) × AreEvenOdd h None kept
unfolding mended_rings
signs_say_even_odd rings kept begins mended =
    let one = told_one (rings_from 0 rings) kept
    (is_told (begins_negative (kept_from 3 0 rings)) (told (rings_from 0 rings)) (Ok (kept_from 3 0 rings)) kept begins mended) in
    (one.0, one.1, told_signs rings kept one)
