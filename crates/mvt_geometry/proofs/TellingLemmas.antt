-- A walk over packed bytes that tells a visitor what they draw.
use Rattle.std.proofs.Common.{◌≡◌, ◌≢◌, ℕ, ◌+◌, ◌-◌, ◌*◌, ◌^◌, ◌≤◌, Bool, true, false, List, [], ◌∷◌, ◌++◌, length, slice_get, Option, Some, None, ℤ, pos, ◌+ℤ◌, ◌-ℤ◌, refl, sym, ap, ap₂, subst, ◌∙◌, arith, append_assoc, append-nil}
use Rattle.std.specs.Prelude.{IfNone}
use Rattle.std.specs.Option.{is_some}
use Rattle.std.specs.Int.RustNames.{unsigned_abs}
use Rattle.std.proofs.lemmas.Int.{ints}
use Rattle.std.proofs.lemmas.List.{length_push}
use Rattle.mvt_base.specs.Rules.{first}
use Rattle.mvt_wire.specs.Zigzag.{zig}
use Rattle.mvt_geometry.specs.declared.shape.Point.{Point}
use Rattle.mvt_geometry.specs.Shape.{IsPlace, IsStep, last_of}
use Rattle.mvt_geometry.specs.Area.{cross}
use Rattle.mvt_geometry.specs.Rings.{are_same, is_closed}
use Rattle.mvt_geometry.specs.Drawing.{path_from, stroke}
use Rattle.mvt_geometry.specs.Visiting.{Part}
use Rattle.mvt_geometry.specs.Commands.{Pair, stepped}
use Rattle.mvt_geometry.specs.Table.{step_rules}
use Rattle.mvt_geometry.specs.Inner.Validity.{IsStepTo, IsPath}
use Rattle.mvt_geometry.specs.Inner.Telling.{SpellsFront, WasTold, IsPair, ArePairs, IsHead, IsLine}
use Rattle.mvt_geometry.proofs.AreaLemmas.{area2-ring, edges-push, last_of-push}
use Rattle.mvt_geometry.proofs.DrawLemmas.{last_read}
use Rattle.mvt_geometry.proofs.PathLemmas.{SmallPair, between-stepped, calm_step}
use Rattle.mvt_geometry.proofs.PolygonLemmas.{stroke_closed}
use Rattle.mvt_geometry.proofs.ValidLemmas.{stroke_of}

pub if_none : {A P : Type 0} → (found : Option A) → is_some found ≡ false → IfNone found P → P
if_none None e h = h
if_none (Some x) e h = cc

-- what is spelled in front of what is spelled in front
pub spells_none : {I : Type 0} {Are : I → List ℕ → Type 0} (bytes : I) → SpellsFront Are bytes [] bytes
spells_none bytes = record { joins = λ more are. are }

pub spells_both : {I : Type 0} {Are : I → List ℕ → Type 0} {bytes mid after : I} {xs ys : List ℕ} → SpellsFront Are bytes xs mid
    → SpellsFront Are mid ys after → SpellsFront Are bytes (xs ++ ys) after
spells_both {I} {Are} {bytes} {mid} {after} {xs} {ys} f g =
    record { joins = λ more are. subst (Are bytes) (sym (append_assoc xs ys more)) (f.joins (ys ++ more) (g.joins more are)) }

leads : (line : Bool) (p q : Point) → IsPlace q → IsStep p q → (line ≡ true → p ≢ q) → IsStepTo line p q
leads true p q place step away = (away refl, place, step)
leads false p q place step away = (place, step)

-- a pair that breaks no rule
pub pair_there : {I : Type 0} {Are : I → List ℕ → Type 0} (line : Bool) (at : ℕ) (from to : Point) (d : Pair) (mid : I) {bytes after : I} → SmallPair d
    → first (step_rules line at d (stepped from d)) ≡ None → to ≡ stepped from d
    → ((ns : List ℕ) → Are mid ns → Are bytes (d.dx ∷ ns))
    → ((ns : List ℕ) → Are after ns → Are mid (d.dy ∷ ns)) → IsPair Are line from to bytes after
pair_there {I} {Are} line at from to d mid {bytes} {after} small none is x y =
    let calm = calm_step line at from d small none in
    rw is (record {
      step = leads line from (stepped from d) calm.0 calm.1 calm.2;
      spelled = record {
        joins = λ more are.
            subst (λ (e : Pair). Are bytes (e.dx ∷ e.dy ∷ more)) (sym (between-stepped from d)) (x (d.dy ∷ more) (y more are));
      };
    })

-- points that a visitor was told
module _ {V : Type 0} {HasParts : V → List Part → List Point → V → Type 0} where
  pub told_none : (v : V) → WasTold HasParts v [] v
  told_none v = record { told = λ start parts begun has. subst (λ ps. HasParts start parts ps v) (sym (append-nil begun)) has }

  pub told_both : {old mid new : V} {ps qs : List Point} → WasTold HasParts old ps mid → WasTold HasParts mid qs new
      → WasTold HasParts old (ps ++ qs) new
  told_both {old} {mid} {new} {ps} {qs} f g = record {
    told = λ start parts begun has.
        subst (λ rs. HasParts start parts rs new) (append_assoc begun ps qs)
        (g.told start parts (begun ++ ps) (f.told start parts begun has));
  }

path-push : (c : Point) (ps : List Point) (p : Point) → path_from c (ps ++ p ∷ []) ≡ path_from c ps ++ path_from (last_of c ps) (p ∷ [])
path-push c [] p = refl
path-push c (q ∷ ps) p = ap (λ ns. zig (q.x -ℤ c.x) ∷ zig (q.y -ℤ c.y) ∷ ns) (path-push q ps p)

path_goes_on : (line : Bool) (c : Point) (ps : List Point) (p : Point) → IsPath line c ps → IsStepTo line (last_of c ps) p
    → IsPath line c (ps ++ p ∷ [])
path_goes_on line c [] p path step = (step, tt)
path_goes_on line c (q ∷ ps) p path step = (path.0, path_goes_on line q ps p path.1 step)

pub no_pairs : {I : Type 0} {Are : I → List ℕ → Type 0} (line : Bool) (from : Point) (bytes : I) → ArePairs Are line from bytes bytes 0 from (pos 0) []
no_pairs line from bytes =
    record { is = tt; spelled = spells_none bytes; long = refl; end_is = refl; area_is = refl; small = omega (arith, ints) }

pub one_pair_more : {I : Type 0} {Are : I → List ℕ → Type 0} {line : Bool} {from c p : Point} {bytes rest after : I} {n : ℕ} {area : ℤ}
    {ps : List Point} → ArePairs Are line from bytes rest n c area ps → IsPair Are line c p rest after → (sum : ℤ) → sum ≡ area +ℤ cross c p
    → unsigned_abs sum ≤ (n + 1) * 2 ^ 63 → ArePairs Are line from bytes after (n + 1) p sum (ps ++ p ∷ [])
one_pair_more {I} {Are} {line} {from} {c} {p} {bytes} {rest} {after} {n} {area} {ps} done pair sum is small = record {
  is = path_goes_on line from ps p done.is (subst (λ q. IsStepTo line q p) done.end_is pair.step);
  spelled =
      subst (λ ns. SpellsFront Are bytes ns after)
      (ap (λ q. path_from from ps ++ path_from q (p ∷ [])) done.end_is ∙ sym (path-push from ps p))
      (spells_both done.spelled pair.spelled);
  long = length_push ps p ∙ ap (λ m. m + 1) done.long;
  end_is = sym (last_of-push from ps p);
  area_is = is ∙ ap₂ (λ a q. a +ℤ cross q p) done.area_is done.end_is ∙ sym (edges-push from ps p);
  small = small;
}

-- a line is closed where the point that it ends at is its first
closed_there : (head end : Point) (ps : List Point) → end ≡ last_of head ps → are_same (Some head) (Some end) ≡ is_closed (head ∷ ps)
closed_there head end ps end_is =
    let size : length (head ∷ ps) - 1 ≡ length ps = omega arith in
    ap (λ q. are_same (Some head) (Some q)) end_is
    ∙ ap (are_same (Some head)) (sym (ap (slice_get (head ∷ ps)) size ∙ last_read head ps))

-- the line that a head and its pairs are
pub line_there : {I : Type 0} {Are : I → List ℕ → Type 0} {least : ℕ} {from head end : Point} {count : ℕ} {bytes pairs after : I}
    {area : ℤ} {ps : List Point} → IsHead Are least from head count bytes pairs → ArePairs Are true head pairs after count end area ps → (edge sum : ℤ)
    → edge ≡ cross end head → sum ≡ area +ℤ edge → (same : Bool) → same ≡ are_same (Some head) (Some end)
    → IsLine Are least [] from bytes after (count + 1) end sum same (head ∷ ps)
line_there {I} {Are} {least} {from} {head} {end} {count} {bytes} {pairs} {after} {area} {ps} h p edge sum edge_is sum_is same same_is = record {
  is = stroke_of least from (head ∷ ps)
      (omega (arith, h.enough, p.long), omega (arith, h.few, p.long), h.step, p.is);
  spelled =
      subst (λ ns. SpellsFront Are bytes ns after)
      (ap₂ (λ n ns. 9 ∷ (path_from from (head ∷ []) ++ ((2 + 8 * n) ∷ ns))) (sym p.long) (sym (append-nil (path_from head ps))))
      (spells_both h.spelled p.spelled);
  long = omega (arith, p.long);
  end_is = p.end_is;
  area_is =
      sum_is ∙ ap₂ (λ a b. a +ℤ b) p.area_is (edge_is ∙ ap (λ q. cross q head) p.end_is) ∙ sym (area2-ring head ps);
  closed_is = same_is ∙ closed_there head end ps p.end_is;
}

closed : (c : Point) (line : List Point) → stroke [] c line ++ 15 ∷ [] ≡ stroke (15 ∷ []) c line
closed c [] = refl
closed c (p ∷ ps) = stroke_closed c p ps [] ∙ append-nil (stroke (15 ∷ []) c (p ∷ ps))

-- a line that is closed
pub ring_there : {I : Type 0} {Are : I → List ℕ → Type 0} {least count : ℕ} {from end : Point} {bytes mid after : I} {area : ℤ}
    {same : Bool} {line : List Point}
    → IsLine Are least [] from bytes mid count end area same line → SpellsFront Are mid (15 ∷ []) after
    → IsLine Are least (15 ∷ []) from bytes after count end area same line
ring_there {I} {Are} {least} {count} {from} {end} {bytes} {mid} {after} {area} {same} {line} h close = record {
  is = h.is;
  spelled = subst (λ ns. SpellsFront Are bytes ns after) (closed from line) (spells_both h.spelled close);
  long = h.long;
  end_is = h.end_is;
  area_is = h.area_is;
  closed_is = h.closed_is;
}
