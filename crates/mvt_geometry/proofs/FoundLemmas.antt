-- One command against the points that it draws.
use Rattle.std.proofs.Common.{◌≡◌, ◌≢◌, ℕ, zero, suc, ◌+◌, ◌-◌, ◌*◌, ◌/◌, ◌%◌, ◌^◌, ◌<◌, ◌≤◌, true, List, [], ◌∷◌, ◌++◌, length, get_or, take, drop, Option, Some, None, refl, sym, ap, ap₂, subst, ◌∙◌, arith, length-take-le, length-drop, length-append}
use Rattle.std.specs.List.{AllByRecursion}
use Rattle.std.proofs.lemmas.List.{take_at, drop_at, take-append-drop, drop-drop, drop_more}
use Rattle.mvt_base.specs.Rules.{first, each}
use Rattle.mvt_geometry.specs.declared.shape.Point.{Point}
use Rattle.mvt_geometry.specs.declared.shape.Kind.{Kind}
use Rattle.mvt_geometry.specs.declared.shape.Kind.TheVariants as kinds
use Rattle.mvt_geometry.specs.declared.command.Command.{Command}
use Rattle.mvt_geometry.specs.declared.command.Command.TheVariants.{MoveTo, LineTo, ClosePath}
use Rattle.mvt_geometry.specs.Drawing.{path_from}
use Rattle.mvt_geometry.specs.Commands.{id_of, is_allowed, due, may_not_end, Pair, pair_count, pairs_of, pairs_at, moves, moved, positions}
use Rattle.mvt_geometry.specs.Table.{is_line_to, pair_rules, wrong_pairs, wrong_ring, geometry_fault}
use Rattle.mvt_geometry.specs.Inner.Judging.{IsHeader, Reached}
use Rattle.mvt_geometry.specs.Inner.Strokes.{pairs_between, MayDraw, AreSmall, Found}
use Rattle.mvt_geometry.proofs.CommandLemmas.{goes_on, pairs_after, header_kept, pairs_kept, ring_kept, moves-are, reached_calm}
use Rattle.mvt_geometry.proofs.RingLemmas.{header_pairs}
use Rattle.mvt_geometry.proofs.PathLemmas.{moved-between, length-positions, length-path, pairs-path, path-pairs, path_calm, calm_path, SmallPair}
use Rattle.mvt_geometry.specs.Shape.{last_of}

-- what stands in front of a rest
pub front_of_rest : (g : List ℕ) (s x : ℕ) (xs : List ℕ) → drop s g ≡ x ∷ xs → (s < length g) × (get_or g s 0 ≡ x) × (drop (s + 1) g ≡ xs)
front_of_rest [] zero x xs e = cc
front_of_rest [] (suc s) x xs e = cc
front_of_rest (y ∷ g) zero x xs e = (omega arith, cc, cc)
front_of_rest (y ∷ g) (suc s) x xs e =
    let more = front_of_rest g s x xs e in
    let n : suc s + 1 ≡ suc (s + 1) = omega arith in
    (omega (arith, more.0), more.1, rw n more.2)

-- a command's integer
id_in : (command : Command) (count : ℕ) → ((id_of command + 8 * count) % 8 ≡ id_of command) × ((id_of command + 8 * count) / 8 ≡ count)
id_in MoveTo count = (omega arith, omega arith)
id_in LineTo count = (omega arith, omega arith)
id_in ClosePath count = (omega arith, omega arith)

module _ {kind : Kind} {g : List ℕ} {k s : ℕ} {c : Point} (r : Reached kind g k s c) (command : Command)
    (is_due : due kind k ≡ Some command) (count : ℕ) (ps : List Point) (may : MayDraw kind command count c ps) (more : List ℕ)
    (spelled : drop s g ≡ (id_of command + 8 * count) ∷ (path_from c ps ++ more)) where
  there : (s < length g) × (get_or g s 0 ≡ id_of command + 8 * count) × (drop (s + 1) g ≡ path_from c ps ++ more)
  there = front_of_rest g s (id_of command + 8 * count) (path_from c ps ++ more) spelled

  count_is : get_or g s 0 / 8 ≡ count
  count_is = ap (λ n. n / 8) there.1 ∙ (id_in command count).1

  pair_count_is : length ps ≡ pair_count (Some command) (get_or g s 0 / 8)
  pair_count_is = may.pairs ∙ ap (pair_count (Some command)) (sym count_is)

  after : path_from c ps ≡ take (2 * length ps) (drop (s + 1) g)
  after = sym (ap (take (2 * length ps)) there.2 ∙ take_at (path_from c ps) more (2 * length ps) (length-path c ps))

  header : IsHeader kind command g s
  header =
      let total : length g - (s + 1) ≡ 2 * length ps + length more =
      sym (length-drop (s + 1) g) ∙ ap length there.2 ∙ length-append (path_from c ps) more
      ∙ ap (λ n. n + length more) (length-path c ps) in
      record {
        within = there.0;
        id = ap (λ n. n % 8) there.1 ∙ (id_in command count).0;
        allowed = ap (is_allowed kind command) count_is ∙ may.allowed;
        room = subst (λ n. s + 1 + 2 * n ≤ length g) pair_count_is (omega (arith, total, there.0));
      }

  -- a command that may draw the points goes on
  pub command_drawn : first (wrong_ring kind g k s) ≡ None → Reached kind g (suc k) (s + 1 + 2 * length ps) (last_of c ps)
  command_drawn ring =
      let calm = path_calm (is_line_to (Some command)) (s + 1) c [] c ps refl may.places may.small_steps may.apart in
      goes_on r command is_due header (length ps) pair_count_is (path_from c ps) after (last_of c ps)
      (sym (ap (moved c) (pairs-path c ps) ∙ moved-between c ps))
      (ap (λ ds. first (each (pair_rules (is_line_to (Some command)) (s + 1) c) [] ds)) (pairs-path c ps) ∙ calm) ring

  pub rest_drawn : drop (s + 1 + 2 * length ps) g ≡ more
  rest_drawn =
      sym (drop-drop (2 * length ps) (s + 1) g) ∙ ap (drop (2 * length ps)) there.2
      ∙ drop_at (path_from c ps) more (2 * length ps) (length-path c ps)

  pub moves_drawn : moves kind g k ≡ pairs_between c ps
  moves_drawn =
      moves-are kind g k s r.stands.begins ∙ ap (λ (o : Option Command). pairs_at o g s) is_due
      ∙ sym (pairs_after r command is_due header (length ps) pair_count_is (path_from c ps) after) ∙ pairs-path c ps

-- lists of integers of 32 bits
pub small-drop : (n : ℕ) (xs : List ℕ) → AreSmall xs → AreSmall (drop n xs)
small-drop zero xs h = h
small-drop (suc n) [] h = h
small-drop (suc n) (x ∷ xs) h = small-drop n xs h.1

small-pairs : (xs : List ℕ) → AreSmall xs → AllByRecursion SmallPair (pairs_of xs)
small-pairs [] h = tt
small-pairs (x ∷ []) h = tt
small-pairs (x ∷ y ∷ xs) h = ((h.0, h.1.0), small-pairs xs h.1.1)

small-take : (n : ℕ) (ds : List Pair) → AllByRecursion SmallPair ds → AllByRecursion SmallPair (take n ds)
small-take zero ds h = tt
small-take (suc n) [] h = tt
small-take (suc n) (d ∷ ds) h = (h.0, small-take n ds h.1)

small_at : (xs : List ℕ) (n : ℕ) → AreSmall xs → get_or xs n 0 < 2 ^ 32
small_at [] n h = omega arith
small_at (x ∷ xs) zero h = h.0
small_at (x ∷ xs) (suc n) h = small_at xs n h.1

integer_is : (command : Command) (x : ℕ) → x % 8 ≡ id_of command → x ≡ id_of command + 8 * (x / 8)
integer_is command x e = omega (arith, e)

pub command_found : {kind : Kind} {g : List ℕ} {k s : ℕ} {c : Point} (r : Reached kind g k s c) (command : Command)
    → due kind k ≡ Some command → kind ≢ kinds.Unknown → geometry_fault kind g ≡ None
    → (s ≡ length g → may_not_end kind k ≡ true) → AreSmall g → Found kind command g k s c
unfolding wrong_pairs
command_found {kind} {g} {k} {s} {c} r command is_due known none must small =
    let calm = reached_calm known none r in
    let h = header_kept kind g k s c r.stands command is_due calm must in
    let count = get_or g s 0 / 8 in
    let n = pair_count (Some command) count in
    let parameters = take (2 * n) (drop (s + 1) g) in
    let ds = pairs_of parameters in
    let same : ds ≡ pairs_at (Some command) g s = pairs_after r command is_due h n refl parameters refl in
    let pairs_calm : first (each (pair_rules (is_line_to (Some command)) (s + 1) c) [] ds) ≡ None =
    ap (λ es. first (each (pair_rules (is_line_to (Some command)) (s + 1) c) [] es)) same
    ∙ pairs_kept kind g k s c r.stands command is_due calm in
    let small_ds : AllByRecursion SmallPair ds =
    subst (AllByRecursion SmallPair) (sym same)
    (small-take n (pairs_of (drop (s + 1) g)) (small-pairs (drop (s + 1) g) (small-drop (s + 1) g small))) in
    let path = calm_path (is_line_to (Some command)) (s + 1) c [] c ds refl small_ds pairs_calm in
    let ps = positions c ds in
    let size : length parameters ≡ 2 * n = length-take-le (2 * n) (drop (s + 1) g) (omega (arith, h.room, length-drop (s + 1) g)) in
    let long : length ps ≡ n = length-positions c ds ∙ ap length same ∙ header_pairs h in
    let may : MayDraw kind command count c ps =
    record { allowed = h.allowed; pairs = long; places = path.0; small_steps = path.1; apart = path.2 } in
    let whole : drop (s + 1) g ≡ parameters ++ drop (2 * n) (drop (s + 1) g) = sym (take-append-drop (2 * n) (drop (s + 1) g)) in
    let rest : drop (2 * n) (drop (s + 1) g) ≡ drop (s + 1 + 2 * length ps) g =
    drop-drop (2 * n) (s + 1) g ∙ ap (λ m. drop (s + 1 + 2 * m) g) (sym long) in
    let spelled : drop s g ≡ (id_of command + 8 * count) ∷ (path_from c ps ++ drop (s + 1 + 2 * length ps) g) =
    drop_more g s 0 h.within
    ∙ ap₂ (λ x xs. x ∷ xs) (integer_is command (get_or g s 0) h.id)
    (whole ∙ ap₂ (λ xs ys. xs ++ ys) (sym (path-pairs c n parameters size)) rest) in
    record {
      count = count;
      points = ps;
      may = may;
      few = let x = small_at g s small in omega (arith, x);
      spelled = spelled;
      next =
          command_drawn r command is_due count ps may (drop (s + 1 + 2 * length ps) g) spelled
          (ring_kept kind g k s c r.stands command is_due calm);
      moves_are = moves_drawn r command is_due count ps may (drop (s + 1 + 2 * length ps) g) spelled;
    }
