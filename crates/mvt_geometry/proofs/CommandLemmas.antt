-- From one command to the next: where it begins, its pairs, and the fault of the whole list.
use Rattle.std.proofs.Common.{◌≡◌, ◌≢◌, ℕ, zero, suc, ◌+◌, ◌-◌, ◌*◌, ◌/◌, ◌<◌, ◌≤◌, Bool, true, false, ltb, eqb, List, [], ◌∷◌, ◌++◌, length, get_or, take, drop, Option, Some, None, pos, ◌⊎◌, inl, inr, option_and_then, if◌then◌else◌, refl, sym, ap, ap₂, subst, ◌∙◌, arith}
use Rattle.std.specs.Option.{option_or}
use Rattle.std.proofs.lemmas.List.{get_or_past}
use Rattle.std.proofs.lemmas.Bool.Decides.{nat_tests}
use Rattle.std.proofs.lemmas.Bool.{cases_eq, ne_eqb}
use Rattle.mvt_base.specs.Rules.{Rules, first, rows, under, each}
use Rattle.mvt_base.proofs.RuleLemmas.{first-append, first-under, first_back, first_front, option_or-nones, option_or-right}
use Rattle.mvt_geometry.proofs.HeaderLemmas.{header_right, header_there, header_over, ends, other_command}
use Rattle.mvt_geometry.specs.declared.shape.Point.{Point}
use Rattle.mvt_geometry.specs.declared.shape.Kind.{Kind}
use Rattle.mvt_geometry.specs.declared.shape.Kind.TheVariants as kinds
use Rattle.mvt_geometry.specs.declared.command.Command.{Command}
use Rattle.mvt_geometry.specs.declared.command.Command.TheVariants.{MoveTo, LineTo, ClosePath}
use Rattle.mvt_geometry.specs.declared.fault.GeometryCause.TheVariants as causes
use Rattle.mvt_geometry.specs.Shape.{origin}
use Rattle.mvt_geometry.specs.Commands.{Pair, due, may_not_end, pair_count, pairs_of, pairs_at, start, moves, moved, cursor}
use Rattle.mvt_geometry.specs.Table.{IndexedCause, is_line_to, pair_rules, header_rows, wrong_pairs, wrong_ring, command_rules, rules_at, rules_of_first, geometry_rules, geometry_fault}
use Rattle.mvt_geometry.specs.Inner.Judging.{IsHeader, Stands, Reached}

rows-append : {F : Type 0} → (xs ys : List (ℕ × Rules F)) → first (rows (xs ++ ys)) ≡ option_or (first (rows xs)) (first (rows ys))
rows-append [] ys = refl
rows-append (x ∷ xs) ys =
    let more = rows-append xs ys in
    first-append (under x.0 x.1) (rows (xs ++ ys)) ∙ ap (λ o. option_or (first (under x.0 x.1)) o) more
    ∙ option_or-assoc (first (under x.0 x.1)) (first (rows xs)) (first (rows ys))
    ∙ sym (ap (λ o. option_or o (first (rows ys))) (first-append (under x.0 x.1) (rows xs)))
  where
    option_or-assoc : {F : Type 0} → (a b c : Option F) → option_or a (option_or b c) ≡ option_or (option_or a b) c
    option_or-assoc None b c = refl
    option_or-assoc (Some x) b c = refl

-- the rules of a command: those of its header, then those of its pairs and of a first ring
pub command_chain : (kind : Kind) (g : List ℕ) (k s : ℕ)
    → first (command_rules kind g k s)
    ≡ option_or (first (rows (header_rows (may_not_end kind k) kind (due kind k) g s)))
    (option_or (first (wrong_pairs (due kind k) (cursor kind g k) g s)) (first (wrong_ring kind g k s)))
unfolding command_rules
command_chain kind g k s =
    rows-append (header_rows (may_not_end kind k) kind (due kind k) g s)
    ((4, wrong_pairs (due kind k) (cursor kind g k) g s) ∷ (5, wrong_ring kind g k s) ∷ [])
    ∙ ap (λ o. option_or (first (rows (header_rows (may_not_end kind k) kind (due kind k) g s))) o)
    (simp (first-append, first-under, option_or-right) refl)

-- the fault of the first commands, one more, and all
pub at_command : (kind : Kind) (g : List ℕ) (k : ℕ) (o : Option ℕ) → first (rules_of_first kind g k) ≡ None
    → start kind g k ≡ o → first (rules_of_first kind g (suc k)) ≡ first (rules_at kind g k o)
unfolding rules_of_first
at_command kind g k o none e =
    first_back (rules_of_first kind g k) (under k (rules_at kind g k (start kind g k))) none
    ∙ first-under k (rules_at kind g k (start kind g k)) ∙ ap (λ p. first (rules_at kind g k p)) e

pub more_commands : (kind : Kind) (g : List ℕ) (k : ℕ) (f : IndexedCause) → first (rules_of_first kind g k) ≡ Some f
    → (j : ℕ) → first (rules_of_first kind g (j + k)) ≡ Some f
unfolding rules_of_first
more_commands kind g k f e zero = let n : 0 + k ≡ k = omega arith in rw n e
more_commands kind g k f e (suc j) =
    let n : suc j + k ≡ suc (j + k) = omega arith in
    rw n
    (first_front (rules_of_first kind g (j + k)) (under (j + k) (rules_at kind g (j + k) (start kind g (j + k)))) f
    (more_commands kind g k f e j))

pub fault_is : (kind : Kind) (g : List ℕ) → kind ≢ kinds.Unknown → geometry_fault kind g ≡ first (rules_of_first kind g (suc (length g)))
unfolding geometry_fault geometry_rules
fault_is kinds.Unknown g known = absurd (known refl)
fault_is kinds.Point g known = refl
fault_is kinds.LineString g known = refl
fault_is kinds.Polygon g known = refl

-- a command needs an integer
pub start-least : (kind : Kind) (g : List ℕ) (k s : ℕ) → start kind g k ≡ Some s → k ≤ s
unfolding start
start-least kind g zero s e = omega arith
start-least kind g (suc k) s e = more (start kind g k) (λ t. start-least kind g k t) e
  where
    more : (o : Option ℕ) → ((t : ℕ) → o ≡ Some t → k ≤ t)
        → option_and_then
        (λ t. if ltb t (length g) then Some (t + 1 + 2 * pair_count (due kind k) (get_or g t 0 / 8)) else None) o
        ≡ Some s
        → suc k ≤ s
    more None least e = cc
    more (Some t) least e = here (ltb t (length g)) (least t refl) e
      where
        here : (b : Bool) → k ≤ t → (if b then Some (t + 1 + 2 * pair_count (due kind k) (get_or g t 0 / 8)) else None) ≡ Some s → suc k ≤ s
        here true l e = let is : t + 1 + 2 * pair_count (due kind k) (get_or g t 0 / 8) ≡ s = cc in omega arith
        here false l e = cc

pub first_start : (kind : Kind) (g : List ℕ) (s : ℕ) → start kind g 0 ≡ Some s → 0 ≡ s
unfolding start
first_start kind g s e = cc

pub start-next : (kind : Kind) (g : List ℕ) (k s : ℕ) → start kind g k ≡ Some s → s < length g
    → start kind g (suc k) ≡ Some (s + 1 + 2 * pair_count (due kind k) (get_or g s 0 / 8))
unfolding start
start-next kind g k s e h = let t : ltb s (length g) ≡ true = grind (arith, nat_tests) in rw (e, t) refl

pub start-over : (kind : Kind) (g : List ℕ) (k s : ℕ) → start kind g k ≡ Some s → length g ≤ s → start kind g (suc k) ≡ None
unfolding start
start-over kind g k s e h = let t : ltb s (length g) ≡ false = grind (arith, nat_tests) in rw (e, t) refl

pub start-none : (kind : Kind) (g : List ℕ) (k : ℕ) → start kind g k ≡ None → start kind g (suc k) ≡ None
unfolding start
start-none kind g k e = rw e refl

pub moves-are : (kind : Kind) (g : List ℕ) (k s : ℕ) → start kind g k ≡ Some s → moves kind g k ≡ pairs_at (due kind k) g s
unfolding moves
moves-are kind g k s e = rw e refl

pub cursor-next : (kind : Kind) (g : List ℕ) (k : ℕ) → cursor kind g (suc k) ≡ moved (cursor kind g k) (moves kind g k)
unfolding cursor
cursor-next kind g k = refl

pub first_cursor : (kind : Kind) (g : List ℕ) → cursor kind g 0 ≡ origin
unfolding cursor
first_cursor kind g = refl

pub first_command : (kind : Kind) (g : List ℕ) → Reached kind g 0 0 (record { x = pos 0; y = pos 0 })
unfolding start cursor rules_of_first
first_command kind g = record { stands = record { begins = refl; cursor_is = refl; within = omega arith }; before = refl }

-- a command is due in a geometry of known type alone
pub is_known : (kind : Kind) (k : ℕ) (c : Command) → due kind k ≡ Some c → kind ≢ kinds.Unknown
is_known kinds.Unknown k c e = cc
is_known kinds.Point k c e = λ same. cc
is_known kinds.LineString k c e = λ same. cc
is_known kinds.Polygon k c e = λ same. cc

-- every fault goes through here
pub stops : {kind : Kind} {g : List ℕ} {k s : ℕ} {c : Point} → (f : IndexedCause) → kind ≢ kinds.Unknown
    → Reached kind g k s c → first (command_rules kind g k s) ≡ Some f → geometry_fault kind g ≡ Some f
stops {kind} {g} {k} {s} f known r e =
    let least = start-least kind g k s r.stands.begins in
    let here : first (rules_of_first kind g (suc k)) ≡ Some f = at_command kind g k (Some s) r.before r.stands.begins ∙ e in
    let n : (length g - k) + suc k ≡ suc (length g) = omega (arith, r.stands.within) in
    fault_is kind g known ∙ ap (λ m. first (rules_of_first kind g m)) (sym n) ∙ more_commands kind g (suc k) f here (length g - k)

-- nothing is after the end
calm_after : (kind : Kind) (g : List ℕ) (k : ℕ) → first (rules_of_first kind g k) ≡ None → start kind g k ≡ None → (j : ℕ)
    → (first (rules_of_first kind g (j + k)) ≡ None) × (start kind g (j + k) ≡ None)
calm_after kind g k none e zero = let n : 0 + k ≡ k = omega arith in rw n (none, e)
calm_after kind g k none e (suc j) =
    let before = calm_after kind g k none e j in
    let n : suc j + k ≡ suc (j + k) = omega arith in
    rw n (at_command kind g (j + k) None before.0 before.1, start-none kind g (j + k) before.1)

-- the commands are over where another need not come
pub ends_well : {kind : Kind} {g : List ℕ} {k s : ℕ} {c : Point} → kind ≢ kinds.Unknown → Reached kind g k s c
    → first (command_rules kind g k s) ≡ None → length g ≤ s → geometry_fault kind g ≡ None
ends_well {kind} {g} {k} {s} known r none over =
    let least = start-least kind g k s r.stands.begins in
    let here : first (rules_of_first kind g (suc k)) ≡ None = at_command kind g k (Some s) r.before r.stands.begins ∙ none in
    let n : (length g - k) + suc k ≡ suc (length g) = omega (arith, r.stands.within) in
    fault_is kind g known ∙ ap (λ m. first (rules_of_first kind g m)) (sym n)
    ∙ (calm_after kind g (suc k) here (start-over kind g k s r.stands.begins over) (length g - k)).0

-- the parameters of n pairs
pub pairs-take : (n m : ℕ) (xs : List ℕ) → m ≡ 2 * n → pairs_of (take m xs) ≡ take n (pairs_of xs)
pairs-take zero m xs e = let z : m ≡ 0 = omega (arith, e) in rw z refl
pairs-take (suc n) m [] e = let z : m ≡ suc (suc (2 * n)) = omega (arith, e) in rw z refl
pairs-take (suc n) m (x ∷ []) e = let z : m ≡ suc (suc (2 * n)) = omega (arith, e) in rw z refl
pairs-take (suc n) m (x ∷ y ∷ xs) e =
    let z : m ≡ suc (suc (2 * n)) = omega (arith, e) in
    let d : Pair = record { dx = x; dy = y } in
    rw z (ap (λ ps. d ∷ ps) (pairs-take n (2 * n) xs refl))

-- the first ring is judged at its ClosePath alone
pub no_ring : (kind : Kind) (g : List ℕ) (k s : ℕ) → due kind k ≢ Some ClosePath → first (wrong_ring kind g k s) ≡ None
unfolding wrong_ring
no_ring kinds.Unknown g k s other = refl
no_ring kinds.Point g k s other = refl
no_ring kinds.LineString g k s other = refl
no_ring kinds.Polygon g k s other = by_two (cases_eq k 2)
  where
    by_two : (k ≡ 2) ⊎ (k ≢ 2) → first (wrong_ring kinds.Polygon g k s) ≡ None
    by_two (inl e) = absurd (other (rw e refl))
    by_two (inr e) = let t : eqb k 2 ≡ false = ne_eqb k 2 e in rw t refl

pub chain_at : (kind : Kind) (g : List ℕ) (k s : ℕ) (o : Option Command) (c : Point) → due kind k ≡ o → cursor kind g k ≡ c
    → first (command_rules kind g k s)
    ≡ option_or (first (rows (header_rows (may_not_end kind k) kind o g s)))
    (option_or (first (wrong_pairs o c g s)) (first (wrong_ring kind g k s)))
chain_at kind g k s o c e f =
    command_chain kind g k s
    ∙ ap₂
    (λ (d : Option Command) (p : Point). option_or (first (rows (header_rows (may_not_end kind k) kind d g s)))
    (option_or (first (wrong_pairs d p g s)) (first (wrong_ring kind g k s))))
    e f

module _ {kind : Kind} {g : List ℕ} {k s : ℕ} {c : Point} (r : Reached kind g k s c) (command : Command)
    (is_due : due kind k ≡ Some command) where
  pub header_stops : (f : IndexedCause) → first (rows (header_rows (may_not_end kind k) kind (Some command) g s)) ≡ Some f
      → geometry_fault kind g ≡ Some f
  header_stops f e =
      stops f (is_known kind k command is_due) r
      (chain_at kind g k s (Some command) c is_due r.stands.cursor_is
      ∙ ap (λ o. option_or o (option_or (first (wrong_pairs (Some command) c g s)) (first (wrong_ring kind g k s)))) e)

  pub after_header : IsHeader kind command g s
      → first (command_rules kind g k s) ≡ option_or (first (wrong_pairs (Some command) c g s)) (first (wrong_ring kind g k s))
  after_header h =
      chain_at kind g k s (Some command) c is_due r.stands.cursor_is
      ∙ ap (λ o. option_or o (option_or (first (wrong_pairs (Some command) c g s)) (first (wrong_ring kind g k s))))
      (header_right (may_not_end kind k) kind command g s h)

  module _ (h : IsHeader kind command g s) (n : ℕ) (count : n ≡ pair_count (Some command) (get_or g s 0 / 8))
      (parameters : List ℕ) (after : parameters ≡ take (2 * n) (drop (s + 1) g)) where
    pub pairs_after : pairs_of parameters ≡ pairs_at (Some command) g s
    pairs_after = ap pairs_of after ∙ pairs-take n (2 * n) (drop (s + 1) g) refl ∙ ap (λ m. take m (pairs_of (drop (s + 1) g))) count

    rules_after : first (wrong_pairs (Some command) c g s)
        ≡ first (each (pair_rules (is_line_to (Some command)) (s + 1) c) [] (pairs_of parameters))
    unfolding wrong_pairs
    rules_after = ap (λ ds. first (each (pair_rules (is_line_to (Some command)) (s + 1) c) [] ds)) (sym pairs_after)

    pub pairs_stop : (f : IndexedCause)
        → first (each (pair_rules (is_line_to (Some command)) (s + 1) c) [] (pairs_of parameters)) ≡ Some f
        → geometry_fault kind g ≡ Some f
    pairs_stop f e =
        stops f (is_known kind k command is_due) r
        (after_header h ∙ ap (λ o. option_or o (first (wrong_ring kind g k s))) (rules_after ∙ e))

    pub stands_next : (to : Point) → to ≡ moved c (pairs_of parameters) → Stands kind g (suc k) (s + 1 + 2 * n) to
    stands_next to e =
        let next = start-next kind g k s r.stands.begins h.within in
        let due_count = ap (λ (o : Option Command). s + 1 + 2 * pair_count o (get_or g s 0 / 8)) is_due in
        record {
          begins = next ∙ ap Some (due_count ∙ ap (λ m. s + 1 + 2 * m) (sym count));
          cursor_is =
              cursor-next kind g k
              ∙ ap₂ moved r.stands.cursor_is
              (moves-are kind g k s r.stands.begins ∙ ap (λ (o : Option Command). pairs_at o g s) is_due ∙ sym pairs_after)
              ∙ sym e;
          within = omega (arith, h.room, count);
        }

    pub rules_left : first (each (pair_rules (is_line_to (Some command)) (s + 1) c) [] (pairs_of parameters)) ≡ None
        → first (command_rules kind g k s) ≡ first (wrong_ring kind g k s)
    rules_left e = after_header h ∙ ap (λ o. option_or o (first (wrong_ring kind g k s))) (rules_after ∙ e)

    pub goes_on : (to : Point) → to ≡ moved c (pairs_of parameters)
        → first (each (pair_rules (is_line_to (Some command)) (s + 1) c) [] (pairs_of parameters)) ≡ None
        → first (wrong_ring kind g k s) ≡ None → Reached kind g (suc k) (s + 1 + 2 * n) to
    goes_on to e none ring =
        record { stands = stands_next to e; before = at_command kind g k (Some s) r.before r.stands.begins ∙ rules_left none ∙ ring }

-- no pairs are after the end
pairs_over : (o : Option Command) (g : List ℕ) (s : ℕ) → length g ≤ s → pairs_at o g s ≡ []
pairs_over o g s over = let zero_there : get_or g s 0 ≡ 0 = get_or_past g s 0 over in rw zero_there (none o (pairs_of (drop (s + 1) g)))
  where
    none : (o : Option Command) (ds : List Pair) → take (pair_count o (0 / 8)) ds ≡ []
    none None ds = refl
    none (Some MoveTo) ds = refl
    none (Some LineTo) ds = refl
    none (Some ClosePath) ds = refl

-- the commands are over where the next one may be left out
pub may_end : {kind : Kind} {g : List ℕ} {k s : ℕ} {c : Point} → kind ≢ kinds.Unknown → Reached kind g k s c → length g ≤ s
    → may_not_end kind k ≡ false → due kind k ≢ Some ClosePath → geometry_fault kind g ≡ None
unfolding wrong_pairs
may_end {kind} {g} {k} {s} known r over may other =
    ends_well known r
    (command_chain kind g k s ∙ ap₂ option_or (header_over (may_not_end kind k) kind (due kind k) g s may over) refl
    ∙ ap₂ option_or pairs (no_ring kind g k s other))
    over
  where
    pairs : first (wrong_pairs (due kind k) (cursor kind g k) g s) ≡ None
    pairs =
        ap (λ ds. first (each (pair_rules (is_line_to (due kind k)) (s + 1) (cursor kind g k)) [] ds))
        (pairs_over (due kind k) g s over)

-- an empty list
pub empty_ends : (kind : Kind) (g : List ℕ) → kind ≢ kinds.Unknown → length g ≡ 0 → geometry_fault kind g ≡ Some (0, causes.EndsEarly)
empty_ends kind g known e =
    header_stops (first_command kind g) MoveTo (first_due kind known) (0, causes.EndsEarly)
    (ends (may_not_end kind 0) kind (Some MoveTo) g 0 (sym e) refl)
  where
    first_due : (kind : Kind) → kind ≢ kinds.Unknown → due kind 0 ≡ Some MoveTo
    first_due kinds.Unknown known = absurd (known refl)
    first_due kinds.Point known = refl
    first_due kinds.LineString known = refl
    first_due kinds.Polygon known = refl

-- points have one command
pub one_command : {g : List ℕ} {s : ℕ} {c : Point} → Reached kinds.Point g 1 s c → s < length g
    → geometry_fault kinds.Point g ≡ Some (s, causes.Command)
one_command {g} {s} {c} r h =
    stops (s, causes.Command) (λ same. cc) r
    (chain_at kinds.Point g 1 s None c refl r.stands.cursor_is
    ∙ ap (λ o. option_or o (option_or (first (wrong_pairs None c g s)) (first (wrong_ring kinds.Point g 1 s))))
    (other_command (may_not_end kinds.Point 1) kinds.Point None g s h refl))

pub unknown_calm : (g : List ℕ) → geometry_fault kinds.Unknown g ≡ None
unfolding geometry_fault geometry_rules
unknown_calm g = refl

pub at_first : {kind : Kind} {g : List ℕ} {k s : ℕ} {c : Point} → Reached kind g k s c → (k ≡ 0 → s ≡ 0) × (s ≡ 0 → k ≡ 0)
at_first {kind} {g} {k} {s} r =
    let least = start-least kind g k s r.stands.begins in
    (λ e. sym (first_start kind g s (subst (λ n. start kind g n ≡ Some s) e r.stands.begins)), λ e. omega arith)

begins_at_none : (kind : Kind) (g : List ℕ) (s k : ℕ) → start kind g k ≡ Some s → 0 < s → 0 < k
begins_at_none kind g s zero e h = let zero_is : 0 ≡ s = first_start kind g s e in omega arith
begins_at_none kind g s (suc k) e h = omega arith

pub some_command : {kind : Kind} {g : List ℕ} {k s : ℕ} {c : Point} → Reached kind g k s c → 0 < s → 0 < k
some_command {kind} {g} {k} {s} r h = begins_at_none kind g s k r.stands.begins h

-- what holds of a command that breaks no rule
module _ (kind : Kind) (g : List ℕ) (k s : ℕ) (c : Point) (stands : Stands kind g k s c) (command : Command)
    (is_due : due kind k ≡ Some command) (none : first (command_rules kind g k s) ≡ None) where
  parts : (first (rows (header_rows (may_not_end kind k) kind (Some command) g s)) ≡ None)
      × (first (wrong_pairs (Some command) c g s) ≡ None) × (first (wrong_ring kind g k s) ≡ None)
  parts =
      let e = sym (chain_at kind g k s (Some command) c is_due stands.cursor_is) ∙ none in
      let front =
      option_or-nones (first (rows (header_rows (may_not_end kind k) kind (Some command) g s)))
      (option_or (first (wrong_pairs (Some command) c g s)) (first (wrong_ring kind g k s))) e in
      let back = option_or-nones (first (wrong_pairs (Some command) c g s)) (first (wrong_ring kind g k s)) front.1 in
      (front.0, back.0, back.1)

  pub header_kept : (s ≡ length g → may_not_end kind k ≡ true) → IsHeader kind command g s
  header_kept must = header_there (may_not_end kind k) kind command g s must stands.within parts.0

  pub pairs_kept : first (wrong_pairs (Some command) c g s) ≡ None
  pairs_kept = parts.1

  pub ring_kept : first (wrong_ring kind g k s) ≡ None
  ring_kept = parts.2

-- a command before one that is reached breaks no rule
pub kept_before : {kind : Kind} {g : List ℕ} {k s t : ℕ} {c d : Point} → Reached kind g k s c → Reached kind g (suc k) t d
    → first (command_rules kind g k s) ≡ None
kept_before {kind} {g} {k} {s} r next = sym (at_command kind g k (Some s) r.before r.stands.begins) ∙ next.before

-- where the whole list has no fault, no command that is reached breaks a rule
front_calm : (kind : Kind) (g : List ℕ) (k j : ℕ) → first (rules_of_first kind g (j + k)) ≡ None → first (rules_of_first kind g k) ≡ None
unfolding rules_of_first
front_calm kind g k zero none = let n : 0 + k ≡ k = omega arith in rw n at none
front_calm kind g k (suc j) none =
    let n : suc j + k ≡ suc (j + k) = omega arith in
    let more = subst (λ m. first (rules_of_first kind g m) ≡ None) n none in
    front_calm kind g k j
    (option_or-nones _ _ (sym (first-append (rules_of_first kind g (j + k)) _) ∙ more)).0

pub reached_calm : {kind : Kind} {g : List ℕ} {k s : ℕ} {c : Point} → kind ≢ kinds.Unknown → geometry_fault kind g ≡ None
    → Reached kind g k s c → first (command_rules kind g k s) ≡ None
reached_calm {kind} {g} {k} {s} known none r =
    let least = start-least kind g k s r.stands.begins in
    let n : (length g - k) + suc k ≡ suc (length g) = omega (arith, r.stands.within) in
    let all = subst (λ m. first (rules_of_first kind g m) ≡ None) (sym n) (sym (fault_is kind g known) ∙ none) in
    sym (at_command kind g k (Some s) r.before r.stands.begins) ∙ front_calm kind g (suc k) (length g - k) all
