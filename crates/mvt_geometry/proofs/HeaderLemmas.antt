-- A command's rules up to its count and its room: when they are kept, and which is broken first.
use Rattle.std.proofs.Common.{ne_eqb, eq-eqb, ap₂, ◌⊎◌, inl, inr, ◌≡◌, ℕ, ◌+◌, ◌*◌, ◌/◌, ◌%◌, ◌<◌, ◌≤◌, Bool, true, false, not, ◌&&◌, ltb, eqb, List, length, get_or, Option, Some, None, refl, sym, ◌∙◌, arith}
use Rattle.std.specs.Option.{option_or}
use Rattle.std.proofs.Math.Bool.{and-false}
use Rattle.std.proofs.lemmas.Bool.{cases_lt, false≢true, true_from_ne_false}
use Rattle.std.proofs.lemmas.Bool.Decides.{nat_tests}
use Rattle.mvt_base.specs.Rules.{first, rows}
use Rattle.mvt_base.proofs.TableLemmas.{when_none}
use Rattle.mvt_base.proofs.RuleLemmas.{first-append, first-under, first-when, first-when_not, option_or-nones}
use Rattle.mvt_geometry.specs.declared.shape.Kind.{Kind}
use Rattle.mvt_geometry.specs.declared.command.Command.{Command}
use Rattle.mvt_geometry.specs.declared.fault.GeometryCause.TheVariants as causes
use Rattle.mvt_geometry.specs.Commands.{id_of, is_allowed, pair_count}
use Rattle.mvt_geometry.specs.Table.{IndexedCause, ends_early, wrong_command, wrong_count, no_room, header_rows, has_id}
use Rattle.mvt_geometry.specs.Inner.Judging.{IsHeader}

pub header_chain : (must_not : Bool) (kind : Kind) (command : Option Command) (g : List ℕ) (s : ℕ)
    → first (rows (header_rows must_not kind command g s))
    ≡ option_or (first (ends_early must_not g s))
    (option_or (first (wrong_command command g s))
    (option_or (first (wrong_count kind command g s)) (option_or (first (no_room command g s)) None)))
header_chain must_not kind command g s = simp (first-append, first-under) refl

not_at_end : (must_not : Bool) (g : List ℕ) (s : ℕ) → s < length g → first (ends_early must_not g s) ≡ None
unfolding ends_early
not_at_end must_not g s h = first-when_not {F = IndexedCause} _ (s, causes.EndsEarly) (grind (arith, nat_tests))

command_right : (c : Command) (g : List ℕ) (s : ℕ) → get_or g s 0 % 8 ≡ id_of c → first (wrong_command (Some c) g s) ≡ None
unfolding wrong_command
command_right c g s e = first-when_not {F = IndexedCause} _ (s, causes.Command) (grind (arith, nat_tests))

count_right : (kind : Kind) (c : Command) (g : List ℕ) (s : ℕ) → is_allowed kind c (get_or g s 0 / 8) ≡ true
    → first (wrong_count kind (Some c) g s) ≡ None
unfolding wrong_count
count_right kind c g s e = first-when_not {F = IndexedCause} _ (s, causes.Count) (rw e (grind (arith, nat_tests)))

room_there : (c : Option Command) (g : List ℕ) (s : ℕ) → s + 1 + 2 * pair_count c (get_or g s 0 / 8) ≤ length g
    → first (no_room c g s) ≡ None
unfolding no_room
room_there c g s h = first-when_not {F = IndexedCause} _ (s, causes.Parameters) (grind (arith, nat_tests))

-- the rows that are broken
at_end : (must_not : Bool) (g : List ℕ) (s : ℕ) → s ≡ length g → must_not ≡ true
    → first (ends_early must_not g s) ≡ Some (s, causes.EndsEarly)
unfolding ends_early
at_end must_not g s e m = first-when {F = IndexedCause} _ (s, causes.EndsEarly) (grind (arith, nat_tests))

command_wrong : (c : Option Command) (g : List ℕ) (s : ℕ) → s < length g → has_id c (get_or g s 0 % 8) ≡ false
    → first (wrong_command c g s) ≡ Some (s, causes.Command)
unfolding wrong_command
command_wrong c g s h e = first-when {F = IndexedCause} _ (s, causes.Command) (rw e (grind (arith, nat_tests)))

count_wrong : (kind : Kind) (c : Command) (g : List ℕ) (s : ℕ) → s < length g → is_allowed kind c (get_or g s 0 / 8) ≡ false
    → first (wrong_count kind (Some c) g s) ≡ Some (s, causes.Count)
unfolding wrong_count
count_wrong kind c g s h e = first-when {F = IndexedCause} _ (s, causes.Count) (rw e (grind (arith, nat_tests)))

room_missing : (c : Option Command) (g : List ℕ) (s : ℕ) → s < length g
    → length g < s + 1 + 2 * pair_count c (get_or g s 0 / 8) → first (no_room c g s) ≡ Some (s, causes.Parameters)
unfolding no_room
room_missing c g s h few = first-when {F = IndexedCause} _ (s, causes.Parameters) (grind (arith, nat_tests))

-- the exits
pub ends : (must_not : Bool) (kind : Kind) (c : Option Command) (g : List ℕ) (s : ℕ) → s ≡ length g → must_not ≡ true
    → first (rows (header_rows must_not kind c g s)) ≡ Some (s, causes.EndsEarly)
ends must_not kind c g s e m = rw (header_chain must_not kind c g s, at_end must_not g s e m) refl

pub other_command : (must_not : Bool) (kind : Kind) (c : Option Command) (g : List ℕ) (s : ℕ) → s < length g
    → has_id c (get_or g s 0 % 8) ≡ false → first (rows (header_rows must_not kind c g s)) ≡ Some (s, causes.Command)
other_command must_not kind c g s h e = rw (header_chain must_not kind c g s, not_at_end must_not g s h, command_wrong c g s h e) refl

pub wrong_id : (must_not : Bool) (kind : Kind) (c : Command) (g : List ℕ) (s : ℕ) → s < length g
    → (get_or g s 0 % 8 ≡ id_of c → ⊥) → first (rows (header_rows must_not kind (Some c) g s)) ≡ Some (s, causes.Command)
wrong_id must_not kind c g s h other = other_command must_not kind (Some c) g s h (ne_eqb _ _ other)

pub bad_count : (must_not : Bool) (kind : Kind) (c : Command) (g : List ℕ) (s : ℕ) → s < length g
    → get_or g s 0 % 8 ≡ id_of c → is_allowed kind c (get_or g s 0 / 8) ≡ false
    → first (rows (header_rows must_not kind (Some c) g s)) ≡ Some (s, causes.Count)
bad_count must_not kind c g s h id e =
    rw (header_chain must_not kind (Some c) g s, not_at_end must_not g s h, command_right c g s id, count_wrong kind c g s h e) refl

pub too_few : (must_not : Bool) (kind : Kind) (c : Command) (g : List ℕ) (s : ℕ) → s < length g → get_or g s 0 % 8 ≡ id_of c
    → is_allowed kind c (get_or g s 0 / 8) ≡ true → length g < s + 1 + 2 * pair_count (Some c) (get_or g s 0 / 8)
    → first (rows (header_rows must_not kind (Some c) g s)) ≡ Some (s, causes.Parameters)
too_few must_not kind c g s h id allowed few =
    rw (
      header_chain must_not kind (Some c) g s,
      not_at_end must_not g s h,
      command_right c g s id,
      count_right kind c g s allowed,
      room_missing (Some c) g s h few,
    )
    refl

-- a header that keeps the rules
pub header_right : (must_not : Bool) (kind : Kind) (c : Command) (g : List ℕ) (s : ℕ) → IsHeader kind c g s
    → first (rows (header_rows must_not kind (Some c) g s)) ≡ None
header_right must_not kind c g s h =
    rw (
      header_chain must_not kind (Some c) g s,
      not_at_end must_not g s h.within,
      command_right c g s h.id,
      count_right kind c g s h.allowed,
      room_there (Some c) g s h.room,
    )
    refl

-- nothing is broken after the last integer where another command need not come
pub header_over : (must_not : Bool) (kind : Kind) (c : Option Command) (g : List ℕ) (s : ℕ) → must_not ≡ false
    → length g ≤ s → first (rows (header_rows must_not kind c g s)) ≡ None
unfolding ends_early wrong_command wrong_count no_room
header_over must_not kind c g s m over =
    let t : ltb s (length g) ≡ false = grind (arith, nat_tests) in
    rw (header_chain must_not kind c g s, m, t, and-false (eqb s (length g))) refl

-- and the other way: where no rule is broken the header is there
pub header_there : (must_not : Bool) (kind : Kind) (c : Command) (g : List ℕ) (s : ℕ) → (s ≡ length g → must_not ≡ true)
    → s ≤ length g → first (rows (header_rows must_not kind (Some c) g s)) ≡ None → IsHeader kind c g s
unfolding ends_early wrong_command wrong_count no_room
header_there must_not kind c g s must le none =
    let e = sym (header_chain must_not kind (Some c) g s) ∙ none in
    let ends = option_or-nones _ _ e in
    let id = option_or-nones _ _ ends.1 in
    let count = option_or-nones _ _ id.1 in
    let room = option_or-nones _ _ count.1 in
    let h = here (when_none _ _ ends.0) in
    record {
      within = h;
      id = the_id h (when_none _ _ id.0);
      allowed = the_count h (when_none _ _ count.0);
      room = the_room h (when_none _ _ room.0);
    }
  where
    here : (eqb s (length g) && must_not) ≡ false → s < length g
    here b = by_order (cases_lt s (length g))
      where
        by_order : (s < length g) ⊎ (length g ≤ s) → s < length g
        by_order (inl h) = h
        by_order (inr h) =
            let end : s ≡ length g = omega arith in
            let t : eqb s (length g) ≡ true = eq-eqb _ _ end in
            absurd (false≢true (sym b ∙ ap₂ ◌&&◌ t (must end)))

    the_id : s < length g → (ltb s (length g) && not (eqb (get_or g s 0 % 8) (id_of c))) ≡ false → get_or g s 0 % 8 ≡ id_of c
    the_id h b = grind (arith, nat_tests)

    the_count : s < length g → (ltb s (length g) && not (is_allowed kind c (get_or g s 0 / 8))) ≡ false
        → is_allowed kind c (get_or g s 0 / 8) ≡ true
    the_count h b =
        let t : ltb s (length g) ≡ true = grind (arith, nat_tests) in
        true_from_ne_false (is_allowed kind c (get_or g s 0 / 8))
        (λ is. absurd (false≢true (sym b ∙ ap₂ (λ x y. x && not y) t is)))

    the_room : s < length g
        → (ltb s (length g) && ltb (length g) (s + 1 + 2 * pair_count (Some c) (get_or g s 0 / 8))) ≡ false
        → s + 1 + 2 * pair_count (Some c) (get_or g s 0 / 8) ≤ length g
    the_room h b = grind (arith, nat_tests)
