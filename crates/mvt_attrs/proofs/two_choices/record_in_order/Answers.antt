use Rattle.std.proofs.Common.{◌≡◌, Some, cond, length, Decides, subst}
use Rattle.std.specs.Ordering.{is_eq}
use Rattle.std.specs.BTreeMap.{get}
use Rattle.mvt_attrs.specs.Inner.Choosing.{first_slot, second_slot}
use Rattle.mvt_attrs.proofs.TwoChoicesLemmas.{known_in_order, sound_in_order}
use Rattle.mvt_attrs.proofs.two_choices.record_in_order.Goals as goal

pub returns-clause-added : goal.returns-clause-added
returns-clause-added g c =
    let cmp = g.T.Ord.cmp in
    let input = g.T.Hash.hash_input in
    let entries = c.args.entries.now in
    let entry = c.args.entry.now in
    let slots = c.args.two_choices.now.slots.items in
    let room = length slots in
    let order = get cmp c.args.two_choices.now.overflow in
    let decides : (x : g.row.T.Denot) → Decides (is_eq (cmp entry x)) (entry ≡ x) =
    λ x. subst (λ b. Decides b (entry ≡ x)) (g.met.T.Ord.matches_eq entry x) (g.met.T.Entry.identical entry x) in
    let updated : (x : g.row.T.Denot) → get cmp c.insert.new.self x ≡ cond (is_eq (cmp entry x)) (Some (length entries)) (order x) =
    subst (λ e. (x : g.row.T.Denot) → get cmp c.insert.new.self x ≡ cond (is_eq (cmp e x)) (Some (length entries)) (order x))
    c.in_ok-copied.ensures c.in_ok-insert.ensures.updates.0 in
    record {
      room = c.requires.known.room;
      known = known_in_order entries entry (first_slot input room) (second_slot input room) slots order c.requires.new
          (λ x. is_eq (cmp entry x)) decides (get cmp c.insert.new.self) updated c.requires.known.known c.requires.taken.0
          c.requires.taken.1;
      sound = sound_in_order entries entry (first_slot input room) (second_slot input room) slots order c.requires.new
          (λ x. is_eq (cmp entry x)) decides (get cmp c.insert.new.self) updated c.requires.known.sound;
    }
