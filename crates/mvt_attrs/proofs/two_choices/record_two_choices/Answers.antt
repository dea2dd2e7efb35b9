use Rattle.std.proofs.Common.{◌≡◌, ◌+◌, ◌++◌, ◌∷◌, [], Some, ℕ, length, slice_get, slice_set, sym, subst, arith}
use Rattle.std.proofs.lemmas.List.{length-set}
use Rattle.std.specs.BTreeMap.{get}
use Rattle.mvt_attrs.specs.Inner.Choosing.{first_slot, second_slot, IsFreeFor}
use Rattle.mvt_attrs.proofs.PoolLemmas.{slice_get-front}
use Rattle.mvt_attrs.proofs.TwoChoicesLemmas.{Stands, known_in_slot}
use Rattle.mvt_attrs.proofs.two_choices.record_two_choices.Goals as goal

pub returns-clause-added : goal.returns-clause-added
returns-clause-added g c =
    let input = g.T.Hash.hash_input in
    let entries = c.args.entries.now in
    let entry = c.args.entry.now in
    let slots = c.args.two_choices.now.slots.items in
    let room = length slots in
    let order = get g.T.Ord.cmp c.args.two_choices.now.overflow in
    let slot = c.in-Some.slot in
    let free : IsFreeFor input c.args.two_choices.now entry (Some slot) =
    subst (IsFreeFor input c.args.two_choices.now entry) c.in-Some.is c.requires.free in
    let marked = slice_set slots slot (length entries + 1) in
    let kept : length marked ≡ room = length-set slots slot (length entries + 1) in
    record {
      room = omega (arith, kept, c.requires.known.room);
      known =
          subst
          (λ n. (i : ℕ) (x : g.row.T.Denot) → slice_get (entries ++ entry ∷ []) i ≡ Some x
          → Stands entries entry (first_slot input n) (second_slot input n) slots order marked order i x)
          (sym kept)
          (known_in_slot entries entry (first_slot input room) (second_slot input room) slots order c.requires.known.known slot free);
      sound = λ i x e. slice_get-front entries (entry ∷ []) i x (c.requires.known.sound i x e);
    }
