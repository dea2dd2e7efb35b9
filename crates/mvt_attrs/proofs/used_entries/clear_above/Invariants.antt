use Rattle.std.proofs.Common.{◌≡◌, ℕ, ◌<◌, ◌≤◌, get_or}
use Rattle.mvt_attrs.proofs.used_entries.clear_above.Given as goal

abbrev pub invariant-loop-mark : goal.invariant-loop-mark
invariant-loop-mark l = record {
  done : (k : ℕ) → k < l.mark-index
      → (get_or l.fn.marks.items k 0 ≤ l.count → get_or l.mark-items k 0 ≡ get_or l.fn.marks.items k 0)
      × (l.count < get_or l.fn.marks.items k 0 → get_or l.mark-items k 0 ≡ 0);
  rest : (k : ℕ) → l.mark-index ≤ k → get_or l.mark-items k 0 ≡ get_or l.fn.marks.items k 0;
}
