use Rattle.std.proofs.Common.{◌-◌, ◌≤◌, length, string_bytes}
use Rattle.std.specs.Str.{IsCharBoundary}
use Rattle.mvt_base.specs.Related.{Extends}
use Rattle.mvt_view.proofs.QuotedLemmas.{HasCome}
use Rattle.mvt_view.proofs.quoted.push_runs.Given as goal

abbrev pub invariant-loop-text : goal.invariant-loop-text
invariant-loop-text l =
    (l.at ≤ length l.plain) × IsCharBoundary l.plain l.at × HasCome (string_bytes l.fn.text) (string_bytes l.text) l.plain l.at
    × Extends (string_bytes l.fn.text) (string_bytes l.text)

abbrev pub decreases-loop-text : goal.decreases-loop-text
decreases-loop-text l = length l.plain - l.at
