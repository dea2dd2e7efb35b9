-- Runs of bytes that stand in a string of JSON as they are. Only the crate's private clauses cite it.
use Rattle.std.specs.Prelude.{◌≡◌, ℕ, ◌-◌, ◌≤◌, List, ◌++◌, length, take, drop}
use Rattle.json.specs.Print.{escape}

-- the bytes of a text from one place to another are such a run
abbrev pub RunsTo : List ℕ → ℕ → ℕ → Type 0
RunsTo text from end =
    (from ≤ end) × (end ≤ length text) × (escape (drop from text) ≡ take (end - from) (drop from text) ++ escape (drop end text))
