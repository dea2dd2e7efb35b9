-- Counts of calls.
use Rattle.std.specs.Prelude.{ℕ, ◌+◌, ◌-◌, ◌^◌, min, Result, Ok, Err}

-- where a count stops
abbrev pub last_count : ℕ
last_count = 2 ^ 64 - 1

-- a count after one more call
abbrev pub counted : ℕ → ℕ
counted n = min (n + 1) last_count

-- how many bytes a read gave
abbrev pub given_by : {E : Type 0} → Result ℕ E → ℕ
given_by (Ok n) = n
given_by (Err e) = 0
