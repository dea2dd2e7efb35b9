-- Bytes compared with the front of others.
use Rattle.std.specs.Prelude.{◌≡◌, ◌≢◌, ℕ, List, ◌++◌, Option, MatchOption}
use Rattle.std.specs.Borrow.{Bor}

-- what stands after some bytes at the front of an input; none where it doesn't begin with them
abbrev pub IsAfter : List ℕ → List ℕ → Option (Bor (List ℕ)) → Type 0
IsAfter input front left = MatchOption left ((more : List ℕ) → input ≢ front ++ more) (λ rest. input ≡ front ++ rest.now)
