-- Fields by their number (Protocol Buffers, Encoding, "Message Structure", "Last One Wins").
use Rattle.std.specs.Prelude.{◌≡◌, ℕ, ◌==◌, List, [], ◌∷◌, Option, None, filter, if◌then◌else◌}
use Rattle.std.specs.List.{AllByRecursion, last_or}
use Rattle.mvt_wire.specs.Field.{Content, Entry}
use Rattle.mvt_wire.specs.Spelling.{Plain}

-- the fields of this number, in order
abbrev pub only : ℕ → List Entry → List Entry
only k xs = filter (λ (x : Entry). x.number == k) xs

-- the last field of this number
abbrev pub last_only : ℕ → List Entry → Option Entry
last_only k xs = last_or None (only k xs)

-- each field of this number has this form
abbrev pub HaveForm : ℕ → (Content → Type 0) → List Entry → Type 0
HaveForm k Form xs = AllByRecursion (λ (x : Entry). x.number ≡ k → Form x.content) xs

-- the contents of the fields of a number
abbrev pub contents_at : ℕ → List Plain → List Content
contents_at k [] = []
contents_at k (p ∷ ps) = if p.number == k then p.content ∷ contents_at k ps else contents_at k ps

-- fields of which those of each number are the same, in their order
abbrev pub AreAlike : List Plain → List Plain → Type 0
AreAlike ps qs = (k : ℕ) → contents_at k ps ≡ contents_at k qs
