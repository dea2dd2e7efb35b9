-- A list of bytes as fields: Protocol Buffers, Encoding, "Message Structure".
use Rattle.std.specs.Prelude.{◌≡◌, ℕ, zero, suc, ◌+◌, List, [], ◌∷◌, ◌++◌, length, drop, map, Ok, Err}
use Rattle.mvt_wire.specs.Field.{Entry, IsFieldAt, StartsNoField}
use Rattle.mvt_wire.specs.Fronts.{entry_at}

-- b is the spellings of the fields, the first of which stands at this place, and then the rest, which begins with no field
abbrev pub SplitFrom : ℕ → List ℕ → List Entry → List ℕ → Type 0
SplitFrom at b [] rest = (b ≡ rest) × StartsNoField rest
SplitFrom at b (e ∷ es) rest =
    (front back : List ℕ) × (b ≡ front ++ back) × IsFieldAt at front e × SplitFrom (at + length front) back es rest

-- bytes are these fields in order, and a rest that is no field
abbrev pub Split : List ℕ → List Entry → List ℕ → Type 0
Split b es rest = SplitFrom 0 b es rest

-- b is these fields and nothing else
abbrev pub Whole : List ℕ → List Entry → Type 0
Whole b es = Split b es []

-- the same as a function, by the law `split_function`: the fields, then the rest and its place
pub record Parts : Type 0 where
  pub fields : List Entry
  pub rest_at : ℕ
  pub rest : List ℕ

-- a field in front of a split
abbrev pub behind : Entry → Parts → Parts
behind e parts = record { fields = e ∷ parts.fields; rest_at = parts.rest_at; rest = parts.rest }

-- no field, and the rest at this place
abbrev pub no_fields : ℕ → List ℕ → Parts
no_fields at b = record { fields = []; rest_at = at; rest = b }

-- the split into at most n fields
unfoldable pub split_within : ℕ → ℕ → List ℕ → Parts
split_within zero at b = no_fields at b
split_within (suc n) at b =
    elim (entry_at at b) [ Ok found ↦ behind found.0 (split_within n (at + found.1) (drop found.1 b)) | Err cause ↦ no_fields at b ]

-- the split of what stands at this place; each field takes a byte at least
unfoldable pub split_from : ℕ → List ℕ → Parts
split_from at b = split_within (length b) at b

-- the fields of bytes, and their rest
abbrev pub split : List ℕ → Parts
split b = split_from 0 b

-- a field, and a split, k bytes further on
abbrev pub shifted : ℕ → Entry → Entry
shifted k e = record { at = k + e.at; body = k + e.body; number = e.number; content = e.content }

-- the same fields, k bytes further on
abbrev pub shifted_parts : ℕ → Parts → Parts
shifted_parts k parts = record { fields = map (shifted k) parts.fields; rest_at = k + parts.rest_at; rest = parts.rest }
