-- The first bytes of an input, one more than the limit, tell the same as the whole of it.
use Rattle.std.proofs.Common.{◌≡◌, ℕ, ◌+◌, List, take, ap, ap₂}
use Rattle.std.specs.List.{flat_map}
use Rattle.mvt_base.proofs.ListLemmas.{take_front, too_long}
use Rattle.mvt_wire.specs.Split.{split}
use Rattle.mvt_view.specs.FieldLines.{field_line, fields_lines, fields_fault, rest_fault}

pub fields_lines-front : (limit : ℕ) (input : List ℕ) → fields_lines limit (take (limit + 1) input) ≡ fields_lines limit input
unfolding fields_lines
fields_lines-front limit input = ap (λ front. flat_map field_line (split front).fields) (take_front limit input)

pub fields_fault-front : (limit : ℕ) (input : List ℕ) → fields_fault limit (take (limit + 1) input) ≡ fields_fault limit input
unfolding fields_fault
fields_fault-front limit input =
    ap₂ (λ longer front. rest_fault limit longer (split front).rest_at (split front).rest) (too_long limit input) (take_front limit input)
