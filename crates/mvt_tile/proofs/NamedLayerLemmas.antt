-- The first layer of a name, field by field.
use Rattle.std.proofs.Common.{◌≡◌, ℕ, ◌+◌, ◌≤◌, List, length, refl, arith}
use Rattle.mvt_wire.specs.Split.{Parts, split}
use Rattle.mvt_wire.proofs.WireLaws.{split_function_count}
use Rattle.mvt_tile.specs.NamedLayer.{first_in, first_of}

-- no layer of the name stands among the fields so far, and so many layers do
pub record Seeking (name bytes : List ℕ) (index : ℕ) (to_come : Parts) : Type 0 where
  pub same : first_in name bytes ≡ first_of name index to_come.fields
  pub rest : to_come.rest ≡ (split bytes).rest
  pub place : to_come.rest_at ≡ (split bytes).rest_at
  pub few : index + length to_come.fields ≤ length bytes

pub seek_start : (name bytes : List ℕ) (to_come : Parts) → to_come ≡ split bytes → Seeking name bytes 0 to_come
seek_start name bytes to_come is =
    rw is
    (let all = split_function_count bytes in
    record { same = refl; rest = refl; place = refl; few = omega (arith, all) })
