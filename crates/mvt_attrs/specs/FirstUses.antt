-- Attributes that use the entries of a layer in order: each entry that is new is the next (4.4).
use Rattle.std.specs.Prelude.{◌≡◌, ◌≤◌, ◌+◌, ◌<◌, ◌⊎◌, ℕ, List, [], ◌∷◌, length, map, take}
use Rattle.std.specs.Borrow.{Bor}
use Rattle.mvt_attrs.specs.declared.value.Attribute.{Attribute}
use Rattle.mvt_attrs.specs.Values.{Value}
use Rattle.mvt_attrs.specs.Pools.{key_pool, value_pool}

-- the keys and the values in front are used before; then those up to these counts are, in their order
pub record AreFirstUses (keys : List (List ℕ)) (values : List Value) (attributes : List Attribute) (keys_before values_before : ℕ)
    (after : ℕ × ℕ) : Type 0 where
  pub keys_within : after.0 ≤ length keys
  pub values_within : after.1 ≤ length values
  pub keys_are : key_pool (take keys_before keys) attributes ≡ take after.0 keys
  pub values_are : value_pool (take values_before values) attributes ≡ take after.1 values

-- the texts that are lent
abbrev pub lent : List (Bor (List ℕ)) → List (List ℕ)
lent entries = map (λ (b : Bor (List ℕ)). b.now) entries

-- an entry among the first, or the one after them
abbrev pub IsUseOf : ℕ → ℕ → ℕ → Type 0
IsUseOf used index after = ((index < used) × (after ≡ used)) ⊎ ((index ≡ used) × (after ≡ used + 1))

-- tags of pairs of such: where so many keys and values are used before them, so many are after
abbrev pub AreInOrder : ℕ × ℕ → List ℕ → ℕ × ℕ → Type 0
AreInOrder before [] after = before ≡ after
AreInOrder before (key ∷ []) after = ⊥
AreInOrder before (key ∷ (value ∷ tags)) after =
    (next : ℕ × ℕ) × IsUseOf before.0 key next.0 × IsUseOf before.1 value next.1 × AreInOrder next tags after
