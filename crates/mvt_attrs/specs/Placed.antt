-- What placing an entry in a pool does, and how far attributes are placed where placing stops (4.4).
use Rattle.std.specs.Prelude.{◌≡◌, ℕ, ◌+◌, ◌≤◌, ◌⊎◌, ◌↔◌, ◌++◌, ◌∷◌, [], List, length, take, Some, Result, Contains, slice_get, IsOk, IsErrOf, IfOk, OnOk, OnErr}
use Rattle.mvt_base.specs.declared.TheConstants.{LIMIT}
use Rattle.mvt_attrs.specs.declared.pool_error.PoolError.{PoolError}
use Rattle.mvt_attrs.specs.declared.pool_error.PoolError.TheVariants.{Full}
use Rattle.mvt_attrs.specs.Values.{Value}
use Rattle.mvt_attrs.specs.declared.value.Attribute.{Attribute}
use Rattle.mvt_attrs.specs.Pools.{key_pool, value_pool}

-- an entry has a place: one that is there is found, another is added last, or the pool stays
pub record IsPlaced {A : Type 0} (old new : List A) (x : A) (result : Result ℕ PoolError) : Type 0 where
  pub index : IfOk result (λ i. slice_get new i ≡ Some x)
  pub present : Contains old x → IsOk result
  pub kept : Contains old x → new ≡ old
  pub added : ¬ (Contains old x) → OnOk result (new ≡ old ++ x ∷ [])
  pub unchanged : OnErr result (new ≡ old)
  pub full : IsErrOf result Full ↔ ((length old ≡ LIMIT) × (¬ (Contains old x)))

-- both entries of the first n attributes are placed, and perhaps the key of the next
pub record ArePlaced (n : ℕ) (attributes : List Attribute) (keys keys_after : List (List ℕ))
    (values values_after : List Value) : Type 0 where
  pub within : n ≤ length attributes
  pub keys_are : (keys_after ≡ key_pool keys (take n attributes)) ⊎ (keys_after ≡ key_pool keys (take (n + 1) attributes))
  pub values_are : values_after ≡ value_pool values (take n attributes)

-- the same where the tags of the first n attributes were told: the value of the next may be placed too
pub record AreReported (n : ℕ) (attributes : List Attribute) (keys keys_after : List (List ℕ)) (values values_after : List Value) : Type 0
  where
    pub within : n ≤ length attributes
    pub keys_are : (keys_after ≡ key_pool keys (take n attributes)) ⊎ (keys_after ≡ key_pool keys (take (n + 1) attributes))
    pub values_are : (values_after ≡ value_pool values (take n attributes)) ⊎ (values_after ≡ value_pool values (take (n + 1) attributes))

-- the entry of attribute n that is to be placed next is new, and its pool is full
abbrev pub IsFullAt : ℕ → List Attribute → List (List ℕ) → List Value → Type 0
IsFullAt n attributes keys values =
    (a : Attribute) × (slice_get attributes n ≡ Some a)
    ×
    (((length keys ≡ LIMIT) × (Contains keys a.key → ⊥)) ⊎
    (Contains keys a.key × (length values ≡ LIMIT) × (Contains values a.value → ⊥)))
