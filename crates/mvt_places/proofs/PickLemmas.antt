-- What holds of each element of a list holds of what is picked of it.
use Rattle.std.proofs.Common.{ℕ, zero, suc, Bool, true, false, List, [], ◌∷◌, Option, Some, None, if◌then◌else◌}
use Rattle.std.specs.Prelude.{IfSome, filter, find, slice_get}
use Rattle.std.specs.List.{AllByRecursion, flat_map, last_or}
use Rattle.std.specs.Option.{option_map}
use Rattle.mvt_base.proofs.ListLemmas.{all_joined}

module _ {X : Type 0} (P : X → Type 0) where
  pub filter_all : (test : X → Bool) (xs : List X) → AllByRecursion P xs → AllByRecursion P (filter test xs)
  filter_all test [] h = tt
  filter_all test (x ∷ xs) h = by_test (test x) (filter_all test xs h.1)
    where
      by_test : (b : Bool) → AllByRecursion P (filter test xs) → AllByRecursion P (if b then x ∷ filter test xs else filter test xs)
      by_test true more = (h.0, more)
      by_test false more = more

  pub get_all : (xs : List X) (i : ℕ) → AllByRecursion P xs → IfSome (slice_get xs i) P
  get_all [] i h = tt
  get_all (x ∷ xs) zero h = h.0
  get_all (x ∷ xs) (suc i) h = get_all xs i h.1

  pub find_all : (test : X → Bool) (xs : List X) → AllByRecursion P xs → IfSome (find test xs) P
  find_all test [] h = tt
  find_all test (x ∷ xs) h = by_test (test x) (find_all test xs h.1)
    where
      by_test : (b : Bool) → IfSome (find test xs) P → IfSome (if b then Some x else find test xs) P
      by_test true more = h.0
      by_test false more = more

  pub last_or_all : (o : Option X) (xs : List X) → IfSome o P → AllByRecursion P xs → IfSome (last_or o xs) P
  last_or_all o [] held h = held
  last_or_all o (x ∷ xs) held h = last_or_all (Some x) xs h.0 h.1

pub mapped_some : {X Y : Type 0} → (P : Y → Type 0) (f : X → Y) (o : Option X) → IfSome o (λ x. P (f x)) → IfSome (option_map f o) P
mapped_some P f None h = tt
mapped_some P f (Some x) h = h

pub flat_map_all : {X Y : Type 0} → (P : X → Type 0) (Q : Y → Type 0) (f : X → List Y) → ((x : X) → P x → AllByRecursion Q (f x))
    → (xs : List X) → AllByRecursion P xs → AllByRecursion Q (flat_map f xs)
flat_map_all P Q f each [] h = tt
flat_map_all P Q f each (x ∷ xs) h = all_joined Q (f x) (flat_map f xs) (each x h.0) (flat_map_all P Q f each xs h.1)
