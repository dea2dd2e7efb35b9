-- More entries that are used, or as many.
use Rattle.std.proofs.Common.{◌≡◌, ℕ, ◌<◌, List, [], ◌∷◌, ◌++◌, length, refl, sym, ap, ◌∙◌, arith, append_assoc, append-nil}
use Rattle.mvt_attrs.specs.Inner.UsedTags.{IsGrown}

pub none_grown : {A : Type 0} → (entries used : List A) → IsGrown entries used used
none_grown entries used = (([], sym (append-nil used)), λ none. refl)

-- one more of entries that are there
pub pushed_grown : {A : Type 0} → (entries old new : List A) (x : A) (places : List ℕ) → length places ≡ length entries → 0 < length places
    → new ≡ old ++ x ∷ [] → IsGrown entries old new
pushed_grown entries old new x places count some is = ((x ∷ [], is), λ none. absurd (omega (arith, count, some, ap length none)))

pub more_grown : {A : Type 0} → (entries old now new : List A) → IsGrown entries old now → IsGrown entries now new → IsGrown entries old new
more_grown entries old now new first second = (
  (first.0.0 ++ second.0.0, second.0.1 ∙ ap (λ l. l ++ second.0.0) first.0.1 ∙ append_assoc old first.0.0 second.0.0),
  λ none. second.1 none ∙ first.1 none,
)
