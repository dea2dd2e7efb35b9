-- Bytes compared with the front of an input.
use Rattle.std.proofs.Common.{◌≡◌, ◌≢◌, ℕ, List, ◌++◌, Option, Some, None, Bor, sym, ap, subst, ◌∙◌, append_assoc}
use Rattle.std.proofs.lemmas.List.{append_cancel_left}
use Rattle.mvt_tile_value.specs.Comparing.{IsAfter}

-- behind what stands there, or where that isn't there

pub after_more : (input front part rest : List ℕ) (r : Option (Bor (List ℕ))) → input ≡ front ++ rest → IsAfter rest part r
    → IsAfter input (front ++ part) r
after_more input front part rest None at none =
    λ more e. none more (append_cancel_left front rest (part ++ more) (sym at ∙ e ∙ append_assoc front part more))
after_more input front part rest (Some left) at there =
    at ∙ ap (λ b. front ++ b) there ∙ sym (append_assoc front part left.now)

pub after_none : (input front part : List ℕ) → ((more : List ℕ) → input ≢ front ++ more) → (more : List ℕ) → input ≢ (front ++ part) ++ more
after_none input front part none more e = none (part ++ more) (e ∙ append_assoc front part more)

-- the parts of an item's field
pub after_field : (input front field head features tail whole : List ℕ) (r : Option (Bor (List ℕ)))
    → whole ≡ field ++ (head ++ (features ++ tail)) → IsAfter input ((((front ++ field) ++ head) ++ features) ++ tail) r
    → IsAfter input (front ++ whole) r
after_field input front field head features tail whole r is after =
    subst (λ b. IsAfter input b r) (regroup front field head features tail ∙ ap (λ w. front ++ w) (sym is)) after
  where
    regroup : (s f h x t : List ℕ) → (((s ++ f) ++ h) ++ x) ++ t ≡ s ++ (f ++ (h ++ (x ++ t)))
    regroup s f h x t = simp append_assoc
