-- Names that C gives.
use Rattle.std.specs.Prelude.{ℕ, List, map, Any, IsUtf8, ⊤}
use Rattle.mvt_c.specs.declared.lent.Bytes.{Bytes}
use Rattle.mvt_c.specs.declared.refusal.Refusal.{Refusal}
use Rattle.mvt_c.specs.declared.refusal.Refusal.TheVariants.{Refused, Memory, TooLarge, NoLayer, BadName}

-- the texts of names that C hands over
abbrev pub texts_of : List Bytes → List (List ℕ)
texts_of names = map (λ (name : Bytes). name.bytes.now) names

-- why names can't be read: one of them isn't UTF-8, or want of memory
abbrev pub HoldsNoText : List Bytes → Refusal → Type 0
HoldsNoText names (Refused fault) = ⊥
HoldsNoText names Memory = ⊤
HoldsNoText names TooLarge = ⊥
HoldsNoText names (NoLayer index) = ⊥
HoldsNoText names BadName = Any (λ text. ¬ (IsUtf8 text)) (texts_of names)
