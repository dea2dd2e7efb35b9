use Rattle.std.proofs.Common.{◌≡◌, ◌∙◌, ℕ, ◌≤◌, get_or, take, bytes_eq, ap, ap₂, sym, subst}
use Rattle.mvt_base.proofs.InlineLemmas.{fronts_same, padded_utf8}
use Rattle.mvt_base.proofs.inline.Inline.is.Goals as goal

pub from_utf8_unchecked-one-requires : goal.from_utf8_unchecked-one-requires
from_utf8_unchecked-one-requires c = padded_utf8 c.self.inside.len c.self.inside.bytes c.self.invariant.1 c.self.invariant.2

pub from_utf8_unchecked-two-requires : goal.from_utf8_unchecked-two-requires
from_utf8_unchecked-two-requires c =
    padded_utf8 c.other.inside.len c.other.inside.bytes c.other.invariant.1 c.other.invariant.2

pub returns-then-self-other : goal.returns-then-self-other
returns-then-self-other c =
    let one = c.self.inside in
    let other = c.other.inside in
    let same = c.if-self-other.true in
    c.eq.ensures
    ∙ ap₂ bytes_eq c.from_utf8_unchecked-one.ensures c.from_utf8_unchecked-two.ensures
    ∙ fronts_same one.len one.bytes other.bytes (c.self.told ∙ sym c.other.told) c.self.invariant.2
    (subst (λ (n : ℕ). (k : ℕ) → n ≤ k → get_or other.bytes k 0 ≡ 0) (sym same) c.other.invariant.2)
    ∙ ap₂ bytes_eq c.self.view_is (ap (λ n. take n other.bytes) same ∙ c.other.view_is)
