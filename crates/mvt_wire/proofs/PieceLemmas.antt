-- Lists taken piece by piece, with fuel: what fields and packed numbers have in common.
use Rattle.std.proofs.Common.{◌≡◌, ℕ, zero, suc, ◌+◌, ◌<◌, ◌≤◌, List, length, drop, Result, Ok, Err, refl, sym, ap, subst, ◌∙◌, arith}
use Rattle.std.proofs.lemmas.List.{length-drop}
use Rattle.mvt_wire.specs.declared.fault.WireCause.{WireCause}

-- `within n at b` is the pieces of b, at most n of them, where `next at b` is the first and its size
pub record Takes {X P : Type 0} (next : ℕ → List ℕ → Result (X × ℕ) WireCause) (ahead : X → P → P) (none : ℕ → List ℕ → P)
    (within : ℕ → ℕ → List ℕ → P) : Type 0 where
  pub step : (n at : ℕ) (b : List ℕ) (found : X × ℕ) → next at b ≡ Ok found
      → within (suc n) at b ≡ ahead found.0 (within n (at + found.1) (drop found.1 b))
  pub stop : (n at : ℕ) (b : List ℕ) (c : WireCause) → next at b ≡ Err c → within n at b ≡ none at b
  pub size : (at : ℕ) (b : List ℕ) (found : X × ℕ) → next at b ≡ Ok found → (1 ≤ found.1) × (found.1 ≤ length b)

module _ {X P : Type 0} (next : ℕ → List ℕ → Result (X × ℕ) WireCause) (ahead : X → P → P) (none : ℕ → List ℕ → P)
    (within : ℕ → ℕ → List ℕ → P) (takes : Takes next ahead none within) where
  -- a piece leaves a shorter list
  left : (at : ℕ) (b : List ℕ) (found : X × ℕ) → next at b ≡ Ok found → length (drop found.1 b) < length b
  left at b found e =
      let size = takes.size at b found e in
      let rest = length-drop found.1 b in
      omega (arith, size.0, size.1, rest)

  -- more fuel than bytes changes nothing
  fuel_by : (m n at : ℕ) (b : List ℕ) (r : Result (X × ℕ) WireCause) → next at b ≡ r → length b ≤ suc m → length b ≤ suc n
      → ((at' : ℕ) (b' : List ℕ) → length b' ≤ m → length b' ≤ n → within m at' b' ≡ within n at' b')
      → within (suc m) at b ≡ within (suc n) at b
  fuel_by m n at b (Ok found) e hm hn rec =
      let less = left at b found e in
      takes.step m at b found e ∙ ap (ahead found.0) (rec (at + found.1) (drop found.1 b) (omega (arith, less)) (omega (arith, less)))
      ∙ sym (takes.step n at b found e)
  fuel_by m n at b (Err c) e hm hn rec = takes.stop (suc m) at b c e ∙ sym (takes.stop (suc n) at b c e)

  nil_stops : (n at : ℕ) (b : List ℕ) (r : Result (X × ℕ) WireCause) → next at b ≡ r → length b ≤ 0 → within n at b ≡ none at b
  nil_stops n at b (Ok found) e h = absurd (omega (arith, left at b found e))
  nil_stops n at b (Err c) e h = takes.stop n at b c e

  fuel : (m n at : ℕ) (b : List ℕ) → length b ≤ m → length b ≤ n → within m at b ≡ within n at b
  fuel zero n at b hm hn = nil_stops zero at b (next at b) refl hm ∙ sym (nil_stops n at b (next at b) refl hm)
  fuel (suc m) zero at b hm hn = nil_stops (suc m) at b (next at b) refl hn ∙ sym (nil_stops zero at b (next at b) refl hn)
  fuel (suc m) (suc n) at b hm hn = fuel_by m n at b (next at b) refl hm hn (λ at' b' hm' hn'. fuel m n at' b' hm' hn')

  -- with fuel for each byte
  abbrev pub all : ℕ → List ℕ → P
  all at b = within (length b) at b

  pub all_step : (at : ℕ) (b : List ℕ) (found : X × ℕ) → next at b ≡ Ok found
      → all at b ≡ ahead found.0 (all (at + found.1) (drop found.1 b))
  all_step at b found e =
      let less = left at b found e in
      fuel (length b) (suc (length b)) at b (omega arith) (omega arith) ∙ takes.step (length b) at b found e
      ∙ ap (ahead found.0) (fuel (length b) (length (drop found.1 b)) (at + found.1) (drop found.1 b) (omega (arith, less)) (omega arith))

  -- induction over the pieces
  module _ (Q : ℕ → List ℕ → P → Type 0) (stop : (at : ℕ) (b : List ℕ) (c : WireCause) → next at b ≡ Err c → Q at b (none at b))
      (step : (at : ℕ) (b : List ℕ) (found : X × ℕ) → next at b ≡ Ok found
      → Q (at + found.1) (drop found.1 b) (all (at + found.1) (drop found.1 b))
      → Q at b (ahead found.0 (all (at + found.1) (drop found.1 b)))) where
    induct_by : (at : ℕ) (b : List ℕ) (r : Result (X × ℕ) WireCause) → next at b ≡ r
        → ((at' : ℕ) (b' : List ℕ) → length b' < length b → Q at' b' (all at' b')) → Q at b (all at b)
    induct_by at b (Ok found) e rec =
        subst (Q at b) (sym (all_step at b found e)) (step at b found e (rec (at + found.1) (drop found.1 b) (left at b found e)))
    induct_by at b (Err c) e rec = subst (Q at b) (sym (takes.stop (length b) at b c e)) (stop at b c e)

    induct_within : (n at : ℕ) (b : List ℕ) → length b ≤ n → Q at b (all at b)
    induct_within zero at b h = induct_by at b (next at b) refl (λ at' b' less. absurd (omega arith))
    induct_within (suc n) at b h = induct_by at b (next at b) refl (λ at' b' less. induct_within n at' b' (omega arith))

    pub induct : (at : ℕ) (b : List ℕ) → Q at b (all at b)
    induct at b = induct_within (length b) at b (omega arith)
