use Rattle.std.proofs.Common.{◌≡◌, ◌≢◌, ℕ, ◌==◌, Bool, true, false, not, refl, sym, subst}
use Rattle.std.specs.Prelude.{IsTrue}
use Rattle.std.proofs.lemmas.Bool.{eqb-true, eq-eqb, ne_eqb}
use Rattle.mvt_message.proofs.ValidLemmas.{of_version, no_version, found_version}
use Rattle.mvt_message.proofs.validity.are_of_version.Goals as goal

differ : (m n : ℕ) → IsTrue (not (m == n)) → m ≢ n
differ m n h = λ e. of_test (m == n) (eq-eqb m n e) h
  where
    of_test : (b : Bool) → b ≡ true → IsTrue (not b) → ⊥
    of_test true e h = cc h
    of_test false e h = cc

no_test : (m n : ℕ) → m ≢ n → IsTrue (not (m == n))
no_test m n h = subst (λ b. IsTrue (not b)) (sym (ne_eqb m n h)) refl

pub returns-then-found-version : goal.returns-then-found-version
returns-then-found-version c = (
  λ t. of_version c.args.bytes.now c.args.version c.in-Ok.found c.in-Ok.ensures.ok c.in-Ok.ensures.version c.if-found-version.true
      (differ c.args.version 2 t),
  λ of. no_test c.args.version 2 (found_version c.args.bytes.now c.args.version c.in-Ok.found c.in-Ok.ensures.version of).1,
)

pub returns-else-found-version : goal.returns-else-found-version
returns-else-found-version c = (
  λ t. absurd (c.if-found-version.false (eqb-true c.in-Ok.found c.args.version t)),
  λ of. absurd (c.if-found-version.false (found_version c.args.bytes.now c.args.version c.in-Ok.found c.in-Ok.ensures.version of).0),
)

pub returns-in-Err : goal.returns-in-Err
returns-in-Err c =
    (λ t. cc t, λ of. absurd (no_version c.args.bytes.now c.args.version c.in-Err.field-0 c.in-Err.ensures.fault c.in-Err.ensures.err of))
