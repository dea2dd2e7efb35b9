use Rattle.std.proofs.Common.{rules, ◌≡◌, ℕ, eqb, false, if◌then◌else◌, Some, None, subst, sym, ap, ap₂, refl, ◌∙◌}
use mathlib.Core.Bool.{true≢false}
use Rattle.std.specs.BTreeMap.{get}
use Rattle.std.specs.Option.{is_none, option_or}
use Rattle.std.specs.Ordering.{nat_cmp}
use Rattle.mvt_tile_value.specs.FirstIds.{found_in, AreRising, IsAboveAll}
use Rattle.mvt_tile_value.proofs.IdLemmas.{found_above, rising_pushed, above_front, first_pushed, first_kept, first_inserted, none_inserted}
use Rattle.mvt_tile_value.proofs.first_ids.FirstIds.take.Goals as goal

pub returns-then-is_above_all-clause-earlier : goal.returns-then-is_above_all-clause-earlier
returns-then-is_above_all-clause-earlier c = λ first are.
    let held = c.args.self.now.rising.items in
    let above : IsAboveAll c.args.id held =
    subst (IsAboveAll c.args.id) c.deref.ensures.value
    ((c.is_above_all.ensures (subst AreRising (sym c.deref.ensures.value) are.rising)).0 c.if-is_above_all.true) in
    sym (ap₂ option_or (found_above held c.args.id above) (are.above c.args.id above)) ∙ are.first_is c.args.id

pub returns-then-is_above_all-clause-first : goal.returns-then-is_above_all-clause-first
returns-then-is_above_all-clause-first c = λ first are.
    let held = c.args.self.now.rising.items in
    let above : IsAboveAll c.args.id held =
    subst (IsAboveAll c.args.id) c.deref.ensures.value
    ((c.is_above_all.ensures (subst AreRising (sym c.deref.ensures.value) are.rising)).0 c.if-is_above_all.true) in
    let pushed = c.in_ok-push.ensures.items in
    record {
      rising = subst AreRising (sym pushed) (rising_pushed held c.args.id c.args.feature above are.rising);
      above = λ q h. are.above q (above_front held c.args.id c.args.feature above q (subst (IsAboveAll q) pushed h));
      first_is = λ q. ap₂ (λ l o. option_or (found_in l q) o) pushed refl
          ∙ first_pushed held c.args.id c.args.feature above q (get nat_cmp c.args.self.now.others q) (first q) (are.first_is q)
          (λ same. are.above q (subst (λ k. IsAboveAll k held) (sym same) above));
    }

pub returns-in_ok-insert-clause-first : goal.returns-in_ok-insert-clause-first
returns-in_ok-insert-clause-first c = λ first are.
    let held = c.args.self.now.rising.items in
    let id = c.args.id in
    let none : None ≡ first id = search (rules, c.feature_of-earlier.ensures first are) in
    let at : (q : ℕ) → get nat_cmp c.insert.new.self q ≡ (if eqb q id then Some c.args.feature else get nat_cmp c.args.self.now.others q) =
    λ q. search rules in
    record {
      rising = are.rising;
      above = λ q h. none_inserted q id c.args.feature (get nat_cmp c.insert.new.self q) (get nat_cmp c.args.self.now.others q) (at q)
          (λ same. (let here = subst (λ k. IsAboveAll k c.deref.result.now) same (subst (IsAboveAll q) (sym c.deref.ensures.value) h) in
          let holds = (c.is_above_all.ensures (subst AreRising (sym c.deref.ensures.value) are.rising)).1 here in
          true≢false (sym holds ∙ c.if-is_above_all.false)))
          (are.above q h);
      first_is = λ q. first_inserted held id c.args.feature q (get nat_cmp c.args.self.now.others q) (get nat_cmp c.insert.new.self q)
          (first q)
          (at q) (are.first_is q) (λ same. ap first same ∙ sym none);
    }

pub returns-else-is_none-clause-first : goal.returns-else-is_none-clause-first
returns-else-is_none-clause-first c = λ first are.
    let none : is_none (first c.args.id) ≡ false = search (rules, c.feature_of-earlier.ensures first are) in
    record {
      rising = are.rising;
      above = are.above;
      first_is = λ q. are.first_is q ∙ first_kept c.args.id c.args.feature q first none;
    }
