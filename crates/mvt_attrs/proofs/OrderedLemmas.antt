-- The rules of tags stand in order, so that the first is the least.
use Rattle.std.proofs.Common.{◌≡◌, ℕ, List, [], ◌∷◌, Some, ap, ◌∙◌, arith, ◌↔◌}
use Rattle.std.specs.Option.{option_or}
use Rattle.mvt_base.specs.Rules.{AreOrdered, IsLeast, first}
use Rattle.mvt_base.proofs.RuleLemmas.{first-rows, option_or-right}
use Rattle.mvt_base.proofs.OrderLemmas.{first_is_least, least_is_first, when_ordered, rows_ordered, each_ordered}
use Rattle.mvt_attrs.specs.Values.{Value}
use Rattle.mvt_attrs.specs.declared.resolving.TagCause.{TagCause}
use Rattle.mvt_attrs.specs.TagRules.{count_rules, rows_of_pair, rules_of_pair, pair_rules, pairs_of, tag_rules, tag_fault}

pair_ordered : (keys : List (List ℕ)) (values : List Value) (front : List (ℕ × ℕ)) (pair : ℕ × ℕ)
    → AreOrdered (rules_of_pair keys values front pair)
pair_ordered keys values front pair =
    rows_ordered 0 (rows_of_pair keys values front pair)
    (omega arith, (when_ordered _ _, (omega arith, (when_ordered _ _, (omega arith, (when_ordered _ _, tt))))))

pub count_ordered : (tags : List ℕ) → AreOrdered (count_rules tags)
unfolding count_rules
count_ordered tags = when_ordered _ _

pub pairs_ordered : (keys : List (List ℕ)) (values : List Value) (tags : List ℕ) → AreOrdered (pair_rules keys values tags)
unfolding pair_rules
pairs_ordered keys values tags = each_ordered (rules_of_pair keys values) [] (pairs_of tags) (pair_ordered keys values)

pub tags_ordered : (keys : List (List ℕ)) (values : List Value) (tags : List ℕ) → AreOrdered (tag_rules keys values tags)
tags_ordered keys values tags =
    rows_ordered 0 ((2, count_rules tags) ∷ ((3, pair_rules keys values tags) ∷ []))
    (omega arith, (count_ordered tags, (omega arith, (pairs_ordered keys values tags, tt))))

pub least_law : (keys : List (List ℕ)) (values : List Value) (tags : List ℕ) (fault : ℕ × TagCause)
    → (tag_fault keys values tags ≡ Some fault) ↔ IsLeast (tag_rules keys values tags) fault
unfolding tag_fault
least_law keys values tags fault = (
  first_is_least (tag_rules keys values tags) fault (tags_ordered keys values tags),
  least_is_first (tag_rules keys values tags) fault (tags_ordered keys values tags),
)

pub fault_parts : (keys : List (List ℕ)) (values : List Value) (tags : List ℕ)
    → tag_fault keys values tags ≡ option_or (first (count_rules tags)) (first (pair_rules keys values tags))
unfolding tag_fault
fault_parts keys values tags =
    first-rows 2 (count_rules tags) ((3, pair_rules keys values tags) ∷ [])
    ∙ ap (λ o. option_or (first (count_rules tags)) o)
    (first-rows 3 (pair_rules keys values tags) [] ∙ option_or-right (first (pair_rules keys values tags)))
