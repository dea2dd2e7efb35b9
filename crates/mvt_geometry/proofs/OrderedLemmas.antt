-- The table is in order.
use Rattle.std.proofs.Common.{◌≡◌, ◌↔◌, ℕ, zero, suc, Bool, List, [], length, Option, Some, None, arith}
use Rattle.mvt_base.specs.Rules.{AreOrdered, IsLeast}
use Rattle.mvt_base.proofs.OrderLemmas.{first_is_least, least_is_first, when_ordered, rows_ordered, each_ordered}
use Rattle.mvt_geometry.specs.declared.shape.Point.{Point}
use Rattle.mvt_geometry.specs.declared.shape.Kind.{Kind}
use Rattle.mvt_geometry.specs.declared.shape.Kind.TheVariants as kinds
use Rattle.mvt_geometry.specs.declared.command.Command.{Command}
use Rattle.mvt_geometry.specs.Commands.{Pair, start}
use Rattle.mvt_geometry.specs.Table.{IndexedCause, step_rows, command_rows, step_rules, pair_rules, ends_early, wrong_command, wrong_count, no_room, wrong_pairs, wrong_ring, command_rules, rules_at, rules_of_first, geometry_rules, geometry_fault}
use Rattle.mvt_base.proofs.GrowingLemmas.{AllBelow, all_below_more, under_below, below-append, then_under}

step_ordered : (line : Bool) (at : ℕ) (d : Pair) (to : Point) → AreOrdered (step_rules line at d to)
unfolding step_rules
step_ordered line at d to =
    rows_ordered 0 (step_rows line at d to) (
      omega arith,
      (
        when_ordered _ _,
        (
          omega arith,
          (
            when_ordered _ _,
            (omega arith, (when_ordered _ _, (omega arith, (when_ordered _ _, (omega arith, (when_ordered _ _, tt)))))),
          ),
        ),
      ),
    )

pairs_ordered : (c : Option Command) (from : Point) (g : List ℕ) (s : ℕ) → AreOrdered (wrong_pairs c from g s)
unfolding wrong_pairs pair_rules
pairs_ordered c from g s = each_ordered _ [] _ (λ seen d. step_ordered _ _ d _)

command_ordered : (kind : Kind) (g : List ℕ) (k s : ℕ) → AreOrdered (command_rules kind g k s)
unfolding command_rules ends_early wrong_command wrong_count no_room wrong_ring
command_ordered kind g k s =
    rows_ordered 0 (command_rows kind g k s) (
      omega arith,
      (
        when_ordered _ _,
        (
          omega arith,
          (
            when_ordered _ _,
            (
              omega arith,
              (
                when_ordered _ _,
                (omega arith, (when_ordered _ _, (omega arith, (pairs_ordered _ _ g s, (omega arith, (when_ordered _ _, tt)))))),
              ),
            ),
          ),
        ),
      ),
    )

at_ordered : (kind : Kind) (g : List ℕ) (k : ℕ) (o : Option ℕ) → AreOrdered (rules_at kind g k o)
at_ordered kind g k None = tt
at_ordered kind g k (Some s) = command_ordered kind g k s

first_ordered : (kind : Kind) (g : List ℕ) (n : ℕ) → AreOrdered (rules_of_first kind g n) × AllBelow n (rules_of_first kind g n)
unfolding rules_of_first
first_ordered kind g zero = (tt, tt)
first_ordered kind g (suc k) =
    let before = first_ordered kind g k in
    let here = at_ordered kind g k (start kind g k) in (
      then_under k _ _ before.0 before.1 here,
      below-append (suc k) _ _ (all_below_more k (suc k) _ (omega arith) before.1) (under_below k _),
    )

pub table_ordered : (kind : Kind) (g : List ℕ) → AreOrdered (geometry_rules kind g)
unfolding geometry_rules
table_ordered kinds.Unknown g = tt
table_ordered kinds.Point g = (first_ordered kinds.Point g (suc (length g))).0
table_ordered kinds.LineString g = (first_ordered kinds.LineString g (suc (length g))).0
table_ordered kinds.Polygon g = (first_ordered kinds.Polygon g (suc (length g))).0

pub least_fault : (kind : Kind) (g : List ℕ) (f : IndexedCause) → (geometry_fault kind g ≡ Some f) ↔ IsLeast (geometry_rules kind g) f
unfolding geometry_fault
least_fault kind g f = (
  first_is_least (geometry_rules kind g) f (table_ordered kind g),
  least_is_first (geometry_rules kind g) f (table_ordered kind g),
)
