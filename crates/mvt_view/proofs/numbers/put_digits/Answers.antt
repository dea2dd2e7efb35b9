use Rattle.std.proofs.Common.{rules, arith, ◌≡◌, ◌+◌, ◌-◌, ◌/◌, ◌%◌, ◌++◌, ◌∷◌, [], length, drop, ap, sym, ◌∙◌, append_assoc, length-append}
use Rattle.std.proofs.lemmas.List.{drop-set}
use Rattle.std.proofs.lemmas.Fmt.{decimal_digit, decimal_nonempty, decimal_step, length-decimal-le}
use Rattle.std.specs.Fmt.{decimal}
use Rattle.mvt_view.proofs.numbers.put_digits.Goals as goal

pub overflow_sub-at : goal.overflow_sub-at
overflow_sub-at c =
    let short = length-decimal-le 10 c.args.number (omega arith) (omega arith) (omega arith) in
    let some = decimal_nonempty c.loop-left.left (omega arith) in
    omega (arith, short, some, c.loop-left.invariant)

pub overflow_sub-at-2 : goal.overflow_sub-at-2
overflow_sub-at-2 c =
    let short = length-decimal-le 10 c.args.number (omega arith) (omega arith) (omega arith) in
    let some = decimal_nonempty c.loop-left.left (omega arith) in
    omega (arith, short, some, c.loop-left.invariant)

pub loop-left-preserved : goal.loop-left-preserved
loop-left-preserved c =
    let (fewer, within, count, same, written) = c.loop-left.invariant in
    let left = c.loop-left.left in
    let at = c.loop-left.at in
    let front = decimal (left / 10) in
    let last = 48 + left % 10 in
    let rest = drop at c.loop-left.buffer in
    let short = length-decimal-le 10 c.args.number (omega arith) (omega arith) (omega arith) in
    let some = decimal_nonempty left (omega arith) in
    let step : decimal left ≡ front ++ last ∷ [] = decimal_step left (omega arith) (omega arith) in
    let longer = ap length step ∙ length-append front (last ∷ []) in
    let back : at - 1 + 1 ≡ at = omega (arith, short, some, count) in (
      omega arith,
      omega arith,
      omega (arith, longer, short, some, count),
      search rules,
      rw (drop-set c.loop-left.buffer (at - 1) last (omega (arith, short, some, count, within, same)), back)
          (sym (append_assoc front (last ∷ []) rest) ∙ ap (λ xs. xs ++ rest) (sym step) ∙ written),
    )

pub returns-clause-written : goal.returns-clause-written
returns-clause-written c =
    let (fewer, within, count, same, written) = c.loop-left.invariant in
    let left = c.loop-left.left in
    let at = c.loop-left.at in
    let short = length-decimal-le 10 c.args.number (omega arith) (omega arith) (omega arith) in
    let some = decimal_nonempty left (omega arith) in
    let back : at - 1 + 1 ≡ at = omega (arith, short, some, count) in
    rw (drop-set c.loop-left.buffer (at - 1) (48 + left) (omega (arith, short, some, count, within, same)), back)
    (ap (λ xs. xs ++ drop at c.loop-left.buffer) (sym (decimal_digit left (omega arith))) ∙ written)

pub returns-clause-most : goal.returns-clause-most
returns-clause-most c =
    let (fewer, within, count, same, written) = c.loop-left.invariant in
    let short = length-decimal-le 10 c.args.number (omega arith) (omega arith) (omega arith) in
    let one = ap length (decimal_digit c.loop-left.left (omega arith)) in
    omega (arith, short, one, count)
