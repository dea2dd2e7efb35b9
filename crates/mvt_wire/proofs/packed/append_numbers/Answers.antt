use Rattle.std.proofs.Common.{append_assoc, [], ◌∷◌, ◌++◌, arith, sym, ap, ◌∙◌}
use Rattle.mvt_wire.proofs.PackedLemmas.{read_large, read_smaller, read_on, read_clean, read_reports, read_all, nil_from_test, some_from_test}
use Rattle.mvt_wire.proofs.packed.append_numbers.Goals as goal

pub returns-then-number-clause-err : goal.returns-then-number-clause-err
returns-then-number-clause-err c =
    let inv = c.loop-rest.invariant in
    read_large c.args.bytes.now c.loop-rest.rest.now inv.read c.in-Ok.number c.in-Ok.size inv.split inv.clean
    (sym c.in-Ok.ensures.number) c.if-number.true

pub loop-rest-smaller : goal.loop-rest-smaller
loop-rest-smaller c = read_smaller c.loop-rest.rest.now c.in-Ok.number c.in-Ok.size (sym c.in-Ok.ensures.number)

pub loop-rest-preserved : goal.loop-rest-preserved
loop-rest-preserved c =
    let inv = c.loop-rest.invariant in
    record {
      read = inv.read ++ c.in-Ok.number ∷ [];
      split = read_on c.args.bytes.now c.loop-rest.rest.now inv.read c.in-Ok.number c.in-Ok.size inv.split (sym c.in-Ok.ensures.number);
      clean = read_clean inv.read c.in-Ok.number inv.clean c.if-number.false;
      items = grind (arith, append_assoc, inv.items, c.push_reserved.ensures.items);
      room = omega (
        arith,
        inv.room,
        c.push_reserved.ensures.len,
        c.push_reserved.ensures.capacity,
        read_smaller c.loop-rest.rest.now c.in-Ok.number c.in-Ok.size (sym c.in-Ok.ensures.number),
      );
    }

pub returns-in-Err-clause-err : goal.returns-in-Err-clause-err
returns-in-Err-clause-err c =
    let inv = c.loop-rest.invariant in
    rw c.number_error.ensures
    (read_reports c.args.bytes.now c.loop-rest.rest.now inv.read c.in-Err.cause inv.split inv.clean (sym c.in-Err.ensures.number)
    (some_from_test _ _ c.is_empty.ensures c.loop-rest-test.true))

pub returns-clause-ok : goal.returns-clause-ok
returns-clause-ok c =
    let inv = c.loop-rest.invariant in
    (read_all c.args.bytes.now c.loop-rest.rest.now inv.read inv.split inv.clean
    (nil_from_test _ _ c.is_empty.ensures c.loop-rest-test.false)).0

pub returns-clause-numbers : goal.returns-clause-numbers
returns-clause-numbers c =
    let inv = c.loop-rest.invariant in
    inv.items
    ∙ ap (λ ns. c.args.out.now.items ++ ns)
    (sym
    (read_all c.args.bytes.now c.loop-rest.rest.now inv.read inv.split inv.clean
    (nil_from_test _ _ c.is_empty.ensures c.loop-rest-test.false)).1)
