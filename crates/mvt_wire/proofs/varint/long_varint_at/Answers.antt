use Rattle.std.proofs.Common.{Err, refl, ap, ◌∙◌, arith, get_or}
use Rattle.mvt_wire.proofs.VarintLemmas.{IsGroup, number_none, varint_past, varint_ends, varint_cut, varint_goes_on, group_set, going_on-more}
use Rattle.mvt_wire.proofs.varint.long_varint_at.Goals as goal
use Rattle.mvt_wire.proofs.varint.long_varint_at.Goals.{else-i-eq9-via-then-i-eq9+else-byte-gt1, else-i-eq9-via-else-i-eq9}

pub returns-then-byte-gt1-clause-none : goal.returns-then-byte-gt1-clause-none
returns-then-byte-gt1-clause-none c = λ _.
    let b = c.args.bytes.now in
    let past =
    varint_past b c.loop-i.i (get_or b c.loop-i.i 0) c.if-i-eq9.true c.loop-i-test.true refl c.if-byte-gt1.true
    c.loop-i.invariant.goes_on in
    past ∙ ap Err (number_none b _ past).1

pub returns-then-byte-lt128-clause-found : goal.returns-then-byte-lt128-clause-found
returns-then-byte-lt128-clause-found c = λ _.
    let b = c.args.bytes.now in
    let inv = c.loop-i.invariant in
    let group : IsGroup c.loop-i.i (get_or b c.loop-i.i 0) = record {
      place = inv.within;
      last = λ nine. elim c.else-i-eq9.branch [
        | else-i-eq9-via-then-i-eq9+else-byte-gt1 w ↦ w.if-byte-gt1.false
        | else-i-eq9-via-else-i-eq9 w ↦ absurd (w.if-i-eq9.false nine)
      ];
    } in
    rw c.from.ensures
    (varint_ends b c.loop-i.i c.loop-i.value (get_or b c.loop-i.i 0) c.loop-i-test.true refl c.if-byte-lt128.true group
    inv.goes_on inv.sum)

pub loop-i-preserved : goal.loop-i-preserved
loop-i-preserved c =
    let b = c.args.bytes.now in
    let inv = c.loop-i.invariant in
    let large = c.if-byte-lt128.false in
    let group : IsGroup c.loop-i.i (get_or b c.loop-i.i 0) = record {
      place = inv.within;
      last = λ nine. elim c.else-i-eq9.branch [
        | else-i-eq9-via-then-i-eq9+else-byte-gt1 w ↦ w.if-byte-gt1.false
        | else-i-eq9-via-else-i-eq9 w ↦ absurd (w.if-i-eq9.false nine)
      ];
    } in
    record {
      within = varint_goes_on c.loop-i.i (get_or b c.loop-i.i 0) group large;
      goes_on = (let more = going_on-more b c.loop-i.i c.loop-i-test.true large in omega (arith, inv.goes_on, more));
      sum = rw c.from.ensures (group_set b c.loop-i.i c.loop-i.value (get_or b c.loop-i.i 0) c.loop-i-test.true refl group inv.sum);
    }

pub returns-clause-none : goal.returns-clause-none
returns-clause-none c = λ _.
    let inv = c.loop-i.invariant in
    let cut = varint_cut c.args.bytes.now c.loop-i.i inv.within c.loop-i-test.false inv.goes_on in
    cut ∙ ap Err (number_none c.args.bytes.now _ cut).1
