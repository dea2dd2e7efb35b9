use Rattle.std.proofs.Common.{Ok, refl, sym, ap}
use Rattle.mvt_wire.proofs.VarintLemmas.{number_seen, number_none, same_found, none_found}
use Rattle.mvt_wire.proofs.varint.read_varint.Goals as goal

pub returns-in-Ok-clause-number : goal.returns-in-Ok-clause-number
returns-in-Ok-clause-number c = (number_seen c.args.bytes.now c.in-Ok.found.0 c.in-Ok.found.1 (sym c.in-Ok.ensures.number)).2

pub returns-in-Ok-clause-only : goal.returns-in-Ok-clause-only
returns-in-Ok-clause-only c =
    λ front back n joined s. ap Ok (same_found c.args.bytes.now front back c.in-Ok.found n (sym c.in-Ok.ensures.number) joined s)

pub returns-in-Err-clause-only : goal.returns-in-Err-clause-only
returns-in-Err-clause-only c =
    λ front back n joined s. absurd (none_found c.args.bytes.now front back c.in-Err.cause n (sym c.in-Err.ensures.number) joined s)

pub returns-in-Err-clause-none : goal.returns-in-Err-clause-none
returns-in-Err-clause-none c = (number_none c.args.bytes.now c.in-Err.cause (sym c.in-Err.ensures.number)).0

pub returns-in-Err-clause-fault : goal.returns-in-Err-clause-fault
returns-in-Err-clause-fault c = rw ((number_none c.args.bytes.now c.in-Err.cause (sym c.in-Err.ensures.number)).1) refl
