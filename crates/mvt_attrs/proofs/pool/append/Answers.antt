use Rattle.std.proofs.Common.{sym, subst, ap, ◌∙◌, ◌++◌, ◌∷◌, [], Contains, arith, length}
use Rattle.mvt_attrs.specs.FirstUse.{AreDistinct}
use Rattle.mvt_attrs.specs.Inner.Finding.{Knows}
use Rattle.mvt_attrs.proofs.PoolLemmas.{distinct_more}
use Rattle.mvt_attrs.proofs.pool.append.Goals as goal

pub returns-clause-distinct : goal.returns-clause-distinct
returns-clause-distinct g c =
    let entries = c.args.entries.now.items in
    subst AreDistinct
    (sym
    (c.push_reserved.ensures.items ∙ ap (λ xs. xs ++ c.in_ok-copy.copy ∷ []) c.reserve.ensures.items
    ∙ ap (λ e. entries ++ e ∷ []) c.in_ok-copy.ensures))
    (distinct_more entries c.args.entry.now c.requires.distinct c.requires.new)

pub returns-in_err-copy-clause-distinct : goal.returns-in_err-copy-clause-distinct
returns-in_err-copy-clause-distinct g c = c.requires.distinct

pub returns-in_err-reserve-clause-distinct : goal.returns-in_err-reserve-clause-distinct
returns-in_err-reserve-clause-distinct g c = subst AreDistinct (sym c.in_err-reserve.ensures.items) c.requires.distinct

pub returns-in_err-reserve-clause-known : goal.returns-in_err-reserve-clause-known
returns-in_err-reserve-clause-known g c =
    subst (Knows g.T.Ord.cmp g.T.Hash.hash_input c.args.entry_index.now) (sym c.in_err-reserve.ensures.items) c.requires.known

pub record-requires-clause-known : goal.record-requires-clause-known
record-requires-clause-known g c =
    subst (Knows g.T.Ord.cmp g.T.Hash.hash_input c.args.entry_index.now)
    (sym (c.deref.ensures.value ∙ c.in_ok-reserve.ensures.items)) c.requires.known

pub record-requires-clause-distinct : goal.record-requires-clause-distinct
record-requires-clause-distinct g c =
    subst AreDistinct (sym (c.deref.ensures.value ∙ c.in_ok-reserve.ensures.items)) c.requires.distinct

pub record-requires-clause-new : goal.record-requires-clause-new
record-requires-clause-new g c = λ there.
    c.requires.new (subst (λ es. Contains es c.args.entry.now) (c.deref.ensures.value ∙ c.in_ok-reserve.ensures.items) there)

pub record-requires-clause-few : goal.record-requires-clause-few
record-requires-clause-few g c =
    let same = ap length (c.deref.ensures.value ∙ c.in_ok-reserve.ensures.items) in
    omega (arith, same, c.requires.few)

pub returns-in_err-record-clause-distinct : goal.returns-in_err-record-clause-distinct
returns-in_err-record-clause-distinct g c = subst AreDistinct (sym c.in_ok-reserve.ensures.items) c.requires.distinct
