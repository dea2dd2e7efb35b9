use Rattle.std.proofs.Common.{◌≡◌, ◌%◌, ◌<◌, [], length, drop, get_or, sym, refl, arith, length-drop}
use Rattle.std.proofs.lemmas.Result.{IfErr-weaker, on_ok_weaker}
use Rattle.mvt_attrs.specs.FirstUses.{lent}
use Rattle.mvt_attrs.proofs.JudgingLemmas.{so_far_none, indices_stop}
use Rattle.mvt_attrs.proofs.ResolvedLemmas.{there, read_faultless}
use Rattle.mvt_attrs.proofs.TagLemmas.{progress_none, tag_fault-odd, progress_more}
use Rattle.mvt_attrs.proofs.judging.judge_pair.Goals as goal

pub returns-in-empty-clause-ok : goal.returns-in-empty-clause-ok
returns-in-empty-clause-ok c = λ held e.
    let tags = c.args.tags.now in
    read_faultless (lent c.args.texts.now) held tags tags [] (progress_none (lent c.args.texts.now) held tags) (λ odd. omega arith)
    (omega arith)

pub returns-in-len1-clause-err : goal.returns-in-len1-clause-err
returns-in-len1-clause-err c =
    let odd : length c.args.tags.now % 2 ≡ 1 = omega arith in
    rw c.fault.ensures (λ held e. tag_fault-odd (lent c.args.texts.now) held c.args.tags.now odd)

-- nothing is marked yet
pub returns-in-len2-up-clause-err : goal.returns-in-len2-up-clause-err
returns-in-len2-up-clause-err c =
    let texts = lent c.args.texts.now in
    let tags = c.args.tags.now in
    IfErr-weaker c.judge_indices.result _ _
    (indices_stop texts [] [] 1 c.args.values tags tags
    (so_far_none texts [] [] 1 c.args.values tags (λ i. omega arith))
    (λ odd. omega arith) (omega arith) 0 (omega arith))
    c.judge_indices.ensures.err

pub returns-in-len2-up-clause-ok : goal.returns-in-len2-up-clause-ok
returns-in-len2-up-clause-ok c =
    on_ok_weaker c.judge_indices.result
    (λ named held e.
    let texts = lent c.args.texts.now in
    let tags = c.args.tags.now in
    let key = there texts (get_or tags 0 0) named.0 in
    let within : get_or tags 1 0 < length held = rw e named.1 in
    let value = there held (get_or tags 1 0) within in
    let one =
    progress_more texts held tags tags [] (progress_none texts held tags) (λ odd. omega arith) (omega arith) key.0
    (sym key.1) value.0 (sym value.1) (drop 2 tags) refl refl in
    read_faultless texts held tags (drop 2 tags) _ one (λ odd. omega arith) (omega (arith, length-drop 2 tags)))
    c.judge_indices.ensures.ok
