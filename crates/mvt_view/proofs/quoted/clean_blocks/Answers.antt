use Rattle.std.proofs.Common.{◌≡◌, ◌+◌, ◌-◌, ◌∙◌, true, take, drop, sym, subst, arith}
use Rattle.std.specs.List.{list_all}
use Rattle.mvt_view.specs.JsonForms.{is_clean}
use Rattle.mvt_view.proofs.QuotedLemmas.{runs_block}
use Rattle.mvt_view.proofs.quoted.clean_blocks.Goals as goal

pub loop-end-preserved : goal.loop-end-preserved
loop-end-preserved c =
    let bytes = c.args.bytes.now in
    let end = c.loop-end.end in
    let block : end + 32 - end ≡ 32 = omega arith in
    let clean = subst (λ n. list_all is_clean (take n (drop end bytes)) ≡ true) block (sym c.are_clean.ensures ∙ c.if-are_clean.true) in
    runs_block bytes c.args.from end 32 c.loop-end.invariant (omega (arith, c.loop-end.invariant.1, c.loop-end-test.true)) clean
