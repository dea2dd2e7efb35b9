use Rattle.std.proofs.Common.{arith, refl, ◌<◌, length, string_bytes}
use Rattle.std.proofs.lemmas.Str.{IsCharBoundary-start, IsCharBoundary-after_ascii}
use Rattle.mvt_view.proofs.QuotedLemmas.{extends_by, extends_none, run_comes, mark_comes, mark_ascii}
use Rattle.mvt_view.proofs.quoted.push_runs.Goals as goal

pub loop-text-init : goal.loop-text-init
loop-text-init c = (omega arith, IsCharBoundary-start c.args.plain.now c.utf8.plain, refl, extends_none _)

pub loop-text-preserved : goal.loop-text-preserved
loop-text-preserved c =
    let text = c.args.plain.now in
    let start = string_bytes c.args.text.now in
    let stop = c.clean_end-stop.result in
    let run = rw c.as_bytes-bytes.ensures.value at c.clean_end-stop.ensures.run in
    let within : stop < length text = omega (arith, run.1, c.if-stop-bytes.false) in
    let ran = run_comes start (string_bytes c.loop-text.text) (string_bytes c.push_str.new.self) text c.loop-text.at stop
    c.loop-text.invariant.2 run
    (rw c.range.ensures.value at c.in_ok-push_str.ensures.bytes) in
    let marked = mark_comes start (string_bytes c.push_str.new.self) (string_bytes c.push_mark.new.text) text stop ran within
    (rw c.as_bytes-bytes.ensures.value at c.in_ok-push_mark.ensures.ok) in (
      omega (arith, within),
      IsCharBoundary-after_ascii text stop c.utf8.plain within
          (mark_ascii _ (rw c.as_bytes-bytes.ensures.value at c.clean_end-stop.ensures.stop within)),
      marked,
      extends_by start (string_bytes c.push_str.new.self) (string_bytes c.push_mark.new.text) _
          (extends_by start (string_bytes c.loop-text.text) (string_bytes c.push_str.new.self) _ c.loop-text.invariant.3
          (rw c.range.ensures.value at c.in_ok-push_str.ensures.bytes)) c.in_ok-push_mark.ensures.ok,
    )
