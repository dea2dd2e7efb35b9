use Rattle.std.proofs.Common.{rules, ◌≡◌, ◌++◌, ◌∷◌, [], length, map, take, drop, suc, string_bytes, refl, sym, ap, ◌∙◌, arith}
use Rattle.std.proofs.lemmas.List.{map-append, length-map, length-take}
use Rattle.std.proofs.lemmas.Grind.{common_steps}
use Rattle.std.proofs.Math.Seq.{split_at}
use Rattle.mvt_base.proofs.ListLemmas.{front_more}
use Rattle.mvt_tasks.proofs.CheckLemmas.{cut_later_of, one_more_then, said_none, said_step, said_size}
use Rattle.mvt_tasks.proofs.files.tell_each.Goals as goal

pub add-requires : goal.add-requires
add-requires g c =
    let size = said_size _ _ _ _ _ _ _ c.loop-name.invariant.said in
    let count : length (map string_bytes (take c.loop-name.name-index c.args.names.now)) ≡ length
    (take c.loop-name.name-index c.args.names.now) = length-map (take c.loop-name.name-index c.args.names.now) string_bytes in
    let front = length-take c.loop-name.name-index c.args.names.now in
    omega arith

pub loop-name-init : goal.loop-name-init
loop-name-init g c = record {
  said = said_none _ _ _ _ c.none-tally.ensures;
  unflushed = refl;
  sound = refl;
  one = grind (arith, common_steps);
  same = refl;
}

pub loop-name-preserved : goal.loop-name-preserved
loop-name-preserved g c = record {
  said =
      said_step _ _ _ _ _ (string_bytes c.name-item.result) _ _ _ _ _ _ _ c.loop-name.invariant.said
      c.in_ok-verdict.ensures.said c.loop-name.invariant.same c.as_str.ensures.value
      (ap (map string_bytes) (front_more c.args.names.now c.loop-name.name-index c.name-item.result c.loop-name-test.true c.name-item.is)
      ∙ map-append string_bytes (take c.loop-name.name-index c.args.names.now) (c.name-item.result ∷ []))
      (record {
        accepted = c.add.ensures.accepted;
        refused = c.add.ensures.refused;
        unread = c.add.ensures.unread;
        found = c.add.ensures.found;
      });
  unflushed = c.in_ok-verdict.ensures.unflushed ∙ c.loop-name.invariant.unflushed;
  sound = c.in_ok-verdict.ensures.sound ∙ c.loop-name.invariant.sound;
  one = one_more_then _ _ _ c.loop-name.invariant.one c.in_ok-verdict.ensures.one;
  same = c.in_ok-verdict.ensures.same ∙ c.loop-name.invariant.same;
}

pub returns-in_err-verdict-clause-cut : goal.returns-in_err-verdict-clause-cut
returns-in_err-verdict-clause-cut g c =
    cut_later_of c.from_residual.result _ _ _ _ _ (string_bytes c.name-item.result) _
    (map string_bytes (drop (suc c.loop-name.name-index) c.args.names.now)) _ _ _ _ c.loop-name.invariant.said
    (search rules) c.loop-name.invariant.same c.as_str.ensures.value
    (ap (map string_bytes) (split_at c.args.names.now c.loop-name.name-index c.name-item.result c.loop-name-test.true
    ∙ ap (λ y. take c.loop-name.name-index c.args.names.now ++ y ∷ drop (suc c.loop-name.name-index)
    c.args.names.now) (sym c.name-item.is))
    ∙ map-append string_bytes (take c.loop-name.name-index c.args.names.now)
    (c.name-item.result ∷ drop (suc c.loop-name.name-index) c.args.names.now))

pub returns-in_err-verdict-clause-one : goal.returns-in_err-verdict-clause-one
returns-in_err-verdict-clause-one g c = one_more_then _ _ _ c.loop-name.invariant.one c.in_err-verdict.ensures.one
