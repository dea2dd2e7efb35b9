use Rattle.std.proofs.Common.{append_assoc, [], ◌∷◌, ◌++◌, ap, sym, ◌∙◌}
use Rattle.std.proofs.lemmas.List.{append-nil}
use Rattle.std.proofs.lemmas.List.{take_rest}
use Rattle.mvt_attrs.proofs.UsesLemmas.{used_start, used_step, used_end, tags_end}
use Rattle.mvt_attrs.proofs.used_entries.LayerEntries.append_used.Goals as goal

pub loop-rest-init : goal.loop-rest-init
loop-rest-init c = record {
  so_far = λ keys values attributes uses names.
      used_start keys values attributes c.args.self.now c.args.out.now.items c.args.tags.now uses names;
  more = [];
  left = sym (append-nil _);
}

pub loop-rest-preserved : goal.loop-rest-preserved
loop-rest-preserved c = record {
  so_far = λ keys values attributes uses names.
      let so_far = c.loop-rest.invariant.so_far keys values attributes uses names in
      let rest = c.loop-rest.rest.now in
      used_step keys values attributes c.args.self.now c.args.out.now.items rest _ c.loop-rest.self _ c.loop-rest.out.items
      c.push_pair.new.tags.items c.in_ok-key.key c.in_ok-value.value so_far c.in-len2-up.len_at_least (take_rest rest 2)
      (c.in_ok-key.ensures.uses keys so_far.uses.0, c.in_ok-value.ensures.uses values so_far.uses.1)
      (λ x at. c.in_ok-key.ensures.put keys x so_far.uses.0 at) (λ x at. c.in_ok-value.ensures.put values x so_far.uses.1 at)
      c.in_ok-push_pair.ensures.items;
  more = c.loop-rest.invariant.more ++ c.in_ok-key.key ∷ c.in_ok-value.value ∷ [];
  left = c.in_ok-push_pair.ensures.items
      ∙ ap (λ tags. tags ++ c.in_ok-key.key ∷ c.in_ok-value.value ∷ []) c.loop-rest.invariant.left
      ∙ append_assoc c.args.out.now.items c.loop-rest.invariant.more (c.in_ok-key.key ∷ c.in_ok-value.value ∷ []);
}

pub returns-clause-uses : goal.returns-clause-uses
returns-clause-uses c = λ keys values attributes uses names. (c.loop-rest.invariant.so_far keys values attributes uses names).uses

pub returns-clause-used : goal.returns-clause-used
returns-clause-used c = λ keys values attributes uses names.
    used_end keys values attributes c.args.self.now c.args.out.now.items c.loop-rest.rest.now c.loop-rest.self c.loop-rest.out.items
    (c.loop-rest.invariant.so_far keys values attributes uses names) c.in_default.len_below

pub returns-clause-tags : goal.returns-clause-tags
returns-clause-tags c = λ keys values attributes uses names.
    tags_end keys values attributes c.args.self.now c.args.out.now.items c.loop-rest.rest.now c.loop-rest.self c.loop-rest.out.items
    (c.loop-rest.invariant.so_far keys values attributes uses names) c.in_default.len_below
