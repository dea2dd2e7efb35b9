use Rattle.std.proofs.Common.{◌==◌, ◌&&◌, inr}
use Rattle.std.proofs.lemmas.Bool.{and_parts, eqb-true}
use Rattle.mvt_attrs.specs.declared.used_entries.LayerEntries.{LayerEntries}
use Rattle.mvt_attrs.proofs.UsedTagsLemmas.{tags_more, tags_read}
use Rattle.mvt_attrs.proofs.used_entries.LayerEntriesTagVisitor.visit_pair.Goals as goal

pub returns-clause-told : goal.returns-clause-told
returns-clause-told c = λ start tags read _.
    let k = c.in_ok-used_key.used_key in
    let v = c.in_ok-used_value.used_value in
    let both = (k == c.args.key) && (v == c.args.value) in
    let now : LayerEntries = record {
      keys = c.mark_used.new.self;
      values = c.mark_used-2.new.self;
      tags = c.push_pair.new.tags;
      are_same = c.args.self.now.are_same && both;
    } in
    inr (tags_more start c.args.self.now now tags c.args.key c.args.value k v (tags_read start tags c.args.self.now read)
    c.in_ok-used_key.ensures c.in_ok-used_value.ensures c.in_ok-push_pair.ensures.items
    (λ all.
    let parts = and_parts c.args.self.now.are_same both all in
    let same = and_parts (k == c.args.key) (v == c.args.value) parts.1 in
    (parts.0, eqb-true k c.args.key same.0, eqb-true v c.args.value same.1)))
