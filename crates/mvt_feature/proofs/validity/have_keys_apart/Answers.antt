use Rattle.std.proofs.Common.{true, false, rules}
use Rattle.std.proofs.lemmas.Bool.{false≢true}
use Rattle.mvt_feature.proofs.ValidLemmas.{distinct_more, valid_more, distinct_breaks, known_more, key_seen}
use Rattle.mvt_feature.proofs.validity.have_keys_apart.Goals as goal

pub returns-then-not-branch-clause-distinct : goal.returns-then-not-branch-clause-distinct
returns-then-not-branch-clause-distinct c =
    let seen =
    key_seen c.in_ok-insert.field-0 false _ _ c.attribute-item.result.key _ c.in_ok-insert.ensures.added
    c.as_str-key.ensures.text c.loop-attribute.invariant.known c.if-not-branch.true in (
      λ impossible. absurd (false≢true impossible),
      λ distinct. absurd
          (distinct_breaks c.args.attributes.now c.loop-attribute.attribute-index c.attribute-item.result (search rules)
          c.attribute-item.is seen distinct),
    )

pub loop-attribute-preserved : goal.loop-attribute-preserved
loop-attribute-preserved c =
    let new =
    key_seen c.in_ok-insert.field-0 true _ _ c.attribute-item.result.key _ c.in_ok-insert.ensures.added
    c.as_str-key.ensures.text c.loop-attribute.invariant.known c.if-not-branch.false in
    record {
      distinct =
          distinct_more c.args.attributes.now c.loop-attribute.attribute-index c.attribute-item.result (search rules)
          c.attribute-item.is c.loop-attribute.invariant.distinct new;
      valid =
          valid_more c.args.attributes.now c.loop-attribute.attribute-index c.attribute-item.result (search rules)
          c.attribute-item.is c.loop-attribute.invariant.valid (c.as_str-key.ensures.utf8, c.see_range.ensures);
      known =
          λ text. known_more c.loop-attribute.keys.keys c.insert.new.self.keys c.args.attributes.now c.loop-attribute.attribute-index
          c.attribute-item.result c.as_str-key.result.now (search rules) c.attribute-item.is c.as_str-key.ensures.text
          c.loop-attribute.invariant.known text (c.in_ok-insert.ensures.updates.0 (record { ref_ptr = (0, 0); now = text }));
    }
