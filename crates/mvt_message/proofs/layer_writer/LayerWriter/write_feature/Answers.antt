use Rattle.mvt_message.proofs.RewriteLemmas.{written_more, used_keys, used_values}
use Rattle.mvt_message.proofs.layer_writer.LayerWriter.write_feature.Goals as goal

pub returns-clause-feature : goal.returns-clause-feature
returns-clause-feature g c = λ items held features told has.
    let old = c.args.self.now.uses in
    let new = c.rewrite_told.new.uses in
    let (f, is, rewritten, id, kind, (start, had, drawn)) = c.in_ok-known.ensures.feature items held features told has.uses in (
      f,
      is,
      record {
        uses = c.in_ok-known.ensures.uses held has.uses;
        keys_are = used_keys features f old new has.keys_are rewritten.0.keys;
        values_are = used_values features f old new has.values_are rewritten.0.values;
        written = written_more features f old new c.clear.new.self.items c.rewrite_told.new.out.items
            c.deref.result.now c.args.self.now.features.items c.put_field.new.out.items has.written has.keys_are has.values_are
            c.clear.ensures.items rewritten c.deref.ensures.value c.in_ok-put_field.ensures.ok;
      },
      c.in_ok-end_feature.ensures items features f start had drawn id kind,
    )
