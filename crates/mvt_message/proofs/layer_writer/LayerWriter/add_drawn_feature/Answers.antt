use Rattle.std.proofs.Common.{arith}
use Rattle.std.proofs.lemmas.Result.{on_ok_weaker}
use Rattle.mvt_message.proofs.RewriteLemmas.{written_more, used_keys, used_values, left_out_more, kept_all, kept_more}
use Rattle.mvt_message.proofs.layer_writer.LayerWriter.add_drawn_feature.Goals as goal

pub returns-then-len-gt-LIMIT : goal.returns-then-len-gt-LIMIT
returns-then-len-gt-LIMIT c = λ keys held features f has id draws names.
    left_out_more keys held c.args.self.now features f has (omega arith)

pub returns : goal.returns
returns c = λ keys held features f has id draws names.
    let all = kept_all keys held c.args.self.now features has (omega arith) in
    let old = c.args.self.now.uses in
    let new = c.append_drawn_feature.new.uses in
    let rewritten = c.in_ok-append_drawn_feature.ensures.feature keys held f all.uses id draws names in
    on_ok_weaker c.put_field.result
    (λ field. kept_more keys held _ features f
    (record {
      uses = c.in_ok-append_drawn_feature.ensures.uses keys held f all.uses names;
      keys_are = used_keys features f old new all.keys_are rewritten.0.keys;
      values_are = used_values features f old new all.values_are rewritten.0.values;
      written = written_more features f old new c.clear.new.self.items c.append_drawn_feature.new.out.items c.deref.result.now
          c.args.self.now.features.items c.put_field.new.out.items all.written all.keys_are all.values_are c.clear.ensures.items
          rewritten c.deref.ensures.value field;
    })) c.put_field.ensures.ok
