use Rattle.std.proofs.Common.{[], arith}
use Rattle.std.proofs.lemmas.Result.{err_from_is_err_and}
use Rattle.mvt_message.proofs.RewriteLemmas.{written_more, used_keys, used_values, left_out_more, kept_all, kept_more, too_many_more}
use Rattle.mvt_message.proofs.layer_writer.LayerWriter.add.Goals as goal

pub returns-then-len-gt-LIMIT-clause-added : goal.returns-then-len-gt-LIMIT-clause-added
returns-then-len-gt-LIMIT-clause-added c = λ features has.
    left_out_more [] [] c.args.self.now features c.args.feature.now has (omega arith)

pub returns-in_err-append_feature-clause-too_many : goal.returns-in_err-append_feature-clause-too_many
returns-in_err-append_feature-clause-too_many c =
    let p = err_from_is_err_and c.from_residual.result c.from_residual.ensures.1 in
    λ features has h.
    let all = kept_all [] [] c.args.self.now features has (omega arith) in
    let many = c.in_err-append_feature.ensures.too_many all.uses (let k = rw p.1 at h in let q = p.2 in cc) in
    too_many_more features c.args.feature.now c.args.self.now.uses all.keys_are all.values_are many

pub returns-clause-added : goal.returns-clause-added
returns-clause-added c = λ features has.
    let f = c.args.feature.now in
    let all = kept_all [] [] c.args.self.now features has (omega arith) in
    let old = c.args.self.now.uses in
    let new = c.append_feature.new.uses in
    let rewritten = c.in_ok-append_feature.ensures.feature all.uses in
    kept_more [] [] _ features f
    (record {
      uses = c.in_ok-append_feature.ensures.uses all.uses;
      keys_are = used_keys features f old new all.keys_are rewritten.0.keys;
      values_are = used_values features f old new all.values_are rewritten.0.values;
      written = written_more features f old new c.clear.new.self.items c.append_feature.new.out.items c.deref.result.now
          c.args.self.now.features.items c.put_field.new.out.items all.written all.keys_are all.values_are c.clear.ensures.items
          rewritten c.deref.ensures.value c.in_ok-put_field.ensures.ok;
    })
