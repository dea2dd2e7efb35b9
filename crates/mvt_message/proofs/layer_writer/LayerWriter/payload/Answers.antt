use Rattle.std.proofs.Common.{ap, sym, ◌∙◌, ◌++◌, arith}
use Rattle.mvt_wire.specs.Spelling.{spelled}
use Rattle.mvt_message.specs.CanonicalItems.{head_fields}
use Rattle.mvt_message.specs.Rewriting.{tail_of}
use Rattle.mvt_message.proofs.RewriteLemmas.{layer_rewritten, kept_all, past_limit}
use Rattle.mvt_message.proofs.layer_writer.LayerWriter.payload.Goals as goal

pub returns-then-len-gt-LIMIT : goal.returns-then-len-gt-LIMIT
returns-then-len-gt-LIMIT c = λ keys held layer has name extent. past_limit keys held c.args.self.now layer has (omega arith)

pub returns : goal.returns
returns c = λ keys held layer has name extent.
    let all = kept_all keys held c.args.self.now layer.features has (omega arith) in
    let w = c.args.self.now in
    c.in_ok-append_layer.ensures.ok
    ∙ ap (λ l. l ++ (spelled (head_fields c.args.name.now) ++ (w.features.items ++ tail_of w.uses c.args.extent)))
    c.in_ok-payload.ensures.items
    ∙ sym (layer_rewritten layer c.args.name.now c.args.extent w.uses w.features.items (sym name) (sym extent)
    all.keys_are all.values_are all.written)
