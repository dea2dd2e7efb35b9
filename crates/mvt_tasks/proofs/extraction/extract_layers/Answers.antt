use Rattle.std.proofs.Common.{map, string_bytes}
use Rattle.std.proofs.lemmas.Result.{IfOk-weaker}
use Rattle.mvt_base.specs.declared.TheConstants.{LIMIT}
use Rattle.mvt_tasks.proofs.Replies.{layers_printed}
use Rattle.mvt_tasks.proofs.extraction.extract_layers.Goals as goal

pub extracted-requires : goal.extracted-requires
extracted-requires g c =
    let layers = c.in-Ok.ensures.layers in
    (layers.0, layers.1)

pub returns-in-Ok-clause-reply : goal.returns-in-Ok-clause-reply
returns-in-Ok-clause-reply g c =
    let (tile, are, there) = c.in-Ok.ensures.layers in
    IfOk-weaker c.extracted.result _ _
    (λ reply made. layers_printed LIMIT (g.R.Source.state c.args.reader.now).left c.args.names.now
    (map string_bytes c.as_slice-wanted.result.now) tile reply c.as_slice-wanted.ensures (made tile are) there) c.extracted.ensures.reply
