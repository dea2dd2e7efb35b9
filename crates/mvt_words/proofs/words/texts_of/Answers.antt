use Rattle.std.proofs.Common.{map, string_bytes, ap, ◌∙◌}
use Rattle.std.proofs.lemmas.Result.{IfOk-weaker}
use Rattle.clap.specs.Words.{found_of}
use Rattle.mvt_words.proofs.Commands.{texts_some, texts_none}
use Rattle.mvt_words.proofs.words.texts_of.Goals as goal

pub returns-in-Some : goal.returns-in-Some
returns-in-Some c =
    IfOk-weaker c.copied.result _ _ (λ names is. is ∙ texts_some (found_of c.args.matches.now) c.args.key.now _
    c.in-Some.ensures) c.copied.ensures

pub returns-in-None : goal.returns-in-None
returns-in-None c = c.new-in-None.ensures ∙ ap (map string_bytes) c.new.ensures.items
    ∙ texts_none (found_of c.args.matches.now) c.args.key.now c.in-None.ensures
