use Rattle.std.proofs.Common.{ap, ◌∙◌, sym, ◌++◌, string_bytes}
use Rattle.std.specs.List.{flat_map}
use Rattle.std.proofs.lemmas.List.{flat_map_more, map-id}
use Rattle.std.proofs.lemmas.Iterator.{YieldsList-from_chars}
use Rattle.std.proofs.lemmas.Iterator.Consumers.{YieldsList-end}
use Rattle.mvt_places.specs.Quoting.{quoted_char}
use Rattle.mvt_places.proofs.quoting.push_quoted.Goals as goal

pub loop-c-preserved : goal.loop-c-preserved
loop-c-preserved c =
    c.in_ok-push_char.ensures ∙ ap (λ bytes. bytes ++ quoted_char c.in-Some.c) c.loop-c.invariant
    ∙ flat_map_more quoted_char (string_bytes c.args.text.now) c.loop-c.yielded c.in-Some.c

pub returns : goal.returns
returns c =
    let end = YieldsList-end (YieldsList-from_chars c.args.name.now c.utf8.name cc) c.loop-c.yielded _
    c.loop-c.yielded_by _ _ c.in-None.is c.next.ensures.steps in
    c.loop-c.invariant ∙ ap (λ cs. string_bytes c.args.text.now ++ flat_map quoted_char cs) (sym (map-id c.loop-c.yielded) ∙ end.0)
