use Rattle.std.proofs.Common.{rules, ◌∙◌, sym, ap}
use Rattle.std.specs.List.{list_all}
use Rattle.mvt_view.specs.Xml.{is_plain}
use Rattle.mvt_view.proofs.XmlLemmas.{plain_stays}
use Rattle.mvt_view.proofs.xml.push_escaped.Goals as goal

pub returns-then-are_plain : goal.returns-then-are_plain
returns-then-are_plain c =
    let plain = ap (list_all is_plain) (sym c.as_bytes.ensures.value) ∙ sym c.are_plain.ensures ∙ c.if-are_plain.true in
    let same = plain_stays c.args.plain.now c.utf8.plain plain in
    search (rules, c.push_str.ensures.bytes, same)
