use Rattle.std.proofs.Common.{rules, ◌∙◌, sym, ap}
use Rattle.std.specs.List.{list_all}
use Rattle.mvt_view.specs.JsonForms.{is_clean}
use Rattle.mvt_view.proofs.QuotedLemmas.{clean_escape}
use Rattle.mvt_view.proofs.quoted.push_inside.Goals as goal

pub returns-then-are_clean : goal.returns-then-are_clean
returns-then-are_clean c =
    let clean = ap (list_all is_clean) (sym c.as_bytes.ensures.value) ∙ sym c.are_clean.ensures ∙ c.if-are_clean.true in
    let same = clean_escape c.args.plain.now clean in
    search (rules, c.push_str.ensures.bytes, same)
