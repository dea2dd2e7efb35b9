use Rattle.std.proofs.Common.{◌++◌, true, filter, sym, subst, ap, ◌∙◌}
use Rattle.std.specs.Option.{option_to_list}
use Rattle.std.proofs.lemmas.Result.{IfOk-weaker}
use Rattle.mvt_message.specs.CanonicalItems.{canonical_item}
use Rattle.mvt_tile_value.specs.Encoding.{AreEncoded}
use Rattle.mvt_tile.proofs.WantedLemmas.{unwanted_more, wanted_more}
use Rattle.mvt_tile.proofs.rewriting.RewriterTileVisitor.visit_item.Goals as goal

pub returns-in-Ok-clause-item : goal.returns-in-Ok-clause-item
returns-in-Ok-clause-item c = λ wanted payloads items has.
    let (item, is, valid, name, canonical) = c.in-Ok.ensures.item in
    let is_wanted = sym (has.wants item) ∙ sym (c.in_ok-wants.ensures item is valid) ∙ c.if-not-branch.false in
    let made = c.deref.ensures.value ∙ canonical ∙ ap (λ b. b ++ canonical_item item) c.new-canonical.ensures.items in (
      item,
      is,
      valid,
      sym (ap option_to_list c.in_ok-text_of-in-Ok.ensures ∙ name),
      record {
        encoded = subst (λ xs. AreEncoded 67108864 xs c.in_ok-self-in-Ok.field-0) (wanted_more wanted items item true (sym is_wanted))
            (c.in_ok-self-in-Ok.ensures (filter wanted items) item (rw c.take.ensures.value has.encoded) made);
        wants = has.wants;
      },
    )

pub returns-then-not-branch-clause-item : goal.returns-then-not-branch-clause-item
returns-then-not-branch-clause-item c = λ wanted payloads items has.
    IfOk-weaker c.visit_item.result _ _
    (λ name judged.
    let (item, is, valid, named, rest) = judged in
    let unwanted = sym (has.wants item) ∙ sym (c.in_ok-wants.ensures item is valid) ∙ c.if-not-branch.true in
    (item, is, valid, named, unwanted_more 67108864 wanted items item c.args.self.now has unwanted))
    (c.visit_item.ensures.item tt payloads items tt)
