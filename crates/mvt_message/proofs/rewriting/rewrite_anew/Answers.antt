use Rattle.std.proofs.Common.{◌++◌, ◌∷◌, [], refl, ap, sym, ◌∙◌}
use Rattle.mvt_message.specs.declared.item.Item.TheVariants as items
use Rattle.mvt_message.proofs.RewriteLemmas.{canonical_foreign}
use Rattle.mvt_message.proofs.rewriting.rewrite_anew.Goals as goal

pub visit_version_2-requires : goal.visit_version_2-requires
visit_version_2-requires c κs =
    ((refl, tt), (c.requires.small, (c.requires.fits, ([], c.in_ok-rewriter.ensures [] tt))))

pub returns-in_ok-append_written-in-Layer-clause-item : goal.returns-in_ok-append_written-in-Layer-clause-item
returns-in_ok-append_written-in-Layer-clause-item c =
    let payload = c.args.payload.now in
    let (item, is, valid, visited) = c.in_ok-visited.ensures.item [] (c.in_ok-rewriter.ensures [] tt) tt in
    let (layer, read, sound, name, told, canonical) = rw c.in-Layer.is at c.finish.ensures [] payload item is valid visited in (
      items.Layer layer,
      read,
      sound,
      ap (λ n. n ∷ []) name,
      c.in_ok-append_written-in-Layer.ensures.ok ∙ ap (λ b. c.args.out.now.items ++ b) (sym canonical),
    )

pub returns-in_ok-extend_from_slice-in-Foreign-clause-item : goal.returns-in_ok-extend_from_slice-in-Foreign-clause-item
returns-in_ok-extend_from_slice-in-Foreign-clause-item c =
    let payload = c.args.payload.now in
    let version = c.in-Foreign.field-0 in
    let (item, is, valid, visited) = c.in_ok-visited.ensures.item [] (c.in_ok-rewriter.ensures [] tt) tt in
    let (read, sound) = rw c.in-Foreign.is at c.finish.ensures [] payload item is valid visited in (
      items.Foreign version payload,
      read,
      sound,
      refl,
      c.in_ok-extend_from_slice-in-Foreign.ensures.items ∙ ap (λ b. c.args.out.now.items ++ b) (sym (canonical_foreign version payload)),
    )
