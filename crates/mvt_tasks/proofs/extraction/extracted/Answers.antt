use Rattle.std.proofs.Common.{◌≡◌, ◌<◌, ℕ, map, Some, string_bytes, sym, subst}
use Rattle.std.proofs.lemmas.List.{length-map}
use Rattle.mvt_base.specs.declared.TheConstants.{LIMIT}
use Rattle.mvt_tile.specs.Extraction.{AreExtracted, first_missing}
use Rattle.mvt_tasks.proofs.Picks.{missing_at}
use Rattle.mvt_tasks.proofs.Replies.{extracted_bytes, extracted_large, missing_reply}
use Rattle.mvt_tasks.proofs.extraction.extracted.Goals as goal

pub missing-requires : goal.missing-requires
missing-requires c =
    let names = map string_bytes c.args.names.now in
    let (tile, are) = c.requires in
    let first : first_missing tile names ≡ Some c.in-Missing.index = subst (AreExtracted LIMIT tile names) c.in-Missing.is are in
    subst (λ (n : ℕ). c.in-Missing.index < n) (length-map c.args.names.now string_bytes) (missing_at tile names c.in-Missing.index first).0

pub returns-in-Bytes-clause-reply : goal.returns-in-Bytes-clause-reply
returns-in-Bytes-clause-reply c = λ tile are.
    let names = map string_bytes c.args.names.now in
    extracted_bytes LIMIT tile names _ _ c.new.ensures (subst (AreExtracted LIMIT tile names) c.in-Bytes.is are)

pub returns-in_ok-missing-in-Missing-clause-reply : goal.returns-in_ok-missing-in-Missing-clause-reply
returns-in_ok-missing-in-Missing-clause-reply c = λ tile are.
    let names = map string_bytes c.args.names.now in
    let first : first_missing tile names ≡ Some c.in-Missing.index = subst (AreExtracted LIMIT tile names) c.in-Missing.is are in
    sym (missing_reply LIMIT tile names c.in-Missing.index _ first c.in_ok-missing-in-Missing.ensures.line)

pub returns-in_ok-too_large-in-TooLarge-clause-reply : goal.returns-in_ok-too_large-in-TooLarge-clause-reply
returns-in_ok-too_large-in-TooLarge-clause-reply c = λ tile are.
    let names = map string_bytes c.args.names.now in
    extracted_large LIMIT tile names _ c.in_ok-too_large-in-TooLarge.ensures (subst (AreExtracted LIMIT tile names) c.in-TooLarge.is are)
