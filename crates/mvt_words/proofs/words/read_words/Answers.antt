use Rattle.std.proofs.Common.{rules, string_bytes, ap₂, ◌∙◌}
use Rattle.mvt_words.specs.Words.{task_of_matches, files_of_matches}
use Rattle.mvt_words.proofs.Lines.{accepted, refused, entered, flagged, told_last}
use Rattle.mvt_words.proofs.words.read_words.Goals as goal

pub returns-in_ok-read_matches-in-Ok-clause-task : goal.returns-in_ok-read_matches-in-Ok-clause-task
returns-in_ok-read_matches-in-Ok-clause-task c =
    c.in_ok-read_matches-in-Ok.ensures.task ∙ ap₂ task_of_matches
    (flagged _ string_bytes c.args.words.now c.in-Ok.matches c.in_ok-mvt_command.ensures (search rules) c.in-Ok.ensures.matches)
    (entered _ string_bytes c.args.words.now c.in-Ok.matches c.in_ok-mvt_command.ensures (search rules) c.in-Ok.ensures.matches)

pub returns-in_ok-read_matches-in-Ok-clause-files : goal.returns-in_ok-read_matches-in-Ok-clause-files
returns-in_ok-read_matches-in-Ok-clause-files c =
    c.in_ok-read_matches-in-Ok.ensures.files ∙ ap₂ files_of_matches
    (flagged _ string_bytes c.args.words.now c.in-Ok.matches c.in_ok-mvt_command.ensures (search rules) c.in-Ok.ensures.matches)
    (entered _ string_bytes c.args.words.now c.in-Ok.matches c.in_ok-mvt_command.ensures (search rules) c.in-Ok.ensures.matches)

pub returns-in_ok-read_matches-in-Ok-clause-ok : goal.returns-in_ok-read_matches-in-Ok-clause-ok
returns-in_ok-read_matches-in-Ok-clause-ok c =
    accepted _ string_bytes c.args.words.now c.in_ok-mvt_command.ensures (search rules) c.in-Ok.ensures.kinds

pub returns-in-Err-clause-usage : goal.returns-in-Err-clause-usage
returns-in-Err-clause-usage c usage =
    refused _ string_bytes c.args.words.now c.in-Err.error c.in_ok-mvt_command.ensures
    (search rules) c.in-Err.ensures.kinds (λ wanting. c.refusal_of.ensures.usage usage (c.kind.ensures ∙ wanting))

pub returns-in-Err-clause-advice : goal.returns-in-Err-clause-advice
returns-in-Err-clause-advice c usage =
    told_last c.told.result c.refusal_of.result _ (c.refusal_of.ensures.text usage) c.told.ensures
