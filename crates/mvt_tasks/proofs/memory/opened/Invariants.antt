use Rattle.std.proofs.Common.{◌≡◌, take, None}
use Rattle.mvt_tasks.specs.Folders.{file_named}
use Rattle.mvt_tasks.proofs.memory.opened.Given as goal

abbrev pub invariant-loop-file : goal.invariant-loop-file
invariant-loop-file l = file_named (take l.file-index l.files) l.name ≡ None
