use Rattle.std.proofs.Common.{rules, arith, ◌≡◌, ◌++◌, ◌∷◌, Some, None, true, false, bytes_eq, take, drop, suc, sym, ap, subst, ◌∙◌}
use Rattle.std.specs.Option.{option_map}
use Rattle.std.proofs.lemmas.List.{take_all}
use Rattle.std.proofs.lemmas.Result.{IfOk-weaker}
use Rattle.std.proofs.Math.Seq.{split_at}
use Rattle.mvt_base.proofs.ListLemmas.{front_more}
use Rattle.mvt_tasks.specs.declared.memory.MemoryFile.{MemoryFile}
use Rattle.mvt_tasks.specs.Folders.{bytes_of, file_named, kind_missing}
use Rattle.mvt_tasks.proofs.FolderLemmas.{held_here, held_read, kind_read, missing_read, named_here, unnamed_next}
use Rattle.mvt_tasks.proofs.memory.opened.Goals as goal

pub returns-then-eq-clause-held : goal.returns-then-eq-clause-held
returns-then-eq-clause-held c =
    held_read c.reader_of.result _ _
    (held_here c.args.files.now (take c.loop-file.file-index c.args.files.now) c.file-item.result
    (drop (suc c.loop-file.file-index) c.args.files.now) c.args.name.now
    (split_at c.args.files.now c.loop-file.file-index c.file-item.result c.loop-file-test.true
    ∙ ap (λ y. take c.loop-file.file-index c.args.files.now ++ y ∷ drop (suc c.loop-file.file-index) c.args.files.now) (sym c.file-item.is))
    c.loop-file.invariant
    (let e : bytes_eq c.file-item.result.name c.args.name.now ≡ true = search rules in e))
    c.reader_of.ensures.held

pub returns-then-eq-clause-missing : goal.returns-then-eq-clause-missing
returns-then-eq-clause-missing c =
    missing_read c.reader_of.result _ _
    (held_here c.args.files.now (take c.loop-file.file-index c.args.files.now) c.file-item.result
    (drop (suc c.loop-file.file-index) c.args.files.now) c.args.name.now
    (split_at c.args.files.now c.loop-file.file-index c.file-item.result c.loop-file-test.true
    ∙ ap (λ y. take c.loop-file.file-index c.args.files.now ++ y ∷ drop (suc c.loop-file.file-index) c.args.files.now) (sym c.file-item.is))
    c.loop-file.invariant
    (let e : bytes_eq c.file-item.result.name c.args.name.now ≡ true = search rules in e))
    c.reader_of.ensures.missing

pub returns-then-eq-clause-kind : goal.returns-then-eq-clause-kind
returns-then-eq-clause-kind c =
    kind_read c.reader_of.result _ _
    (ap kind_missing (named_here c.args.files.now (take c.loop-file.file-index c.args.files.now) c.file-item.result
    (drop (suc c.loop-file.file-index) c.args.files.now) c.args.name.now
    (split_at c.args.files.now c.loop-file.file-index c.file-item.result c.loop-file-test.true
    ∙ ap (λ y. take c.loop-file.file-index c.args.files.now ++ y ∷ drop (suc c.loop-file.file-index) c.args.files.now) (sym c.file-item.is))
    c.loop-file.invariant
    (let e : bytes_eq c.file-item.result.name c.args.name.now ≡ true = search rules in e)))
    c.reader_of.ensures.kind

pub returns-clause-kind : goal.returns-clause-kind
returns-clause-kind c = λ other. ap kind_missing
    (subst (λ files. file_named files c.args.name.now ≡ None) (take_all _ c.args.files.now (omega arith)) c.loop-file.invariant)

pub returns-clause-missing : goal.returns-clause-missing
returns-clause-missing c = λ other. ap bytes_of
    (subst (λ files. file_named files c.args.name.now ≡ None) (take_all _ c.args.files.now (omega arith)) c.loop-file.invariant)

pub loop-file-preserved : goal.loop-file-preserved
loop-file-preserved c =
    subst (λ files. file_named files c.args.name.now ≡ None)
    (sym (front_more c.args.files.now c.loop-file.file-index c.file-item.result c.loop-file-test.true c.file-item.is))
    (unnamed_next (take c.loop-file.file-index c.args.files.now) c.file-item.result c.args.name.now c.loop-file.invariant
    (let e : bytes_eq c.file-item.result.name c.args.name.now ≡ false = search rules in e))

pub returns-then-eq-clause-fails : goal.returns-then-eq-clause-fails
returns-then-eq-clause-fails c =
    let here = named_here c.args.files.now (take c.loop-file.file-index c.args.files.now) c.file-item.result
    (drop (suc c.loop-file.file-index) c.args.files.now) c.args.name.now
    (split_at c.args.files.now c.loop-file.file-index c.file-item.result c.loop-file-test.true
    ∙ ap (λ y. take c.loop-file.file-index c.args.files.now ++ y ∷ drop (suc c.loop-file.file-index) c.args.files.now) (sym c.file-item.is))
    c.loop-file.invariant
    (let e : bytes_eq c.file-item.result.name c.args.name.now ≡ true = search rules in e) in
    IfOk-weaker c.reader_of.result _ _
    (λ reader same. ap (option_map (λ (file : MemoryFile). file.fails_from)) here ∙ ap Some same) c.reader_of.ensures.fails
