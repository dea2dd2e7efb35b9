-- What is said of files, one after another.
use Rattle.std.proofs.Common.{◌≡◌, ℕ, ◌+◌, ◌<◌, ◌≤◌, inl, inr, Bool, true, false, ◌||◌, cond, List, [], ◌∷◌, ◌++◌, length, map, take, Option, Some, None, Result, Ok, Err, IfErr, refl, sym, ap, ap₂, subst, ◌∙◌, append_assoc, append-nil, zero-add, suc, arith}
use Rattle.std.proofs.lemmas.List.{map-append, length-append}
use Rattle.std.proofs.Math.Seq.{take-append-add}
use Rattle.std.proofs.lemmas.List.Sums.{sum_by-append}
use Rattle.std.proofs.lemmas.Grind.{common_steps, flat_map-append}
use Rattle.std.proofs.KnownBytes.{Appends-nil, Appends-trans}
use Rattle.std.specs.List.{flat_map, list_any}
use Rattle.std.proofs.lemmas.List.Folds.{list_any-append}
use Rattle.std.specs.Prelude.{IfSome}
use Rattle.std.specs.Io.KnownBytes.{Appends, Keeps}
use Rattle.mvt_base.proofs.ListLemmas.{related-append, length-related}
use Rattle.mvt_io.specs.Counts.{last_count}
use Rattle.mvt_io.specs.States.{Outflow}
use Rattle.mvt_tasks.specs.declared.failure.Failure.{Failure}
use Rattle.mvt_tasks.specs.declared.failure.Failure.TheVariants.{Read, Write, Memory}
use Rattle.mvt_tasks.specs.declared.folder.OpenFiles.{OpenFiles}
use Rattle.mvt_tasks.specs.declared.folder.Visit.{Visit}
use Rattle.mvt_tasks.specs.declared.reply.Reply.{Reply}
use Rattle.mvt_tasks.specs.declared.tally.Tally.{Tally}
use Rattle.mvt_tasks.specs.declared.tally.Verdict.{Verdict}
use Rattle.mvt_tasks.specs.declared.tally.Verdict.TheVariants.{Accepted, Found, Refused, Unread}
use Rattle.mvt_tasks.specs.Visits.{AddsAll, IsNext, IsReadAtMost, OneAtATime}
use Rattle.mvt_tasks.specs.Checks.{AreChecked, Checked, EndsEarly, IsLater, IsFileReply, ReportsFiles, ReportsFile, RunState, TakesUntil, Prints, count_of, is_accepted, is_found, is_refused, is_unread, tally_of, printed_of, verdict_of, visit_of, written_of}

-- ---- the error stream

pub prints_nothing : (o : Outflow) → Prints o o []
prints_nothing o = record { counts = inl (omega arith); prints = λ none. Appends-nil o.taken }

later-trans : (a b c : ℕ) → IsLater a b → IsLater b c → IsLater a c
later-trans a b c (inl h) (inl k) = inl (omega arith)
later-trans a b c (inl h) (inr k) = inr k
later-trans a b c (inr h) (inl k) = inr (omega arith)
later-trans a b c (inr h) (inr k) = inr k

-- where none failed in all, none failed at first and none afterwards
none_between : (a b c : ℕ) → IsLater a b → IsLater b c → (c ≡ a) × (a < last_count) → (b ≡ a) × (c ≡ b)
none_between a b c (inl h) (inl k) (same, small) = ((let e : b ≡ a = omega arith in e), (let e : c ≡ b = omega arith in e))
none_between a b c (inl h) (inr k) (same, small) = absurd (omega arith)
none_between a b c (inr h) (inl k) (same, small) = absurd (omega arith)
none_between a b c (inr h) (inr k) (same, small) = absurd (omega arith)

pub prints-trans : (a b c : Outflow) (s t : List ℕ) → Prints a b s → Prints b c t → Prints a c (s ++ t)
prints-trans a b c s t first then = record {
  counts = later-trans a.faults.count b.faults.count c.faults.count first.counts then.counts;
  prints = λ none.
      let (one, two) = none_between a.faults.count b.faults.count c.faults.count first.counts then.counts none in
      let small : a.faults.count < last_count = none.1 in
      Appends-trans a.taken b.taken c.taken s t (first.prints (one, small))
      (then.prints (two, (let e : b.faults.count < last_count = omega arith in e)));
}

-- ---- visits

pub adds_nothing : (o : Option (List Visit)) → AddsAll o o []
adds_nothing None = tt
adds_nothing (Some xs) = sym (append-nil xs)

adds-trans : (a b c : Option (List Visit)) (vs ws : List Visit) → AddsAll a b vs → AddsAll b c ws → AddsAll a c (vs ++ ws)
adds-trans a b None vs ws p q = tt
adds-trans a None (Some z) vs ws p q = absurd q
adds-trans None (Some y) (Some z) vs ws p q = absurd p
adds-trans (Some x) (Some y) (Some z) vs ws p q = q ∙ ap (λ l. l ++ ws) p ∙ append_assoc x vs ws

-- ---- open files

pub one_more_then : (a b c : OpenFiles) → OneAtATime a b → OneAtATime b c → OneAtATime a c
one_more_then a b c (fewer, most) (less, more) = (omega arith, grind (arith, common_steps))

-- ---- tallies

counts_all : (v : Verdict) → cond (is_accepted v) 1 0 + cond (is_refused v) 1 0 + cond (is_unread v) 1 0 ≡ 1
counts_all Accepted = refl
counts_all Found = refl
counts_all Refused = refl
counts_all Unread = refl

count_cons : (test : Verdict → Bool) (f : Checked) (files : List Checked)
    → count_of test (f ∷ files) ≡ cond (test (verdict_of f.reply)) 1 0 + count_of test files
count_cons test f files =
    sum_by-append (λ (file : Checked). cond (test (verdict_of file.reply)) 1 0) (f ∷ []) files
    ∙ ap (λ n. n + count_of test files) (zero-add (cond (test (verdict_of f.reply)) 1 0))

count_more : (test : Verdict → Bool) (files : List Checked) (f : Checked)
    → count_of test (files ++ f ∷ []) ≡ count_of test files + cond (test (verdict_of f.reply)) 1 0
count_more test files f =
    sum_by-append (λ (file : Checked). cond (test (verdict_of file.reply)) 1 0) files (f ∷ [])
    ∙ ap (λ n. count_of test files + n) (zero-add (cond (test (verdict_of f.reply)) 1 0))

one_more : (a r u x y z n : ℕ) → a + r + u ≡ 1 → x + y + z ≡ n → (a + x) + (r + y) + (u + z) ≡ suc n
one_more a r u x y z n one rest = omega arith

pub tally_size : (files : List Checked) → (tally_of files).accepted + (tally_of files).refused + (tally_of files).unread ≡ length files
tally_size [] = refl
tally_size (f ∷ fs) =
    let of_three : (a r u : ℕ) → a ≡ cond (is_accepted (verdict_of f.reply)) 1 0 + (tally_of fs).accepted
    → r ≡ cond (is_refused (verdict_of f.reply)) 1 0 + (tally_of fs).refused
    → u ≡ cond (is_unread (verdict_of f.reply)) 1 0 + (tally_of fs).unread → a + r + u ≡ suc (length fs) =
    λ a r u is_a is_r is_u. ap₂ (λ (x y : ℕ). x + y) (ap₂ (λ (x y : ℕ). x + y) is_a is_r) is_u
    ∙ one_more _ _ _ (tally_of fs).accepted (tally_of fs).refused (tally_of fs).unread (length fs) (counts_all (verdict_of f.reply))
    (tally_size fs) in
    of_three (count_of is_accepted (f ∷ fs)) (count_of is_refused (f ∷ fs)) (count_of is_unread (f ∷ fs)) (count_cons is_accepted f fs)
    (count_cons is_refused f fs) (count_cons is_unread f fs)

-- ---- files

-- what is said of what a file holds
pub said_held : (Says : List ℕ → Reply → Type 0) (held left : Option (List ℕ)) (reply : Reply) → IfSome held (λ bytes. left ≡ Some bytes)
    → IfSome left (λ input. Says input reply) → IfSome held (λ input. Says input reply)
said_held Says None left reply opened says = tt
said_held Says (Some bytes) left reply opened says = subst (λ (o : Option (List ℕ)). IfSome o (λ input. Says input reply)) opened says

pub said_none : (Says : List ℕ → Reply → Type 0) (holds : List ℕ → Option (List ℕ)) (now : RunState) (tally : Tally)
    → tally ≡ record { accepted = 0; refused = 0; unread = 0; has_findings = false } → ReportsFiles Says holds [] now now [] tally
said_none Says holds now tally is = record {
  files = [];
  checked = tt;
  visited = adds_nothing now.visits;
  written = Appends-nil now.output.taken;
  printed = prints_nothing now.errors;
  counted = is;
}

-- whether something was found of a file
abbrev any_found : List Checked → Bool
any_found files = list_any (λ (file : Checked). is_found (verdict_of file.reply)) files

or_false : (b : Bool) → (b || false) ≡ b
or_false true = refl
or_false false = refl

any_more : (files : List Checked) (f : Checked) → any_found (files ++ f ∷ []) ≡ any_found files || is_found (verdict_of f.reply)
any_more files f =
    list_any-append (λ (file : Checked). is_found (verdict_of file.reply)) files (f ∷ [])
    ∙ ap (λ b. any_found files || b) (or_false (is_found (verdict_of f.reply)))

-- a tally with one verdict more
pub record IsAdded (old new : Tally) (verdict : Verdict) : Type 0 where
  pub accepted : new.accepted ≡ old.accepted + cond (is_accepted verdict) 1 0
  pub refused : new.refused ≡ old.refused + cond (is_refused verdict) 1 0
  pub unread : new.unread ≡ old.unread + cond (is_unread verdict) 1 0
  pub found : new.has_findings ≡ old.has_findings || is_found verdict

counted_more : (files : List Checked) (file : Checked) (old new : Tally) (verdict : Verdict)
    → old ≡ tally_of files → verdict ≡ verdict_of file.reply → IsAdded old new verdict → new ≡ tally_of (files ++ file ∷ [])
counted_more files file old new verdict counted judged adds =
    let a : new.accepted ≡ count_of is_accepted (files ++ file ∷ []) =
    adds.accepted ∙ ap₂ (λ (t : Tally) (v : Verdict). t.accepted + cond (is_accepted v) 1 0) counted judged
    ∙ sym (count_more is_accepted files file) in
    let r : new.refused ≡ count_of is_refused (files ++ file ∷ []) =
    adds.refused ∙ ap₂ (λ (t : Tally) (v : Verdict). t.refused + cond (is_refused v) 1 0) counted judged
    ∙ sym (count_more is_refused files file) in
    let u : new.unread ≡ count_of is_unread (files ++ file ∷ []) =
    adds.unread ∙ ap₂ (λ (t : Tally) (v : Verdict). t.unread + cond (is_unread v) 1 0) counted judged
    ∙ sym (count_more is_unread files file) in
    let f : new.has_findings ≡ any_found (files ++ file ∷ []) =
    adds.found ∙ ap₂ (λ (t : Tally) (v : Verdict). t.has_findings || is_found v) counted judged ∙ sym (any_more files file) in
    ap₂ (λ (p q : ℕ × ℕ). record { accepted = p.0; refused = p.1; unread = q.0; has_findings = new.has_findings })
    (ap₂ (λ (x y : ℕ). (x, y)) a r) (ap (λ (x : ℕ). (x, 0)) u)
    ∙ ap (λ (b : Bool). record {
      accepted = count_of is_accepted (files ++ file ∷ []);
      refused = count_of is_refused (files ++ file ∷ []);
      unread = count_of is_unread (files ++ file ∷ []);
      has_findings = b;
    }) f

-- one file more
pub said_more : (Says : List ℕ → Reply → Type 0) (holds : List ℕ → Option (List ℕ)) (names : List (List ℕ)) (name : List ℕ)
    (a b c : RunState)
    (old new : Tally) (verdict : Verdict)
    → ReportsFiles Says holds names a b [] old → ReportsFile Says holds name b c verdict → IsAdded old new verdict
    → ReportsFiles Says holds (names ++ name ∷ []) a c [] new
said_more Says holds names name a b c old new verdict said one adds =
    let file : Checked = record { name = name; reply = one.reply } in
    let files = said.files in
    let visits = λ (fs : List Checked). map (λ f. visit_of f.name f.reply) fs in
    let lines : (flat_map printed_of files ++ []) ++ printed_of file ≡ flat_map printed_of (files ++ file ∷ []) ++ [] =
    ap (λ t. t ++ printed_of file) (append-nil (flat_map printed_of files))
    ∙ sym (append-nil (flat_map printed_of (files ++ file ∷ [])) ∙ flat_map-append printed_of files (file ∷ [])
    ∙ ap (λ t. flat_map printed_of files ++ t) (append-nil (printed_of file))) in
    record {
      files = files ++ file ∷ [];
      checked =
          related-append (λ n (f : Checked). (f.name ≡ n) × IsFileReply Says (holds n) f.reply) names files (name ∷ []) (file ∷ [])
          said.checked
          ((refl, one.checked), tt);
      visited =
          subst (AddsAll a.visits c.visits) (sym (map-append (λ (f : Checked). visit_of f.name f.reply) files (file ∷ [])))
          (adds-trans a.visits b.visits c.visits (visits files) (visits (file ∷ [])) said.visited one.visited);
      written =
          subst (Appends a.output.taken c.output.taken)
          (sym (flat_map-append written_of files (file ∷ []) ∙ ap (λ t. flat_map written_of files ++ t) (append-nil (written_of file))))
          (Appends-trans a.output.taken b.output.taken c.output.taken (flat_map written_of files) (written_of file) said.written
          one.written);
      printed =
          subst (Prints a.errors c.errors) lines
          (prints-trans a.errors b.errors c.errors (flat_map printed_of files ++ [])
          (printed_of file) said.printed one.printed);
      counted = counted_more files file old new verdict said.counted one.judged adds;
    }

-- so many files were counted as there are names
pub said_size : (Says : List ℕ → Reply → Type 0) (holds : List ℕ → Option (List ℕ)) (names : List (List ℕ)) (a b : RunState)
    (line : List ℕ) (tally : Tally)
    → ReportsFiles Says holds names a b line tally → tally.accepted + tally.refused + tally.unread ≡ length names
said_size Says holds names a b line tally said =
    ap (λ (t : Tally). t.accepted + t.refused + t.unread) said.counted ∙ tally_size said.files
    ∙ sym (length-related (λ n (f : Checked). (f.name ≡ n) × IsFileReply Says (holds n) f.reply) names said.files said.checked)

pub said_step : (Says : List ℕ → Reply → Type 0) (holds held : List ℕ → Option (List ℕ)) (all names : List (List ℕ)) (name shown : List ℕ)
    (a b c : RunState)
    (old new : Tally) (verdict : Verdict)
    → ReportsFiles Says holds names a b [] old → ReportsFile Says held shown b c verdict → held ≡ holds → shown ≡ name
    → all ≡ names ++ name ∷ [] → IsAdded old new verdict → ReportsFiles Says holds all a c [] new
said_step Says holds held all names name shown a b c old new verdict said one same shows all_is adds =
    let here : ReportsFile Says holds name b c verdict =
    subst (λ (h : List ℕ → Option (List ℕ)). ReportsFile Says h name b c verdict) same
    (subst (λ (n : List ℕ). ReportsFile Says held n b c verdict) shows one) in
    subst (λ (ns : List (List ℕ)). ReportsFiles Says holds ns a c [] new) (sym all_is)
    (said_more Says holds names name a b c old new verdict said here adds)

-- ---- a run that was over early

-- what is said of a first part of the files, and then until the run was over
takes_on : (x y z : Option (List ℕ)) (s t : List ℕ) (failure : Failure) → Appends x y s → TakesUntil y z t failure
    → TakesUntil x z (s ++ t) failure
takes_on x y z s t Read first then = absurd then
takes_on x y z s t Write first (n, small, then) = (
  length s + n,
  (let e : length s + n ≤ length (s ++ t) = subst (λ m. length s + n ≤ m) (sym (length-append s t)) (omega arith) in e),
  subst (Appends x z) (sym (take-append-add s t n)) (Appends-trans x y z s (take n t) first then),
)
takes_on x y z s t Memory first then = Appends-trans x y z s t first then

keeps_nothing : (x y : Option (List ℕ)) → Keeps x y → Appends x y []
keeps_nothing None y keeps = tt
keeps_nothing (Some xs) None keeps = absurd keeps
keeps_nothing (Some xs) (Some ys) keeps = keeps ∙ sym (append-nil xs)

weaker_err : {T E : Type 0} (r : Result T E) {P Q : E → Type 0} → ((e : E) → P e → Q e) → IfErr r P → IfErr r Q
weaker_err (Ok x) f h = tt
weaker_err (Err e) f h = f e h

-- an end before the first file was checked
pub cut_first : (Says : List ℕ → Reply → Type 0) (holds : List ℕ → Option (List ℕ)) (names : List (List ℕ)) (old : RunState)
    (visits : Option (List Visit))
    (next : List Visit)
    → IsNext names next → AddsAll old.visits visits next → EndsEarly Says holds names old (record old { visits = visits }) [] Memory
cut_first Says holds names old visits next is_next visited = record {
  front = [];
  rest = names;
  files = [];
  next = next;
  of_names = refl;
  checked = tt;
  is_next = is_next;
  visited = visited;
  taken = Appends-nil old.output.taken;
  printed = prints_nothing old.errors;
}

-- an end within a file, of which there is something to say
cut_within : (Says : List ℕ → Reply → Type 0) (holds : List ℕ → Option (List ℕ)) (name : List ℕ) (reply : Option Reply)
    (old new : RunState) (failure : Failure)
    → IsFileReply Says (holds name) reply → AddsAll old.visits new.visits (visit_of name reply ∷ [])
    → TakesUntil old.output.taken new.output.taken (written_of (record { name = name; reply = reply })) failure
    → Prints old.errors new.errors (printed_of (record { name = name; reply = reply }))
    → EndsEarly Says holds (name ∷ []) old new [] failure
cut_within Says holds name reply old new failure said visited takes printed =
    let file : Checked = record { name = name; reply = reply } in
    record {
      front = name ∷ [];
      rest = [];
      files = file ∷ [];
      next = [];
      of_names = refl;
      checked = ((refl, said), tt);
      is_next = tt;
      visited = visited;
      taken = subst (λ text. TakesUntil old.output.taken new.output.taken text failure) (sym (append-nil (written_of file))) takes;
      printed = subst (Prints old.errors new.errors)
          (sym (append-nil (printed_of file ++ []) ∙ append-nil (printed_of file))) printed;
    }

-- an end after the last file
cut_last : (Says : List ℕ → Reply → Type 0) (holds : List ℕ → Option (List ℕ)) (names : List (List ℕ)) (a b : RunState) (tally : Tally)
    (w : Outflow) (failure : Failure)
    → ReportsFiles Says holds names a b [] tally → TakesUntil b.output.taken w.taken [] failure
    → EndsEarly Says holds names a (record b { output = w }) [] failure
cut_last Says holds names a b tally w failure said takes = record {
  front = names;
  rest = [];
  files = said.files;
  next = [];
  of_names = sym (append-nil names);
  checked = said.checked;
  is_next = tt;
  visited =
      subst (AddsAll a.visits b.visits) (sym (append-nil (map (λ (f : Checked). visit_of f.name f.reply) said.files))) said.visited;
  taken =
      subst (λ text. TakesUntil a.output.taken w.taken text failure) (append-nil (flat_map written_of said.files))
      (takes_on a.output.taken b.output.taken w.taken (flat_map written_of said.files) [] failure said.written takes);
  printed = said.printed;
}

pub read_is_next : (name : List ℕ) (next : List Visit) → IsReadAtMost name next → IsNext (name ∷ []) next
read_is_next name [] is = tt
read_is_next name (v ∷ []) is = ap (λ (w : Visit). w.name) is
read_is_next name (v ∷ w ∷ vs) is = absurd is

next_more : (rest behind : List (List ℕ)) (next : List Visit) → IsNext rest next → IsNext (rest ++ behind) next
next_more rest behind [] is = tt
next_more [] behind (v ∷ vs) is = absurd is
next_more (name ∷ names) behind (v ∷ []) is = is
next_more (name ∷ names) behind (v ∷ w ∷ vs) is = absurd is

-- an end at a file after others
cut_later : (Says : List ℕ → Reply → Type 0) (holds held : List ℕ → Option (List ℕ)) (all names : List (List ℕ)) (name shown : List ℕ)
    (behind : List (List ℕ)) (a b c : RunState) (tally : Tally) (failure : Failure)
    → ReportsFiles Says holds names a b [] tally → EndsEarly Says held (shown ∷ []) b c [] failure → held ≡ holds → shown ≡ name
    → all ≡ names ++ name ∷ behind → EndsEarly Says holds all a c [] failure
cut_later Says holds held all names name shown behind a b c tally failure said cut same shows all_is =
    let one : shown ∷ [] ≡ cut.front ++ cut.rest = cut.of_names in
    let visits = λ (fs : List Checked). map (λ f. visit_of f.name f.reply) fs in
    let lines : (flat_map printed_of said.files ++ []) ++ (flat_map printed_of cut.files ++ []) ≡ flat_map printed_of
    (said.files ++ cut.files) ++ [] =
    ap (λ t. t ++ (flat_map printed_of cut.files ++ [])) (append-nil (flat_map printed_of said.files))
    ∙ sym (append_assoc (flat_map printed_of said.files) (flat_map printed_of cut.files) [])
    ∙ ap (λ t. t ++ []) (sym (flat_map-append printed_of said.files cut.files)) in
    record {
      front = names ++ cut.front;
      rest = cut.rest ++ behind;
      files = said.files ++ cut.files;
      next = cut.next;
      of_names =
          all_is ∙ ap (λ n. names ++ n ∷ behind) (sym shows) ∙ ap (λ ns. names ++ (ns ++ behind)) one
          ∙ ap (λ ns. names ++ ns) (append_assoc cut.front cut.rest behind) ∙ sym (append_assoc names cut.front (cut.rest ++ behind));
      checked =
          related-append (λ n (f : Checked). (f.name ≡ n) × IsFileReply Says (holds n) f.reply) names said.files cut.front
          cut.files said.checked
          (subst (λ (h : List ℕ → Option (List ℕ)). AreChecked Says h cut.front cut.files) same cut.checked);
      is_next = next_more cut.rest behind cut.next cut.is_next;
      visited =
          subst (AddsAll a.visits c.visits)
          (sym (ap (λ l. l ++ cut.next) (map-append (λ (f : Checked). visit_of f.name f.reply) said.files cut.files)
          ∙ append_assoc (visits said.files) (visits cut.files) cut.next))
          (adds-trans a.visits b.visits c.visits (visits said.files) (visits cut.files ++ cut.next) said.visited cut.visited);
      taken =
          subst (λ text. TakesUntil a.output.taken c.output.taken text failure) (sym (flat_map-append written_of said.files cut.files))
          (takes_on a.output.taken b.output.taken c.output.taken (flat_map written_of said.files) (flat_map written_of cut.files) failure
          said.written cut.taken);
      printed =
          subst (Prints a.errors c.errors) lines
          (prints-trans a.errors b.errors c.errors (flat_map printed_of said.files ++ [])
          (flat_map printed_of cut.files ++ []) said.printed cut.printed);
    }

-- the line that tells why
pub cut_printed : (Says : List ℕ → Reply → Type 0) (holds : List ℕ → Option (List ℕ)) (names : List (List ℕ)) (a b : RunState)
    (errors : Outflow)
    (line : List ℕ) (failure : Failure)
    → EndsEarly Says holds names a b [] failure → Prints b.errors errors line
    → EndsEarly Says holds names a (record b { errors = errors }) line failure
cut_printed Says holds names a b errors line failure cut printed = record {
  front = cut.front;
  rest = cut.rest;
  files = cut.files;
  next = cut.next;
  of_names = cut.of_names;
  checked = cut.checked;
  is_next = cut.is_next;
  visited = cut.visited;
  taken = cut.taken;
  printed =
      subst (λ text. Prints a.errors errors (text ++ line)) (append-nil (flat_map printed_of cut.files))
      (prints-trans a.errors b.errors errors (flat_map printed_of cut.files ++ []) line cut.printed printed);
}

pub cut_at_start : (Says : List ℕ → Reply → Type 0) (holds : List ℕ → Option (List ℕ)) (names : List (List ℕ)) (old : RunState)
    (errors : Outflow) (line : List ℕ)
    → Prints old.errors errors line → EndsEarly Says holds names old (record old { errors = errors }) line Memory
cut_at_start Says holds names old errors line printed =
    cut_printed Says holds names old old errors line Memory
    (cut_first Says holds names old old.visits [] tt (adds_nothing old.visits)) printed

-- of an answer

module _ {T : Type 0} (r : Result T Failure) (Says : List ℕ → Reply → Type 0) (holds : List ℕ → Option (List ℕ)) where
  pub cut_first_of : (name : List ℕ) (old : RunState) (visits : Option (List Visit)) (next : List Visit) → IsNext (name ∷ []) next
      → AddsAll old.visits visits next → IfErr r (λ failure. failure ≡ Memory)
      → IfErr r (EndsEarly Says holds (name ∷ []) old (record old { visits = visits }) [])
  cut_first_of name old visits next is_next visited is =
      weaker_err r (λ failure is_memory. subst (EndsEarly Says holds (name ∷ []) old (record old { visits = visits }) []) (sym is_memory)
      (cut_first Says holds (name ∷ []) old visits next is_next visited)) is

  pub cut_within_of : (name : List ℕ) (reply : Option Reply) (old new : RunState) → IsFileReply Says (holds name) reply
      → AddsAll old.visits new.visits (visit_of name reply ∷ [])
      → IfErr r (TakesUntil old.output.taken new.output.taken (written_of (record { name = name; reply = reply })))
      → Prints old.errors new.errors (printed_of (record { name = name; reply = reply }))
      → IfErr r (EndsEarly Says holds (name ∷ []) old new [])
  cut_within_of name reply old new said visited takes printed =
      weaker_err r (λ failure took. cut_within Says holds name reply old new failure said visited took printed) takes

  pub cut_unwritten : (names : List (List ℕ)) (a b : RunState) (tally : Tally) → ReportsFiles Says holds names a b [] tally
      → IfErr r (λ failure. failure ≡ Memory) → IfErr r (EndsEarly Says holds names a b [])
  cut_unwritten names a b tally said is =
      weaker_err r (λ failure is_memory. cut_last Says holds names a b tally b.output failure said
      (subst (TakesUntil b.output.taken b.output.taken []) (sym is_memory) (Appends-nil b.output.taken))) is

  pub cut_unflushed : (names : List (List ℕ)) (a b : RunState) (tally : Tally) (w : Outflow)
      → ReportsFiles Says holds names a b [] tally → Keeps b.output.taken w.taken → IfErr r (λ failure. failure ≡ Write)
      → IfErr r (EndsEarly Says holds names a (record b { output = w }) [])
  cut_unflushed names a b tally w said keeps is =
      weaker_err r (λ failure is_write. cut_last Says holds names a b tally w failure said
      (subst (TakesUntil b.output.taken w.taken []) (sym is_write) (0, (omega arith), keeps_nothing b.output.taken w.taken keeps))) is

  pub cut_later_of : (held : List ℕ → Option (List ℕ)) (all names : List (List ℕ)) (name shown : List ℕ)
      (behind : List (List ℕ)) (a b c : RunState) (tally : Tally)
      → ReportsFiles Says holds names a b [] tally → IfErr r (EndsEarly Says held (shown ∷ []) b c []) → held ≡ holds → shown ≡ name
      → all ≡ names ++ name ∷ behind → IfErr r (EndsEarly Says holds all a c [])
  cut_later_of held all names name shown behind a b c tally said cut same shows all_is =
      weaker_err r (λ failure one. cut_later Says holds held all names name shown behind a b c tally failure said one same shows all_is) cut
