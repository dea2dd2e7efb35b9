-- The first file of a name.
use Rattle.std.proofs.Common.{◌≡◌, ◌≢◌, ℕ, Bool, true, false, cond, List, [], ◌∷◌, ◌++◌, find, bytes_eq, Option, Some, None, Result, Ok, Err, IfOk, IfErr, refl, ap, ◌∙◌}
use Rattle.std.specs.declared.io.ErrorKind.{ErrorKind}
use Rattle.std.specs.declared.io.ErrorKind.TheVariants.{OutOfMemory}
use Rattle.mvt_io.specs.Devices.{SourceState}
use Rattle.mvt_tasks.specs.declared.memory.MemoryFile.{MemoryFile}
use Rattle.mvt_tasks.specs.Folders.{bytes_of, file_named, held_in}

skips : {A : Type 0} (b : Bool) (x : A) (found : Option A) (y : A) (o : Option A) → cond b (Some x) o ≡ None → (o ≡ None → found ≡ Some y)
    → cond b (Some x) found ≡ Some y
skips true x found y o is rest = cc
skips false x found y o is rest = rest is

at_last : {A : Type 0} (b : Bool) (x : A) (found : Option A) → b ≡ true → cond b (Some x) found ≡ Some x
at_last true x found is = refl
at_last false x found is = cc

-- after a front in which none passes
find_after : {A : Type 0} (p : A → Bool) (front : List A) (x : A) (behind : List A) → find p front ≡ None → p x ≡ true
    → find p (front ++ x ∷ behind) ≡ Some x
find_after p [] x behind none passes = at_last (p x) x (find p behind) passes
find_after p (y ∷ ys) x behind none passes =
    skips (p y) y (find p (ys ++ x ∷ behind)) x (find p ys) none (λ e. find_after p ys x behind e passes)

none_next : {A : Type 0} (p : A → Bool) (front : List A) (x : A) → find p front ≡ None → p x ≡ false → find p (front ++ x ∷ []) ≡ None
none_next p [] x none fails = ap (λ b. cond b (Some x) None) fails
none_next p (y ∷ ys) x none fails = none_after (p y) y (find p ys) (find p (ys ++ x ∷ [])) none (λ e. none_next p ys x e fails)
  where
    none_after : {A : Type 0} (b : Bool) (y : A) (o found : Option A) → cond b (Some y) o ≡ None → (o ≡ None → found ≡ None)
        → cond b (Some y) found ≡ None
    none_after true y o found is rest = cc
    none_after false y o found is rest = rest is

pub unnamed_next : (front : List MemoryFile) (file : MemoryFile) (name : List ℕ) → file_named front name ≡ None
    → bytes_eq file.name name ≡ false → file_named (front ++ file ∷ []) name ≡ None
unnamed_next front file name none fails = none_next (λ (f : MemoryFile). bytes_eq f.name name) front file none fails

pub named_here : (all front : List MemoryFile) (file : MemoryFile) (behind : List MemoryFile) (name : List ℕ)
    → all ≡ front ++ file ∷ behind → file_named front name ≡ None → bytes_eq file.name name ≡ true → file_named all name ≡ Some file
named_here all front file behind name is none passes =
    ap (λ files. file_named files name) is ∙ find_after (λ (f : MemoryFile). bytes_eq f.name name) front file behind none passes

pub held_here : (all front : List MemoryFile) (file : MemoryFile) (behind : List MemoryFile) (name : List ℕ)
    → all ≡ front ++ file ∷ behind → file_named front name ≡ None → bytes_eq file.name name ≡ true → held_in all name ≡ bytes_of (Some file)
held_here all front file behind name is none passes =
    ap (λ files. held_in files name) is ∙ ap bytes_of (find_after (λ (f : MemoryFile). bytes_eq f.name name) front file behind none passes)

pub held_read : (r : Result SourceState ErrorKind) (held bytes : Option (List ℕ)) → held ≡ bytes
    → IfOk r (λ (reader : SourceState). bytes ≡ Some reader.left) → IfOk r (λ (reader : SourceState). held ≡ Some reader.left)
held_read (Ok reader) held bytes same is = same ∙ is
held_read (Err kind) held bytes same is = tt

pub kind_read : {A : Type 0} (r : Result A ErrorKind) (is was : Option ErrorKind) → is ≡ was
    → IfErr r (λ kind. kind ≢ OutOfMemory → was ≡ Some kind) → IfErr r (λ kind. kind ≢ OutOfMemory → is ≡ Some kind)
kind_read (Ok x) is was same told = tt
kind_read (Err kind) is was same told = λ other. same ∙ told other

pub missing_read : (r : Result SourceState ErrorKind) (held bytes : Option (List ℕ)) → held ≡ bytes
    → IfErr r (λ kind. kind ≢ OutOfMemory → bytes ≡ None) → IfErr r (λ kind. kind ≢ OutOfMemory → held ≡ None)
missing_read (Ok reader) held bytes same is = tt
missing_read (Err kind) held bytes same is = λ other. same ∙ is other
