-- What clap makes of the command `mvt`, by computing.
use Rattle.std.proofs.Common.{◌≡◌, ◌≢◌, ℕ, true, false, List, [], ◌∷◌, ◌==◌, length, map, Result, Ok, Err, IfOk, Global, subst, refl, sym, ap, ◌∙◌, codes, inl, inr}
use Rattle.std.specs.Prelude.{IsOkAnd, String, string_bytes}
use Rattle.clap.specs.Kinds.{HasKind, Kinds}
use Rattle.clap.specs.declared.error.Error.{Error}
use Rattle.clap.specs.declared.parser.matches.ArgMatches.{ArgMatches}
use Rattle.clap.specs.declared.error.kind.ErrorKind.TheVariants.{OutOfMemory}
use Rattle.clap.proofs.OnLiterals.{clap_on_literals}
use Rattle.clap.specs.Words.{App, HasMatchesOf, fault_of, found_of, is_simple, is_simple_and_free, kind_of, matches_of, rows_of, subcommand_of, subcommand_rows_of}
use Rattle.mvt_words.specs.Refused.{EndsWith, usage_text}
use Rattle.mvt_words.specs.declared.words.Refusal.{Refusal}
use Rattle.mvt_words.specs.declared.words.Refusal.TheVariants.{Usage}
use Rattle.mvt_words.specs.Words.{mvt, bare_mvt, extract_app, files_app, faults_in, flags_in, subcommand_in, IsBare, IsPlainLine}

pub mvt_free : is_simple_and_free mvt ≡ true
unfolding clap_on_literals mvt bare_mvt extract_app files_app
mvt_free = refl

pub name_alone : (name : List ℕ) → fault_of mvt (name ∷ []) ≡ []
unfolding clap_on_literals mvt bare_mvt extract_app files_app
name_alone name = refl

pub fields_alone : (name : List ℕ) → fault_of mvt (name ∷ codes "fields" ∷ []) ≡ []
unfolding clap_on_literals mvt bare_mvt extract_app files_app
fields_alone name = refl

pub show_alone : (name : List ℕ) → fault_of mvt (name ∷ codes "show" ∷ []) ≡ []
unfolding clap_on_literals mvt bare_mvt extract_app files_app
show_alone name = refl

pub draw_alone : (name : List ℕ) → fault_of mvt (name ∷ codes "draw" ∷ []) ≡ []
unfolding clap_on_literals mvt bare_mvt extract_app files_app
draw_alone name = refl

pub check_alone : (name : List ℕ) → fault_of mvt (name ∷ codes "check" ∷ []) ≡ []
unfolding clap_on_literals mvt bare_mvt extract_app files_app
check_alone name = refl

pub explain_alone : (name : List ℕ) → fault_of mvt (name ∷ codes "explain" ∷ []) ≡ []
unfolding clap_on_literals mvt bare_mvt extract_app files_app
explain_alone name = refl

pub lint_alone : (name : List ℕ) → fault_of mvt (name ∷ codes "lint" ∷ []) ≡ []
unfolding clap_on_literals mvt bare_mvt extract_app files_app
lint_alone name = refl

pub rewrite_alone : (name : List ℕ) → fault_of mvt (name ∷ codes "rewrite" ∷ []) ≡ []
unfolding clap_on_literals mvt bare_mvt extract_app files_app
rewrite_alone name = refl

pub mend_alone : (name : List ℕ) → fault_of mvt (name ∷ codes "mend" ∷ []) ≡ []
unfolding clap_on_literals mvt bare_mvt extract_app files_app
mend_alone name = refl

pub version_alone : (name : List ℕ) → fault_of mvt (name ∷ codes "--version" ∷ []) ≡ []
unfolding clap_on_literals mvt bare_mvt extract_app files_app
version_alone name = refl

pub mvt_simple : is_simple mvt ≡ true
unfolding clap_on_literals mvt bare_mvt extract_app files_app
mvt_simple = refl

pub bare_alone : (name word : List ℕ) → IsBare word → fault_of mvt (name ∷ word ∷ []) ≡ []
bare_alone name word (inl h) = ap (λ w. fault_of mvt (name ∷ w ∷ [])) h ∙ fields_alone name
bare_alone name word (inr (inl h)) = ap (λ w. fault_of mvt (name ∷ w ∷ [])) h ∙ show_alone name
bare_alone name word (inr (inr (inl h))) = ap (λ w. fault_of mvt (name ∷ w ∷ [])) h ∙ draw_alone name
bare_alone name word (inr (inr (inr (inl h)))) = ap (λ w. fault_of mvt (name ∷ w ∷ [])) h ∙ check_alone name
bare_alone name word (inr (inr (inr (inr (inl h))))) = ap (λ w. fault_of mvt (name ∷ w ∷ [])) h ∙ explain_alone name
bare_alone name word (inr (inr (inr (inr (inr (inl h)))))) = ap (λ w. fault_of mvt (name ∷ w ∷ [])) h ∙ lint_alone name
bare_alone name word (inr (inr (inr (inr (inr (inr (inl h))))))) = ap (λ w. fault_of mvt (name ∷ w ∷ [])) h ∙ rewrite_alone name
bare_alone name word (inr (inr (inr (inr (inr (inr (inr (inl h)))))))) = ap (λ w. fault_of mvt (name ∷ w ∷ [])) h ∙ mend_alone name
bare_alone name word (inr (inr (inr (inr (inr (inr (inr (inr h)))))))) = ap (λ w. fault_of mvt (name ∷ w ∷ [])) h ∙ version_alone name

-- a list that isn't empty is given to clap
pub given_to_clap : {A : Type 0} → (text : A → List ℕ) (words : List A) → (length words == 0) ≡ false
    → faults_in (map text words) ≡ fault_of mvt (map text words)
given_to_clap text [] e = cc
given_to_clap text (w ∷ ws) e = refl

flags_by_clap : {A : Type 0} → (text : A → List ℕ) (words : List A) → (length words == 0) ≡ false
    → flags_in (map text words) ≡ matches_of mvt (map text words)
flags_by_clap text [] e = cc
flags_by_clap text (w ∷ ws) e = refl

-- the flags that clap found
pub flagged : {A : Type 0} → (a : App) (text : A → List ℕ) (words : List A) (m : ArgMatches) → a ≡ mvt
    → (length words == 0) ≡ false → HasMatchesOf a (map text words) m → rows_of (found_of m) ≡ flags_in (map text words)
flagged a text words m is some has =
    (has (ap is_simple is ∙ mvt_simple)).0 ∙ ap (λ (x : App). matches_of x (map text words)) is ∙ sym (flags_by_clap text words some)

entered_by_clap : {A : Type 0} → (text : A → List ℕ) (words : List A) → (length words == 0) ≡ false
    → subcommand_in (map text words) ≡ subcommand_of mvt (map text words)
entered_by_clap text [] e = cc
entered_by_clap text (w ∷ ws) e = refl

pub entered : {A : Type 0} → (a : App) (text : A → List ℕ) (words : List A) (m : ArgMatches) → a ≡ mvt
    → (length words == 0) ≡ false → HasMatchesOf a (map text words) m → subcommand_rows_of m ≡ subcommand_in (map text words)
entered a text words m is some has =
    (has (ap is_simple is ∙ mvt_simple)).1 ∙ ap (λ (x : App). subcommand_of x (map text words)) is ∙ sym (entered_by_clap text words some)

-- an error that isn't want of memory has one of the kinds of the fault
pub some_fault : (kinds : Kinds) (e : Error) → HasKind kinds e → kind_of e ≢ OutOfMemory → kinds ≢ []
some_fault [] e (inl memory) other is = other memory
some_fault [] e (inr among) other is = among
some_fault (k ∷ ks) e h other is = cc

pub accepted : {A : Type 0} → (a : App) (text : A → List ℕ) (words : List A) → a ≡ mvt → (length words == 0) ≡ false
    → (is_simple_and_free a ≡ true → fault_of a (map text words) ≡ []) → faults_in (map text words) ≡ []
accepted a text words is some none =
    given_to_clap text words some ∙ ap (λ (x : App). fault_of x (map text words)) (sym is) ∙ none (ap is_simple_and_free is ∙ mvt_free)

pub refused : {A : Type 0} → (a : App) (text : A → List ℕ) (words : List A) (e : Error) → a ≡ mvt
    → (length words == 0) ≡ false → (is_simple_and_free a ≡ true → HasKind (fault_of a (map text words)) e)
    → kind_of e ≢ OutOfMemory → faults_in (map text words) ≢ []
refused a text words e is some kinds other none =
    some_fault (fault_of a (map text words)) e (kinds (ap is_simple_and_free is ∙ mvt_free)) other
    (ap (λ (x : App). fault_of x (map text words)) is ∙ sym (given_to_clap text words some) ∙ none)

-- what a refusal tells ends as its text does
pub told_last : {E : Type 0} → (text : Result (String Global) E) (refusal : Refusal) (end : List ℕ) → IsOkAnd text (λ t. refusal ≡ Usage t)
    → IfOk text (λ t. EndsWith end (string_bytes t)) → EndsWith end (usage_text refusal)
told_last (Ok t) refusal end is ends = subst (λ r. EndsWith end (usage_text r)) (sym is) ends
told_last (Err e) refusal end is ends = absurd is

pub plain_taken : (words : List (List ℕ)) → IsPlainLine words → faults_in words ≡ []
plain_taken [] h = refl
plain_taken (name ∷ []) h = name_alone name
plain_taken (name ∷ word ∷ []) h = bare_alone name word h
plain_taken (name ∷ word ∷ more ∷ words) h = absurd h
