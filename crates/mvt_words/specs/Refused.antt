-- Why a line isn't run.
use Rattle.std.specs.Prelude.{◌≡◌, ◌==◌, ◌&&◌, ◌||◌, ℕ, Bool, not, List, [], ◌∷◌, ◌++◌, codes, nat_eq, string_bytes, if◌then◌else◌, ⊤}
use Rattle.std.specs.List.{list_any, starts_with}
use Rattle.mvt_places.specs.Quoting.{shell_word}
use Rattle.mvt_words.specs.declared.words.Refusal.{Refusal}
use Rattle.mvt_words.specs.declared.words.Refusal.TheVariants.{Usage, Memory}

-- the words themselves are refused
abbrev pub IsUsage : Refusal → Type 0
IsUsage (Usage text) = ⊤
IsUsage Memory = ⊥

-- what the user is told of the words
abbrev pub usage_text : Refusal → List ℕ
usage_text (Usage text) = string_bytes text
usage_text Memory = []

-- a word looks like the name of a file: it has a dot or a slash, and no hyphen before it
abbrev pub is_file_name : List ℕ → Bool
is_file_name word = not (starts_with nat_eq word (codes "-"))
    && (list_any (λ b. b == 46) word || list_any (λ b. b == 47) word)

-- what is said below, where a file stands in the place of a command
abbrev pub advice_to : List ℕ → List ℕ
advice_to word =
    if is_file_name word then codes "\ndid you mean: mvt check " ++ (shell_word word ++ codes "\n") else []

abbrev pub advice_on : List (List ℕ) → List ℕ
advice_on (name ∷ word ∷ words) = advice_to word
advice_on _ = []

abbrev pub EndsWith : List ℕ → List ℕ → Type 0
EndsWith end text = (front : List ℕ) × (text ≡ front ++ end)
