-- Names of files as words of a shell, for commands that are pasted.
use Rattle.std.specs.Prelude.{ℕ, ◌==◌, ◌&&◌, ◌||◌, nat_eq, nat_le, nat_lt, bytes_eq, not, Bool, List, [], ◌++◌, length, codes, chars, encode_utf8, if◌then◌else◌}
use Rattle.std.specs.List.{flat_map, list_any, starts_with}
use Rattle.mvt_places.specs.Shown.{shown}

-- letters and digits, `-`, `.`, `/` and `_`, which mean nothing else to a shell
abbrev pub is_plain : ℕ → Bool
is_plain b = (nat_le 45 b && nat_le b 57) || ((nat_le 65 b && nat_le b 90) || ((nat_le 97 b && nat_le b 122) || (b == 95)))

-- between single quotes each character stands for itself, and a single quote is `'\''`
unfoldable pub quoted_char : ℕ → List ℕ
quoted_char c = if c == 39 then codes "'\\''" else encode_utf8 c

abbrev pub quoted : List ℕ → List ℕ
quoted name = codes "'" ++ (flat_map quoted_char (chars name) ++ codes "'")

abbrev pub in_quotes : List ℕ → List ℕ
in_quotes name = if (length name == 0) || list_any (λ b. not (is_plain b)) name then quoted name else name

-- a name that begins with a hyphen would be read as an option
abbrev pub led : List ℕ → List ℕ
led name = if starts_with nat_eq name (codes "-") then codes "./" else []

-- a terminal shows it as it is, and obeys nothing in it
abbrev pub is_harmless : List ℕ → Bool
is_harmless name = not (list_any (λ b. nat_lt b 32) name) && bytes_eq (shown name) name

-- the word that names this file; FILE stands for a name that a terminal would obey
unfoldable pub shell_word : List ℕ → List ℕ
shell_word name = if is_harmless name then led name ++ in_quotes name else codes "FILE"
