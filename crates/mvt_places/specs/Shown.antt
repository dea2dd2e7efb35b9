-- Texts that a terminal shows and doesn't obey.
use Rattle.std.specs.Prelude.{ℕ, ◌+◌, ◌/◌, ◌%◌, ◌==◌, ◌&&◌, ◌||◌, nat_le, nat_lt, Bool, List, [], ◌∷◌, ◌++◌, codes, chars, encode_utf8, if◌then◌else◌}
use Rattle.std.specs.List.{flat_map}

-- a digit of base 16
abbrev pub hex_digit : ℕ → ℕ
hex_digit n = if nat_lt n 10 then 48 + n else 87 + n

abbrev pub hex : ℕ → List ℕ
hex b = hex_digit (b / 16) ∷ hex_digit (b % 16) ∷ []

-- DEL and the controls of C1, which terminals obey
abbrev pub is_control : ℕ → Bool
is_control c = nat_le 127 c && nat_le c 159

-- what turns a line round: U+061C, U+200E and U+200F, U+202A to U+202E, U+2066 to U+2069
abbrev pub is_direction : ℕ → Bool
is_direction c =
    (c == 1564) || ((nat_le 8206 c && nat_le c 8207) || ((nat_le 8234 c && nat_le c 8238) || (nat_le 8294 c && nat_le c 8297)))

-- such a character is spelled as JSON spells it, any other one stands for itself
unfoldable pub shown_char : ℕ → List ℕ
shown_char c =
    if is_control c || is_direction c then codes "\\u" ++ (hex (c / 256 % 256) ++ hex (c % 256)) else encode_utf8 c

abbrev pub shown : List ℕ → List ℕ
shown text = flat_map shown_char (chars text)
