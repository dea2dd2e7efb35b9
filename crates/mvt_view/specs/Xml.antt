-- A text between two tags (XML 1.0, 2.2 Characters, 2.4 Character Data, 2.11 End-of-Line Handling).
use Rattle.std.specs.Prelude.{ℕ, ◌==◌, ◌&&◌, ◌||◌, Bool, not, List, nat_lt, codes, if◌then◌else◌}
use Rattle.std.specs.Char.{encode_utf8}
use Rattle.std.specs.List.{flat_map}
use Rattle.std.specs.Str.{chars}

-- a character that XML has; surrogates, which it hasn't, stand in no text
abbrev pub is_xml : ℕ → Bool
is_xml c = (c == 9) || ((c == 10) || ((c == 13) || ((nat_lt 31 c && nat_lt c 65534) || nat_lt 65535 c)))

-- what is read back as the character; what XML hasn't becomes U+FFFD
unfoldable pub escaped_char : ℕ → List ℕ
escaped_char c =
    if c == 38 then codes "&amp;"
    else (if c == 60 then codes "&lt;"
    else (if c == 62 then codes "&gt;"
    else (if c == 13 then codes "&#13;"
    else encode_utf8 (if is_xml c then c else 65533))))

abbrev pub escaped : List ℕ → List ℕ
escaped text = flat_map escaped_char (chars text)

-- a byte that stands in no character which is escaped: not below 32, not of & < >, and none that begins one from U+F000 to U+FFFF
abbrev pub is_plain : ℕ → Bool
is_plain b = nat_lt 31 b && (not (b == 38) && (not (b == 60) && (not (b == 62) && not (b == 239))))
