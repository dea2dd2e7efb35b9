-- The text of a pair of numbers is ASCII.
use Rattle.std.proofs.Common.{ℕ, ◌<◌, ◌∷◌, ◌++◌, ℤ, pos, negsuc, FitsSigned, w32, arith}
use Rattle.std.proofs.lemmas.Fmt.{IsAscii-signed}
use Rattle.std.proofs.lemmas.Str.{IsAscii-append, IsUtf8-from_ascii}
use Rattle.std.proofs.lemmas.Str.Ascii.{IsAscii-cons}
use Rattle.std.specs.Fmt.{signed_decimal}
use Rattle.std.specs.Str.{IsAscii, IsUtf8}

signed_ascii : (z : ℤ) → FitsSigned w32 z → IsAscii (signed_decimal z)
signed_ascii (pos n) fits = IsAscii-signed (pos n) (omega (arith, fits.sfits))
signed_ascii (negsuc n) fits = IsAscii-signed (negsuc n) (omega (arith, fits.sfits))

pub pair_utf8 : (a b : ℕ) (x y : ℤ) → a < 128 → b < 128 → FitsSigned w32 x → FitsSigned w32 y
    → IsUtf8 (a ∷ (signed_decimal x ++ (b ∷ signed_decimal y)))
pair_utf8 a b x y ha hb fx fy =
    let later = IsAscii-cons _ _ hb (signed_ascii y fy) in
    IsUtf8-from_ascii _ (IsAscii-cons _ _ ha (IsAscii-append _ _ (signed_ascii x fx) later))
