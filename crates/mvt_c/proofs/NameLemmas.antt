-- Names that are UTF-8, and one that isn't.
use Rattle.std.proofs.Common.{◌≡◌, ℕ, ◌<◌, List, length, get_or, map, sym, subst}
use Rattle.std.specs.Prelude.{All, Any, IsUtf8, String, string_bytes}
use Rattle.std.proofs.lemmas.List.{length-map, get_or-map}
use Rattle.std.proofs.lemmas.List.Elements.{All-map}
use Rattle.std.proofs.lemmas.Str.{IsUtf8-string_bytes}
use Rattle.mvt_c.specs.declared.lent.Bytes.{Bytes}
use Rattle.mvt_c.specs.Names.{texts_of}

pub bad_name : (names : List Bytes) (i : ℕ) (d : Bytes) → i < length names → (IsUtf8 (get_or names i d).bytes.now → ⊥)
    → Any (λ text. IsUtf8 text → ⊥) (texts_of names)
bad_name names i d within bad =
    let f = λ (name : Bytes). name.bytes.now in (
      i,
      f (get_or names i d),
      subst (λ n. i < n) (sym (length-map names f)) within,
      get_or-map f names i d (f (get_or names i d)) within,
      bad,
    )

pub names_are_texts : {Z : Type 0} (read : List (String Z)) (names : List Bytes) → map string_bytes read ≡ texts_of names
    → All IsUtf8 (texts_of names)
names_are_texts read names e = subst (All IsUtf8) e (All-map IsUtf8 string_bytes read (λ k d _. IsUtf8-string_bytes (get_or read k d)))
