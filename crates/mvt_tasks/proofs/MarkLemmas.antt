-- A text with marks, byte by byte.
use Rattle.std.proofs.Common.{◌≡◌, ℕ, ◌+◌, ◌<◌, ◌==◌, Bool, true, List, [], ◌∷◌, ◌++◌, length, take, get_or, refl, sym, ap, ap₂, ◌∙◌, append_assoc, if◌then◌else◌}
use Rattle.std.proofs.lemmas.List.{take_more}
use Rattle.mvt_tasks.specs.Checks.{marked}

-- whether a line begins after some bytes
abbrev pub starts_line : Bool → List ℕ → Bool
starts_line is_start [] = is_start
starts_line is_start (b ∷ bs) = starts_line (b == 10) bs

marked-append : (mark : List ℕ) (is_start : Bool) (xs ys : List ℕ)
    → marked mark is_start (xs ++ ys) ≡ marked mark is_start xs ++ marked mark (starts_line is_start xs) ys
marked-append mark is_start [] ys = refl
marked-append mark is_start (x ∷ xs) ys =
    let lead : List ℕ = if is_start then mark else [] in
    ap (λ t. lead ++ (x ∷ t)) (marked-append mark (x == 10) xs ys)
    ∙ sym (append_assoc lead (x ∷ marked mark (x == 10) xs) (marked mark (starts_line (x == 10) xs) ys))

starts_line-append : (is_start : Bool) (xs : List ℕ) (x : ℕ) → starts_line is_start (xs ++ x ∷ []) ≡ (x == 10)
starts_line-append is_start [] x = refl
starts_line-append is_start (y ∷ ys) x = starts_line-append (y == 10) ys x

pub marked_more : (mark text : List ℕ) (i : ℕ) (old mid new : List ℕ) (is_start : Bool) → i < length text
    → (old ≡ marked mark true (take i text)) × (is_start ≡ starts_line true (take i text))
    → mid ≡ old ++ (if is_start then mark else []) → new ≡ mid ++ get_or text i 0 ∷ []
    → (new ≡ marked mark true (take (i + 1) text)) × ((get_or text i 0 == 10) ≡ starts_line true (take (i + 1) text))
marked_more mark text i old mid new is_start h (so_far, start) led e =
    let front = take i text in
    let b : ℕ = get_or text i 0 in
    let lead = λ (s : Bool). if s then mark else [] in (
      e ∙ ap (λ t. t ++ b ∷ []) led ∙ append_assoc old (lead is_start) (b ∷ [])
          ∙ ap₂ (λ (o : List ℕ) (s : Bool). o ++ (lead s ++ (b ∷ []))) so_far start
          ∙ sym (ap (marked mark true) (take_more text i 0 h) ∙ marked-append mark true front (b ∷ [])),
      sym (ap (starts_line true) (take_more text i 0 h) ∙ starts_line-append true front b),
    )
