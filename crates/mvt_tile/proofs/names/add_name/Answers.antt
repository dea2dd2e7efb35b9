use Rattle.std.proofs.Common.{◌≡◌, ℕ, Bool, true, false, cond, not, ◌||◌, List, [], ◌∷◌, bytes_eq, refl, sym, ap, ap₂, ◌∙◌}
use Rattle.std.specs.Ordering.{is_eq, nat_cmp}
use Rattle.std.specs.Cmp.Lexicographic.{slice_cmp}
use Rattle.std.specs.List.{list_any}
use Rattle.std.proofs.lemmas.Map.Text.{is_eq-slice_cmp}
use Rattle.mvt_tile.specs.TileRules.{repeats}
use Rattle.mvt_tile.proofs.NameLemmas.{any_text, bytes_eq_comm, or_right_false}
use Rattle.mvt_tile.proofs.names.add_name.Goals as goal

cond_or : (b held : Bool) → cond b true held ≡ (held || (b || false))
cond_or true true = refl
cond_or true false = refl
cond_or false true = refl
cond_or false false = refl

new_name : (added : Bool) (keys : List (List ℕ)) (name : List ℕ) → added ≡ not (list_any (λ k. is_eq (slice_cmp nat_cmp name k)) keys)
    → added ≡ not (repeats keys (name ∷ []))
new_name added keys name e = e ∙ ap not (any_text name keys ∙ sym (or_right_false (list_any (bytes_eq name) keys)))

one_more : (n name : List ℕ) (keys after : List (List ℕ))
    → list_any (λ k. is_eq (slice_cmp nat_cmp n k)) after ≡ cond (is_eq (slice_cmp nat_cmp name n)) true
    (list_any (λ k. is_eq (slice_cmp nat_cmp n k)) keys)
    → list_any (bytes_eq n) after ≡ (list_any (bytes_eq n) keys || list_any (bytes_eq n) (name ∷ []))
one_more n name keys after updated =
    sym (any_text n after) ∙ updated ∙ ap₂ (λ b held. cond b true held) (is_eq-slice_cmp name n ∙ bytes_eq_comm name n) (any_text n keys)
    ∙ cond_or (bytes_eq n name) (list_any (bytes_eq n) keys)

pub returns-in_ok-insert-in-Some-clause-new : goal.returns-in_ok-insert-in-Some-clause-new
returns-in_ok-insert-in-Some-clause-new c =
    rw c.in-Some.is (new_name c.in_ok-insert-in-Some.field-0 c.args.names.now.keys c.in-Some.name c.in_ok-insert-in-Some.ensures.added)

pub returns-in_ok-insert-in-Some-clause-named : goal.returns-in_ok-insert-in-Some-clause-named
returns-in_ok-insert-in-Some-clause-named c =
    rw c.in-Some.is
    (λ is_new n. one_more n c.in-Some.name c.args.names.now.keys c.insert.new.self.keys (c.in_ok-insert-in-Some.ensures.updates.0 n))
