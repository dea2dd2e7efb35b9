-- What is made of a list entry by entry: of one more, or of none where one makes nothing.
use Rattle.std.proofs.Common.{◌≡◌, ℕ, Bor, ◌+◌, ◌<◌, List, [], ◌∷◌, ◌++◌, length, take, drop, get_or, Option, Some, None, refl, sym, ap, ◌∙◌}
use Rattle.std.specs.Option.{option_map, option_and_then}
use Rattle.std.proofs.lemmas.List.{map_push, take_more}
use Rattle.mvt_base.proofs.ListLemmas.{around}
use Rattle.mvt_attrs.specs.FirstUses.{lent}
use Rattle.mvt_rows.specs.TileRows.{each, steps}

-- a chain of two calls, where the second makes what a further one starts from
pub and_then_to : {X Y : Type 0} → (o : Option X) (f g : X → Option Y) (y : Y) (r : Option Y) → ((x : X) → f x ≡ Some y → g x ≡ r)
    → option_and_then f o ≡ Some y → option_and_then g o ≡ r
and_then_to None f g y r step h = cc
and_then_to (Some x) f g y r step h = step x h

and_then_none : {X Y : Type 0} → (o : Option X) → option_and_then (λ (x : X). let n : Option Y = None in n) o ≡ None
and_then_none None = refl
and_then_none (Some x) = refl

push_each : {Y : Type 0} → (o : Option Y) (p q : Option (List Y)) (ys : List Y) (y : Y)
    → ((zs : List Y) → p ≡ Some zs → q ≡ Some (zs ++ y ∷ [])) → option_and_then (λ z. option_map (λ zs. z ∷ zs) p) o ≡ Some ys
    → option_and_then (λ z. option_map (λ zs. z ∷ zs) q) o ≡ Some (ys ++ y ∷ [])
push_each None p q ys y next h = cc
push_each (Some z) None q ys y next h = cc
push_each (Some z) (Some zs) q ys y next h =
    ap (option_map (λ more. z ∷ more)) (next zs refl) ∙ ap (option_map (λ made. made ++ y ∷ [])) h

each_push : {X Y : Type 0} → (f : X → Option Y) (xs : List X) (x : X) (ys : List Y) (y : Y) → each f xs ≡ Some ys → f x ≡ Some y
    → each f (xs ++ x ∷ []) ≡ Some (ys ++ y ∷ [])
each_push f [] x ys y h is = ap (option_and_then (λ z. Some (z ∷ []))) is ∙ ap (option_map (λ made. made ++ y ∷ [])) h
each_push f (z ∷ xs) x ys y h is =
    push_each (f z) (each f xs) (each f (xs ++ x ∷ [])) ys y (λ zs made. each_push f xs x zs y made is) h

stops_at : {X Y : Type 0} → (f : X → Option Y) (front : List X) (x : X) (back : List X) → f x ≡ None → each f (front ++ x ∷ back) ≡ None
stops_at f [] x back is = ap (option_and_then (λ y. option_map (λ ys. y ∷ ys) (each f back))) is
stops_at f (z ∷ front) x back is =
    ap (λ o. option_and_then (λ y. option_map (λ ys. y ∷ ys) o) (f z)) (stops_at f front x back is) ∙ and_then_none (f z)

pub each_more : {X Y : Type 0} → (f : X → Option Y) (xs : List X) (i : ℕ) (d : X) (ys : List Y) (y : Y) (now : List Y)
    → each f (take i xs) ≡ Some ys → i < length xs → f (get_or xs i d) ≡ Some y → now ≡ ys ++ y ∷ [] → each f (take (i + 1) xs) ≡ Some now
each_more f xs i d ys y now so_far within made is =
    ap (each f) (take_more xs i d within) ∙ each_push f (take i xs) (get_or xs i d) ys y so_far made ∙ ap Some (sym is)

pub each_stops : {X Y : Type 0} → (f : X → Option Y) (xs : List X) (i : ℕ) (d : X) → i < length xs → f (get_or xs i d) ≡ None
    → each f xs ≡ None
each_stops f xs i d within none = ap (each f) (around xs i d within) ∙ stops_at f (take i xs) (get_or xs i d) (drop (i + 1) xs) none

steps_push : {X Y : Type 0} → (f : Y → X → Option Y) (start : Y) (xs : List X) (x : X) (back : List X) (now : Y) (r : Option Y)
    → steps f start xs ≡ Some now → option_and_then (λ next. steps f next back) (f now x) ≡ r → steps f start (xs ++ x ∷ back) ≡ r
steps_push f start [] x back now r so_far next =
    let same : start ≡ now = cc in ap (λ y. option_and_then (λ next. steps f next back) (f y x)) same ∙ next
steps_push f start (z ∷ xs) x back now r so_far next =
    and_then_to (f start z) (λ y. steps f y xs) (λ y. steps f y (xs ++ x ∷ back)) now r
    (λ y h. steps_push f y xs x back now r h next) so_far

pub steps_more : {X Y : Type 0} → (f : Y → X → Option Y) (start : Y) (xs : List X) (i : ℕ) (d : X) (now next : Y)
    → steps f start (take i xs) ≡ Some now → i < length xs → f now (get_or xs i d) ≡ Some next → steps f start (take (i + 1) xs) ≡ Some next
steps_more f start xs i d now next so_far within made =
    ap (steps f start) (take_more xs i d within)
    ∙ steps_push f start (take i xs) (get_or xs i d) [] now (Some next) so_far (ap (option_and_then (λ y. Some y)) made)

pub steps_stop : {X Y : Type 0} → (f : Y → X → Option Y) (start : Y) (xs : List X) (i : ℕ) (d : X) (now : Y)
    → steps f start (take i xs) ≡ Some now → i < length xs → f now (get_or xs i d) ≡ None → steps f start xs ≡ None
steps_stop f start xs i d now so_far within none =
    ap (steps f start) (around xs i d within)
    ∙ steps_push f start (take i xs) (get_or xs i d) (drop (i + 1) xs) now None so_far
    (ap (option_and_then (λ y. steps f y (drop (i + 1) xs))) none)

-- one more text that is lent
pub lent_push : (entries : List (Bor (List ℕ))) (x : Bor (List ℕ)) (longer : List (Bor (List ℕ))) → longer ≡ entries ++ x ∷ []
    → lent longer ≡ lent entries ++ x.now ∷ []
lent_push entries x longer is = ap lent is ∙ map_push (λ (b : Bor (List ℕ)). b.now) entries x
