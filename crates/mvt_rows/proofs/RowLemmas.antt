-- Rows that grow: what a span names stays where it is.
use Rattle.std.proofs.Common.{◌≡◌, ℕ, ◌+◌, ◌-◌, ◌≤◌, Bool, true, false, List, [], ◌∷◌, ◌++◌, length, take, drop, Option, Some, None, if◌then◌else◌, nat_le, refl, sym, ap, ◌∙◌, arith, append-nil, length-append, length-drop}
use Rattle.std.specs.Option.{option_map, option_and_then}
use Rattle.std.specs.List.{slice_range}
use Rattle.std.proofs.lemmas.Bool.{le-leb, leb-true}
use Rattle.std.proofs.lemmas.List.{take_at, take-append-le, drop_at, drop-append-le}
use Rattle.std.proofs.lemmas.Option.{none-some, same_Some}
use Rattle.mvt_base.specs.Related.{AreRelated}
use Rattle.mvt_rows.proofs.EachLemmas.{and_then_to}
use Rattle.mvt_rows.specs.declared.rows.Span.{Span}
use Rattle.mvt_rows.specs.Tables.{behind}
use Rattle.mvt_rows.specs.TileRows.{each, part_of, steps}

-- what is made of one is made of the other
abbrev pub Stays : {X : Type 0} → Option X → Option X → Type 0
Stays {X} o q = (x : X) → o ≡ Some x → q ≡ Some x

pub stays_then : {X Y : Type 0} → (o q : Option X) (f g : X → Option Y) → Stays o q → ((x : X) → Stays (f x) (g x))
    → Stays (option_and_then f o) (option_and_then g q)
stays_then None q f g same more = λ y h. absurd (none-some y h)
stays_then (Some x) q f g same more = λ y h. ap (option_and_then g) (same x refl) ∙ more x y h

pub stays_map : {X Y : Type 0} → (o q : Option X) (f : X → Y) → Stays o q → Stays (option_map f o) (option_map f q)
stays_map None q f same = λ y h. absurd (none-some y h)
stays_map (Some x) q f same = λ y h. ap (option_map f) (same x refl) ∙ h

pub stays_if : {X : Type 0} → (c : Bool) (o q r s : Option X) → Stays o q → Stays r s → Stays (if c then o else r) (if c then q else s)
stays_if true o q r s first second = first
stays_if false o q r s first second = second

pub each_stays : {X Y : Type 0} → (f g : X → Option Y) → ((x : X) → Stays (f x) (g x)) → (xs : List X) → Stays (each f xs) (each g xs)
each_stays f g more [] = λ ys h. h
each_stays f g more (x ∷ xs) =
    stays_then (f x) (g x) (λ y. option_map (λ ys. y ∷ ys) (each f xs)) (λ y. option_map (λ ys. y ∷ ys) (each g xs)) (more x)
    (λ y. stays_map (each f xs) (each g xs) (λ ys. y ∷ ys) (each_stays f g more xs))

pub steps_stay : {X Y : Type 0} → (f g : Y → X → Option Y) → ((y : Y) (x : X) → Stays (f y x) (g y x)) → (y : Y) (xs : List X)
    → Stays (steps f y xs) (steps g y xs)
steps_stay f g more y [] = λ z h. h
steps_stay f g more y (x ∷ xs) =
    stays_then (f y x) (g y x) (λ z. steps f z xs) (λ z. steps g z xs) (more y x) (λ z. steps_stay f g more z xs)

pub related_weaker : {X Y : Type 0} → (R S : X → Y → Type 0) → ((x : X) (y : Y) → R x y → S x y) → (xs : List X) (ys : List Y)
    → AreRelated R xs ys → AreRelated S xs ys
related_weaker R S f [] [] h = tt
related_weaker R S f [] (y ∷ ys) h = absurd h
related_weaker R S f (x ∷ xs) [] h = absurd h
related_weaker R S f (x ∷ xs) (y ∷ ys) h = (f x y h.0, related_weaker R S f xs ys h.1)

pub each_related : {X Y : Type 0} → (f : X → Option Y) (xs : List X) (ys : List Y) → AreRelated (λ x y. f x ≡ Some y) xs ys
    → each f xs ≡ Some ys
each_related f [] [] h = refl
each_related f [] (y ∷ ys) h = absurd h
each_related f (x ∷ xs) [] h = absurd h
each_related f (x ∷ xs) (y ∷ ys) h =
    ap (option_and_then (λ z. option_map (λ zs. z ∷ zs) (each f xs))) h.0 ∙ ap (option_map (λ zs. y ∷ zs)) (each_related f xs ys h.1)

pub steps_joined : {X Y : Type 0} → (f : Y → X → Option Y) (y : Y) (xs zs : List X) (now : Y) (r : Option Y) → steps f y xs ≡ Some now
    → steps f now zs ≡ r → steps f y (xs ++ zs) ≡ r
steps_joined f y [] zs now r so next = ap (λ s. steps f s zs) (same_Some y now so) ∙ next
steps_joined f y (x ∷ xs) zs now r so next =
    and_then_to (f y x) (λ s. steps f s xs) (λ s. steps f s (xs ++ zs)) now r (λ s h. steps_joined f s xs zs now r h next) so

-- where a part stands
pub part_is : {X : Type 0} → (held front p back : List X) → held ≡ front ++ (p ++ back) → (start len : ℕ) → start ≡ length front
    → len ≡ length p → part_of held (record { start = start; len = len }) ≡ Some p
part_is held front p back is start len from long =
    let size : length held ≡ length front + (length p + length back) = ap length is ∙ length-append front (p ++ back)
    ∙ ap (λ n. length front + n) (length-append p back) in
    let fits : start + len ≤ length held = omega arith in
    let n : start + len - start ≡ length p = omega arith in
    let after_front : drop start held ≡ p ++ back = ap (drop start) is ∙ drop_at front (p ++ back) start (sym from) in
    ap (λ c. if c then Some (slice_range held start (start + len)) else None) (le-leb (start + len) (length held) fits)
    ∙ ap Some (ap (take (start + len - start)) after_front ∙ take_at p back (start + len - start) (sym n))

pub part_after : {X : Type 0} → (front p : List X) (len : ℕ) → len ≡ length p → part_of (front ++ p) (behind front len) ≡ Some p
part_after front p len long = part_is (front ++ p) front p [] (ap (λ l. front ++ l) (sym (append-nil p))) (length front) len refl long

-- what was added to a list
abbrev pub added : {A : Type 0} → List A → List A → Span
added old new = record { start = length old; len = length new - length old }

pub part_added : {X : Type 0} → (old new more : List X) → new ≡ old ++ more → part_of new (added old new) ≡ Some more
part_added old new more is =
    let size = ap length is ∙ length-append old more in
    part_is new old more [] (is ∙ ap (λ l. old ++ l) (sym (append-nil more))) (length old) (length new - length old) refl
    (omega (arith, size))

found : {X : Type 0} → (c : Bool) (x p : X) → (if c then Some x else None) ≡ Some p → (c ≡ true) × (x ≡ p)
found true x p h = (refl, same_Some x p h)
found false x p h = absurd (none-some p h)

pub part_stays : {X : Type 0} → (old new more : List X) (span : Span) → new ≡ old ++ more → Stays (part_of old span) (part_of new span)
part_stays old new more span is p h =
    let there = found (nat_le (span.start + span.len) (length old)) (slice_range old span.start (span.start + span.len)) p h in
    let fits : span.start + span.len ≤ length old = leb-true (span.start + span.len) (length old) there.0 in
    let n = span.start + span.len - span.start in
    let size : length new ≡ length old + length more = ap length is ∙ length-append old more in
    let room : n ≤ length (drop span.start old) = omega (arith, length-drop span.start old) in
    let same : take n (drop span.start new) ≡ take n (drop span.start old) =
    ap (λ l. take n (drop span.start l)) is ∙ ap (take n) (drop-append-le span.start old more (omega arith))
    ∙ take-append-le n (drop span.start old) more room in
    ap (λ c. if c then Some (slice_range new span.start (span.start + span.len)) else None)
    (le-leb (span.start + span.len) (length new) (omega arith))
    ∙ ap Some (same ∙ there.1)
