-- Notes of numbered elements.
use Rattle.std.proofs.Common.{◌≡◌, ℕ, ◌+◌, ◌<◌, Bool, true, false, cond, eqb, List, [], ◌∷◌, ◌++◌, length, take, get_or, Option, Some, None, refl, sym, ap, ap₂, ◌∙◌, arith, append_assoc, append-nil, length-take, add-zero, zero-add}
use Rattle.std.proofs.lemmas.List.{take-append-le, take_all}
use Rattle.std.specs.List.{position_from}
use Rattle.std.specs.Option.{option_or}
use Rattle.mvt_base.proofs.ListLemmas.{front_more}
use Rattle.mvt_tile_value.specs.declared.note.Note.{Note}
use Rattle.mvt_feature.specs.declared.feature.Feature.{Feature}
use Rattle.mvt_message.specs.declared.item.Item.{Item}
use Rattle.mvt_tile_value.specs.declared.note.Note.TheVariants.{NoLayers}
use Rattle.mvt_tile_value.specs.declared.tile.Tile.{Tile}
use Rattle.mvt_tile_value.specs.Notes.{numbered, note_if, is_id, first_of, earlier_note, id_note, geometry_notes, feature_notes, item_notes, notes_of}

pub numbered-append : {A B : Type 0} (f : ℕ → A → List B) (n : ℕ) (xs ys : List A)
    → numbered f n (xs ++ ys) ≡ numbered f n xs ++ numbered f (n + length xs) ys
numbered-append f n [] ys = ap (λ k. numbered f k ys) (sym (add-zero n))
numbered-append f n (x ∷ xs) ys =
    ap (λ ns. f n x ++ ns)
    (numbered-append f (n + 1) xs ys
    ∙ ap (λ k. numbered f (n + 1) xs ++ numbered f k ys) (let e : (n + 1) + length xs ≡ n + length (x ∷ xs) = omega arith in e))
    ∙ sym (append_assoc (f n x) (numbered f (n + 1) xs) (numbered f (n + length (x ∷ xs)) ys))

after_head : (b : Bool) (n : ℕ) (o t r : Option ℕ) → o ≡ option_or t r → cond b (Some n) o ≡ option_or (cond b (Some n) t) r
after_head true n o t r e = refl
after_head false n o t r e = e

-- one element more
pub noted_more : {A B : Type 0} (f : ℕ → A → List B) (n : ℕ) (xs : List A) (i : ℕ) (x : A) (k : ℕ) (start old new : List B)
    → i < length xs → x ≡ get_or xs i x → k ≡ n + i
    → old ≡ start ++ numbered f n (take i xs) → new ≡ old ++ f k x → new ≡ start ++ numbered f n (take (i + 1) xs)
noted_more f n xs i x k start old new h is at so_far e =
    let size : length (take i xs) ≡ i = simp length-take (omega arith) in
    let more : numbered f n (take (i + 1) xs) ≡ numbered f n (take i xs) ++ f (n + i) x =
    ap (numbered f n) (front_more xs i x h is) ∙ numbered-append f n (take i xs) (x ∷ [])
    ∙ ap (λ ns. numbered f n (take i xs) ++ ns) (append-nil (f (n + length (take i xs)) x) ∙ ap (λ k. f (n + k) x) size) in
    e ∙ ap (λ m. old ++ f m x) at ∙ ap (λ ns. ns ++ f (n + i) x) so_far ∙ append_assoc start (numbered f n (take i xs)) (f (n + i) x)
    ∙ ap (λ ns. start ++ ns) (sym more)

-- ids

pub first_more : {A : Type 0} (p : A → Bool) (n : ℕ) (xs : List A) (x : A)
    → position_from p n (xs ++ x ∷ []) ≡ option_or (position_from p n xs) (cond (p x) (Some (n + length xs)) None)
first_more p n [] x = ap (λ k. cond (p x) (Some k) None) (sym (add-zero n))
first_more p n (y ∷ xs) x =
    after_head (p y) n (position_from p (n + 1) (xs ++ x ∷ [])) (position_from p (n + 1) xs) (cond (p x) (Some (n + length (y ∷ xs))) None)
    (first_more p (n + 1) xs x
    ∙ ap (λ k. option_or (position_from p (n + 1) xs) (cond (p x) (Some k) None))
    (let e : (n + 1) + length xs ≡ n + length (y ∷ xs) = omega arith in e))

pub id_noted : (layer n : ℕ) (found other : ℕ → Option ℕ) (id : Option ℕ) → ((q : ℕ) → found q ≡ other q)
    → id_note layer n found id ≡ id_note layer n other id
id_noted layer n found other None same = refl
id_noted layer n found other (Some id) same = ap (earlier_note layer n) (same id)

-- the note of an id, from the feature that had it first
pub id_note_is : (layer n : ℕ) (first : ℕ → Option ℕ) {id : Option ℕ} {k : ℕ} {earlier : Option ℕ} → id ≡ Some k → earlier ≡ first k
    → id_note layer n first id ≡ earlier_note layer n earlier
id_note_is layer n first is same = ap (id_note layer n first) is ∙ ap (earlier_note layer n) (sym same)

-- of the features so far

pub first_of_last : (q : ℕ) (features : List Feature) (f : Feature) (n : ℕ) (id : Option ℕ) → n ≡ length features → f.id ≡ id
    → option_or (first_of q features) (cond (is_id q id) (Some n) None) ≡ first_of q (features ++ f ∷ [])
first_of_last q features f n id count is =
    ap₂ (λ i k. option_or (first_of q features) (cond (is_id q i) (Some k) None)) (sym is) (count ∙ sym (zero-add (length features)))
    ∙ sym (first_more (λ (g : Feature). is_id q g.id) 0 features f)

-- features before others have the same notes with and without these
noted_front : (layer : ℕ) (all features : List Feature) (n : ℕ) (xs : List Feature)
    → ((k : ℕ) → k < n + length xs → take k all ≡ take k features)
    → numbered (feature_notes layer all) n xs ≡ numbered (feature_notes layer features) n xs
noted_front layer all features n [] same = refl
noted_front layer all features n (x ∷ xs) same =
    ap₂ (λ before notes. (id_note layer n (λ id. first_of id before) x.id ++ geometry_notes layer n x.geometry) ++ notes)
    (same n (omega arith)) (noted_front layer all features (n + 1) xs (λ k h. same k (omega (arith, h))))

pub noted_last : (at layer : ℕ) (features : List Feature) (f : Feature) (n : ℕ) (id : Option ℕ) (found : ℕ → Option ℕ)
    (old mid new : List Note)
    → at ≡ layer → n ≡ length features → f.id ≡ id → ((q : ℕ) → found q ≡ first_of q features)
    → old ≡ numbered (feature_notes layer features) 0 features → mid ≡ old ++ id_note at n found id
    → new ≡ mid ++ geometry_notes at n f.geometry
    → new ≡ numbered (feature_notes layer (features ++ f ∷ [])) 0 (features ++ f ∷ [])
noted_last at layer features f n id found old mid new layer_is count is same so_far e g =
    let all = features ++ f ∷ [] in
    let before : take n all ≡ features =
    take-append-le n features (f ∷ []) (omega (arith, count)) ∙ take_all n features (omega (arith, count)) in
    let here : new ≡ old ++ (id_note layer n found id ++ geometry_notes layer n f.geometry) =
    g ∙ ap (λ ns. ns ++ geometry_notes at n f.geometry) e
    ∙ append_assoc old (id_note at n found id) (geometry_notes at n f.geometry)
    ∙ ap (λ l. old ++ (id_note l n found id ++ geometry_notes l n f.geometry)) layer_is in
    let one : id_note layer n found id ≡ id_note layer n (λ q. first_of q (take n all)) f.id =
    id_noted layer n found (λ q. first_of q (take n all)) id (λ q. same q ∙ ap (first_of q) (sym before))
    ∙ ap (id_note layer n (λ q. first_of q (take n all))) (sym is) in
    here
    ∙ ap₂ (λ ns i. ns ++ (i ++ geometry_notes layer n f.geometry)) so_far one
    ∙ ap₂ (λ ns k. ns ++ feature_notes layer all k f)
    (sym (noted_front layer all features 0 features (λ k h. take-append-le k features (f ∷ []) (omega (arith, h)))))
    (count ∙ sym (zero-add (length features)))
    ∙ ap (λ ns. numbered (feature_notes layer all) 0 features ++ ns) (sym (append-nil (feature_notes layer all (0 + length features) f)))
    ∙ sym (numbered-append (feature_notes layer all) 0 features (f ∷ []))

pub all_noted : (tile : Tile) (items : List Item) (start mid new : List Note) (b : Bool) → items ≡ tile.items → start ≡ []
    → b ≡ eqb (length items) 0 → mid ≡ start ++ note_if b NoLayers → new ≡ mid ++ numbered item_notes 0 items → new ≡ notes_of tile
unfolding notes_of
all_noted tile items start mid new b is none empty e g =
    g ∙ ap (λ ns. ns ++ numbered item_notes 0 items) (e ∙ ap₂ (λ s c. s ++ note_if c NoLayers) none empty)
    ∙ ap (λ xs. note_if (eqb (length xs) 0) NoLayers ++ numbered item_notes 0 xs) is
