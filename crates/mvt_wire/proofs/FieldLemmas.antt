-- Fields: that `entry_at` is `IsFieldAt` and `IsRestCause`.
use Rattle.std.proofs.Common.{◌≡◌, ℕ, ◌+◌, ◌-◌, ◌*◌, ◌/◌, ◌%◌, ◌^◌, ◌<◌, ◌≤◌, inl, inr, cond, ltb, leb, eqb, List, ◌++◌, length, take, drop, Result, Ok, Err, refl, sym, ap, subst, ◌∙◌, arith, zero-add, append_assoc, lt-ltb, le-ltb, ltb-true, ltb-false, leb-true, eqb-true}
use Rattle.std.proofs.lemmas.Bool.{cond-true, cond-false, cond_both, ne_eqb, lt-leb, le-leb, leb-false, eqb-false}
use Rattle.std.proofs.lemmas.List.{length-append, length-drop, length-take-le, take-append-drop}
use Rattle.std.proofs.Math.Seq.{take-add, take-append_seam, drop-append_seam}
use Rattle.byteorder.specs.Endian.{little_number}
use Rattle.byteorder.specs.Numbers.{little_from-append}
use Rattle.mvt_wire.specs.declared.fault.WireCause.{WireCause}
use Rattle.mvt_wire.specs.declared.fault.WireCause.TheVariants.{Truncated}
use Rattle.mvt_wire.specs.Varint.{Spells}
use Rattle.mvt_wire.specs.Field.{Content, varint, fixed64, bytes, fixed32, wire_type, IsPayload, IsField, StartsNoField, Entry, body_size, IsFieldAt}
use Rattle.mvt_wire.specs.Fronts.{◌>>=◌, number_at, Load, bytes_at, load_at, entry_with, field_with_tag, entry_at, cause_of, rest_cause}
use Rattle.mvt_wire.specs.Rest.{IsPayloadCause, no_type, no_varint, no_length, past_end, no_eight, no_four, IsRestCause, no_tag, no_number, no_payload}
use Rattle.mvt_wire.proofs.VarintLemmas.{number_spelled, number_seen, number_none, number_none_from, pair_of}

-- a step by what the first gave
pub then_holds : {A B : Type 0} (P : Result B WireCause → Type 0) (r : Result A WireCause) (f : A → Result B WireCause)
    → ((a : A) → r ≡ Ok a → P (f a)) → ((c : WireCause) → r ≡ Err c → P (Err c)) → P (r >>= f)
then_holds P (Ok a) f there none = there a refl
then_holds P (Err c) f there none = none c refl

pub wire_type_small : (c : Content) → wire_type c < 8
wire_type_small (varint n) = omega arith
wire_type_small (fixed64 n) = omega arith
wire_type_small (bytes d) = omega arith
wire_type_small (fixed32 n) = omega arith

-- a number reads the same from its bytes alone
pub front_number : (n : ℕ) (b : List ℕ) → n ≤ length b → little_number n b ≡ little_number n (take n b)
front_number n b long =
    let size : length (take n b) ≡ n = length-take-le n b long in
    ap (little_number n) (sym (take-append-drop n b)) ∙ little_from-append n (take n b) (drop n b) (omega arith)

-- ---- the payload, from the function to the relation

abbrev pub LoadMeans : ℕ → List ℕ → Result Load WireCause → Type 0
LoadMeans w b (Ok l) =
    (w ≡ wire_type l.content) × (l.size ≤ length b) × IsPayload (take l.size b) l.content
    × (l.start + body_size (take l.size b) l.content ≡ l.size)
LoadMeans w b (Err c) = IsPayloadCause w b c

pub load_varint : (w : ℕ) (b : List ℕ) → w ≡ 0
    → LoadMeans w b (number_at b >>= λ n. Ok (record { content = varint n.0; start = 0; size = n.1 }))
load_varint w b is =
    then_holds (LoadMeans w b) (number_at b) _
    (λ n e. let seen = number_seen b n.0 n.1 e in (is, seen.1, seen.2, zero-add _ ∙ length-take-le n.1 b seen.1))
    (λ c e. let none = number_none b c e in no_varint is none.0 none.1)

pub load_eight : (w : ℕ) (b : List ℕ) → w ≡ 1
    → LoadMeans w b
    (cond (ltb (length b) 8) (Err Truncated) (Ok (record { content = fixed64 (little_number 8 b); start = 0; size = 8 })))
load_eight w b is =
    cond_both (ltb (length b) 8) _ _ (LoadMeans w b)
    (λ e. no_eight is (ltb-true _ _ e) refl)
    (λ e. let long = ltb-false _ _ e in
    let size : length (take 8 b) ≡ 8 = length-take-le 8 b long in
    (is, long, (size, front_number 8 b long), zero-add _ ∙ size))

pub load_four : (w : ℕ) (b : List ℕ) → w ≡ 5
    → LoadMeans w b
    (cond (ltb (length b) 4) (Err Truncated) (Ok (record { content = fixed32 (little_number 4 b); start = 0; size = 4 })))
load_four w b is =
    cond_both (ltb (length b) 4) _ _ (LoadMeans w b)
    (λ e. no_four is (ltb-true _ _ e) refl)
    (λ e. let long = ltb-false _ _ e in
    let size : length (take 4 b) ≡ 4 = length-take-le 4 b long in
    (is, long, (size, front_number 4 b long), zero-add _ ∙ size))

pub load_bytes : (w : ℕ) (b : List ℕ) → w ≡ 2 → LoadMeans w b (number_at b >>= bytes_at b)
load_bytes w b is =
    then_holds (LoadMeans w b) (number_at b) (bytes_at b)
    (λ n e. let seen = number_seen b n.0 n.1 e in
    cond_both (ltb (length (drop n.1 b)) n.0) _ _ (LoadMeans w b)
    (λ t. past_end (take n.1 b) (drop n.1 b) n.0 is (sym (take-append-drop n.1 b)) seen.2 (ltb-true _ _ t) refl)
    (λ t. let long : n.0 ≤ length (drop n.1 b) = ltb-false _ _ t in
    let rest : length (drop n.1 b) ≡ length b - n.1 = length-drop n.1 b in
    let size : length (take n.0 (drop n.1 b)) ≡ n.0 = length-take-le n.0 (drop n.1 b) long in
    let within : n.1 ≤ length b = seen.1 in (
      is,
      omega arith,
      (take n.1 b, subst (λ (k : ℕ). Spells (take n.1 b) k) (sym size) seen.2, take-add n.1 n.0 b),
      ap (λ k. n.1 + k) size,
    )))
    (λ c e. let none = number_none b c e in no_length is none.0 none.1)

pub load_means : (w : ℕ) (b : List ℕ) → LoadMeans w b (load_at w b)
unfolding load_at
load_means w b =
    cond_both (eqb w 0) _ _ (LoadMeans w b) (λ e0. load_varint w b (eqb-true _ _ e0))
    (λ n0. cond_both (eqb w 1) _ _ (LoadMeans w b) (λ e1. load_eight w b (eqb-true _ _ e1))
    (λ n1. cond_both (eqb w 2) _ _ (LoadMeans w b) (λ e2. load_bytes w b (eqb-true _ _ e2))
    (λ n2. cond_both (eqb w 5) _ _ (LoadMeans w b) (λ e5. load_four w b (eqb-true _ _ e5))
    (λ n5. no_type (eqb-false _ _ n0) (eqb-false _ _ n1) (eqb-false _ _ n2) (eqb-false _ _ n5) refl))))

-- ---- the field, from the function to the relation

abbrev pub EntryMeans : ℕ → List ℕ → Result (Entry × ℕ) WireCause → Type 0
EntryMeans at b (Ok found) = (1 ≤ found.1) × (found.1 ≤ length b) × IsFieldAt at (take found.1 b) found.0
EntryMeans at b (Err c) = IsRestCause b c

pub entry_there : (at : ℕ) (b : List ℕ) (tag : ℕ × ℕ) (l : Load) → number_at b ≡ Ok tag → 8 ≤ tag.0 → tag.0 < 2 ^ 32
    → LoadMeans (tag.0 % 8) (drop tag.1 b) (Ok l) → EntryMeans at b (Ok (entry_with at tag l))
entry_there at b tag l e low high load =
    let seen = number_seen b tag.0 tag.1 e in
    let within : tag.1 ≤ length b = seen.1 in
    let some : 1 ≤ tag.1 = seen.0 in
    let rest : length (drop tag.1 b) ≡ length b - tag.1 = length-drop tag.1 b in
    let size : l.size ≤ length (drop tag.1 b) = load.1 in
    let whole : 8 * (tag.0 / 8) + wire_type l.content ≡ tag.0 = omega (arith, load.0) in
    let ends : l.start + body_size (take l.size (drop tag.1 b)) l.content ≡ l.size = load.3 in
    let all : tag.1 + l.size ≤ length b = omega arith in
    let length_all : length (take (tag.1 + l.size) b) ≡ tag.1 + l.size = length-take-le (tag.1 + l.size) b all in (
      omega arith,
      all,
      record {
        field = record {
          tag = take tag.1 b;
          payload = take l.size (drop tag.1 b);
          joined = take-add tag.1 l.size b;
          tagged = subst (λ (k : ℕ). Spells (take tag.1 b) k) (sym whole) seen.2;
          tag_fits = subst (λ (k : ℕ). k < 2 ^ 32) (sym whole) high;
          numbered = omega arith;
          carries = load.2;
        };
        begins = refl;
        ends = omega arith;
      },
    )

pub entry_means : (at : ℕ) (b : List ℕ) → EntryMeans at b (entry_at at b)
unfolding entry_at
entry_means at b =
    then_holds (EntryMeans at b) (number_at b) (field_with_tag at b)
    (λ tag e. let seen = number_seen b tag.0 tag.1 e in
    let there = sym (take-append-drop tag.1 b) in
    cond_both (ltb tag.0 8) _ _ (EntryMeans at b)
    (λ t. no_number (take tag.1 b) (drop tag.1 b) tag.0 there seen.2 (inl (ltb-true _ _ t)) refl)
    (λ t. let low : 8 ≤ tag.0 = ltb-false _ _ t in
    cond_both (leb (2 ^ 32) tag.0) _ _ (EntryMeans at b)
    (λ s. no_number (take tag.1 b) (drop tag.1 b) tag.0 there seen.2 (inr (leb-true _ _ s)) refl)
    (λ s. let high : tag.0 < 2 ^ 32 = leb-false _ _ s in
    then_holds (EntryMeans at b) (load_at (tag.0 % 8) (drop tag.1 b)) _
    (λ l g. entry_there at b tag l e low high (subst (LoadMeans (tag.0 % 8) (drop tag.1 b)) g (load_means (tag.0 % 8) (drop tag.1 b))))
    (λ c g. no_payload (take tag.1 b) (drop tag.1 b) tag.0 there seen.2 low high
    (subst (LoadMeans (tag.0 % 8) (drop tag.1 b)) g (load_means (tag.0 % 8) (drop tag.1 b)))))))
    (λ c e. let none = number_none b c e in no_tag none.0 none.1)

-- ---- the payload, from the relation to the function

pub bytes_there : (b size d back : List ℕ) → b ≡ size ++ (d ++ back)
    → bytes_at b (pair_of (length d) (length size))
    ≡ Ok (record { content = bytes d; start = length size; size = length size + length d })
bytes_there b size d back joined =
    let rest : drop (length size) b ≡ d ++ back = ap (drop (length size)) joined ∙ drop-append_seam size (d ++ back) in
    let room : length (drop (length size) b) ≡ length d + length back = ap length rest ∙ length-append d back in
    let own : take (length d) (drop (length size) b) ≡ d = ap (take (length d)) rest ∙ take-append_seam d back in
    cond-false _ _ _ (le-ltb (length (drop (length size) b)) (length d) (omega arith))
    ∙ ap (λ (t : List ℕ). let r : Result Load WireCause = Ok
    (record { content = bytes t; start = length size; size = length size + length d }) in r) own

-- what is loaded of a payload
pub record IsLoaded (payload : List ℕ) (c : Content) (r : Result Load WireCause) : Type 0 where
  pub load : Load
  pub is : r ≡ Ok load
  pub content : load.content ≡ c
  pub size : load.size ≡ length payload
  pub ends : load.start + body_size payload c ≡ length payload

pub load_front : (payload back : List ℕ) (c : Content) → IsPayload payload c → IsLoaded payload c (load_at (wire_type c) (payload ++ back))
unfolding load_at
load_front payload back (varint n) p = record {
  load = record { content = varint n; start = 0; size = length payload };
  is = ap (λ (r : Result (ℕ × ℕ) WireCause). r >>= λ (k : ℕ × ℕ). let l : Result Load WireCause = Ok
      (record { content = varint k.0; start = 0; size = k.1 }) in l) (number_spelled payload back n p);
  content = refl;
  size = refl;
  ends = zero-add _;
}
load_front payload back (fixed64 n) p =
    let all : length (payload ++ back) ≡ length payload + length back = length-append payload back in
    let eight : length payload ≡ 8 = p.0 in
    record {
      load = record { content = fixed64 n; start = 0; size = 8 };
      is = cond-false _ _ _ (le-ltb (length (payload ++ back)) 8 (omega arith))
          ∙ ap (λ (k : ℕ). let l : Result Load WireCause = Ok (record { content = fixed64 k; start = 0; size = 8 }) in
          l) (little_from-append 8 payload back (omega arith) ∙ sym p.1);
      content = refl;
      size = sym eight;
      ends = zero-add _;
    }
load_front payload back (bytes d) p =
    let joined : payload ++ back ≡ p.0 ++ (d ++ back) = ap (λ s. s ++ back) p.2 ∙ append_assoc p.0 d back in
    let number : number_at (payload ++ back) ≡ Ok (length d, length p.0) =
    ap number_at joined ∙ number_spelled p.0 (d ++ back) (length d) p.1 in
    let size : length payload ≡ length p.0 + length d = ap length p.2 ∙ length-append p.0 d in
    record {
      load = record { content = bytes d; start = length p.0; size = length p.0 + length d };
      is = ap (λ (r : Result (ℕ × ℕ) WireCause). r >>= bytes_at (payload ++ back)) number ∙ bytes_there (payload ++ back) p.0 d back joined;
      content = refl;
      size = sym size;
      ends = sym size;
    }
load_front payload back (fixed32 n) p =
    let all : length (payload ++ back) ≡ length payload + length back = length-append payload back in
    let four : length payload ≡ 4 = p.0 in
    record {
      load = record { content = fixed32 n; start = 0; size = 4 };
      is = cond-false _ _ _ (le-ltb (length (payload ++ back)) 4 (omega arith))
          ∙ ap (λ (k : ℕ). let l : Result Load WireCause = Ok (record { content = fixed32 k; start = 0; size = 4 }) in
          l) (little_from-append 4 payload back (omega arith) ∙ sym p.1);
      content = refl;
      size = sym four;
      ends = zero-add _;
    }

pub load_cause : (w : ℕ) (b : List ℕ) (c : WireCause) → IsPayloadCause w b c → load_at w b ≡ Err c
unfolding load_at
load_cause w b c (no_type n0 n1 n2 n5 is) =
    cond-false _ _ _ (ne_eqb w 0 n0) ∙ cond-false _ _ _ (ne_eqb w 1 n1) ∙ cond-false _ _ _ (ne_eqb w 2 n2)
    ∙ cond-false _ _ _ (ne_eqb w 5 n5) ∙ ap Err (sym is)
load_cause w b c (no_varint is none cause) =
    ap (λ k. load_at k b) is
    ∙ ap (λ (r : Result (ℕ × ℕ) WireCause). r >>= λ (k : ℕ × ℕ). let l : Result Load WireCause = Ok
    (record { content = varint k.0; start = 0; size = k.1 }) in l) (number_none_from b none)
    ∙ ap Err (sym cause)
load_cause w b c (no_length is none cause) =
    ap (λ k. load_at k b) is ∙ ap (λ (r : Result (ℕ × ℕ) WireCause). r >>= bytes_at b) (number_none_from b none) ∙ ap Err (sym cause)
load_cause w b c (past_end size rest n is joined spells short cause) =
    let number : number_at b ≡ Ok (n, length size) = ap number_at joined ∙ number_spelled size rest n spells in
    let left : drop (length size) b ≡ rest = ap (drop (length size)) joined ∙ drop-append_seam size rest in
    let few : length (drop (length size) b) < n = subst (λ (s : List ℕ). length s < n) (sym left) short in
    ap (λ k. load_at k b) is ∙ ap (λ (r : Result (ℕ × ℕ) WireCause). r >>= bytes_at b) number ∙ cond-true _ _ _ (lt-ltb _ _ few)
    ∙ ap Err (sym cause)
load_cause w b c (no_eight is short cause) = ap (λ k. load_at k b) is ∙ cond-true _ _ _ (lt-ltb _ _ short) ∙ ap Err (sym cause)
load_cause w b c (no_four is short cause) = ap (λ k. load_at k b) is ∙ cond-true _ _ _ (lt-ltb _ _ short) ∙ ap Err (sym cause)

-- ---- the field, from the relation to the function

pub tag_there : (at : ℕ) (b : List ℕ) (n k : ℕ) → 8 ≤ n → n < 2 ^ 32
    → field_with_tag at b (pair_of n k) ≡ (load_at (n % 8) (drop k b) >>= λ load. Ok (entry_with at (pair_of n k) load))
tag_there at b n k low high = cond-false _ _ _ (le-ltb _ _ low) ∙ cond-false _ _ _ (lt-leb _ _ high)

abbrev pub found_with : ℕ → ℕ → ℕ → Content → ℕ → Entry × ℕ
found_with at body number content size = (record { at = at; body = body; number = number; content = content }, size)

pub same_entry : {a a' b b' n n' k k' : ℕ} {c c' : Content} → a ≡ a' → b ≡ b' → n ≡ n' → c ≡ c' → k ≡ k'
    → found_with a b n c k ≡ found_with a' b' n' c' k'
same_entry {a = a} {a' = a'} {b = b} {b' = b'} {n = n} {n' = n'} {k = k} {c = c} {c' = c'} ea eb en ec ek =
    ap (λ x. found_with x b n c k) ea ∙ ap (λ x. found_with a' x n c k) eb ∙ ap (λ x. found_with a' b' x c k) en
    ∙ ap (λ x. found_with a' b' n' x k) ec ∙ ap (λ x. found_with a' b' n' c' x) ek

pub entry_front : (at : ℕ) (front back : List ℕ) (e : Entry) → IsFieldAt at front e → entry_at at (front ++ back) ≡ Ok (e, length front)
unfolding entry_at
entry_front at front back e f =
    let field = f.field in
    let tag : List ℕ = field.tag in
    let payload : List ℕ = field.payload in
    let n : ℕ = 8 * e.number + wire_type e.content in
    let joined : front ++ back ≡ tag ++ (payload ++ back) = ap (λ s. s ++ back) field.joined ∙ append_assoc tag payload back in
    let number : number_at (front ++ back) ≡ Ok (pair_of n (length tag)) =
    ap number_at joined ∙ number_spelled tag (payload ++ back) n field.tagged in
    let left : drop (length tag) (front ++ back) ≡ payload ++ back =
    ap (drop (length tag)) joined ∙ drop-append_seam tag (payload ++ back) in
    let small : wire_type e.content < 8 = wire_type_small e.content in
    let kind : n % 8 ≡ wire_type e.content = omega arith in
    let one : 1 ≤ e.number = field.numbered in
    let loaded = load_front payload back e.content field.carries in
    let load : load_at (n % 8) (drop (length tag) (front ++ back)) ≡ Ok loaded.load =
    ap (λ k. load_at k (drop (length tag) (front ++ back))) kind ∙ ap (load_at (wire_type e.content)) left ∙ loaded.is in
    let size : length front ≡ length tag + length payload = ap length field.joined ∙ length-append tag payload in
    let loads : loaded.load.size ≡ length payload = loaded.size in
    let starts : loaded.load.start + body_size payload e.content ≡ length payload = loaded.ends in
    let ends : e.body + body_size payload e.content ≡ at + length front = f.ends in
    ap (λ (r : Result (ℕ × ℕ) WireCause). r >>= field_with_tag at (front ++ back)) number
    ∙ tag_there at (front ++ back) n (length tag) (omega arith) field.tag_fits
    ∙ ap (λ (r : Result Load WireCause). r >>= λ (l : Load). let t : Result (Entry × ℕ) WireCause = Ok
    (entry_with at (pair_of n (length tag)) l) in t) load
    ∙ ap Ok (same_entry (sym f.begins) (omega arith) (omega arith) loaded.content (omega arith))

pub entry_cause : (at : ℕ) (b : List ℕ) (c : WireCause) → IsRestCause b c → entry_at at b ≡ Err c
unfolding entry_at
entry_cause at b c (no_tag none is) =
    ap (λ (r : Result (ℕ × ℕ) WireCause). r >>= field_with_tag at b) (number_none_from b none) ∙ ap Err (sym is)
entry_cause at b c (no_number tag after n joined spells why is) =
    ap (λ (r : Result (ℕ × ℕ) WireCause). r >>= field_with_tag at b) (ap number_at joined ∙ number_spelled tag after n spells)
    ∙ (elim why [
      | inl low ↦ cond-true _ _ _ (lt-ltb _ _ low)
      | inr high ↦ cond-false _ _ _ (le-ltb n 8 (omega arith)) ∙ cond-true _ _ _ (le-leb _ _ high)
    ])
    ∙ ap Err (sym is)
entry_cause at b c (no_payload tag after n joined spells low high why) =
    let left : drop (length tag) b ≡ after = ap (drop (length tag)) joined ∙ drop-append_seam tag after in
    ap (λ (r : Result (ℕ × ℕ) WireCause). r >>= field_with_tag at b) (ap number_at joined ∙ number_spelled tag after n spells)
    ∙ tag_there at b n (length tag) low high
    ∙ ap (λ (r : Result Load WireCause). r >>= λ (l : Load). let t : Result (Entry × ℕ) WireCause = Ok
    (entry_with at (pair_of n (length tag)) l) in t) (ap (load_at (n % 8)) left ∙ load_cause (n % 8) after c why)

-- ---- no field

pub body_size-le : (payload : List ℕ) (c : Content) → IsPayload payload c → body_size payload c ≤ length payload
body_size-le payload (varint n) p = omega arith
body_size-le payload (fixed64 n) p = omega arith
body_size-le payload (bytes d) p = omega (arith, ap length p.2, length-append p.0 d)
body_size-le payload (fixed32 n) p = omega arith

-- a field, placed
pub placed : (at : ℕ) (b : List ℕ) (number : ℕ) (c : Content) → IsField b number c → (e : Entry) × IsFieldAt at b e
placed at b number c f =
    let least : body_size f.payload c ≤ length f.payload = body_size-le f.payload c f.carries in
    let size : length b ≡ length f.tag + length f.payload = ap length f.joined ∙ length-append f.tag f.payload in (
      record { at = at; body = (at + length b) - body_size f.payload c; number = number; content = c },
      record { field = f; begins = refl; ends = omega arith },
    )

pub entry_none : (at : ℕ) (b : List ℕ) (c : WireCause) → entry_at at b ≡ Err c → StartsNoField b
entry_none at b c e front back number content joined f =
    let there = placed at front number content f in
    let found = sym e ∙ ap (entry_at at) joined ∙ entry_front at front back there.0 there.1 in
    cc

pub entry_why : (at : ℕ) (b : List ℕ) (c : WireCause) → entry_at at b ≡ Err c → IsRestCause b c
entry_why at b c e = subst (EntryMeans at b) e (entry_means at b)

pub entry_found : (at : ℕ) (b : List ℕ) (found : Entry × ℕ) → entry_at at b ≡ Ok found → EntryMeans at b (Ok found)
entry_found at b found e = subst (EntryMeans at b) e (entry_means at b)

pub rest_cause_is : (b : List ℕ) (c : WireCause) → IsRestCause b c → c ≡ rest_cause b
unfolding rest_cause
rest_cause_is b c why = sym (ap cause_of (entry_cause 0 b c why))

none_by : (at : ℕ) (b : List ℕ) (r : Result (Entry × ℕ) WireCause) → entry_at at b ≡ r → StartsNoField b → r ≡ Err (rest_cause b)
none_by at b (Ok found) e none =
    let seen = entry_found at b found e in
    absurd (none (take found.1 b) (drop found.1 b) found.0.number found.0.content (sym (take-append-drop found.1 b)) seen.2.field)
none_by at b (Err c) e none = ap Err (rest_cause_is b c (entry_why at b c e))

pub entry_none_from : (at : ℕ) (b : List ℕ) → StartsNoField b → entry_at at b ≡ Err (rest_cause b)
entry_none_from at b none = none_by at b (entry_at at b) refl none
