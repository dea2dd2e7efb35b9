-- Fronts of bytes: those that a source gives, and those that a writer takes.
use Rattle.std.proofs.Common.{◌≡◌, ℕ, ◌+◌, ◌-◌, ◌<◌, ◌≤◌, max, List, [], ◌++◌, length, take, drop, Option, Some, None, refl, sym, ap, ap₂, ◌∙◌, subst, arith, append_assoc, length-append, length-take, take-append-drop}
use Rattle.std.proofs.lemmas.List.{drop-drop, take-append-le}
use Rattle.std.proofs.Math.Seq.{take-append_seam, take-append-add}
use Rattle.std.proofs.lemmas.Grind.{common_steps}
use Rattle.std.specs.Io.KnownBytes.{Appends, Consumes, Keeps}
use Rattle.std.proofs.KnownBytes.{Appends-nil, Appends-trans, Appends-kept, Consumes-kept, Consumes-nil, Consumes-trans}
use Rattle.std.specs.declared.io.ErrorKind.{ErrorKind}
use Rattle.mvt_io.specs.Counts.{counted}
use Rattle.mvt_io.specs.States.{EndedBy, Faults, Inflow, NoneFailed, Outflow}
use Rattle.mvt_io.specs.Transfers.{Reads, TakesAtMost, TakesPrefix, Wrote, WroteFront}

-- the next n bytes stand at the front of a buffer, before bytes of its own
pub front_given : (left all front rest : List ℕ) (at n : ℕ) → drop at all ≡ left → front ≡ take n left → n ≤ length left
    → left ≡ take n (front ++ rest) ++ drop (at + n) all
front_given left all front rest at n is e h =
    let size : length front ≡ n = omega (arith, ap length e, length-take n left) in
    let gone : drop (at + n) all ≡ drop n left = sym (drop-drop n at all) ∙ ap (drop n) is in
    let there : take n (front ++ rest) ≡ take n left =
    ap (λ k. take k (front ++ rest)) (sym size) ∙ take-append_seam front rest ∙ e in
    sym (ap₂ (λ x y. x ++ y) there gone ∙ take-append-drop n left)

-- one more piece was taken from a reader
pub TakesAtMost-more : (most n : ℕ) (a b c : Option (List ℕ)) (bytes buffer : List ℕ) → Consumes a b bytes
    → Consumes b c (take n buffer) → length bytes + n ≤ most → TakesAtMost most a c
TakesAtMost-more most n a b c bytes buffer before piece few = (
  bytes ++ take n buffer,
  omega (arith, length-append bytes (take n buffer), length-take n buffer),
  Consumes-trans a b c bytes (take n buffer) before piece,
)

-- the writer took a front of the bytes, and this rest is to come
pub record TakesFront (old now : Option (List ℕ)) (bytes rest : List ℕ) : Type 0 where
  pub front : List ℕ
  pub splits : bytes ≡ front ++ rest
  pub taken : Appends old now front

back : (xs : List ℕ) (n : ℕ) → n ≤ length xs → xs ≡ take n xs ++ take (length xs - n) (drop n xs)
back xs n h = grind (arith, common_steps)

pub TakesFront-more : (a b c : Option (List ℕ)) (bytes rest : List ℕ) (n : ℕ) → TakesFront a b bytes rest
    → Appends b c (take n rest) → n ≤ length rest → TakesFront a c bytes (take (length rest - n) (drop n rest))
TakesFront-more a b c bytes rest n f more h = record {
  front = f.front ++ take n rest;
  splits = f.splits ∙ ap (λ r. f.front ++ r) (back rest n h)
      ∙ sym (append_assoc f.front (take n rest) (take (length rest - n) (drop n rest)));
  taken = Appends-trans a b c f.front (take n rest) f.taken more;
}

pub TakesFront-kept : (a b c : Option (List ℕ)) (bytes rest : List ℕ) → TakesFront a b bytes rest → Keeps b c → TakesFront a c bytes rest
TakesFront-kept a b c bytes rest f kept = record { front = f.front; splits = f.splits; taken = Appends-kept a b c f.front f.taken kept }

pub TakesPrefix-from_front : (a b : Option (List ℕ)) (bytes rest : List ℕ) → TakesFront a b bytes rest → TakesPrefix a b bytes
TakesPrefix-from_front a b bytes rest f =
    let same : take (length f.front) bytes ≡ f.front = ap (take (length f.front)) f.splits ∙ take-append_seam f.front rest in
    (length f.front, omega (arith, ap length f.splits, length-append f.front rest), subst (Appends a b) (sym same) f.taken)

TakesPrefix-nil : (a b : Option (List ℕ)) (bytes : List ℕ) → Keeps a b → TakesPrefix a b bytes
TakesPrefix-nil a b bytes kept = (0, omega arith, Appends-kept a a b [] (Appends-nil a) kept)

middle : (n : ℕ) (xs ys zs : List ℕ) → n ≤ length ys → take (length xs + n) (xs ++ (ys ++ zs)) ≡ xs ++ take n ys
middle n xs ys zs h = take-append-add xs (ys ++ zs) n ∙ ap (λ l. xs ++ l) (take-append-le n ys zs h)

TakesPrefix-after : (a b c : Option (List ℕ)) (before bytes after whole : List ℕ) → whole ≡ before ++ (bytes ++ after)
    → Appends a b before → TakesPrefix b c bytes → TakesPrefix a c whole
TakesPrefix-after a b c before bytes after whole e p q =
    let within : length before + q.0 ≤ length (before ++ (bytes ++ after)) =
    omega (arith, q.1, length-append before (bytes ++ after), length-append bytes after) in
    let taken : Appends a c (before ++ take q.0 bytes) = Appends-trans a b c before (take q.0 bytes) p q.2 in
    let front : TakesPrefix a c (before ++ (bytes ++ after)) =
    (length before + q.0, within, subst (Appends a c) (sym (middle q.0 before bytes after q.1)) taken) in
    subst (TakesPrefix a c) (sym e) front

-- the states of a writer

pub Wrote-nil : (s : Outflow) → Wrote s s []
Wrote-nil s = record { taken = Appends-nil s.taken; writes = omega arith; flushes = refl; faults = refl }

pub Wrote-more : (a b c : Outflow) (first then : List ℕ) → Wrote a b first → Wrote b c then → Wrote a c (first ++ then)
Wrote-more a b c first then p q = record {
  taken = Appends-trans a.taken b.taken c.taken first then p.taken q.taken;
  writes = omega (arith, p.writes, q.writes, length-append first then);
  flushes = q.flushes ∙ p.flushes;
  faults = q.faults ∙ p.faults;
}

pub WroteFront-nil : (s : Outflow) (bytes : List ℕ) → WroteFront s s bytes None
WroteFront-nil s bytes =
    record { taken = TakesPrefix-nil s.taken s.taken bytes (keeps s.taken); writes = omega arith; flushes = refl; faults = refl }
  where
    keeps : (o : Option (List ℕ)) → Keeps o o
    keeps None = tt
    keeps (Some bytes) = refl

ended_later : (a b c : Faults) (kind : Option ErrorKind) → NoneFailed a b → EndedBy kind b c → EndedBy kind a c
ended_later a b c None first then = then ∙ first
ended_later a b c (Some kind) first then =
    record { once = then.once ∙ ap counted first; reported = then.reported; ended = then.ended }

pub WroteFront-after : (a b c : Outflow) (before bytes after whole : List ℕ) (kind : Option ErrorKind)
    → whole ≡ before ++ (bytes ++ after) → Wrote a b before → WroteFront b c bytes kind → WroteFront a c whole kind
WroteFront-after a b c before bytes after whole kind is p q = record {
  taken = TakesPrefix-after a.taken b.taken c.taken before bytes after whole is p.taken q.taken;
  writes = omega (arith, p.writes, q.writes, ap length is, length-append before (bytes ++ after), length-append bytes after);
  flushes = q.flushes ∙ p.flushes;
  faults = ended_later a.faults b.faults c.faults kind p.faults q.faults;
}

-- the states of a reader

-- one read more, which may be the last
pub Reads-once : (most : ℕ) (old now new : Inflow) (given more : List ℕ) → Consumes old.left now.left given
    → Consumes now.left new.left more
    → length given < most → now.reads ≤ old.reads + length given → new.reads ≤ now.reads + 1 → new.asked ≤ max old.asked 65536
    → now.empty ≡ old.empty → new.empty ≤ now.empty + 1 → Reads most old new
Reads-once most old now new given more before then few reads once asked none empty = record {
  count = omega arith;
  asked = asked;
  turns = (
    given ++ more,
    Consumes-trans old.left now.left new.left given more before then,
    omega (arith, length-append given more),
  );
  ends = omega (arith, none, empty);
}

-- a front was read, and then the rest of what was asked for

pub TakesAtMost-then : (most missing : ℕ) (a b c : Option (List ℕ)) (bytes : List ℕ) → Consumes a b bytes
    → length bytes + missing ≡ most → TakesAtMost missing b c → TakesAtMost most a c
TakesAtMost-then most missing a b c bytes before sum then = (
  bytes ++ then.0,
  omega (arith, sum, then.1, length-append bytes then.0),
  Consumes-trans a b c bytes then.0 before then.2,
)

pub Reads-then : (most missing : ℕ) (old now new : Inflow) (bytes : List ℕ) → Consumes old.left now.left bytes
    → length bytes + missing ≡ most → now.reads ≤ old.reads + length bytes → now.asked ≤ max old.asked 65536
    → now.empty ≡ old.empty → Reads missing now new → Reads most old new
Reads-then most missing old now new bytes before sum reads asked none then = record {
  count = omega (arith, then.count);
  asked = grind (arith, common_steps);
  turns = (
    bytes ++ then.turns.0,
    Consumes-trans old.left now.left new.left bytes then.turns.0 before then.turns.1,
    omega (arith, then.turns.2, length-append bytes then.turns.0),
  );
  ends = omega (arith, none, then.ends);
}

pub Consumes-none : (a b : Option (List ℕ)) → Keeps a b → Consumes a b []
Consumes-none a b kept = Consumes-kept a a b [] (Consumes-nil a) kept
