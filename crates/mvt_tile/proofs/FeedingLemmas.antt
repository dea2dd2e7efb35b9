-- A reader whose bytes are taken piece by piece.
use Rattle.std.proofs.Common.{◌≡◌, ℕ, ◌+◌, ◌-◌, ◌<◌, ◌≤◌, max, List, [], ◌++◌, length, take, drop, Option, Some, None, IfSome, IfErr, Result, Ok, Err, refl, sym, ap, subst, ◌∙◌, arith, append-nil, length-append, length-take, take-append-drop}
use Rattle.std.proofs.lemmas.Grind.{common_steps}
use Rattle.std.proofs.lemmas.List.{take-append-le}
use Rattle.std.specs.Io.KnownBytes.{Consumes, IsAtEnd, Keeps}
use Rattle.std.proofs.KnownBytes.{Consumes-nil, Consumes-trans, Consumes-kept, Consumes-whole}
use Rattle.mvt_io.specs.States.{EndedBy, Faults, Inflow, NoneFailed}
use Rattle.mvt_io.specs.Transfers.{Reads}
use Rattle.mvt_message.specs.declared.item.Item.{Item}
use Rattle.mvt_tile.specs.declared.fault.DecodeError.{DecodeError}
use Rattle.mvt_tile.specs.declared.fault.DecodeError.TheVariants.{Memory, Fault, Read}
use Rattle.mvt_tile.specs.declared.fault.Fault.{Fault as AFault}
use Rattle.mvt_tile.specs.Inner.Feeding.{HasFed, HasStopped, ReportsFed}
use Rattle.mvt_tile.specs.Reading.{ReadsTile, StopsEarly, fault_of, kind_of, kind_reported}
use Rattle.std.specs.declared.io.ErrorKind.{ErrorKind}
use Rattle.mvt_base.specs.Reports.{Reports}
use Rattle.mvt_tile_value.specs.declared.tile.Tile.{Tile}
use Rattle.mvt_tile_value.specs.Tiles.{HasDistinctNames, IsTile}
use Rattle.mvt_tile.specs.Streams.{IsCalm, IsLive, ReportsEarly, ReportsAtEnd}
use Rattle.mvt_tile.specs.TileRules.{fault_within}
use Rattle.mvt_tile.specs.Visiting.{payloads_in}
use Rattle.mvt_tile.proofs.DecoderLemmas.{live_start}
use Rattle.mvt_tile.proofs.PayloadLemmas.{payloads_live, payloads_nothing}
use Rattle.mvt_tile.proofs.StreamLemmas.{fault_stays, calm_front}

-- no read yet
pub fed_start : (limit : ℕ) (Has : List (List ℕ) → List Item → Type 0) (offset : ℕ) (raw : List ℕ) (a : Option (List ℕ)) → Has [] []
    → raw ≡ [] → offset ≡ 0
    → HasFed limit Has offset raw a a 0
fed_start limit Has offset raw a has none zero = record {
  items = [];
  few = omega arith;
  given = [];
  has = subst (λ ps. Has ps []) (sym payloads_nothing) has;
  consumed = Consumes-nil a;
  live = subst (λ r. IsLive limit offset [] r []) (sym none) (subst (λ n. IsLive limit n [] [] []) (sym zero) (live_start limit));
  turns = omega arith;
}

weaker_fed : (e : DecodeError) (o : Option AFault) → ReportsEarly e o → ReportsFed e o
weaker_fed Memory o h = tt
weaker_fed (Fault f) o h = h
weaker_fed (Read k) o h = tt

module _ (limit : ℕ) (Has : List (List ℕ) → List Item → Type 0) (offset : ℕ) (raw : List ℕ) (a b c : Option (List ℕ)) (reads : ℕ)
    (has : HasFed limit Has offset raw a b reads) where
  -- one piece more
  pub fed_more : (buffer piece : List ℕ) (n : ℕ) (Next : List (List ℕ) → List Item → Type 0) (place : ℕ) (left : List ℕ)
      → Consumes b c (take n buffer)
      → piece ≡ take n buffer → 0 < n → n ≤ length buffer
      → ((new : List Item) × Next (payloads_in has.given ++ payloads_in (raw ++ piece)) new × (length new ≤ place)
      × ((s : List ℕ) → IsLive limit offset has.items raw s → IsLive limit place new left (s ++ piece)))
      → HasFed limit Next place left a c (reads + 1)
  fed_more buffer piece n Next place left consumed is some within (new, next, few, live) =
      let size : length piece ≡ n = ap length is ∙ (simp length-take (omega arith)) in
      let turns = has.turns in
      record {
        items = new;
        few = few;
        given = has.given ++ piece;
        has = subst (λ ps. Next ps new) (sym (payloads_live limit offset has.items raw has.given piece has.live)) next;
        consumed = Consumes-trans a b c has.given piece has.consumed (subst (Consumes b c) (sym is) consumed);
        live = live has.given has.live;
        turns = omega (arith, length-append has.given piece);
      }

  pub fed_fails : (buffer piece : List ℕ) (n size : ℕ) (e : DecodeError) → Consumes b c (take n buffer)
      → piece ≡ take n buffer → size ≡ n → size ≤ 65536
      → ((s : List ℕ) → IsLive limit offset has.items raw s → ReportsEarly e (fault_within limit (s ++ piece)))
      → HasStopped limit size a c e
  fed_fails buffer piece n size e consumed is of_size small reports =
      let short : length piece ≤ size =
      let count : length piece ≡ length (take n buffer) = ap length is in omega (arith, length-take n buffer) in
      record {
        front = has.given;
        back = piece;
        consumed = Consumes-trans a b c has.given piece has.consumed (subst (Consumes b c) (sym is) consumed);
        few = short;
        small = small;
        calm = has.live.calm;
        reported = weaker_fed e (fault_within limit (has.given ++ piece)) (reports has.given has.live);
      }

  pub fed_read : (size : ℕ) (k : ErrorKind) → Keeps b c → size ≤ 65536 → HasStopped limit size a c (Read k)
  fed_read size k kept small = record {
    front = has.given;
    back = [];
    consumed = subst (Consumes a c) (sym (append-nil has.given)) (Consumes-kept a b c has.given has.consumed kept);
    few = omega arith;
    small = small;
    calm = has.live.calm;
    reported = tt;
  }

-- one read more, which may be the last

pub fed_reads : (limit : ℕ) (Has : List (List ℕ) → List Item
    → Type 0) (offset : ℕ) (raw : List ℕ) (old now new : Inflow) (turn most : ℕ) (more : List ℕ)
    → HasFed limit Has offset raw old.left now.left turn → Consumes now.left new.left more → turn < most
    → now.reads ≤ old.reads + turn → new.reads ≤ now.reads + 1 → new.asked ≤ max old.asked 65536
    → now.empty ≡ old.empty → new.empty ≤ now.empty + 1 → Reads most old new
fed_reads limit Has offset raw old now new turn most more has took below before once asked none empty =
    let turns = has.turns in
    record {
      count = omega arith;
      asked = asked;
      turns = (
        has.given ++ more,
        Consumes-trans old.left now.left new.left has.given more has.consumed took,
        omega (arith, length-append has.given more),
      );
      ends = omega (arith, none, empty);
    }

pub kept_is_none : (a b : Option (List ℕ)) → Keeps a b → Consumes a b []
kept_is_none a b kept = Consumes-kept a a b [] (Consumes-nil a) kept

-- an error that no read told
pub early_faults : (e : DecodeError) (o : Option AFault) (a b : Faults) → ReportsEarly e o → NoneFailed a b → EndedBy (kind_reported e) a b
early_faults Memory o a b reports none = none
early_faults (Fault f) o a b reports none = none
early_faults (Read k) o a b reports none = absurd reports

pub end_faults : {A : Type 0} (r : Result A DecodeError) (o : Option AFault) (a b : Faults) → IfErr r (λ e. ReportsAtEnd e o)
    → NoneFailed a b
    → EndedBy (kind_of r) a b
end_faults (Ok x) o a b reports none = none
end_faults (Err Memory) o a b reports none = none
end_faults (Err (Fault f)) o a b reports none = none
end_faults (Err (Read k)) o a b reports none = absurd reports

-- the reader is at its end

reports_at_end : (e : DecodeError) (o : Option AFault) → ReportsAtEnd e o → Reports (fault_of e) o
reports_at_end Memory o h = tt
reports_at_end (Fault f) o h = h
reports_at_end (Read k) o h = absurd h

module _ (limit : ℕ) (Has : List (List ℕ) → List Item → Type 0) (offset : ℕ) (raw : List ℕ) (a b : Option (List ℕ)) (reads : ℕ)
    (has : HasFed limit Has offset raw a b reads) (end : IsAtEnd b) where
  pub fed_tile : IsTile limit has.given (record { items = has.items })
      → (tile : Tile) × Has (payloads_in has.given) tile.items × HasDistinctNames tile.items × IfSome a (λ bytes. IsTile limit bytes tile)
  fed_tile is =
      let tile : Tile = record { items = has.items } in
      (tile, has.has, has.live.items_are.distinct, Consumes-whole a b has.given (λ bytes. IsTile limit bytes tile) has.consumed end is)

  pub fed_reported : (e : DecodeError) → ReportsAtEnd e (fault_within limit has.given)
      → IfSome a (λ input. Reports (fault_of e) (fault_within limit input))
  fed_reported e reports =
      Consumes-whole a b has.given (λ input. Reports (fault_of e) (fault_within limit input)) has.consumed end
      (reports_at_end e (fault_within limit has.given) reports)

-- of the whole call

early_from : (limit size : ℕ) (a b : Option (List ℕ)) (front back : List ℕ) → Consumes a b (front ++ back) → length back ≤ size
    → IsCalm (fault_within limit front) → StopsEarly limit size a b
early_from limit size None b front back consumed few calm = tt
early_from limit size (Some xs) None front back consumed few calm = consumed
early_from limit size (Some xs) (Some ys) front back consumed few calm =
    let all = length (front ++ back) in
    let sum : all ≡ length front + length back = length-append front back in
    let within : all - size ≤ length front = omega arith in (
      front ++ back,
      consumed,
      subst (λ s. IsCalm (fault_within limit s)) (sym (take-append-le (all - size) front back within))
          (calm_front limit (take (all - size) front) (drop (all - size) front)
          (subst (λ s. IsCalm (fault_within limit s)) (sym (take-append-drop (all - size) front)) calm)),
    )

pub stopped_early : (limit given size : ℕ) (a b : Option (List ℕ)) (e : DecodeError) → given ≤ size → HasStopped limit given a b e
    → StopsEarly limit size a b
stopped_early limit given size a b e within h =
    let few : length h.back ≤ given = h.few in
    early_from limit size a b h.front h.back h.consumed (omega arith) h.calm

pub fed_early : (limit size : ℕ) (Has : List (List ℕ) → List Item → Type 0) (offset : ℕ) (raw : List ℕ) (a b : Option (List ℕ)) (reads : ℕ)
    → HasFed limit Has offset raw a b reads → StopsEarly limit size a b
fed_early limit size Has offset raw a b reads has =
    early_from limit size a b has.given [] (subst (Consumes a b) (sym (append-nil has.given)) has.consumed) (omega arith) has.live.calm

-- a reader that gave nothing
unread_early : (limit size : ℕ) (a : Option (List ℕ)) → StopsEarly limit size a a
unread_early limit size a = early_from limit size a a [] [] (Consumes-nil a) (omega arith) (live_start limit).calm

pub unread : (limit : ℕ) (s : Inflow) → ReadsTile limit s s None
unread limit s = record {
  early = unread_early limit 65536 s.left;
  stops = unread_early limit s.given s.left;
  reads = record {
    count = omega arith;
    asked = grind (arith, common_steps);
    turns = ([], Consumes-nil s.left, omega arith);
    ends =
        omega arith;
  };
  faults = refl;
}

reports_input : (limit : ℕ) (e : DecodeError) (taken left input : List ℕ) → input ≡ taken ++ left → ReportsFed e (fault_within limit taken)
    → Reports (fault_of e) (fault_within limit input)
reports_input limit Memory taken left input is h = tt
reports_input limit (Fault f) taken left input is h = ap (fault_within limit) is ∙ fault_stays limit taken left f h.0 h.1
reports_input limit (Read k) taken left input is h = tt

pub stopped_reported : (limit size : ℕ) (a b : Option (List ℕ)) (e : DecodeError) → HasStopped limit size a b e
    → IfSome a (λ input. Reports (fault_of e) (fault_within limit input))
stopped_reported limit size None b e h = tt
stopped_reported limit size (Some xs) None e h = absurd h.consumed
stopped_reported limit size (Some xs) (Some ys) e h = reports_input limit e (h.front ++ h.back) ys xs h.consumed h.reported
