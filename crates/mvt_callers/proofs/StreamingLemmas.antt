-- A fault that is told early is that of the whole stream.
use Rattle.std.proofs.Common.{◌≡◌, ◌∙◌, List, ℕ, ◌+◌, ◌<◌, ◌++◌, length, get_or, take, drop, Option, Some, None, Err, ap, sym, subst, append_assoc, take-append-drop}
use Rattle.std.specs.Borrow.{Bor}
use Rattle.std.specs.List.{flat_map}
use Rattle.std.proofs.lemmas.Grind.{flat_map-append}
use Rattle.std.proofs.lemmas.List.{drop_more}
use Rattle.mvt_base.specs.declared.TheConstants.{LIMIT}
use Rattle.mvt_tile.specs.declared.fault.DecodeError.{DecodeError}
use Rattle.mvt_tile.specs.declared.fault.DecodeError.TheVariants.{Memory, Fault, Read}
use Rattle.mvt_message.specs.declared.item.Item.{Item}
use Rattle.mvt_tile.specs.Decoding.{Decoding, StandsFor}
use Rattle.mvt_tile.specs.Streams.{Answers, ReportsAtEnd, ReportsEarly}
use Rattle.mvt_tile.specs.TileRules.{fault_within}
use Rattle.mvt_tile.specs.Visiting.{Visiting, StandsAs}
use Rattle.mvt_tile.proofs.TileLaws.{fault_stays}

reported_early : (error : DecodeError) (s more : List ℕ) → ReportsEarly error (fault_within LIMIT s)
    → ReportsAtEnd error (fault_within LIMIT (s ++ more))
reported_early Memory s more reported = reported
reported_early (Fault f) s more reported = fault_stays s more f reported.0 reported.1
reported_early (Read kind) s more reported = reported

-- the error of a decoder that stands for a stream is that of each longer stream
stopped : (failure : Option DecodeError) (Has : List Item → Type 0) (decoder : Visiting) (error : DecodeError) (s more : List ℕ)
    → StandsAs LIMIT failure Has decoder s → Answers failure (Err error) → ReportsAtEnd error (fault_within LIMIT (s ++ more))
stopped None Has decoder error s more stands answer = cc
stopped (Some kept) Has decoder error s more stands answer =
    let same : kept ≡ error = cc in
    subst (λ e. ReportsAtEnd e (fault_within LIMIT (s ++ more))) same (reported_early kept s more stands.1)

-- what all make is what those before one make, what it makes, and what those after it make
flat_seam : {X : Type 0} (f : X → List ℕ) (xs : List X) (i : ℕ) (d : X) → i < length xs
    → flat_map f xs ≡ (flat_map f (take i xs) ++ f (get_or xs i d)) ++ flat_map f (drop (i + 1) xs)
flat_seam f xs i d below =
    ap (flat_map f) (sym (take-append-drop i xs))
    ∙ flat_map-append f (take i xs) (drop i xs)
    ∙ ap (λ ys. flat_map f (take i xs) ++ flat_map f ys) (drop_more xs i d below)
    ∙ sym (append_assoc (flat_map f (take i xs)) (f (get_or xs i d)) (flat_map f (drop (i + 1) xs)))

-- an error at one of the pieces is that of all of them
pub fault_of_pieces : (pieces : List (Bor (List ℕ))) (i : ℕ) (d : Bor (List ℕ)) (decoder : Decoding) (error : DecodeError)
    → i < length pieces → StandsFor LIMIT decoder (flat_map (λ p. p.now) (take i pieces) ++ (get_or pieces i d).now)
    → Answers decoder.0.failure (Err error) → ReportsAtEnd error (fault_within LIMIT (flat_map (λ p. p.now) pieces))
fault_of_pieces pieces i d decoder error below stands answer =
    let seen = flat_map (λ (p : Bor (List ℕ)). p.now) (take i pieces) ++ (get_or pieces i d).now in
    let more = flat_map (λ (p : Bor (List ℕ)). p.now) (drop (i + 1) pieces) in
    subst (λ s. ReportsAtEnd error (fault_within LIMIT s)) (sym (flat_seam (λ (p : Bor (List ℕ)). p.now) pieces i d below))
    (stopped decoder.0.failure (λ items. decoder.1 ≡ items) decoder.0 error seen more stands answer)
