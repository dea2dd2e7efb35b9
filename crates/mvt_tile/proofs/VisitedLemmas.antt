-- A decoder and its visitor that stand for a stream.
use Rattle.std.proofs.Common.{◌≡◌, ℕ, ◌+◌, ◌≤◌, List, [], ◌++◌, length, Some, None, sym, subst, arith}
use Rattle.mvt_message.specs.declared.item.Item.{Item}
use Rattle.mvt_tile.specs.declared.fault.DecodeError.{DecodeError}
use Rattle.mvt_tile.specs.Visiting.{Visiting, HasNamed, HasVisited, StandsAs, StandsFor, payloads_in}
use Rattle.mvt_tile.proofs.DecoderLemmas.{live_start, live_length, reports_stays}

-- nothing yet
pub visited_start : (limit : ℕ) (Has : List Item → Type 0) (d : Visiting) → HasNamed Has d.count d.names [] → d.raw ≡ []
    → d.offset ≡ 0 → HasVisited limit Has d []
visited_start limit Has d has raw offset = record {
  items = [];
  has = has;
  few = omega arith;
  live = rw (raw, offset) (live_start limit);
}

-- the bytes that were taken are within the limit
pub visited_small : (limit : ℕ) (Has : List Item → Type 0) (d : Visiting) (s : List ℕ) → HasVisited limit Has d s
    → d.offset + length d.raw ≤ limit
visited_small limit Has d s visited =
    let size = live_length limit d.offset visited.items d.raw s visited.live in
    omega (arith, visited.live.small)

module _ {V : Type 0} (limit : ℕ) (Has : List (List ℕ) → V → List Item → Type 0) (d : Visiting) (visitor : V) (given : Visiting × V)
    (is : (let pair : Visiting × V = (d, visitor) in pair) ≡ given) (s : List ℕ) where
  -- a decoder that hasn't failed, by its parts
  pub visited_of : d.failure ≡ None → StandsFor limit Has given s → HasVisited limit (Has (payloads_in s) visitor) d s
  visited_of none stands =
      subst (λ o. StandsAs limit o (Has (payloads_in s) visitor) d s) none (subst (λ x. StandsFor limit Has x s) (sym is) stands)

  -- one that has
  pub failed_of : (e : DecodeError) (t : List ℕ) → d.failure ≡ Some e → StandsFor limit Has given s → StandsFor limit Has given (s ++ t)
  failed_of e t failed stands =
      let old : StandsAs limit (Some e) (Has (payloads_in s) visitor) d s =
      subst (λ o. StandsAs limit o (Has (payloads_in s) visitor) d s) failed (subst (λ x. StandsFor limit Has x s) (sym is) stands) in
      let more : StandsAs limit (Some e) (Has (payloads_in (s ++ t)) visitor) d (s ++ t) = (old.0, reports_stays limit e s t old.1) in
      subst (λ x. StandsFor limit Has x (s ++ t)) is
      (subst (λ o. StandsAs limit o (Has (payloads_in (s ++ t)) visitor) d (s ++ t)) (sym failed) more)

pub stands_of : (limit : ℕ) (Has : List Item → Type 0) (d : Visiting) (s : List ℕ) → d.failure ≡ None → HasVisited limit Has d s
    → StandsAs limit d.failure Has d s
stands_of limit Has d s none visited = subst (λ o. StandsAs limit o Has d s) (sym none) visited
