-- What a decoder that keeps the items stands for.
use Rattle.std.specs.Prelude.{◌≡◌, ℕ, List}
use Rattle.mvt_message.specs.declared.item.Item.{Item}
use Rattle.mvt_tile.specs.Visiting.{Visiting, StandsFor as Stands}

-- what it has of the stream, and the items so far
abbrev pub Decoding : Type 0
Decoding = Visiting × List Item

-- the decoder stands for this stream
abbrev pub StandsFor : ℕ → Decoding → List ℕ → Type 0
StandsFor limit decoder stream = Stands limit (λ payloads kept items. kept ≡ items) decoder stream
