-- Rows that are made of a stream, which comes in pieces.
use Rattle.std.specs.Prelude.{ℕ, List}
use Rattle.mvt_base.specs.declared.TheConstants.{LIMIT}
use Rattle.mvt_tile.specs.Visiting.{Visiting, StandsFor as Stands}
use Rattle.mvt_rows.specs.declared.table.visiting.RowsVisitor.{RowsVisitor}
use Rattle.mvt_rows.specs.Visiting.{AreItemRows, HasRead, IsWithin}

-- a decoder stands for this stream, and the rows are the items in it so far, in lists of at most so many bytes
abbrev pub StandsFor : ℕ → Visiting × RowsVisitor → List ℕ → Type 0
StandsFor most decoder stream =
    Stands LIMIT (λ payloads rows items. AreItemRows rows.table items × HasRead rows.table payloads items × IsWithin most rows) decoder
    stream
