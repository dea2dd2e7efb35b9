-- What a handle owns: the same as a box of the decoder, or of the builder.
use base.Fml.{Fml}
use base.Stored.{Coded}
use denote.RawPtr.{Ptr}
use Rattle.std.specs.Box.Ownership.{box_owns}
use Rattle.std.specs.Global.{Global}
use Rattle.std_heap.specs.contracts.GlobalAllocator.TheImpl.{ghosts}
use Rattle.mvt_c.specs.contracts.decoder.held.Decoder.{the_row}
use Rattle.mvt_c.specs.contracts.building.held.Making.{the_row as making_row}

-- the block of a decoder is its own, and can be given back
abbrev pub held_owns : Global → Ptr → the_row.Denot → Fml
held_owns alloc = box_owns (ghosts.dealloc_token alloc) the_row

-- how a decoder lies in its block
abbrev pub decoder_coded : Coded the_row.Denot
decoder_coded = the_row.coded

-- the block of a builder, and how a builder lies in it
abbrev pub making_owns : Global → Ptr → making_row.Denot → Fml
making_owns alloc = box_owns (ghosts.dealloc_token alloc) making_row

abbrev pub making_coded : Coded making_row.Denot
making_coded = making_row.coded
