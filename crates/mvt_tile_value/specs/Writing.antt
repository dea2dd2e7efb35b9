-- What writing a tile answers.
use Rattle.std.specs.Prelude.{Option, Some, None}
use Rattle.std.specs.declared.io.ErrorKind.{ErrorKind}
use Rattle.mvt_message.specs.declared.item_writing.PutError.{PutError}
use Rattle.mvt_message.specs.declared.item_writing.PutError.TheVariants as put
use Rattle.mvt_tile_value.specs.declared.write_error.WriteError.{WriteError}
use Rattle.mvt_tile_value.specs.declared.write_error.WriteError.TheVariants.{Memory, TooLarge, Write}

-- why a tile can't be written, where an item can't be
abbrev pub write_error : PutError → WriteError
write_error put.Memory = Memory
write_error put.TooLarge = TooLarge

-- the kind of the write that failed, where one did
abbrev pub kind_written : WriteError → Option ErrorKind
kind_written Memory = None
kind_written TooLarge = None
kind_written (Write kind) = Some kind
