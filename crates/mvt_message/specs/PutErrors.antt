-- A pool that is full means more canonical bytes than the limit; and the texts of errors.
use Rattle.std.specs.Prelude.{ℕ, List, codes}
use Rattle.mvt_attrs.specs.declared.pool_error.PoolError.{PoolError}
use Rattle.mvt_attrs.specs.declared.pool_error.PoolError.TheVariants as pools
use Rattle.mvt_message.specs.declared.item_writing.PutError.{PutError}
use Rattle.mvt_message.specs.declared.item_writing.PutError.TheVariants.{Memory, TooLarge}

abbrev pub of_pool : PoolError → PutError
of_pool pools.Memory = Memory
of_pool pools.Full = TooLarge

abbrev pub put_error_text : PutError → List ℕ
put_error_text Memory = codes "out of memory"
put_error_text TooLarge = codes "the result is larger than 67108864 bytes"
