-- The texts of errors.
use Rattle.std.specs.Prelude.{ℕ, List, ◌++◌, codes}
use Rattle.std.specs.Fmt.{decimal}
use Rattle.mvt_attrs.specs.declared.resolving.TagCause.{TagCause}
use Rattle.mvt_attrs.specs.declared.resolving.TagCause.TheVariants as causes
use Rattle.mvt_attrs.specs.declared.resolving.TagError.{TagError}
use Rattle.mvt_attrs.specs.declared.resolving.TagError.TheVariants as errors
use Rattle.mvt_attrs.specs.declared.pool_error.PoolError.{PoolError}
use Rattle.mvt_attrs.specs.declared.pool_error.PoolError.TheVariants as pools

abbrev pub cause_name : TagCause → List ℕ
cause_name causes.OddTags = codes "OddTags"
cause_name causes.KeyIndex = codes "KeyIndex"
cause_name causes.ValueIndex = codes "ValueIndex"
cause_name causes.RepeatedKey = codes "RepeatedKey"

abbrev pub tag_error_text : TagError → List ℕ
tag_error_text errors.Memory = codes "out of memory"
tag_error_text (errors.Fault index cause) = cause_name cause ++ (codes " at " ++ decimal index)

abbrev pub pool_error_text : PoolError → List ℕ
pool_error_text pools.Memory = codes "out of memory"
pool_error_text pools.Full = codes "the pool is full"
