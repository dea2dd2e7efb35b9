use Rattle.mvt_wire.proofs.WireLaws.{short_lengths_some, short_lengths_most, short_lengths_one, short_lengths_five, short_lengths_field, short_lengths_bytes, short_lengths_numbers}
use Rattle.mvt_wire.proofs.laws.short_lengths.Goals as goal

pub returns-clause-some : goal.returns-clause-some
returns-clause-some c = short_lengths_some

pub returns-clause-most : goal.returns-clause-most
returns-clause-most c = short_lengths_most

pub returns-clause-one : goal.returns-clause-one
returns-clause-one c = short_lengths_one

pub returns-clause-five : goal.returns-clause-five
returns-clause-five c = short_lengths_five

pub returns-clause-field : goal.returns-clause-field
returns-clause-field c = short_lengths_field

pub returns-clause-bytes : goal.returns-clause-bytes
returns-clause-bytes c = short_lengths_bytes

pub returns-clause-numbers : goal.returns-clause-numbers
returns-clause-numbers c = short_lengths_numbers
