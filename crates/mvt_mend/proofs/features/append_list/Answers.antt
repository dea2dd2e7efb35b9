use Rattle.mvt_mend.proofs.FieldsLemmas.{list_number, list_numbers, list_fixed64, list_fixed32}
use Rattle.mvt_mend.proofs.features.append_list.Goals as goal

pub returns-in-I32-clause-is : goal.returns-in-I32-clause-is
returns-in-I32-clause-is c = rw c.in-I32.is (list_fixed32 _)

pub returns-in-I64-clause-is : goal.returns-in-I64-clause-is
returns-in-I64-clause-is c = rw c.in-I64.is (list_fixed64 _)

pub returns-in-Varint-clause-is : goal.returns-in-Varint-clause-is
returns-in-Varint-clause-is c = rw (c.in-Varint.is, ← list_number c.in-Varint.number) c.append_number.ensures.is

pub returns-in-Len-clause-is : goal.returns-in-Len-clause-is
returns-in-Len-clause-is c = rw (c.in-Len.is, ← list_numbers c.in-Len.bytes.now) c.append_numbers.ensures.is
