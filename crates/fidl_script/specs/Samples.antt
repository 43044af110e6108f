-- The method records of the worked facts.
use Rattle.std.specs.Prelude.{ℕ}
use Rattle.fidl_table_format.specs.declared.record.MethodRecord.{MethodRecord}
use Rattle.fidl_table_format.specs.Method.{no_payload}

-- the record of a method with these flags, without payloads
abbrev pub a_method : (flags : ℕ) → MethodRecord
a_method flags = record {
  ordinal = 1;
  name_place = 0;
  name_length = 1;
  flags = flags;
  request = no_payload;
  response = no_payload;
  reserved = 0;
}
