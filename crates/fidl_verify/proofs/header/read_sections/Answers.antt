use Rattle.fidl_verify.proofs.Breaking.{refused, wrong_magic, wrong_version, shorter, longer, too_many}
use Rattle.std.proofs.Common.{arith}
use Rattle.fidl_verify.specs.Faults as breaks
use Rattle.fidl_verify.proofs.header.read_sections.Goals as goal

pub returns-then-bytes-lt-HEADER_SIZE-clause-fault_is_true : goal.returns-then-bytes-lt-HEADER_SIZE-clause-fault_is_true
returns-then-bytes-lt-HEADER_SIZE-clause-fault_is_true c = breaks.no_header c.if-bytes-lt-HEADER_SIZE.true

pub returns-then-header-ne-TABLE_MAGIC-clause-fault_is_true : goal.returns-then-header-ne-TABLE_MAGIC-clause-fault_is_true
returns-then-header-ne-TABLE_MAGIC-clause-fault_is_true c = wrong_magic c.args.bytes.now c.read_header-header.result c.read_header-header.ensures c.if-bytes-lt-HEADER_SIZE.false c.if-header-ne-TABLE_MAGIC.true

pub returns-then-not-is_version-clause-fault_is_true : goal.returns-then-not-is_version-clause-fault_is_true
returns-then-not-is_version-clause-fault_is_true c = wrong_version c.args.bytes.now c.read_header-header.result c.read_header-header.ensures c.if-bytes-lt-HEADER_SIZE.false (refused c.if-not-is_version.ensures)

pub returns-then-bytes-table_length-clause-fault_is_true : goal.returns-then-bytes-table_length-clause-fault_is_true
returns-then-bytes-table_length-clause-fault_is_true c = shorter c.args.bytes.now c.read_header-header.result c.read_header-header.ensures c.if-bytes-lt-HEADER_SIZE.false (omega arith)

pub returns-then-table_length-bytes-clause-fault_is_true : goal.returns-then-table_length-bytes-clause-fault_is_true
returns-then-table_length-bytes-clause-fault_is_true c = longer c.args.bytes.now c.read_header-header.result c.read_header-header.ensures c.if-bytes-lt-HEADER_SIZE.false (omega arith)

pub returns-then-header-gt-MAX_ENTRIES-clause-fault_is_true : goal.returns-then-header-gt-MAX_ENTRIES-clause-fault_is_true
returns-then-header-gt-MAX_ENTRIES-clause-fault_is_true c = too_many c.args.bytes.now c.read_header-header.result c.read_header-header.ensures (omega arith) c.if-header-gt-MAX_ENTRIES.true
