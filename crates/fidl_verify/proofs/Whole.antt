-- A table is well formed where all its rules hold, and only there.
use Rattle.std.proofs.Common.{◌≡◌, ℕ, ◌<◌, List, Result, Ok, Err, IfErr, OnErr, subst, sym, arith}
use Rattle.fidl_table_format.specs.declared.record.Header.{Header}
use Rattle.fidl_table_format.specs.Section.{header_of}
use Rattle.fidl_verify.specs.declared.fault.TableFault.{TableFault}
use Rattle.fidl_table_format.specs.Entry.{IsEntry, rows_before, values_before}
use Rattle.fidl_table_format.specs.Root.{IsRoot}
use Rattle.fidl_table_format.specs.Protocol.{IsProtocol, methods_before}
use Rattle.fidl_table_format.specs.Method.{IsMethod}
use Rattle.fidl_table_format.specs.WellFormed.{HasHeader, WellFormed}
use Rattle.fidl_verify.specs.Faults.{Breaks, BreaksHeader, BreaksRecord, no_header, header, record_at, magic, version, short, long, many_entries, shape, children, rows, values, offsets, size, nest, sorted, names, row, value, root, root_name, root_order, openness, protocol_name, protocol_order, protocol_methods, method, method_shape, method_name, method_order}

pub well_formed_from : (bytes : List ℕ) (h : Header) → h ≡ header_of bytes → HasHeader bytes h → ((index : ℕ) → index < h.entries → IsEntry bytes h index)
    → rows_before bytes h.entries ≡ h.rows → values_before bytes h.entries ≡ h.values → ((index : ℕ) → index < h.roots → IsRoot bytes h index) → ((index : ℕ) → index < h.protocols → IsProtocol bytes h index) → methods_before bytes h h.protocols ≡ h.methods → ((index : ℕ) → index < h.methods → IsMethod bytes h index) → WellFormed bytes
well_formed_from bytes h same =
    subst (λ h. HasHeader bytes h → ((index : ℕ) → index < h.entries → IsEntry bytes h index)
    → rows_before bytes h.entries ≡ h.rows → values_before bytes h.entries ≡ h.values → ((index : ℕ) → index < h.roots → IsRoot bytes h index) → ((index : ℕ) → index < h.protocols → IsProtocol bytes h index) → methods_before bytes h h.protocols ≡ h.methods → ((index : ℕ) → index < h.methods → IsMethod bytes h index) → WellFormed bytes) (sym same)
    (λ a b c d e f g i. record { header = a; entries = b; covered = c; values_covered = d; roots = e; protocols = f; methods_covered = g; methods = i })

-- no fault is true of a table that is well formed
of_header : (bytes : List ℕ) (fault : TableFault) → BreaksHeader bytes (header_of bytes) fault → WellFormed bytes → ⊥
of_header bytes fault (magic n) w = n w.header.magic
of_header bytes fault (version n) w = n w.header.version
of_header bytes fault (short n) w = omega (arith, n, w.header.whole)
of_header bytes fault (long n) w = omega (arith, n, w.header.whole)

of_record : (bytes : List ℕ) (fault : TableFault) → BreaksRecord bytes (header_of bytes) fault → WellFormed bytes → ⊥
of_record bytes fault (many_entries n) w = omega (arith, n, w.header.few_entries)
of_record bytes fault (shape at p n) w = n (w.entries at p).shape
of_record bytes fault (children at p n) w = n (w.entries at p).children
of_record bytes fault (rows at p n) w = n (w.entries at p).rows
of_record bytes fault (values at p n) w = n (w.entries at p).values
of_record bytes fault (offsets at p n) w = n (w.entries at p).offsets
of_record bytes fault (size at p n) w = n (w.entries at p).size
of_record bytes fault (nest at p n) w = n (w.entries at p).nest
of_record bytes fault (sorted at p n) w = n (w.entries at p).sorted
of_record bytes fault (names at p n) w = n (w.entries at p).names
of_record bytes fault (row n) w = omega (arith, n, w.covered)
of_record bytes fault (value n) w = omega (arith, n, w.values_covered)
of_record bytes fault (root at p n) w = n (w.roots at p).entry
of_record bytes fault (root_name at p n) w = n (w.roots at p).name
of_record bytes fault (root_order at p n) w = n (w.roots at p).rises
of_record bytes fault (openness at p n) w = n (w.protocols at p).openness
of_record bytes fault (protocol_name at p n) w = n (w.protocols at p).name
of_record bytes fault (protocol_order at p n) w = n (w.protocols at p).rises
of_record bytes fault (protocol_methods at p n) w = n (w.protocols at p).methods
of_record bytes fault (method n) w = omega (arith, n, w.methods_covered)
of_record bytes fault (method_shape at p n) w = n (w.methods at p).shape
of_record bytes fault (method_name at p n) w = n (w.methods at p).name
of_record bytes fault (method_order at p n) w = n (w.methods at p).rises

pub refutes : (bytes : List ℕ) (fault : TableFault) → Breaks bytes fault → WellFormed bytes → ⊥
refutes bytes fault (no_header n) w = omega (arith, n, w.header.whole)
refutes bytes fault (header g room b) w = of_header bytes g b w
refutes bytes fault (record_at g whole b) w = of_record bytes g b w

pub none_of : {T : Type 0} (bytes : List ℕ) (r : Result T TableFault) → IfErr r (Breaks bytes) → OnErr r (WellFormed bytes → ⊥)
none_of bytes (Ok x) h = tt
none_of bytes (Err fault) h = refutes bytes fault h
