use Rattle.std.proofs.Common.{◌≡◌, ◌≤◌, ◌<◌, ◌+◌, ℕ, true, refl, sym, ap, subst, ◌∙◌, arith}
use Rattle.std.specs.Prelude.{codes, Option, Some, IfSome}
use Rattle.std.proofs.lemmas.Bool.{false≢true}
use Rattle.fidl_wire.specs.Term.{Term, Fields, resolve}
use Rattle.fidl_wire.specs.Term as ty
use Rattle.fidl_wire.specs.Value as data_of
use Rattle.fidl_wire.specs.Value.{Value, Member, list, fields, table, union, known, absent, values_of}
use Rattle.fidl_wire.specs.Views.{value_view, values_view, member_view, members_view}
use Rattle.fidl_table_format.specs.declared.record.Entry.{Entry}
use Rattle.fidl_table_format.specs.declared.kind.EntryKind.{EntryKind}
use Rattle.fidl_table_format.specs.declared.kind.EntryKind.TheVariants.{Vector, Array, Box, Struct, Table, Union}
use Rattle.fidl_table_format.specs.Section.{header_of, entry_at, row_at}
use Rattle.fidl_table_format.specs.Terms.{declarations_of, members_of, fields_from, term_as, is_optional, is_strict}
use Rattle.fidl_table_format.specs.Entry.{IsOf}
use Rattle.fidl_spelling.specs.Spells.{CommaIf, Absence, Spelled, AMember}
use Rattle.fidl_reading.specs.Cuts.{texts_of}
use Rattle.fidl_reading.specs.Keys.{Tells}
use Rattle.fidl_reading.specs.Reads.{StandsNot, has_some, least_after, type_at}
use Rattle.fidl_reading.proofs.Handing.{refused, refused_so, judged, if_ok, if_err}
use Rattle.fidl_reading.proofs.Leading.{some_if, not_begun}
use Rattle.fidl_reading.proofs.Elements as elements
use Rattle.fidl_reading.proofs.Elements.{behind}
use Rattle.fidl_reading.proofs.Fields as fields_of_rows
use Rattle.fidl_reading.proofs.Rising as rising
use Rattle.fidl_reading.proofs.Rising.{ahead}
use Rattle.fidl_reading.proofs.Keyed.{known_made, known_left, raw_made, raw_left, means_name}
use Rattle.fidl_reading.proofs.Named.{single_at, single_member}
use Rattle.fidl_reading.proofs.Entered as entered
use Rattle.fidl_reading.proofs.Trees.{list_is, fields_is, table_is, union_is, known_is, absent_is}
use Rattle.fidl_reading.proofs.Absences as kinds
use Rattle.fidl_reading.proofs.reader.Reader.+read.Goals as goal

pub read_list-returns-in_err-left-clause-fault_is_true : goal.read_list-returns-in_err-left-clause-fault_is_true
read_list-returns-in_err-left-clause-fault_is_true t c =
    let b = c.args.self.now.table.now in
    let ds = declarations_of b in
    let from = texts_of c.args.words.now in
    refused_so c.from_residual.result c.in_err-left.field-0.0 _ c.from_residual.ensures.1 (elements.no_list ds (ty.named c.args.element) from c.in_err-left.ensures.fault_is_true)

pub read_list-loop-values-init : goal.read_list-loop-values-init
read_list-loop-values-init t c =
    let b = c.args.self.now.table.now in
    let ds = declarations_of b in
    let from = texts_of c.args.words.now in
    record {
      leads = elements.list_begun ds (ty.named c.args.element) (values_view c.new-values.result) from (texts_of c.in_ok-left.left.now) c.new-values.ensures c.in_ok-left.ensures.ok;
      fewer = c.in_ok-left.ensures.fewer;
    }

pub read_list-returns-in_err-next-clause-fault_is_true : goal.read_list-returns-in_err-next-clause-fault_is_true
read_list-returns-in_err-next-clause-fault_is_true t c =
    let b = c.args.self.now.table.now in
    let ds = declarations_of b in
    let from = texts_of c.args.words.now in
    let xs = values_view c.loop-values.values in
    let to = texts_of c.loop-values.left.now in
    let own = type_at b c.args.element in
    let later = some_if c.is_empty.result xs c.is_empty.ensures in
    let going = not_begun c.begins.result to (codes "]") c.begins.ensures c.loop-values-test.true in
    refused_so c.from_residual-in_err-next.result c.in_err-next.field-0.0 _ c.from_residual-in_err-next.ensures.1
    (elements.no_comma ds own (has_some xs) to going (λ vs. list (behind xs vs)) c.loop-values.invariant.leads (subst (λ l. StandsNot (CommaIf l) to) later c.in_err-next.ensures.fault_is_true))

pub read_list-read_value-requires : goal.read_list-read_value-requires
read_list-read_value-requires t c =
    (omega (arith, c.decreases, c.loop-values.invariant.fewer, c.in_ok-next.ensures.fewer), c.requires.element)

pub read_list-returns-in_err-value-clause-fault_is_true : goal.read_list-returns-in_err-value-clause-fault_is_true
read_list-returns-in_err-value-clause-fault_is_true t c =
    let b = c.args.self.now.table.now in
    let ds = declarations_of b in
    let from = texts_of c.args.words.now in
    let xs = values_view c.loop-values.values in
    let to = texts_of c.loop-values.left.now in
    let own = type_at b c.args.element in
    let later = some_if c.is_empty.result xs c.is_empty.ensures in
    let going = not_begun c.begins.result to (codes "]") c.begins.ensures c.loop-values-test.true in
    let mid = texts_of c.in_ok-next.next.now in
    refused c.from_residual-in_err-value.result c.in_err-value.field-0.0 _ _ c.from_residual-in_err-value.ensures.1 c.in_err-value.ensures.fault_is_true
    (λ h. elements.no_item ds own (has_some xs) to going (λ vs. list (behind xs vs)) mid c.loop-values.invariant.leads (subst (λ l. CommaIf l to mid) later c.in_ok-next.ensures.ok) h)

pub read_list-loop-values-preserved : goal.read_list-loop-values-preserved
read_list-loop-values-preserved t c =
    let b = c.args.self.now.table.now in
    let ds = declarations_of b in
    let from = texts_of c.args.words.now in
    let xs = values_view c.loop-values.values in
    let to = texts_of c.loop-values.left.now in
    let own = type_at b c.args.element in
    let later = some_if c.is_empty.result xs c.is_empty.ensures in
    let going = not_begun c.begins.result to (codes "]") c.begins.ensures c.loop-values-test.true in
    let mid = texts_of c.in_ok-next.next.now in
    record {
      leads = elements.one_more ds own (single_at b c.requires.well_formed c.args.element) xs (values_view c.push.new.self) (value_view c.in_ok-value.value) to mid (texts_of c.in_ok-value.rest.now) (λ vs. list vs) c.in_ok-push.ensures.ok
          c.loop-values.invariant.leads going (subst (λ l. CommaIf l to mid) later c.in_ok-next.ensures.ok) c.in_ok-value.ensures.ok;
      fewer = omega (arith, c.loop-values.invariant.fewer, c.in_ok-next.ensures.fewer, c.in_ok-value.ensures.fewer);
    }

pub read_list-returns-clause-ok : goal.read_list-returns-clause-ok
read_list-returns-clause-ok t c =
    let b = c.args.self.now.table.now in
    let ds = declarations_of b in
    let from = texts_of c.args.words.now in
    let xs = values_view c.loop-values.values in
    let to = texts_of c.loop-values.left.now in
    let own = type_at b c.args.element in
    let rest = texts_of c.in_ok-rest.rest.now in
    subst (λ v. Spelled ds (ty.array (ty.named c.args.element) 0) v from rest) (sym (list_is c.loop-values.values))
    (elements.all_read ds own (has_some xs) to rest xs (λ vs. list vs) c.loop-values.invariant.leads c.in_ok-rest.ensures.ok)

pub read_member-returns-in_err-key-clause-fault_is_true : goal.read_member-returns-in_err-key-clause-fault_is_true
read_member-returns-in_err-key-clause-fault_is_true t c =
    let b = c.args.self.now.table.now in
    let ds = declarations_of b in
    let from = texts_of c.args.words.now in
    refused_so c.from_residual.result c.in_err-key.field-0.0 _ c.from_residual.ensures.1 (λ o m. c.in_err-key.ensures.fault_is_true ds o m)

pub read_member-returns-in_err-member-clause-fault_is_true : goal.read_member-returns-in_err-member-clause-fault_is_true
read_member-returns-in_err-member-clause-fault_is_true t c =
    let b = c.args.self.now.table.now in
    let ds = declarations_of b in
    let from = texts_of c.args.words.now in
    let rows = members_of b c.args.index in
    let key = c.in_ok-key.ensures.ok in
    let rest = texts_of c.in_ok-key.behind.now in
    let tells = subst (λ (o : Option ℕ). Tells rows c.in_ok-key.key.ordinal o key.0) c.in_default.is key.1 in
    let names = means_name b c.requires.well_formed c.args.index c.requires.index c.requires.kind key.0 tells.0 in
    refused c.from_residual-in_err-member.result c.in_err-member.field-0.0 _ _ c.from_residual-in_err-member.ensures.1 c.in_err-member.ensures.fault_is_true
    (λ h o m r p. h m r (raw_left ds rows c.in_ok-key.key.ordinal key.0 from rest key.2 tells names o m r p))

pub read_member-returns-in_default-clause-ok : goal.read_member-returns-in_default-clause-ok
read_member-returns-in_default-clause-ok t c =
    let b = c.args.self.now.table.now in
    let ds = declarations_of b in
    let from = texts_of c.args.words.now in
    let rows = members_of b c.args.index in
    let key = c.in_ok-key.ensures.ok in
    let rest = texts_of c.in_ok-key.behind.now in
    let tells = subst (λ (o : Option ℕ). Tells rows c.in_ok-key.key.ordinal o key.0) c.in_default.is key.1 in
    let names = means_name b c.requires.well_formed c.args.index c.requires.index c.requires.kind key.0 tells.0 in
    raw_made ds rows c.in_ok-key.key.ordinal key.0 from rest key.2 tells names (member_view c.in_ok-member.member) (texts_of c.in_ok-member.rest.now) c.in_ok-member.ensures.ok

pub read_member-read_value-requires : goal.read_member-read_value-requires
read_member-read_value-requires t c =
    (omega (arith, c.decreases, c.in_ok-key.ensures.fewer), subst (λ (o : Option ℕ). IfSome o (λ entry. entry < (header_of c.args.self.now.table.now).entries)) c.in-Some.is c.in_ok-key.ensures.below)

pub read_member-returns-in_err-value-clause-fault_is_true : goal.read_member-returns-in_err-value-clause-fault_is_true
read_member-returns-in_err-value-clause-fault_is_true t c =
    let b = c.args.self.now.table.now in
    let ds = declarations_of b in
    let from = texts_of c.args.words.now in
    let rows = members_of b c.args.index in
    let key = c.in_ok-key.ensures.ok in
    let rest = texts_of c.in_ok-key.behind.now in
    let tells = subst (λ (o : Option ℕ). Tells rows c.in_ok-key.key.ordinal o key.0) c.in-Some.is key.1 in
    refused c.from_residual-in_err-value.result c.in_err-value.field-0.0 _ _ c.from_residual-in_err-value.ensures.1 c.in_err-value.ensures.fault_is_true
    (λ h o m r p. let x = known_left ds rows c.in_ok-key.key.ordinal key.0 from rest key.2 c.in-Some.entry tells o m r p in h x.0 r x.1)

pub read_member-returns-clause-ok : goal.read_member-returns-clause-ok
read_member-returns-clause-ok t c =
    let b = c.args.self.now.table.now in
    let ds = declarations_of b in
    let from = texts_of c.args.words.now in
    let rows = members_of b c.args.index in
    let key = c.in_ok-key.ensures.ok in
    let rest = texts_of c.in_ok-key.behind.now in
    let tells = subst (λ (o : Option ℕ). Tells rows c.in_ok-key.key.ordinal o key.0) c.in-Some.is key.1 in
    let r = texts_of c.in_ok-value.rest.now in
    subst (λ m. AMember ds rows c.in_ok-key.key.ordinal m from r) (sym (known_is c.in_ok-value.value))
    (known_made ds rows c.in_ok-key.key.ordinal key.0 from rest key.2 c.in-Some.entry tells (value_view c.in_ok-value.value) r c.in_ok-value.ensures.ok)

pub read_struct-returns-in_err-left-clause-fault_is_true : goal.read_struct-returns-in_err-left-clause-fault_is_true
read_struct-returns-in_err-left-clause-fault_is_true t c =
    let b = c.args.self.now.table.now in
    let ds = declarations_of b in
    let from = texts_of c.args.words.now in
    let e = entry_at b c.args.index in
    let fs = fields_from b (header_of b) e.first e.count in
    let is = entered.struct_is b c.requires.well_formed c.args.index c.requires.index c.requires.of_struct in
    refused_so c.from_residual.result c.in_err-left.field-0.0 _ c.from_residual.ensures.1 (subst (λ (u : Term). (v : Value) → StandsNot (Spelled ds u v) from) (sym is) (fields_of_rows.no_struct ds fs from c.in_err-left.ensures.fault_is_true))

pub read_struct-loop-k-init : goal.read_struct-loop-k-init
read_struct-loop-k-init t c =
    let b = c.args.self.now.table.now in
    let ds = declarations_of b in
    let from = texts_of c.args.words.now in
    let e = entry_at b c.args.index in
    let fs = fields_from b (header_of b) e.first e.count in
    let is = entered.struct_is b c.requires.well_formed c.args.index c.requires.index c.requires.of_struct in
    record {
      leads = fields_of_rows.rows_begun b e.first e.count (values_view c.new-values.result) from (texts_of c.in_ok-left.left.now) c.new-values.ensures c.in_ok-left.ensures.ok;
      fewer = c.in_ok-left.ensures.fewer;
    }

pub read_struct-returns-in_err-next-clause-fault_is_true : goal.read_struct-returns-in_err-next-clause-fault_is_true
read_struct-returns-in_err-next-clause-fault_is_true t c =
    let b = c.args.self.now.table.now in
    let ds = declarations_of b in
    let from = texts_of c.args.words.now in
    let e = entry_at b c.args.index in
    let fs = fields_from b (header_of b) e.first e.count in
    let is = entered.struct_is b c.requires.well_formed c.args.index c.requires.index c.requires.of_struct in
    let xs = values_view c.loop-k.values in
    let to = texts_of c.loop-k.left.now in
    let k = c.loop-k.k in
    let join = λ (vs : data_of.Values). fields (behind xs vs) in
    let n = c.loop-k.invariant.leads in
    let less = subst (λ (x : Entry). k < x.count) c.entry-k-end.ensures.value c.loop-k-test.true in
    let later = some_if c.is_empty.result xs c.is_empty.ensures in
    refused_so c.from_residual-in_err-next.result c.in_err-next.field-0.0 _ c.from_residual-in_err-next.ensures.1
    (subst (λ (u : Term). (v : Value) → StandsNot (Spelled ds u v) from) (sym is) (fields_of_rows.row_no_comma b e.first e.count k (has_some xs) to less join n (subst (λ l. StandsNot (CommaIf l) to) later c.in_err-next.ensures.fault_is_true)))

pub read_struct-read_name-requires-clause-member : goal.read_struct-read_name-requires-clause-member
read_struct-read_name-requires-clause-member t c =
    subst (λ (x : Entry). c.loop-k.k < x.count) c.entry-k-end.ensures.value c.loop-k-test.true

pub read_struct-returns-in_err-entry-clause-fault_is_true : goal.read_struct-returns-in_err-entry-clause-fault_is_true
read_struct-returns-in_err-entry-clause-fault_is_true t c =
    let b = c.args.self.now.table.now in
    let ds = declarations_of b in
    let from = texts_of c.args.words.now in
    let e = entry_at b c.args.index in
    let fs = fields_from b (header_of b) e.first e.count in
    let is = entered.struct_is b c.requires.well_formed c.args.index c.requires.index c.requires.of_struct in
    let xs = values_view c.loop-k.values in
    let to = texts_of c.loop-k.left.now in
    let k = c.loop-k.k in
    let join = λ (vs : data_of.Values). fields (behind xs vs) in
    let n = c.loop-k.invariant.leads in
    let less = subst (λ (x : Entry). k < x.count) c.entry-k-end.ensures.value c.loop-k-test.true in
    let later = some_if c.is_empty.result xs c.is_empty.ensures in
    let mid = texts_of c.in_ok-next.next.now in
    let comma = subst (λ l. CommaIf l to mid) later c.in_ok-next.ensures.ok in
    refused_so c.from_residual-in_err-entry.result c.in_err-entry.field-0.0 _ c.from_residual-in_err-entry.ensures.1
    (subst (λ (u : Term). (v : Value) → StandsNot (Spelled ds u v) from) (sym is) (fields_of_rows.row_no_name b e.first e.count k (has_some xs) to less join n mid comma c.in_err-entry.ensures.fault_is_true))

pub read_struct-read_value-requires : goal.read_struct-read_value-requires
read_struct-read_value-requires t c =
    (omega (arith, c.decreases, c.loop-k.invariant.fewer, c.in_ok-next.ensures.fewer, c.in_ok-entry.ensures.fewer), c.in_ok-entry.ensures.below)

pub read_struct-returns-in_err-value-clause-fault_is_true : goal.read_struct-returns-in_err-value-clause-fault_is_true
read_struct-returns-in_err-value-clause-fault_is_true t c =
    let b = c.args.self.now.table.now in
    let ds = declarations_of b in
    let from = texts_of c.args.words.now in
    let e = entry_at b c.args.index in
    let fs = fields_from b (header_of b) e.first e.count in
    let is = entered.struct_is b c.requires.well_formed c.args.index c.requires.index c.requires.of_struct in
    let xs = values_view c.loop-k.values in
    let to = texts_of c.loop-k.left.now in
    let k = c.loop-k.k in
    let join = λ (vs : data_of.Values). fields (behind xs vs) in
    let n = c.loop-k.invariant.leads in
    let less = subst (λ (x : Entry). k < x.count) c.entry-k-end.ensures.value c.loop-k-test.true in
    let later = some_if c.is_empty.result xs c.is_empty.ensures in
    let mid = texts_of c.in_ok-next.next.now in
    let comma = subst (λ l. CommaIf l to mid) later c.in_ok-next.ensures.ok in
    let start = texts_of c.in_ok-entry.behind.now in
    let row = (row_at b (header_of b) (e.first + k)).entry in
    refused c.from_residual-in_err-value.result c.in_err-value.field-0.0 _ _ c.from_residual-in_err-value.ensures.1 c.in_err-value.ensures.fault_is_true
    (λ h. subst (λ (u : Term). (v : Value) → StandsNot (Spelled ds u v) from) (sym is) (fields_of_rows.row_no_item b e.first e.count k (has_some xs) to less join n mid start comma c.in_ok-entry.ensures.ok (subst (λ i. (v : Value) → StandsNot (Spelled ds (type_at b i) v) start) c.in_ok-entry.ensures.entry h)))

pub read_struct-loop-k-preserved : goal.read_struct-loop-k-preserved
read_struct-loop-k-preserved t c =
    let b = c.args.self.now.table.now in
    let ds = declarations_of b in
    let from = texts_of c.args.words.now in
    let e = entry_at b c.args.index in
    let xs = values_view c.loop-k.values in
    let to = texts_of c.loop-k.left.now in
    let k = c.loop-k.k in
    let join = λ (vs : data_of.Values). fields (behind xs vs) in
    let n = c.loop-k.invariant.leads in
    let less = subst (λ (x : Entry). k < x.count) c.entry-k-end.ensures.value c.loop-k-test.true in
    let later = some_if c.is_empty.result xs c.is_empty.ensures in
    let mid = texts_of c.in_ok-next.next.now in
    let comma = subst (λ l. CommaIf l to mid) later c.in_ok-next.ensures.ok in
    let start = texts_of c.in_ok-entry.behind.now in
    let row = (row_at b (header_of b) (e.first + k)).entry in
    let next = texts_of c.in_ok-value.rest.now in
    let read = subst (λ i. Spelled ds (type_at b i) (value_view c.in_ok-value.value) start next) c.in_ok-entry.ensures.entry c.in_ok-value.ensures.ok in
    record {
      leads = fields_of_rows.row_more b e.first e.count k less (single_at b c.requires.well_formed row) xs (values_view c.push.new.self) (value_view c.in_ok-value.value) to mid start next (λ vs. fields vs) c.in_ok-push.ensures.ok n comma c.in_ok-entry.ensures.ok read;
      fewer = omega (arith, c.loop-k.invariant.fewer, c.in_ok-next.ensures.fewer, c.in_ok-entry.ensures.fewer, c.in_ok-value.ensures.fewer);
    }

pub read_struct-returns-in_err-rest-clause-fault_is_true : goal.read_struct-returns-in_err-rest-clause-fault_is_true
read_struct-returns-in_err-rest-clause-fault_is_true t c =
    let b = c.args.self.now.table.now in
    let ds = declarations_of b in
    let from = texts_of c.args.words.now in
    let e = entry_at b c.args.index in
    let fs = fields_from b (header_of b) e.first e.count in
    let is = entered.struct_is b c.requires.well_formed c.args.index c.requires.index c.requires.of_struct in
    let xs = values_view c.loop-k.values in
    let to = texts_of c.loop-k.left.now in
    let k = c.loop-k.k in
    let join = λ (vs : data_of.Values). fields (behind xs vs) in
    let n = c.loop-k.invariant.leads in
    let end = subst (λ (x : Entry). x.count ≤ k) c.entry-k-end.ensures.value c.loop-k-test.false in
    refused_so c.from_residual-in_err-rest.result c.in_err-rest.field-0.0 _ c.from_residual-in_err-rest.ensures.1
    (subst (λ (u : Term). (v : Value) → StandsNot (Spelled ds u v) from) (sym is) (fields_of_rows.rows_not_closed b e.first e.count k end (has_some xs) to join n c.in_err-rest.ensures.fault_is_true))

pub read_struct-returns-clause-ok : goal.read_struct-returns-clause-ok
read_struct-returns-clause-ok t c =
    let b = c.args.self.now.table.now in
    let ds = declarations_of b in
    let from = texts_of c.args.words.now in
    let e = entry_at b c.args.index in
    let fs = fields_from b (header_of b) e.first e.count in
    let is = entered.struct_is b c.requires.well_formed c.args.index c.requires.index c.requires.of_struct in
    let xs = values_view c.loop-k.values in
    let to = texts_of c.loop-k.left.now in
    let k = c.loop-k.k in
    let join = λ (vs : data_of.Values). fields (behind xs vs) in
    let n = c.loop-k.invariant.leads in
    let end = subst (λ (x : Entry). x.count ≤ k) c.entry-k-end.ensures.value c.loop-k-test.false in
    let rest = texts_of c.in_ok-rest.rest.now in
    subst (λ v. Spelled ds (type_at b c.args.index) v from rest) (sym (fields_is c.loop-k.values))
    (subst (λ (u : Term). Spelled ds u (fields (values_of xs)) from rest) (sym is) (fields_of_rows.rows_read b e.first e.count k end (has_some xs) to rest xs (λ vs. fields vs) n c.in_ok-rest.ensures.ok))

pub read_table-returns-in_err-count-clause-fault_is_true : goal.read_table-returns-in_err-count-clause-fault_is_true
read_table-returns-in_err-count-clause-fault_is_true t c =
    let b = c.args.self.now.table.now in
    let ds = declarations_of b in
    let from = texts_of c.args.words.now in
    let rows = members_of b c.args.index in
    refused_so c.from_residual.result c.in_err-count.field-0.0 _ c.from_residual.ensures.1 (rising.no_table ds rows from c.in_err-count.ensures.fault_is_true)

pub read_table-loop-last-init : goal.read_table-loop-last-init
read_table-loop-last-init t c =
    let b = c.args.self.now.table.now in
    let ds = declarations_of b in
    let from = texts_of c.args.words.now in
    let rows = members_of b c.args.index in
    record {
      leads = rising.table_begun ds rows (members_view c.new-members.result) c.in_ok-count.count from (texts_of c.in_ok-count.left.now) c.new-members.ensures c.in_ok-count.ensures.ok;
      fewer = c.in_ok-count.ensures.fewer;
    }

pub read_table-returns-in_err-next-clause-fault_is_true : goal.read_table-returns-in_err-next-clause-fault_is_true
read_table-returns-in_err-next-clause-fault_is_true t c =
    let b = c.args.self.now.table.now in
    let ds = declarations_of b in
    let from = texts_of c.args.words.now in
    let rows = members_of b c.args.index in
    let xs = members_view c.loop-last.members in
    let to = texts_of c.loop-last.left.now in
    let least = least_after c.loop-last.last in
    let join = λ (ms : data_of.Members). table c.in_ok-count.count (ahead xs ms) in
    let n = c.loop-last.invariant.leads in
    let later = some_if c.is_empty.result xs c.is_empty.ensures in
    let going = not_begun c.begins.result to (codes "}") c.begins.ensures c.loop-last-test.true in
    refused_so c.from_residual-in_err-next.result c.in_err-next.field-0.0 _ c.from_residual-in_err-next.ensures.1
    (rising.no_comma ds rows (has_some xs) least to going join n (subst (λ l. StandsNot (CommaIf l) to) later c.in_err-next.ensures.fault_is_true))

pub read_table-read_member-requires : goal.read_table-read_member-requires
read_table-read_member-requires t c =
    let b = c.args.self.now.table.now in (
      omega (arith, c.decreases, c.loop-last.invariant.fewer, c.in_ok-next.ensures.fewer),
      (c.requires.well_formed, (c.requires.index, entered.has_ordinals b c.requires.well_formed c.args.index c.requires.index Table refl c.requires.of_table)),
    )

pub read_table-returns-in_err-ordinal-clause-fault_is_true : goal.read_table-returns-in_err-ordinal-clause-fault_is_true
read_table-returns-in_err-ordinal-clause-fault_is_true t c =
    let b = c.args.self.now.table.now in
    let ds = declarations_of b in
    let from = texts_of c.args.words.now in
    let rows = members_of b c.args.index in
    let xs = members_view c.loop-last.members in
    let to = texts_of c.loop-last.left.now in
    let least = least_after c.loop-last.last in
    let join = λ (ms : data_of.Members). table c.in_ok-count.count (ahead xs ms) in
    let n = c.loop-last.invariant.leads in
    let later = some_if c.is_empty.result xs c.is_empty.ensures in
    let going = not_begun c.begins.result to (codes "}") c.begins.ensures c.loop-last-test.true in
    let mid = texts_of c.in_ok-next.next.now in
    let comma = subst (λ l. CommaIf l to mid) later c.in_ok-next.ensures.ok in
    refused c.from_residual-in_err-ordinal.result c.in_err-ordinal.field-0.0 _ _ c.from_residual-in_err-ordinal.ensures.1 c.in_err-ordinal.ensures.fault_is_true
    (λ h. rising.no_item ds rows (has_some xs) least to going join mid n comma h)

pub read_table-returns-then-not-rises-clause-fault_is_true : goal.read_table-returns-then-not-rises-clause-fault_is_true
read_table-returns-then-not-rises-clause-fault_is_true t c =
    let b = c.args.self.now.table.now in
    let ds = declarations_of b in
    let from = texts_of c.args.words.now in
    let rows = members_of b c.args.index in
    let xs = members_view c.loop-last.members in
    let to = texts_of c.loop-last.left.now in
    let least = least_after c.loop-last.last in
    let join = λ (ms : data_of.Members). table c.in_ok-count.count (ahead xs ms) in
    let n = c.loop-last.invariant.leads in
    let later = some_if c.is_empty.result xs c.is_empty.ensures in
    let going = not_begun c.begins.result to (codes "}") c.begins.ensures c.loop-last-test.true in
    let mid = texts_of c.in_ok-next.next.now in
    let comma = subst (λ l. CommaIf l to mid) later c.in_ok-next.ensures.ok in
    let falls = λ (h : least ≤ c.in_ok-ordinal.ordinal). (let yes : c.rises.result ≡ true = c.rises.ensures.1 h in false≢true (sym c.if-not-rises.true ∙ yes)) in
    judged _ c.repeated.result (rising.no_rise ds rows (has_some xs) least to going (single_member b c.requires.well_formed c.args.index c.requires.index) join c.in_ok-ordinal.ordinal (member_view c.in_ok-ordinal.member) mid
    (texts_of c.in_ok-ordinal.rest.now) n comma c.in_ok-ordinal.ensures.ok falls)

pub read_table-loop-last-preserved : goal.read_table-loop-last-preserved
read_table-loop-last-preserved t c =
    let b = c.args.self.now.table.now in
    let ds = declarations_of b in
    let from = texts_of c.args.words.now in
    let rows = members_of b c.args.index in
    let xs = members_view c.loop-last.members in
    let to = texts_of c.loop-last.left.now in
    let least = least_after c.loop-last.last in
    let join = λ (ms : data_of.Members). table c.in_ok-count.count (ahead xs ms) in
    let n = c.loop-last.invariant.leads in
    let later = some_if c.is_empty.result xs c.is_empty.ensures in
    let going = not_begun c.begins.result to (codes "}") c.begins.ensures c.loop-last-test.true in
    let mid = texts_of c.in_ok-next.next.now in
    let comma = subst (λ l. CommaIf l to mid) later c.in_ok-next.ensures.ok in
    record {
      leads = rising.one_more ds rows (single_member b c.requires.well_formed c.args.index c.requires.index) least xs (members_view c.push.new.self) c.in_ok-ordinal.ordinal (member_view c.in_ok-ordinal.member) to mid (texts_of c.in_ok-ordinal.rest.now) (λ ms. table c.in_ok-count.count ms)
          c.in_ok-push.ensures.ok n going comma c.in_ok-ordinal.ensures.ok (c.rises.ensures.0 c.if-not-rises.false);
      fewer = omega (arith, c.loop-last.invariant.fewer, c.in_ok-next.ensures.fewer, c.in_ok-ordinal.ensures.fewer);
    }

pub read_table-returns-clause-ok : goal.read_table-returns-clause-ok
read_table-returns-clause-ok t c =
    let b = c.args.self.now.table.now in
    let ds = declarations_of b in
    let from = texts_of c.args.words.now in
    let rows = members_of b c.args.index in
    let xs = members_view c.loop-last.members in
    let to = texts_of c.loop-last.left.now in
    let least = least_after c.loop-last.last in
    let join = λ (ms : data_of.Members). table c.in_ok-count.count (ahead xs ms) in
    let n = c.loop-last.invariant.leads in
    let rest = texts_of c.in_ok-rest.rest.now in
    subst (λ v. Spelled ds (ty.table rows) v from rest) (sym (table_is c.in_ok-count.count c.loop-last.members))
    (rising.all_read ds rows (has_some xs) least to rest xs (λ ms. table c.in_ok-count.count ms) n c.in_ok-rest.ensures.ok)

pub read_union-returns-in_err-left-clause-fault_is_true : goal.read_union-returns-in_err-left-clause-fault_is_true
read_union-returns-in_err-left-clause-fault_is_true t c =
    let b = c.args.self.now.table.now in
    let ds = declarations_of b in
    let from = texts_of c.args.words.now in
    let rows = members_of b c.args.index in
    refused_so c.from_residual.result c.in_err-left.field-0.0 _ c.from_residual.ensures.1 (λ o s. rising.no_union ds rows o s from c.in_err-left.ensures.fault_is_true)

pub read_union-returns-in_err-left-2-clause-fault_is_true : goal.read_union-returns-in_err-left-2-clause-fault_is_true
read_union-returns-in_err-left-2-clause-fault_is_true t c =
    let b = c.args.self.now.table.now in
    let ds = declarations_of b in
    let from = texts_of c.args.words.now in
    let rows = members_of b c.args.index in
    let to = texts_of c.in_ok-left.left.now in
    refused_so c.from_residual-in_err-left-2.result c.in_err-left-2.field-0.0 _ c.from_residual-in_err-left-2.ensures.1
    (λ o s. rising.no_bracket ds rows o s from to c.in_ok-left.ensures.ok c.in_err-left-2.ensures.fault_is_true)

pub read_union-read_member-requires : goal.read_union-read_member-requires
read_union-read_member-requires t c =
    let b = c.args.self.now.table.now in (
      omega (arith, c.decreases, c.in_ok-left.ensures.fewer, c.in_ok-left-2.ensures.fewer),
      (c.requires.well_formed, (c.requires.index, entered.has_ordinals b c.requires.well_formed c.args.index c.requires.index Union refl c.requires.of_union)),
    )

pub read_union-returns-in_err-ordinal-clause-fault_is_true : goal.read_union-returns-in_err-ordinal-clause-fault_is_true
read_union-returns-in_err-ordinal-clause-fault_is_true t c =
    let b = c.args.self.now.table.now in
    let ds = declarations_of b in
    let from = texts_of c.args.words.now in
    let rows = members_of b c.args.index in
    let to = texts_of c.in_ok-left.left.now in
    let mid = texts_of c.in_ok-left-2.left.now in
    refused c.from_residual-in_err-ordinal.result c.in_err-ordinal.field-0.0 _ _ c.from_residual-in_err-ordinal.ensures.1 c.in_err-ordinal.ensures.fault_is_true
    (λ h o s. rising.no_member ds rows o s from to mid c.in_ok-left.ensures.ok c.in_ok-left-2.ensures.ok h)

pub read_union-returns-in_err-rest-clause-fault_is_true : goal.read_union-returns-in_err-rest-clause-fault_is_true
read_union-returns-in_err-rest-clause-fault_is_true t c =
    let b = c.args.self.now.table.now in
    let ds = declarations_of b in
    let from = texts_of c.args.words.now in
    let rows = members_of b c.args.index in
    let to = texts_of c.in_ok-left.left.now in
    let mid = texts_of c.in_ok-left-2.left.now in
    refused_so c.from_residual-in_err-rest.result c.in_err-rest.field-0.0 _ c.from_residual-in_err-rest.ensures.1
    (λ o s. rising.no_close ds rows o s from to mid c.in_ok-left.ensures.ok c.in_ok-left-2.ensures.ok (single_member b c.requires.well_formed c.args.index c.requires.index) c.in_ok-ordinal.ordinal (member_view c.in_ok-ordinal.member)
    (texts_of c.in_ok-ordinal.left.now) c.in_ok-ordinal.ensures.ok c.in_err-rest.ensures.fault_is_true)

pub read_union-returns-clause-ok : goal.read_union-returns-clause-ok
read_union-returns-clause-ok t c =
    let b = c.args.self.now.table.now in
    let ds = declarations_of b in
    let from = texts_of c.args.words.now in
    let rows = members_of b c.args.index in
    let to = texts_of c.in_ok-left.left.now in
    let mid = texts_of c.in_ok-left-2.left.now in
    let next = texts_of c.in_ok-ordinal.left.now in
    let rest = texts_of c.in_ok-rest.rest.now in
    let is = union_is c.in_ok-ordinal.ordinal c.in_ok-content.content ∙ ap (union c.in_ok-ordinal.ordinal) c.in_ok-content.ensures in
    λ o s. subst (λ v. Spelled ds (ty.union o s rows) v from rest) (sym is)
    (to, c.in_ok-left.ensures.ok, (mid, c.in_ok-left-2.ensures.ok, (next, c.in_ok-ordinal.ensures.ok, c.in_ok-rest.ensures.ok)))

pub read_value-unwrap-kind-requires : goal.read_value-unwrap-kind-requires
read_value-unwrap-kind-requires t c =
    entered.kind_there c.args.self.now.table.now c.entry-entry.ensures.well_formed c.args.index c.requires c.entry-entry.result c.entry-entry.ensures.value c.from_number.result c.from_number.ensures

pub read_value-returns-in-Some-clause-ok : goal.read_value-returns-in-Some-clause-ok
read_value-returns-in-Some-clause-ok t c =
    let b = c.args.self.now.table.now in
    let ds = declarations_of b in
    let from = texts_of c.args.words.now in
    let e = c.entry-entry.result in
    let w = c.entry-entry.ensures.well_formed in
    let same = c.entry-entry.ensures.value in
    let i = c.args.index in
    let k = c.unwrap-kind.result in
    let is_k : IsOf k e = sym c.from_number.ensures ∙ c.unwrap-kind.ensures in
    let term = entered.term_from b w i c.requires e same k is_k in
    let rest = texts_of c.in-Some.rest.now in
    subst (λ v. Spelled ds (type_at b i) v from rest) (sym absent_is)
    (subst (λ (u : Term). Spelled ds u absent from rest) (sym term) (kinds.absent_spelled ds (term_as k b (header_of b) e) from rest (c.in-Some.ensures.some b (header_of b) e)))

pub read_value-read_list-requires : goal.read_value-read_list-requires
read_value-read_list-requires t c =
    let b = c.args.self.now.table.now in
    let ds = declarations_of b in
    let from = texts_of c.args.words.now in
    let e = c.entry-entry.result in
    let w = c.entry-entry.ensures.well_formed in
    let same = c.entry-entry.ensures.value in
    let i = c.args.index in
    let k = c.unwrap-kind.result in
    let is_k : IsOf k e = sym c.from_number.ensures ∙ c.unwrap-kind.ensures in
    let term = entered.term_from b w i c.requires e same k is_k in
    let is : IsOf Array e = sym c.from_number.ensures ∙ c.unwrap-kind.ensures ∙ ap Some c.in-Array.is in
    (omega (arith, c.decreases), (w, entered.first_from b w i c.requires e same Array is refl))

pub read_value-read_list-requires-in-Vector : goal.read_value-read_list-requires-in-Vector
read_value-read_list-requires-in-Vector t c =
    let b = c.args.self.now.table.now in
    let ds = declarations_of b in
    let from = texts_of c.args.words.now in
    let e = c.entry-entry.result in
    let w = c.entry-entry.ensures.well_formed in
    let same = c.entry-entry.ensures.value in
    let i = c.args.index in
    let k = c.unwrap-kind.result in
    let is_k : IsOf k e = sym c.from_number.ensures ∙ c.unwrap-kind.ensures in
    let term = entered.term_from b w i c.requires e same k is_k in
    let is : IsOf Vector e = sym c.from_number.ensures ∙ c.unwrap-kind.ensures ∙ ap Some c.in-Vector.is in
    (omega (arith, c.decreases), (w, entered.first_from b w i c.requires e same Vector is refl))

pub read_value-read_struct-requires : goal.read_value-read_struct-requires
read_value-read_struct-requires t c =
    let b = c.args.self.now.table.now in
    let ds = declarations_of b in
    let from = texts_of c.args.words.now in
    let e = c.entry-entry.result in
    let w = c.entry-entry.ensures.well_formed in
    let same = c.entry-entry.ensures.value in
    let i = c.args.index in
    let k = c.unwrap-kind.result in
    let is_k : IsOf k e = sym c.from_number.ensures ∙ c.unwrap-kind.ensures in
    let term = entered.term_from b w i c.requires e same k is_k in
    let is : IsOf Struct e = sym c.from_number.ensures ∙ c.unwrap-kind.ensures ∙ ap Some c.in-Struct.is in
    (omega (arith, c.decreases), (w, (c.requires, entered.is_there b w i c.requires e same Struct is)))

pub read_value-read_struct-requires-in-Box : goal.read_value-read_struct-requires-in-Box
read_value-read_struct-requires-in-Box t c =
    let b = c.args.self.now.table.now in
    let ds = declarations_of b in
    let from = texts_of c.args.words.now in
    let e = c.entry-entry.result in
    let w = c.entry-entry.ensures.well_formed in
    let same = c.entry-entry.ensures.value in
    let i = c.args.index in
    let k = c.unwrap-kind.result in
    let is_k : IsOf k e = sym c.from_number.ensures ∙ c.unwrap-kind.ensures in
    let term = entered.term_from b w i c.requires e same k is_k in
    let is : IsOf Box e = sym c.from_number.ensures ∙ c.unwrap-kind.ensures ∙ ap Some c.in-Box.is in
    (omega (arith, c.decreases), (w, (entered.first_from b w i c.requires e same Box is refl, entered.struct_from b w i c.requires e same is)))

pub read_value-read_table-requires : goal.read_value-read_table-requires
read_value-read_table-requires t c =
    let b = c.args.self.now.table.now in
    let ds = declarations_of b in
    let from = texts_of c.args.words.now in
    let e = c.entry-entry.result in
    let w = c.entry-entry.ensures.well_formed in
    let same = c.entry-entry.ensures.value in
    let i = c.args.index in
    let k = c.unwrap-kind.result in
    let is_k : IsOf k e = sym c.from_number.ensures ∙ c.unwrap-kind.ensures in
    let term = entered.term_from b w i c.requires e same k is_k in
    let is : IsOf Table e = sym c.from_number.ensures ∙ c.unwrap-kind.ensures ∙ ap Some c.in-Table.is in
    (omega (arith, c.decreases), (w, (c.requires, entered.is_there b w i c.requires e same Table is)))

pub read_value-read_union-requires : goal.read_value-read_union-requires
read_value-read_union-requires t c =
    let b = c.args.self.now.table.now in
    let ds = declarations_of b in
    let from = texts_of c.args.words.now in
    let e = c.entry-entry.result in
    let w = c.entry-entry.ensures.well_formed in
    let same = c.entry-entry.ensures.value in
    let i = c.args.index in
    let k = c.unwrap-kind.result in
    let is_k : IsOf k e = sym c.from_number.ensures ∙ c.unwrap-kind.ensures in
    let term = entered.term_from b w i c.requires e same k is_k in
    let is : IsOf Union e = sym c.from_number.ensures ∙ c.unwrap-kind.ensures ∙ ap Some c.in-Union.is in
    (omega (arith, c.decreases), (w, (c.requires, entered.is_there b w i c.requires e same Union is)))

pub read_value-read_leaf-requires : goal.read_value-read_leaf-requires
read_value-read_leaf-requires t c =
    let d = c.in_default-kind in kinds.other_leaf c.unwrap-kind.result d.not-Array d.not-Vector d.not-Struct d.not-Box d.not-Table d.not-Union

pub read_value-returns-in-Array-clause-ok : goal.read_value-returns-in-Array-clause-ok
read_value-returns-in-Array-clause-ok t c =
    let b = c.args.self.now.table.now in
    let ds = declarations_of b in
    let from = texts_of c.args.words.now in
    let e = c.entry-entry.result in
    let w = c.entry-entry.ensures.well_formed in
    let same = c.entry-entry.ensures.value in
    let i = c.args.index in
    let k = c.unwrap-kind.result in
    let is_k : IsOf k e = sym c.from_number.ensures ∙ c.unwrap-kind.ensures in
    let term = entered.term_from b w i c.requires e same k is_k in
    let is : IsOf Array e = sym c.from_number.ensures ∙ c.unwrap-kind.ensures ∙ ap Some c.in-Array.is in
    let here = entered.term_from b w i c.requires e same Array is in
    if_ok c.read_list.result _ _ (λ r h. subst (λ (u : Term). Spelled ds u (value_view r.0) from (texts_of r.1.now)) (sym here) (elements.as_array ds (ty.named e.first) e.count (value_view r.0) from (texts_of r.1.now) h)) c.read_list.ensures.ok

pub read_value-returns-in-Array-clause-fault_is_true : goal.read_value-returns-in-Array-clause-fault_is_true
read_value-returns-in-Array-clause-fault_is_true t c =
    let b = c.args.self.now.table.now in
    let ds = declarations_of b in
    let from = texts_of c.args.words.now in
    let e = c.entry-entry.result in
    let w = c.entry-entry.ensures.well_formed in
    let same = c.entry-entry.ensures.value in
    let i = c.args.index in
    let k = c.unwrap-kind.result in
    let is_k : IsOf k e = sym c.from_number.ensures ∙ c.unwrap-kind.ensures in
    let term = entered.term_from b w i c.requires e same k is_k in
    let is : IsOf Array e = sym c.from_number.ensures ∙ c.unwrap-kind.ensures ∙ ap Some c.in-Array.is in
    let here = entered.term_from b w i c.requires e same Array is in
    let gone = kinds.no_absent ds Array b (header_of b) e from (subst (λ (j : EntryKind). StandsNot (Absence (term_as j b (header_of b) e)) from) c.in-Array.is (c.in_default.ensures.none b (header_of b) e)) in
    if_err c.read_list.result _ _ (λ h v r p. let q = subst (λ (u : Term). Spelled ds u v from r) here p in h v r (elements.of_array ds (ty.named e.first) e.count v from r q)) c.read_list.ensures.fault_is_true

pub read_value-returns-in-Vector-clause-ok : goal.read_value-returns-in-Vector-clause-ok
read_value-returns-in-Vector-clause-ok t c =
    let b = c.args.self.now.table.now in
    let ds = declarations_of b in
    let from = texts_of c.args.words.now in
    let e = c.entry-entry.result in
    let w = c.entry-entry.ensures.well_formed in
    let same = c.entry-entry.ensures.value in
    let i = c.args.index in
    let k = c.unwrap-kind.result in
    let is_k : IsOf k e = sym c.from_number.ensures ∙ c.unwrap-kind.ensures in
    let term = entered.term_from b w i c.requires e same k is_k in
    let is : IsOf Vector e = sym c.from_number.ensures ∙ c.unwrap-kind.ensures ∙ ap Some c.in-Vector.is in
    let here = entered.term_from b w i c.requires e same Vector is in
    if_ok c.read_list-in-Vector.result _ _ (λ r h. subst (λ (u : Term). Spelled ds u (value_view r.0) from (texts_of r.1.now)) (sym here) (elements.as_vector ds (ty.named e.first) (is_optional e) e.bound (value_view r.0) from (texts_of r.1.now) h)) c.read_list-in-Vector.ensures.ok

pub read_value-returns-in-Vector-clause-fault_is_true : goal.read_value-returns-in-Vector-clause-fault_is_true
read_value-returns-in-Vector-clause-fault_is_true t c =
    let b = c.args.self.now.table.now in
    let ds = declarations_of b in
    let from = texts_of c.args.words.now in
    let e = c.entry-entry.result in
    let w = c.entry-entry.ensures.well_formed in
    let same = c.entry-entry.ensures.value in
    let i = c.args.index in
    let k = c.unwrap-kind.result in
    let is_k : IsOf k e = sym c.from_number.ensures ∙ c.unwrap-kind.ensures in
    let term = entered.term_from b w i c.requires e same k is_k in
    let is : IsOf Vector e = sym c.from_number.ensures ∙ c.unwrap-kind.ensures ∙ ap Some c.in-Vector.is in
    let here = entered.term_from b w i c.requires e same Vector is in
    let gone = kinds.no_absent ds Vector b (header_of b) e from (subst (λ (j : EntryKind). StandsNot (Absence (term_as j b (header_of b) e)) from) c.in-Vector.is (c.in_default.ensures.none b (header_of b) e)) in
    if_err c.read_list-in-Vector.result _ _ (λ h v r p. let q = subst (λ (u : Term). Spelled ds u v from r) here p in h v r (elements.of_vector ds (ty.named e.first) (is_optional e) e.bound v from r (gone v r q) q)) c.read_list-in-Vector.ensures.fault_is_true

pub read_value-returns-in-Struct-clause-ok : goal.read_value-returns-in-Struct-clause-ok
read_value-returns-in-Struct-clause-ok t c =
    c.read_struct.ensures.ok

pub read_value-returns-in-Struct-clause-fault_is_true : goal.read_value-returns-in-Struct-clause-fault_is_true
read_value-returns-in-Struct-clause-fault_is_true t c =
    c.read_struct.ensures.fault_is_true

pub read_value-returns-in-Box-clause-ok : goal.read_value-returns-in-Box-clause-ok
read_value-returns-in-Box-clause-ok t c =
    let b = c.args.self.now.table.now in
    let ds = declarations_of b in
    let from = texts_of c.args.words.now in
    let e = c.entry-entry.result in
    let w = c.entry-entry.ensures.well_formed in
    let same = c.entry-entry.ensures.value in
    let i = c.args.index in
    let k = c.unwrap-kind.result in
    let is_k : IsOf k e = sym c.from_number.ensures ∙ c.unwrap-kind.ensures in
    let term = entered.term_from b w i c.requires e same k is_k in
    let is : IsOf Box e = sym c.from_number.ensures ∙ c.unwrap-kind.ensures ∙ ap Some c.in-Box.is in
    let content = entered.struct_is b w e.first (entered.first_from b w i c.requires e same Box is refl) (entered.struct_from b w i c.requires e same is) in
    let fs = fields_from b (header_of b) (entry_at b e.first).first (entry_at b e.first).count in
    let here = entered.term_from b w i c.requires e same Box is in
    if_ok c.read_struct-in-Box.result _ _ (λ r h. subst (λ (u : Term). Spelled ds u (value_view r.0) from (texts_of r.1.now)) (sym here)
    (fields_of_rows.as_box ds fs (ty.named e.first) content (value_view r.0) from (texts_of r.1.now) (subst (λ (u : Term). Spelled ds u (value_view r.0) from (texts_of r.1.now)) content h))) c.read_struct-in-Box.ensures.ok

pub read_value-returns-in-Box-clause-fault_is_true : goal.read_value-returns-in-Box-clause-fault_is_true
read_value-returns-in-Box-clause-fault_is_true t c =
    let b = c.args.self.now.table.now in
    let ds = declarations_of b in
    let from = texts_of c.args.words.now in
    let e = c.entry-entry.result in
    let w = c.entry-entry.ensures.well_formed in
    let same = c.entry-entry.ensures.value in
    let i = c.args.index in
    let k = c.unwrap-kind.result in
    let is_k : IsOf k e = sym c.from_number.ensures ∙ c.unwrap-kind.ensures in
    let term = entered.term_from b w i c.requires e same k is_k in
    let is : IsOf Box e = sym c.from_number.ensures ∙ c.unwrap-kind.ensures ∙ ap Some c.in-Box.is in
    let content = entered.struct_is b w e.first (entered.first_from b w i c.requires e same Box is refl) (entered.struct_from b w i c.requires e same is) in
    let fs = fields_from b (header_of b) (entry_at b e.first).first (entry_at b e.first).count in
    let here = entered.term_from b w i c.requires e same Box is in
    let gone = kinds.no_absent ds Box b (header_of b) e from (subst (λ (j : EntryKind). StandsNot (Absence (term_as j b (header_of b) e)) from) c.in-Box.is (c.in_default.ensures.none b (header_of b) e)) in
    if_err c.read_struct-in-Box.result _ _ (λ h v r p. let q = subst (λ (u : Term). Spelled ds u v from r) here p in
    h v r (subst (λ (u : Term). Spelled ds u v from r) (sym content) (fields_of_rows.of_box ds fs (ty.named e.first) content v from r (gone v r q) q))) c.read_struct-in-Box.ensures.fault_is_true

pub read_value-returns-in-Table-clause-ok : goal.read_value-returns-in-Table-clause-ok
read_value-returns-in-Table-clause-ok t c =
    let b = c.args.self.now.table.now in
    let ds = declarations_of b in
    let from = texts_of c.args.words.now in
    let e = c.entry-entry.result in
    let w = c.entry-entry.ensures.well_formed in
    let same = c.entry-entry.ensures.value in
    let i = c.args.index in
    let k = c.unwrap-kind.result in
    let is_k : IsOf k e = sym c.from_number.ensures ∙ c.unwrap-kind.ensures in
    let term = entered.term_from b w i c.requires e same k is_k in
    let is : IsOf Table e = sym c.from_number.ensures ∙ c.unwrap-kind.ensures ∙ ap Some c.in-Table.is in
    let here = entered.table_is b w i c.requires (entered.is_there b w i c.requires e same Table is) in
    if_ok c.read_table.result _ _ (λ r h. subst (λ (u : Term). Spelled ds u (value_view r.0) from (texts_of r.1.now)) (sym here) h) c.read_table.ensures.ok

pub read_value-returns-in-Table-clause-fault_is_true : goal.read_value-returns-in-Table-clause-fault_is_true
read_value-returns-in-Table-clause-fault_is_true t c =
    let b = c.args.self.now.table.now in
    let ds = declarations_of b in
    let from = texts_of c.args.words.now in
    let e = c.entry-entry.result in
    let w = c.entry-entry.ensures.well_formed in
    let same = c.entry-entry.ensures.value in
    let i = c.args.index in
    let k = c.unwrap-kind.result in
    let is_k : IsOf k e = sym c.from_number.ensures ∙ c.unwrap-kind.ensures in
    let term = entered.term_from b w i c.requires e same k is_k in
    let is : IsOf Table e = sym c.from_number.ensures ∙ c.unwrap-kind.ensures ∙ ap Some c.in-Table.is in
    let here = entered.table_is b w i c.requires (entered.is_there b w i c.requires e same Table is) in
    if_err c.read_table.result _ _ (λ h v r p. h v r (subst (λ (u : Term). Spelled ds u v from r) here p)) c.read_table.ensures.fault_is_true

pub read_value-returns-in-Union-clause-ok : goal.read_value-returns-in-Union-clause-ok
read_value-returns-in-Union-clause-ok t c =
    let b = c.args.self.now.table.now in
    let ds = declarations_of b in
    let from = texts_of c.args.words.now in
    let e = c.entry-entry.result in
    let w = c.entry-entry.ensures.well_formed in
    let same = c.entry-entry.ensures.value in
    let i = c.args.index in
    let k = c.unwrap-kind.result in
    let is_k : IsOf k e = sym c.from_number.ensures ∙ c.unwrap-kind.ensures in
    let term = entered.term_from b w i c.requires e same k is_k in
    let is : IsOf Union e = sym c.from_number.ensures ∙ c.unwrap-kind.ensures ∙ ap Some c.in-Union.is in
    let there = entered.is_there b w i c.requires e same Union is in
    let here = entered.union_is b w i c.requires there in
    let o = is_optional (entry_at b i) in
    let s = is_strict (entry_at b i) in
    if_ok c.read_union.result _ _ (λ r h. subst (λ (u : Term). Spelled ds u (value_view r.0) from (texts_of r.1.now)) (sym here) (h o s)) c.read_union.ensures.ok

pub read_value-returns-in-Union-clause-fault_is_true : goal.read_value-returns-in-Union-clause-fault_is_true
read_value-returns-in-Union-clause-fault_is_true t c =
    let b = c.args.self.now.table.now in
    let ds = declarations_of b in
    let from = texts_of c.args.words.now in
    let e = c.entry-entry.result in
    let w = c.entry-entry.ensures.well_formed in
    let same = c.entry-entry.ensures.value in
    let i = c.args.index in
    let k = c.unwrap-kind.result in
    let is_k : IsOf k e = sym c.from_number.ensures ∙ c.unwrap-kind.ensures in
    let term = entered.term_from b w i c.requires e same k is_k in
    let is : IsOf Union e = sym c.from_number.ensures ∙ c.unwrap-kind.ensures ∙ ap Some c.in-Union.is in
    let there = entered.is_there b w i c.requires e same Union is in
    let here = entered.union_is b w i c.requires there in
    let o = is_optional (entry_at b i) in
    let s = is_strict (entry_at b i) in
    let gone = kinds.no_absent ds Union b (header_of b) (entry_at b i) from (subst (λ (j : EntryKind). StandsNot (Absence (term_as j b (header_of b) (entry_at b i))) from) c.in-Union.is (c.in_default.ensures.none b (header_of b) (entry_at b i))) in
    let term_here = entered.term_at b w i c.requires Union there in
    if_err c.read_union.result _ _ (λ h v r p. let q = subst (λ (u : Term). Spelled ds u v from r) here p in
    h o s v (gone v r (subst (λ (u : Term). Spelled ds u v from r) term_here p)) r q) c.read_union.ensures.fault_is_true

pub read_value-returns-in_default-kind : goal.read_value-returns-in_default-kind
read_value-returns-in_default-kind t c =
    let b = c.args.self.now.table.now in
    let ds = declarations_of b in
    let from = texts_of c.args.words.now in
    let e = c.entry-entry.result in
    let w = c.entry-entry.ensures.well_formed in
    let same = c.entry-entry.ensures.value in
    let i = c.args.index in
    let k = c.unwrap-kind.result in
    let is_k : IsOf k e = sym c.from_number.ensures ∙ c.unwrap-kind.ensures in
    let term = entered.term_from b w i c.requires e same k is_k in
    let gone = kinds.no_absent ds k b (header_of b) e from (c.in_default.ensures.none b (header_of b) e) in
    record {
      ok = if_ok c.read_leaf.result _ _ (λ r h. subst (λ (u : Term). Spelled ds u (value_view r.0) from (texts_of r.1.now)) (sym term) (h ds b)) c.read_leaf.ensures.ok;
      fewer = c.read_leaf.ensures.fewer;
      fault_is_true = if_err c.read_leaf.result _ _ (λ h v r p. let q = subst (λ (u : Term). Spelled ds u v from r) term p in h ds b v (gone v r q) r q) c.read_leaf.ensures.fault_is_true;
    }
