use Rattle.fidl_decode_values.proofs.Fitting.{spends_any}
use Rattle.fidl_decode_values.proofs.Unchanged.{same_le}
use Rattle.std.proofs.Common.{rules, arith, ◌≡◌, ◌+◌, ap, sym, subst, refl, ◌∙◌}
use Rattle.std.specs.Prelude.{Option, Some, None, true, Bool, ℤ, List, if◌then◌else◌, Contains, IfSome}
use Rattle.fidl_wire.specs.Term as ty
use Rattle.fidl_wire.specs.Term.{Kind, width}
use Rattle.fidl_table_format.specs.declared.record.Entry.{Entry}
use Rattle.fidl_table_format.specs.Number.{number_standing}
use Rattle.fidl_table_format.specs.Section.{header_of, entry_at}
use Rattle.fidl_table_format.specs.Terms.{as_number, underlying, value_number, values_from, strict_values, is_strict}
use Rattle.fidl_decode_model.specs.declared.fault.DecodeFault.TheVariants.{UnknownValue}
use Rattle.fidl_decode_model.specs.Breaks.{BreaksField}
use Rattle.fidl_decode_model.specs.Faults.{message_of}
use Rattle.std.specs.Int.{byte_len}
use Rattle.fidl_decode_model.specs.Frontier.{AreFree}
use Rattle.fidl_decode_model.specs.Machine.{at_of}
use Rattle.fidl_decode_values.proofs.decoder.Decoder.read_enum.Goals as goal

pub returns-then-not-has_value-clause-fault_is_true : goal.returns-then-not-has_value-clause-fault_is_true
returns-then-not-has_value-clause-fault_is_true c =
    let t = c.args.self.now.table.now in
    let d = entry_at t c.args.entry in
    let own : c.entry-e.result ≡ d = c.entry-e.ensures.value in
    let strict : is_strict d ≡ true = (let r = sym c.is_strict.ensures in search (rules, r, own, c.if-not-is_strict.false)) in
    let is : strict_values t (header_of t) d ≡ Some (values_from t (header_of t) (underlying d) d.first d.count) = ap (λ (b : Bool). if b then Some (values_from t (header_of t) (underlying d) d.first d.count) else None) strict in
    let bytes = c.args.self.now.bytes.value.came in
    let same : as_number c.underlying.result ≡ underlying d = c.underlying.ensures.number ∙ ap (λ (e : Entry). underlying e) own in
    let stands : value_number (underlying d) c.number_bits-number.result ≡ number_standing (underlying d) bytes c.args.place = subst (λ (u : Kind). value_number u c.number_bits-number.result ≡ number_standing u bytes c.args.place) same c.number_bits-number.ensures in
    subst (λ (o : Option (List ℤ)). BreaksField (message_of bytes c.args.self.now.handles.now) (ty.enum (underlying d) o) c.args.place (UnknownValue c.args.place)) (sym is)
    (refl, λ y. let has = c.has_value.ensures.value.1 (subst (λ z. Contains (values_from t (header_of t) (underlying d) d.first d.count) z) (sym stands) y) in search (rules, has, c.if-not-has_value.true))

pub returns-then-not-is_strict-clause-fault_is_true : goal.returns-then-not-is_strict-clause-fault_is_true
returns-then-not-is_strict-clause-fault_is_true c = tt

pub returns-then-not-is_strict-clause-spends : goal.returns-then-not-is_strict-clause-spends
returns-then-not-is_strict-clause-spends c = spends_any _ _ _ (same_le _) (omega arith)

pub returns-then-not-has_value-clause-ok : goal.returns-then-not-has_value-clause-ok
returns-then-not-has_value-clause-ok c = tt

pub returns-clause-fault_is_true : goal.returns-clause-fault_is_true
returns-clause-fault_is_true c = tt

pub number_bits-number-requires-clause-free : goal.number_bits-number-requires-clause-free
number_bits-number-requires-clause-free c =
    let own : c.entry-e.result ≡ entry_at c.args.self.now.table.now c.args.entry = c.entry-e.ensures.value in
    let same : as_number c.underlying.result ≡ underlying (entry_at c.args.self.now.table.now c.args.entry) = c.underlying.ensures.number ∙ ap (λ (e : Entry). underlying e) own in
    subst (λ (u : Kind). AreFree (at_of c.args.state.now) c.args.place (c.args.place + byte_len (width u))) (sym same) c.requires.free

pub returns-clause-ok : goal.returns-clause-ok
returns-clause-ok c =
    let t = c.args.self.now.table.now in
    let d = entry_at t c.args.entry in
    let own : c.entry-e.result ≡ d = c.entry-e.ensures.value in
    let strict : is_strict d ≡ true = (let r = sym c.is_strict.ensures in search (rules, r, own, c.if-not-is_strict.false)) in
    let is : strict_values t (header_of t) d ≡ Some (values_from t (header_of t) (underlying d) d.first d.count) = ap (λ (b : Bool). if b then Some (values_from t (header_of t) (underlying d) d.first d.count) else None) strict in
    let bytes = c.args.self.now.bytes.value.came in
    let same : as_number c.underlying.result ≡ underlying d = c.underlying.ensures.number ∙ ap (λ (e : Entry). underlying e) own in
    let stands : value_number (underlying d) c.number_bits-number.result ≡ number_standing (underlying d) bytes c.args.place = subst (λ (u : Kind). value_number u c.number_bits-number.result ≡ number_standing u bytes c.args.place) same c.number_bits-number.ensures in
    subst (λ (o : Option (List ℤ)). IfSome o (λ values. Contains values (number_standing (underlying d) bytes c.args.place))) (sym is)
    (subst (λ z. Contains (values_from t (header_of t) (underlying d) d.first d.count) z) stands (c.has_value.ensures.value.0 c.if-not-has_value.false))
