use Rattle.std.proofs.Common.{◌≢◌, sym, subst}
use Rattle.std.specs.Prelude.{ℕ, List}
use Rattle.fidl_wire.specs.Figure.{Declarations}
use Rattle.fidl_wire.specs.Value.{Value, absent}
use Rattle.fidl_wire.specs.Term.{Term}
use Rattle.fidl_wire.specs.Term as ty
use Rattle.fidl_wire.specs.Views.{value_view}
use Rattle.fidl_table_format.specs.Section.{header_of}
use Rattle.fidl_table_format.specs.Terms.{as_number, term_as, is_optional}
use Rattle.fidl_spelling.specs.Spells.{Spelled}
use Rattle.fidl_reading.specs.Cuts.{texts_of}
use Rattle.fidl_reading.specs.Reads.{StandsNot}
use Rattle.fidl_reading.proofs.Handing.{if_ok, if_err, on_err, refused_so}
use Rattle.fidl_reading.proofs.Leaves.{no_handle, masked, unmasked, number_leaf}
use Rattle.fidl_wire.specs.declared.value.Value.TheVariants as tree
use Rattle.fidl_reading.proofs.Trees.{handle_is}
use Rattle.fidl_reading.proofs.reader.Reader.read_leaf.Goals as goal

pub returns-in_err-handle-in-Handle-clause-fault_is_true : goal.returns-in_err-handle-in-Handle-clause-fault_is_true
returns-in_err-handle-in-Handle-clause-fault_is_true c =
    let e = c.args.entry.now in
    let ws = texts_of c.args.words.now in
    refused_so c.from_residual.result c.in_err-handle-in-Handle.field-0.0 _ c.from_residual.ensures.1
    (subst (λ k. (ds : Declarations) (b : List ℕ) (v : Value) → v ≢ absent → StandsNot (Spelled ds (term_as k b (header_of b) e) v) ws) (sym c.in-Handle.is)
    (λ ds b. no_handle ws c.in_err-handle-in-Handle.ensures.fault_is_true ds (is_optional e) e.subtype e.rights))

pub returns-in-Bool-clause-fault_is_true : goal.returns-in-Bool-clause-fault_is_true
returns-in-Bool-clause-fault_is_true c =
    let e = c.args.entry.now in
    let ws = texts_of c.args.words.now in
    on_err c.read_bool.result _ _
    (λ h. subst (λ k. (ds : Declarations) (b : List ℕ) (v : Value) → v ≢ absent → StandsNot (Spelled ds (term_as k b (header_of b) e) v) ws) (sym c.in-Bool.is) (λ ds b v a. h ds v)) c.read_bool.ensures.fault_is_true

pub returns-in-String-clause-fault_is_true : goal.returns-in-String-clause-fault_is_true
returns-in-String-clause-fault_is_true c =
    let e = c.args.entry.now in
    let ws = texts_of c.args.words.now in
    if_err c.read_string.result _ _
    (λ h. subst (λ k. (ds : Declarations) (b : List ℕ) (v : Value) → v ≢ absent → StandsNot (Spelled ds (term_as k b (header_of b) e) v) ws) (sym c.in-String.is) (λ ds b v a. h ds (is_optional e) e.bound v a)) c.read_string.ensures.fault_is_true

pub returns-in_ok-handle-in-Handle-clause-ok : goal.returns-in_ok-handle-in-Handle-clause-ok
returns-in_ok-handle-in-Handle-clause-ok c =
    let e = c.args.entry.now in
    let h = c.in_ok-handle-in-Handle.handle in
    let ws = texts_of c.args.words.now in
    let rest = texts_of c.in_ok-handle-in-Handle.rest.now in
    λ ds b. subst (λ k. Spelled ds (term_as k b (header_of b) e) (value_view (tree.Handle h)) ws rest) (sym c.in-Handle.is)
    (subst (λ v. Spelled ds (ty.handle (is_optional e) e.subtype e.rights) v ws rest) (sym (handle_is h)) c.in_ok-handle-in-Handle.ensures.ok)

pub returns-in-Bits-clause-ok : goal.returns-in-Bits-clause-ok
returns-in-Bits-clause-ok c =
    let ws = texts_of c.args.words.now in
    if_ok c.read_numeral.result _ _
    (λ r h ds b. masked c.args.kind c.args.entry.now (as_number c.underlying.result) c.underlying.ensures.number c.in-Bits.is ds b (value_view r.0) ws (texts_of r.1.now) (h ds)) c.read_numeral.ensures.ok

pub returns-in-Bits-clause-fault_is_true : goal.returns-in-Bits-clause-fault_is_true
returns-in-Bits-clause-fault_is_true c =
    let ws = texts_of c.args.words.now in
    on_err c.read_numeral.result _ _
    (λ h ds b v a r p. h ds v r (unmasked c.args.kind c.args.entry.now (as_number c.underlying.result) c.underlying.ensures.number c.in-Bits.is ds b v ws r p)) c.read_numeral.ensures.fault_is_true

pub returns-in_default : goal.returns-in_default
returns-in_default c =
    let e = c.args.entry.now in
    let ws = texts_of c.args.words.now in
    let d = c.in_default in
    let same = λ (b : List ℕ). number_leaf b (header_of b) e c.args.kind c.requires d.not-Bool d.not-Bits d.not-Enum d.not-String d.not-Handle in
    record {
      ok = if_ok c.read_numeral-in_default.result _ _ (λ r h ds b. subst (λ (t : Term). Spelled ds t (value_view r.0) ws (texts_of r.1.now)) (sym (same b)) (h ds)) c.read_numeral-in_default.ensures.ok;
      fewer = c.read_numeral-in_default.ensures.fewer;
      fault_is_true = on_err c.read_numeral-in_default.result _ _ (λ h ds b v a. subst (λ (t : Term). StandsNot (Spelled ds t v) ws) (sym (same b)) (h ds v)) c.read_numeral-in_default.ensures.fault_is_true;
    }
