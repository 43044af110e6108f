use Rattle.std.proofs.Common.{rules, ◌≡◌, ◌<◌, ◌≤◌, ℕ, List, [], ◌∷◌, length, map, get_or, Some, true, false, sym, subst, ap, ◌∙◌, inr, arith}
use Rattle.std.specs.List.{Contains}
use Rattle.std.proofs.lemmas.List.Elements.{Contains-append_left, Contains-append_right}
use Rattle.std.proofs.lemmas.Result.{err_from_is_err_and}
use Rattle.std.proofs.Math.ListN.{get_or-map, length-map}
use Rattle.fidl_span.specs.declared.words.Span.{Span}
use Rattle.fidl_tree.specs.Syntax.{Path, Operand, operands_of}
use Rattle.fidl_tree.specs.Views.{path_view, value_view, or_operand_view, operand_view}
use Rattle.fidl_tree.specs.declared.file.File.{File}
use Rattle.fidl_tree.specs.declared.value.Value.{out-Value}
use Rattle.fidl_tree.specs.declared.value.Value as value
use Rattle.fidl_tree.specs.declared.value.OrOperand.{OrOperand, out-OrOperand}
use Rattle.fidl_tree.specs.declared.value.OrOperand as or_operand
use Rattle.fidl_tree.specs.declared.value.Operand as operand
use Rattle.fidl_named.specs.Places.{value_paths, operands_paths, operand_paths}
use Rattle.fidl_consts.specs.declared.fault.ConstFault.{ConstFault}
use Rattle.fidl_consts.specs.declared.fault.ConstFault.TheVariants.{NotBits, OutOfRange}
use Rattle.fidl_consts.specs.declared.const_type.ConstType.{ConstType}
use Rattle.fidl_consts.specs.Literals.{number_of}
use Rattle.fidl_consts.specs.PlainValues.{PlainValue, a_number, a_truth, a_text, seen}
use Rattle.fidl_consts.specs.Values.{first_operand, later_operands, literal, name_in, inside, signed_if, ValueIs, OrOperandsAre, OperandIs}
use Rattle.fidl_consts.specs.Refusals.{OrOperandsFail, ValueFails, OperandFails, at}
use Rattle.fidl_consts.specs.Tables.{IsMemoryOr}
use Rattle.fidl_consts.proofs.Among.{among_map}
use Rattle.fidl_consts.proofs.Operands.{or_operand_is, first_is, later_is, paths_are, among_operands}
use Rattle.fidl_consts.proofs.Expressions.{reports_weaker, some_element, no_element, literal_ok, literal_reported, name_ok, name_reported, group_ok, group_reported, joined_more, joined_all}
use Rattle.fidl_consts.proofs.values.+values.Goals as goal

-- an or_operand among others, in plain data
module _ (os : List OrOperand) (i : ℕ) (o : OrOperand) (within : i < length os) (is : o ≡ get_or os i o) where
  plain_there : Contains (map or_operand_view os) (or_operand_view o)
  plain_there = among_map or_operand_view os o (i, within, sym is)

  plain_within : i < length (map or_operand_view os)
  plain_within = omega (arith, within, length-map os or_operand_view)

  plain_at : or_operand_view o ≡ get_or (map or_operand_view os) i (or_operand_view o)
  plain_at = ap or_operand_view is ∙ sym (get_or-map or_operand_view os i o)

pub or_operands_value-operand_value-requires : goal.or_operands_value-operand_value-requires
or_operands_value-operand_value-requires t c =
    let o = c.or_operand-item.result in
    let os = c.args.or_operands.now in
    let there = plain_there os c.loop-or_operand.or_operand-index o c.loop-or_operand-test.true c.or_operand-item.is in
    let among = λ (path : Path) (h : Contains (operand_paths (operand_view (out-OrOperand o).operand)) path).
    among_operands (map or_operand_view os) (or_operand_view o) path there (subst (λ (e : Operand). Contains (operand_paths e) path) (sym (or_operand_is o)) h) in
    (search (rules, value.the_lemmas, or_operand.the_lemmas, operand.the_lemmas), (c.requires.known, λ path m h means known. c.requires.settled path m (among path h) means known))

pub or_operands_value-returns-in_err-next-clause-fault_is_true : goal.or_operands_value-returns-in_err-next-clause-fault_is_true
or_operands_value-returns-in_err-next-clause-fault_is_true t c =
    let files = c.args.scope.now.file.named.now in
    let os = c.args.or_operands.now in
    let o = c.or_operand-item.result in
    let there = plain_there os c.loop-or_operand.or_operand-index o c.loop-or_operand-test.true c.or_operand-item.is in
    let of_operand = λ (fault : ConstFault). OperandFails files c.args.scope.now.file.tree.now c.args.scope.now.file.file_index c.args.wanted fault (operand_view (out-OrOperand o).operand) in
    let fails = OrOperandsFail files c.args.scope.now.file.tree.now c.args.scope.now.file.file_index c.args.wanted (map or_operand_view os) in
    let fault_is_true : IsMemoryOr fails c.in_err-next.field-0.0 = reports_weaker of_operand fails
    (λ fault h. record { or_operand = or_operand_view o; among = there; fails = subst (OperandFails files c.args.scope.now.file.tree.now c.args.scope.now.file.file_index c.args.wanted fault) (sym (or_operand_is o)) h }) _ c.in_err-next.ensures.fault_is_true in
    let p = err_from_is_err_and c.from_residual.result c.from_residual.ensures.1 in
    rw (p.1, p.2) fault_is_true

pub or_operands_value-loop-or_operand-preserved : goal.or_operands_value-loop-or_operand-preserved
or_operands_value-loop-or_operand-preserved t c all h =
    let os = c.args.or_operands.now in
    let o = c.or_operand-item.result in
    let i = c.loop-or_operand.or_operand-index in
    let of_operand = subst (λ (e : Operand). OperandIs c.args.scope.now.file.named.now c.args.scope.now.file.tree.now c.args.wanted e (seen c.in_ok-next.next)) (sym (or_operand_is o)) c.in_ok-next.ensures.ok in
    c.loop-or_operand.invariant all (joined_more _ _ _ (map or_operand_view os) i (or_operand_view o) (seen c.loop-or_operand.all) (seen c.in_ok-next.next) _ all
    (plain_within os i o c.loop-or_operand-test.true c.or_operand-item.is) (plain_at os i o c.loop-or_operand-test.true c.or_operand-item.is) of_operand c.joined-all.ensures h)

pub or_operands_value-returns-clause-ok : goal.or_operands_value-returns-clause-ok
or_operands_value-returns-clause-ok t c =
    let os = c.args.or_operands.now in
    let past = c.loop-or_operand-test.false in
    let over : length (map or_operand_view os) ≤ c.loop-or_operand.or_operand-index = omega (arith, past, length-map os or_operand_view) in
    c.loop-or_operand.invariant _ (joined_all _ _ _ (map or_operand_view os) c.loop-or_operand.or_operand-index _ over)

pub operand_value-name_value-requires-clause-settled : goal.operand_value-name_value-requires-clause-settled
operand_value-name_value-requires-clause-settled t c =
    let is : operand_paths (operand_view c.args.operand.now) ≡ (path_view c.in-Path.path) ∷ [] = search (rules, operand.the_lemmas, c.in-Path.is) in
    λ path m h means known. c.requires.settled path m (subst (λ (l : List Path). Contains l path) (sym is) h) means known

pub operand_value-value_in-requires : goal.operand_value-value_in-requires
operand_value-value_in-requires t c =
    let is : operand_paths (operand_view c.args.operand.now) ≡ value_paths (value_view c.deref.result.now) = search (rules, operand.the_lemmas, c.in-Group.is, c.deref.ensures) in
    (search (rules, value.the_lemmas, or_operand.the_lemmas, operand.the_lemmas), (c.requires.known, λ path m h means known. c.requires.settled path m (subst (λ (l : List Path). Contains l path) (sym is) h) means known))

pub operand_value-returns-in-Number-clause-ok : goal.operand_value-returns-in-Number-clause-ok
operand_value-returns-in-Number-clause-ok t c =
    let is : literal c.args.scope.now.file.tree.now (operand_view c.args.operand.now) ≡ Some (a_number (signed_if c.is_some.result (number_of c.text.result.now))) = rw (c.is_some.ensures, c.text.ensures.bytes) (search (rules, operand.the_lemmas, c.in-Number.is)) in
    literal_ok _ _ _ (operand_view c.args.operand.now) _ _ is c.number_literal.ensures.ok

pub operand_value-returns-in-Number-clause-fault_is_true : goal.operand_value-returns-in-Number-clause-fault_is_true
operand_value-returns-in-Number-clause-fault_is_true t c =
    let is : literal c.args.scope.now.file.tree.now (operand_view c.args.operand.now) ≡ Some (a_number (signed_if c.is_some.result (number_of c.text.result.now))) = rw (c.is_some.ensures, c.text.ensures.bytes) (search (rules, operand.the_lemmas, c.in-Number.is)) in
    literal_reported _ _ _ c.args.scope.now.file.file_index (operand_view c.args.operand.now) _ _ _ is (ap (at c.args.scope.now.file.file_index) c.operand_span.ensures) c.number_literal.ensures.fault_is_true

pub operand_value-returns-in_ok-bytes-in-String-clause-ok : goal.operand_value-returns-in_ok-bytes-in-String-clause-ok
operand_value-returns-in_ok-bytes-in-String-clause-ok t c =
    let is : literal c.args.scope.now.file.tree.now (operand_view c.args.operand.now) ≡ Some (a_text c.in_ok-bytes-in-String.bytes.items) = rw (c.in_ok-bytes-in-String.ensures, c.text-in-String.ensures.bytes) (search (rules, operand.the_lemmas, c.in-String.is)) in
    literal_ok _ _ _ (operand_view c.args.operand.now) _ _ is c.fitting.ensures.ok

pub operand_value-returns-in_ok-bytes-in-String-clause-fault_is_true : goal.operand_value-returns-in_ok-bytes-in-String-clause-fault_is_true
operand_value-returns-in_ok-bytes-in-String-clause-fault_is_true t c =
    let is : literal c.args.scope.now.file.tree.now (operand_view c.args.operand.now) ≡ Some (a_text c.in_ok-bytes-in-String.bytes.items) = rw (c.in_ok-bytes-in-String.ensures, c.text-in-String.ensures.bytes) (search (rules, operand.the_lemmas, c.in-String.is)) in
    literal_reported _ _ _ c.args.scope.now.file.file_index (operand_view c.args.operand.now) _ _ _ is (ap (at c.args.scope.now.file.file_index) c.operand_span.ensures) c.fitting.ensures.fault_is_true

pub operand_value-returns-in-True-clause-ok : goal.operand_value-returns-in-True-clause-ok
operand_value-returns-in-True-clause-ok t c =
    let is : literal c.args.scope.now.file.tree.now (operand_view c.args.operand.now) ≡ Some (a_truth true) = search (rules, operand.the_lemmas, c.in-True.is) in
    literal_ok _ _ _ (operand_view c.args.operand.now) _ _ is c.fitting-in-True.ensures.ok

pub operand_value-returns-in-True-clause-fault_is_true : goal.operand_value-returns-in-True-clause-fault_is_true
operand_value-returns-in-True-clause-fault_is_true t c =
    let is : literal c.args.scope.now.file.tree.now (operand_view c.args.operand.now) ≡ Some (a_truth true) = search (rules, operand.the_lemmas, c.in-True.is) in
    literal_reported _ _ _ c.args.scope.now.file.file_index (operand_view c.args.operand.now) _ _ _ is (ap (at c.args.scope.now.file.file_index) c.operand_span.ensures) c.fitting-in-True.ensures.fault_is_true

pub operand_value-returns-in-False-clause-ok : goal.operand_value-returns-in-False-clause-ok
operand_value-returns-in-False-clause-ok t c =
    let is : literal c.args.scope.now.file.tree.now (operand_view c.args.operand.now) ≡ Some (a_truth false) = search (rules, operand.the_lemmas, c.in-False.is) in
    literal_ok _ _ _ (operand_view c.args.operand.now) _ _ is c.fitting-in-False.ensures.ok

pub operand_value-returns-in-False-clause-fault_is_true : goal.operand_value-returns-in-False-clause-fault_is_true
operand_value-returns-in-False-clause-fault_is_true t c =
    let is : literal c.args.scope.now.file.tree.now (operand_view c.args.operand.now) ≡ Some (a_truth false) = search (rules, operand.the_lemmas, c.in-False.is) in
    literal_reported _ _ _ c.args.scope.now.file.file_index (operand_view c.args.operand.now) _ _ _ is (ap (at c.args.scope.now.file.file_index) c.operand_span.ensures) c.fitting-in-False.ensures.fault_is_true

pub operand_value-returns-in-Path-clause-ok : goal.operand_value-returns-in-Path-clause-ok
operand_value-returns-in-Path-clause-ok t c =
    let is : name_in (operand_view c.args.operand.now) ≡ Some (path_view c.in-Path.path) = search (rules, operand.the_lemmas, c.in-Path.is) in
    name_ok _ _ _ (operand_view c.args.operand.now) _ _ is c.name_value.ensures.ok

pub operand_value-returns-in-Path-clause-fault_is_true : goal.operand_value-returns-in-Path-clause-fault_is_true
operand_value-returns-in-Path-clause-fault_is_true t c =
    let is : name_in (operand_view c.args.operand.now) ≡ Some (path_view c.in-Path.path) = search (rules, operand.the_lemmas, c.in-Path.is) in
    name_reported _ _ _ c.args.scope.now.file.file_index (operand_view c.args.operand.now) _ _ is c.name_value.ensures.fault_is_true

pub operand_value-returns-in-Group-clause-ok : goal.operand_value-returns-in-Group-clause-ok
operand_value-returns-in-Group-clause-ok t c =
    let is : inside (operand_view c.args.operand.now) ≡ Some (value_view c.deref.result.now) = search (rules, operand.the_lemmas, c.in-Group.is, c.deref.ensures) in
    group_ok _ _ _ (operand_view c.args.operand.now) _ _ is c.value_in.ensures.ok

pub operand_value-returns-in-Group-clause-fault_is_true : goal.operand_value-returns-in-Group-clause-fault_is_true
operand_value-returns-in-Group-clause-fault_is_true t c =
    let is : inside (operand_view c.args.operand.now) ≡ Some (value_view c.deref.result.now) = search (rules, operand.the_lemmas, c.in-Group.is, c.deref.ensures) in
    group_reported _ _ _ c.args.scope.now.file.file_index (operand_view c.args.operand.now) _ _ is c.value_in.ensures.fault_is_true

pub value_in-operand_value-requires : goal.value_in-operand_value-requires
value_in-operand_value-requires t c =
    let v = c.args.value.now in
    let among = λ (path : Path) (h : Contains (operand_paths (operand_view (out-Value v).first)) path). subst (λ (l : List Path). Contains l path) (sym (paths_are v)) (Contains-append_left _ _ path h) in
    (search (rules, value.the_lemmas, or_operand.the_lemmas, operand.the_lemmas), (c.requires.known, λ path m h means known. c.requires.settled path m (among path h) means known))

pub value_in-returns-in_err-first-clause-fault_is_true : goal.value_in-returns-in_err-first-clause-fault_is_true
value_in-returns-in_err-first-clause-fault_is_true t c =
    let v = c.args.value.now in
    let of_operand = λ (fault : ConstFault) (e : Operand). OperandFails c.args.scope.now.file.named.now c.args.scope.now.file.tree.now c.args.scope.now.file.file_index c.args.wanted fault e in
    let fails = λ (fault : ConstFault). ValueFails c.args.scope.now.file.named.now c.args.scope.now.file.tree.now c.args.scope.now.file.file_index c.args.wanted fault (value_view v) in
    let fault_is_true : IsMemoryOr fails c.in_err-first.field-0.0 = reports_weaker (λ fault. of_operand fault (operand_view (out-Value v).first)) fails
    (λ fault h. ValueFails.first _ (subst (of_operand fault) (sym (first_is v)) h)) _ c.in_err-first.ensures.fault_is_true in
    let p = err_from_is_err_and c.from_residual.result c.from_residual.ensures.1 in
    rw (p.1, p.2) fault_is_true

pub value_in-returns-then-is_empty-clause-ok : goal.value_in-returns-then-is_empty-clause-ok
value_in-returns-then-is_empty-clause-ok t c =
    let v = c.args.value.now in
    let rest = (out-Value v).rest in
    let len : rest.len ≡ 0 = search (rules, c.is_empty.ensures, c.if-is_empty.true) in
    let none : later_operands (value_view v) ≡ [] = later_is v ∙ ap (map or_operand_view) (no_element rest.items (sym rest.ok.0 ∙ len)) in
    ValueIs.alone _ _ (value_view v) _ none (subst (λ (e : Operand). OperandIs c.args.scope.now.file.named.now c.args.scope.now.file.tree.now c.args.wanted e (seen c.in_ok-first.first)) (sym (first_is v)) c.in_ok-first.ensures.ok)

pub value_in-returns-then-not-joins-clause-fault_is_true : goal.value_in-returns-then-not-joins-clause-fault_is_true
value_in-returns-then-not-joins-clause-fault_is_true t c =
    let v = c.args.value.now in
    let rest = (out-Value v).rest in
    let len : 0 < rest.len = search (rules, c.is_empty.ensures, c.if-is_empty.false) in
    let some = some_element rest.items (omega (arith, rest.ok.0)) in
    let there : Contains (later_operands (value_view v)) (or_operand_view some.0) = subst (λ (es : List Operand). Contains es (or_operand_view some.0)) (sym (later_is v)) (among_map or_operand_view rest.items some.0 some.1) in
    inr (ValueFails.not_bits _ (or_operand_view some.0) there (λ joins. let bad : false ≡ true = c.if-not-joins.ensures.1 joins in cc) (ap (λ (s : Span). NotBits (at c.args.scope.now.file.file_index s)) c.value_span.ensures))

pub value_in-or_operands_value-requires : goal.value_in-or_operands_value-requires
value_in-or_operands_value-requires t c =
    let v = c.args.value.now in
    let among = λ (path : Path) (h : Contains (operands_paths (operands_of (map or_operand_view (out-Value v).rest.items))) path). subst (λ (l : List Path). Contains l path) (sym (paths_are v)) (Contains-append_right (operand_paths (operand_view (out-Value v).first)) _ path h) in
    (search (rules, value.the_lemmas, or_operand.the_lemmas, operand.the_lemmas), (c.requires.known, λ path m h means known. c.requires.settled path m (among path (subst (λ (os : List OrOperand). Contains (operands_paths (operands_of (map or_operand_view os))) path) c.deref.ensures.value h)) means known))

pub value_in-returns-in_err-all-clause-fault_is_true : goal.value_in-returns-in_err-all-clause-fault_is_true
value_in-returns-in_err-all-clause-fault_is_true t c =
    let v = c.args.value.now in
    let fails = λ (fault : ConstFault). ValueFails c.args.scope.now.file.named.now c.args.scope.now.file.tree.now c.args.scope.now.file.file_index c.args.wanted fault (value_view v) in
    let of_or_operands = OrOperandsFail c.args.scope.now.file.named.now c.args.scope.now.file.tree.now c.args.scope.now.file.file_index c.args.wanted (map or_operand_view c.deref.result.now) in
    let fault_is_true : IsMemoryOr fails c.in_err-all.field-0.0 = reports_weaker of_or_operands fails
    (λ fault h. ValueFails.or_operand _ h.or_operand (subst (λ (es : List Operand). Contains es h.or_operand) (ap (map or_operand_view) c.deref.ensures.value ∙ sym (later_is v)) h.among) h.fails) _ c.in_err-all.ensures.fault_is_true in
    let p = err_from_is_err_and c.from_residual-in_err-all.result c.from_residual-in_err-all.ensures.1 in
    rw (p.1, p.2) fault_is_true

-- the operands of a value have the values that code read
module _ (files : List File) (f : File) (t : ConstType) (v : value.Value) (os : List OrOperand) (same : os ≡ (out-Value v).rest.items) (first all : PlainValue) where
  first_there : OperandIs files f t (operand_view (out-Value v).first) first → OperandIs files f t (first_operand (value_view v)) first
  first_there h = subst (λ (e : Operand). OperandIs files f t e first) (sym (first_is v)) h

  all_there : OrOperandsAre files f t first (map or_operand_view os) all → OrOperandsAre files f t first (later_operands (value_view v)) all
  all_there h = subst (λ (es : List Operand). OrOperandsAre files f t first es all) (ap (map or_operand_view) same ∙ sym (later_is v)) h

pub value_in-returns-then-not-fits-clause-fault_is_true : goal.value_in-returns-then-not-fits-clause-fault_is_true
value_in-returns-then-not-fits-clause-fault_is_true t c =
    let files = c.args.scope.now.file.named.now in
    let f = c.args.scope.now.file.tree.now in
    let v = c.args.value.now in
    let first = seen c.in_ok-first.first in
    let all = seen c.in_ok-all.all in
    let os = c.deref.result.now in
    let same = c.deref.ensures.value in
    inr (ValueFails.too_great _ first all (first_there files f c.args.wanted v os same first all c.in_ok-first.ensures.ok) (all_there files f c.args.wanted v os same first all c.in_ok-all.ensures.ok)
    (λ fits. let bad : false ≡ true = c.if-not-fits.ensures.1 fits in cc) (ap (λ (s : Span). OutOfRange (at c.args.scope.now.file.file_index s)) c.value_span.ensures))

pub value_in-returns-clause-ok : goal.value_in-returns-clause-ok
value_in-returns-clause-ok t c =
    let files = c.args.scope.now.file.named.now in
    let f = c.args.scope.now.file.tree.now in
    let v = c.args.value.now in
    let first = seen c.in_ok-first.first in
    let all = seen c.in_ok-all.all in
    let os = c.deref.result.now in
    let same = c.deref.ensures.value in
    ValueIs.several _ _ (value_view v) first all (c.joins.ensures.0 c.if-not-joins.false) (first_there files f c.args.wanted v os same first all c.in_ok-first.ensures.ok)
    (all_there files f c.args.wanted v os same first all c.in_ok-all.ensures.ok) (c.fits.ensures.0 c.if-not-fits.false)
