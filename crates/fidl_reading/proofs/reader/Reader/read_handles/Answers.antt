use Rattle.std.proofs.Common.{◌++◌, subst, arith}
use Rattle.std.specs.Prelude.{codes}
use Rattle.fidl_spelling.specs.Spells.{CommaIf}
use Rattle.fidl_reading.specs.Cuts.{texts_of}
use Rattle.fidl_reading.specs.Reads.{AHandleList, has_some}
use Rattle.fidl_reading.proofs.Handing.{refused_so}
use Rattle.fidl_reading.proofs.Leading.{some_if, not_begun, append_nil}
use Rattle.fidl_reading.proofs.Listing.{list_begun, no_comma, no_item, one_more, all_read}
use Rattle.fidl_reading.proofs.reader.Reader.read_handles.Goals as goal

pub loop-handles-init : goal.loop-handles-init
loop-handles-init c =
    record {
      leads = list_begun c.new-handles.result (texts_of c.args.words.now) (texts_of c.in_ok-left.left.now) c.new-handles.ensures c.in_ok-left.ensures.ok;
      fewer = c.in_ok-left.ensures.fewer;
    }

pub returns-in_err-next-clause-fault_is_true : goal.returns-in_err-next-clause-fault_is_true
returns-in_err-next-clause-fault_is_true c =
    let xs = c.loop-handles.handles in
    let to = texts_of c.loop-handles.left.now in
    let later = some_if c.is_empty.result xs c.is_empty.ensures in
    let going = not_begun c.begins.result to (codes "]") c.begins.ensures c.loop-handles-test.true in
    refused_so c.from_residual-in_err-next.result c.in_err-next.field-0.0 _ c.from_residual-in_err-next.ensures.1
    (no_comma _ to going (λ hs. xs ++ hs) c.loop-handles.invariant.leads (subst (λ b. (r : _) → CommaIf b to r → ⊥) later c.in_err-next.ensures.fault_is_true))

pub returns-in_err-handle-clause-fault_is_true : goal.returns-in_err-handle-clause-fault_is_true
returns-in_err-handle-clause-fault_is_true c =
    let xs = c.loop-handles.handles in
    let to = texts_of c.loop-handles.left.now in
    let mid = texts_of c.in_ok-next.next.now in
    let later = some_if c.is_empty.result xs c.is_empty.ensures in
    let going = not_begun c.begins.result to (codes "]") c.begins.ensures c.loop-handles-test.true in
    refused_so c.from_residual-in_err-handle.result c.in_err-handle.field-0.0 _ c.from_residual-in_err-handle.ensures.1
    (no_item _ to going (λ hs. xs ++ hs) mid c.loop-handles.invariant.leads (subst (λ b. CommaIf b to mid) later c.in_ok-next.ensures.ok) c.in_err-handle.ensures.fault_is_true)

pub loop-handles-preserved : goal.loop-handles-preserved
loop-handles-preserved c =
    let xs = c.loop-handles.handles in
    let to = texts_of c.loop-handles.left.now in
    let mid = texts_of c.in_ok-next.next.now in
    let later = some_if c.is_empty.result xs c.is_empty.ensures in
    let going = not_begun c.begins.result to (codes "]") c.begins.ensures c.loop-handles-test.true in
    record {
      leads = one_more xs _ c.in_ok-handle.handle to mid (texts_of c.in_ok-handle.rest.now) (λ hs. hs) c.in_ok-push.ensures.ok c.loop-handles.invariant.leads going (subst (λ b. CommaIf b to mid) later c.in_ok-next.ensures.ok)
          c.in_ok-handle.ensures.ok;
      fewer = omega (arith, c.loop-handles.invariant.fewer, c.in_ok-next.ensures.fewer, c.in_ok-handle.ensures.fewer);
    }

pub returns-clause-ok : goal.returns-clause-ok
returns-clause-ok c =
    let xs = c.loop-handles.handles in
    let from = texts_of c.args.words.now in
    let rest = texts_of c.in_ok-rest.rest.now in
    subst (λ hs. AHandleList hs from rest) (append_nil xs) (all_read (has_some xs) (texts_of c.loop-handles.left.now) rest (λ hs. xs ++ hs) c.loop-handles.invariant.leads c.in_ok-rest.ensures.ok)
