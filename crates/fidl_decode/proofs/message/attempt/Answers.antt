use Rattle.std.proofs.Common.{◌≡◌, ℕ, List, ◌+◌, ◌*◌, ◌/◌, ◌<◌, ◌≤◌, length, slice_index, sym, ap, subst, ◌∙◌, arith}
use Rattle.fidl_limits.specs.declared.limits.TheConstants.{STEPS_PER_BYTE}
use Rattle.fidl_wire.specs.Message.{Encodes}
use Rattle.fidl_links.specs.Links.{Written}
use Rattle.fidl_links.proofs.Places.{few_places}
use Rattle.fidl_decode_model.specs.Links.{noted}
use Rattle.fidl_decode_model.specs.Faults.{IsTold}
use Rattle.fidl_decode_model.specs.Readable.{StandsIn}
use Rattle.fidl_wire.specs.Value.{Value}
use Rattle.fidl_wire.specs.Term as ty
use Rattle.fidl_wire.proofs.Unique.{one_value}
use Rattle.fidl_table_format.specs.Terms.{declarations_of}
use Rattle.fidl_verify.proofs.Declared.{sound}
use Rattle.fidl_decode_model.specs.Work.{Work}
use Rattle.fidl_decode_model.proofs.Bridge.{fine_of}
use Rattle.fidl_decode_model.proofs.Excluding.{told_excluded}
use Rattle.fidl_decode.proofs.message.attempt.Goals as goal

pub invariant_of-decoder-clause-fine : goal.invariant_of-decoder-clause-fine
invariant_of-decoder-clause-fine c = fine_of c.args.table.now c.rows_start-rows.ensures.well_formed

-- a message encodes one value, so the steps are no fewer than the work of each that it encodes
pub invariant_of-result : goal.invariant_of-result
invariant_of-result c =
    let t = c.args.table.now in
    let ds = declarations_of t in
    let well = c.rows_start-rows.ensures.well_formed in
    let x = c.in-Ok.ensures.least in
    let kept : c.check-checked.new.state.links.came ≡ c.of.result.value.came = c.check-checked.ensures.holds in (
      c.requires,
      subst (λ (b : List ℕ). c.check-checked.new.state.steps ≤ STEPS_PER_BYTE * (length b + 1)) (sym kept) (omega (arith, c.in-Ok.ensures.steps)),
      subst (λ (b : List ℕ). StandsIn ds (ty.named c.args.entry) b c.args.handles.now (noted c.check-checked.new.state.links)) (sym kept) c.in-Ok.ensures.ok,
      λ v h. omega (arith, x.2, ap (λ (v : Value). Work v) (one_value ds (sound t well) (ty.named c.args.entry) tt v x.0 c.of.result.value.came c.args.handles.now (subst (λ (b : List ℕ). Encodes ds (ty.named c.args.entry) v b c.args.handles.now) kept h) x.1)),
    )

-- no link is noted in the cells of the message yet
pub check-checked-requires-clause-free : goal.check-checked-requires-clause-free
check-checked-requires-clause-free c = λ k from to. (c.new-links.ensures.objects (k / 8), c.new-links.ensures.records (k / 4))

pub returns-clause-fault_is_true : goal.returns-clause-fault_is_true
returns-clause-fault_is_true c =
    let came : c.of.result.value.came ≡ c.args.bytes.now = ap (λ (w : Written). w.came) c.of.ensures ∙ c.new-links.ensures.came in
    subst (λ (b : List ℕ). IsTold (declarations_of c.args.table.now) (ty.named c.args.entry) b c.args.handles.now c.in-Err.fault) came c.in-Err.ensures.fault_is_true

pub returns-clause-err : goal.returns-clause-err
returns-clause-err c =
    let t = c.args.table.now in
    let well = c.rows_start-rows.ensures.well_formed in
    let came : c.of.result.value.came ≡ c.args.bytes.now = ap (λ (w : Written). w.came) c.of.ensures ∙ c.new-links.ensures.came in
    let told = subst (λ (b : List ℕ). IsTold (declarations_of t) (ty.named c.args.entry) b c.args.handles.now c.in-Err.fault) came c.in-Err.ensures.fault_is_true in
    λ y. told_excluded t (fine_of t well) (sound t well) c.args.entry c.requires c.args.bytes.now c.args.handles.now y c.in-Err.fault told

pub returns-in-Some-clause-fault_is_true : goal.returns-in-Some-clause-fault_is_true
returns-in-Some-clause-fault_is_true c = c.in-Some.ensures.told (declarations_of c.args.table.now) (ty.named c.args.entry)

pub returns-in-Some-clause-err : goal.returns-in-Some-clause-err
returns-in-Some-clause-err c =
    let t = c.args.table.now in
    let well = c.rows_start-rows.ensures.well_formed in
    λ y. told_excluded t (fine_of t well) (sound t well) c.args.entry c.requires c.args.bytes.now c.args.handles.now y c.in-Some.fault (c.in-Some.ensures.told (declarations_of t) (ty.named c.args.entry))

pub invariant_of-decoder-clause-octets : goal.invariant_of-decoder-clause-octets
invariant_of-decoder-clause-octets c =
    let came : c.of.result.value.came ≡ c.args.bytes.now = ap (λ (w : Written). w.came) c.of.ensures ∙ c.new-links.ensures.came in
    λ i. subst (λ (b : List ℕ). slice_index b i < 256) (sym came) (c.are_octets.ensures i)

-- a refusal takes out at most two links of each word
pub returns-clause-steps : goal.returns-clause-steps
returns-clause-steps c =
    let links = c.check-checked.new.state.links in
    let kept : links.came ≡ c.of.result.value.came = c.check-checked.ensures.holds in
    let came : c.of.result.value.came ≡ c.args.bytes.now = ap (λ (w : Written). w.came) c.of.ensures ∙ c.new-links.ensures.came in
    let few = few_places links in
    omega (arith, c.restore-bytes.ensures.steps, few, c.raw-raw.ensures.as_many_objects, ap length kept, ap length came, c.check-checked.ensures.steps)
