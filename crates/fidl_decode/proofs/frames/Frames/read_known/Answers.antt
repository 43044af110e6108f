use Rattle.fidl_decode_values.specs.Reading.{message}
use Rattle.fidl_decode_values.proofs.Unchanged.{no_ok}
use Rattle.std.proofs.Common.{ℕ, ◌-◌, ◌≡◌, sym, ap, subst, ◌∙◌, arith}
use Rattle.std.specs.Prelude.{Some, None}
use Rattle.fidl_wire.specs.Term as ty
use Rattle.fidl_table_format.specs.declared.record.Entry.{Entry}
use Rattle.fidl_table_format.specs.Kind.{kind_of}
use Rattle.fidl_table_format.specs.Section.{entry_at}
use Rattle.fidl_table_format.specs.Terms.{declarations_of}
use Rattle.fidl_decode_model.specs.State.{Position}
use Rattle.fidl_decode_model.specs.Breaks.{BreaksMember}
use Rattle.fidl_decode_model.specs.Machine.{StateFine, Opens, at_of}
use Rattle.fidl_decode_model.proofs.Turning.{passed_on}
use Rattle.fidl_decode_values.proofs.Opening.{opens_known}
use Rattle.fidl_decode.proofs.frames.Frames.read_known.Goals as goal

no_some : {A : Type 0} (a : A) → Some a ≡ None → ⊥
no_some a e = cc

pub returns-then-pass_member-clause-pays : goal.returns-then-pass_member-clause-pays
returns-then-pass_member-clause-pays c =
    let less = (c.pass_member.ensures.passed c.if-pass_member.true).less in
    let within = (c.pass_member.ensures.passed c.if-pass_member.true).state.next in
    let pays = c.pass_member.ensures.pays in
    let grows = c.pass_member.ensures.grows in
    omega (arith, less, within, pays, grows)

pub unreachable-requires : goal.unreachable-requires
unreachable-requires c =
    let t = c.args.self.now.decoder.table.now in
    let f = c.args.self.now.decoder.fine.each c.args.entry c.requires.entry in
    let none : kind_of (entry_at t c.args.entry).kind ≡ None = ap (λ (e : Entry). kind_of e.kind) (sym c.entry-e.ensures.value) ∙ sym c.from_number.ensures ∙ c.in_default.is in
    no_some f.0 (sym f.1.is ∙ none)

pub is_flat-requires : goal.is_flat-requires
is_flat-requires c = record {
  entry = c.requires.entry;
  kind = ap (λ (e : Entry). kind_of e.kind) (sym c.entry-e.ensures.value) ∙ sym c.from_number.ensures ∙ c.in-Some.is;
}

pub read_enclosed-requires-clause-kind : goal.read_enclosed-requires-clause-kind
read_enclosed-requires-clause-kind c =
    ap (λ (e : Entry). kind_of e.kind) (sym c.entry-e.ensures.value) ∙ sym c.from_number.ensures ∙ c.in-Some.is

pub read_enclosed-requires-clause-flat : goal.read_enclosed-requires-clause-flat
read_enclosed-requires-clause-flat c =
    c.is_flat.ensures c.if-is_flat.true

pub read_enclosed-requires-clause-state : goal.read_enclosed-requires-clause-state
read_enclosed-requires-clause-state c =
    let m = message c.args.self.now.decoder in
    let old = at_of c.args.state.now in
    let kept : at_of c.pass_member.new.state ≡ old = c.pass_member.ensures.kept c.if-pass_member.false in
    subst (λ (s : Position). StateFine m s) (sym kept) c.requires.state

pub read_enclosed-requires-clause-budget : goal.read_enclosed-requires-clause-budget
read_enclosed-requires-clause-budget c =
    let old = at_of c.args.state.now in
    let kept : at_of c.pass_member.new.state ≡ old = c.pass_member.ensures.kept c.if-pass_member.false in
    let next : c.pass_member.new.state.next ≡ c.args.state.now.next = ap (λ (s : Position). s.next) kept in
    let still : c.pass_member.new.state.steps ≡ c.args.state.now.steps = omega (arith, next, c.pass_member.ensures.grows, c.pass_member.ensures.pays) in
    omega (arith, next, still, c.requires.budget)

pub returns-in_err-read_enclosed-clause-fault_is_true : goal.returns-in_err-read_enclosed-clause-fault_is_true
returns-in_err-read_enclosed-clause-fault_is_true c =
    let t = c.args.self.now.decoder.table.now in
    let m = message c.args.self.now.decoder in
    let old = at_of c.args.state.now in
    let kept : at_of c.pass_member.new.state ≡ old = c.pass_member.ensures.kept c.if-pass_member.false in
    passed_on c.from_residual.result c.in_err-read_enclosed.field-0.0 _ c.from_residual.ensures.1
    (subst (λ (s : Position). BreaksMember (declarations_of t) m c.args.depth (Some (ty.named c.args.entry)) c.args.envelope s c.in_err-read_enclosed.field-0.0) kept c.in_err-read_enclosed.ensures.fault_is_true)

pub returns-in_err-read_enclosed-clause-cost : goal.returns-in_err-read_enclosed-clause-cost
returns-in_err-read_enclosed-clause-cost c =
    let old = at_of c.args.state.now in
    let kept : at_of c.pass_member.new.state ≡ old = c.pass_member.ensures.kept c.if-pass_member.false in
    let next : c.pass_member.new.state.next ≡ c.args.state.now.next = ap (λ (s : Position). s.next) kept in
    let still : c.pass_member.new.state.steps ≡ c.args.state.now.steps = omega (arith, next, c.pass_member.ensures.grows, c.pass_member.ensures.pays) in
    omega (arith, next, still, c.in_err-read_enclosed.ensures.cost)

pub returns-then-is_flat-clause-ok : goal.returns-then-is_flat-clause-ok
returns-then-is_flat-clause-ok c =
    let t = c.args.self.now.decoder.table.now in
    let m = message c.args.self.now.decoder in
    let old = at_of c.args.state.now in
    let kept : at_of c.pass_member.new.state ≡ old = c.pass_member.ensures.kept c.if-pass_member.false in
    let next : c.pass_member.new.state.next ≡ c.args.state.now.next = ap (λ (s : Position). s.next) kept in
    let still : c.pass_member.new.state.steps ≡ c.args.state.now.steps = omega (arith, next, c.pass_member.ensures.grows, c.pass_member.ensures.pays) in
    subst (λ (n : ℕ). Opens t m c.args.depth (Some (ty.named c.args.entry)) c.args.envelope old (at_of c.read_enclosed.new.state) (c.read_enclosed.new.state.steps - n) None) still
    (subst (λ (s : Position). Opens t m c.args.depth (Some (ty.named c.args.entry)) c.args.envelope s (at_of c.read_enclosed.new.state) (c.read_enclosed.new.state.steps - c.pass_member.new.state.steps) None) kept c.in_ok-read_enclosed.ensures.ok)

pub returns-then-is_flat-clause-pays : goal.returns-then-is_flat-clause-pays
returns-then-is_flat-clause-pays c =
    let old = at_of c.args.state.now in
    let kept : at_of c.pass_member.new.state ≡ old = c.pass_member.ensures.kept c.if-pass_member.false in
    let next : c.pass_member.new.state.next ≡ c.args.state.now.next = ap (λ (s : Position). s.next) kept in
    let still : c.pass_member.new.state.steps ≡ c.args.state.now.steps = omega (arith, next, c.pass_member.ensures.grows, c.pass_member.ensures.pays) in
    let own = c.in_ok-read_enclosed.ensures.pays in
    omega (arith, next, still, own)

pub returns-then-is_flat-clause-grows : goal.returns-then-is_flat-clause-grows
returns-then-is_flat-clause-grows c =
    let old = at_of c.args.state.now in
    let kept : at_of c.pass_member.new.state ≡ old = c.pass_member.ensures.kept c.if-pass_member.false in
    let next : c.pass_member.new.state.next ≡ c.args.state.now.next = ap (λ (s : Position). s.next) kept in
    let still : c.pass_member.new.state.steps ≡ c.args.state.now.steps = omega (arith, next, c.pass_member.ensures.grows, c.pass_member.ensures.pays) in
    let grows = c.in_ok-read_enclosed.ensures.grows in
    omega (arith, grows, still)

pub returns-then-is_flat-clause-cost : goal.returns-then-is_flat-clause-cost
returns-then-is_flat-clause-cost c =
    let old = at_of c.args.state.now in
    let kept : at_of c.pass_member.new.state ≡ old = c.pass_member.ensures.kept c.if-pass_member.false in
    let next : c.pass_member.new.state.next ≡ c.args.state.now.next = ap (λ (s : Position). s.next) kept in
    let still : c.pass_member.new.state.steps ≡ c.args.state.now.steps = omega (arith, next, c.pass_member.ensures.grows, c.pass_member.ensures.pays) in
    omega (arith, next, still, c.in_ok-read_enclosed.ensures.cost)

pub enter_member-requires-clause-state : goal.enter_member-requires-clause-state
enter_member-requires-clause-state c =
    let m = message c.args.self.now.decoder in
    let old = at_of c.args.state.now in
    let kept : at_of c.pass_member.new.state ≡ old = c.pass_member.ensures.kept c.if-pass_member.false in
    subst (λ (s : Position). StateFine m s) (sym kept) c.requires.state

pub returns-in_err-frame-clause-fault_is_true : goal.returns-in_err-frame-clause-fault_is_true
returns-in_err-frame-clause-fault_is_true c =
    let t = c.args.self.now.decoder.table.now in
    let m = message c.args.self.now.decoder in
    let old = at_of c.args.state.now in
    let kept : at_of c.pass_member.new.state ≡ old = c.pass_member.ensures.kept c.if-pass_member.false in
    passed_on c.from_residual-in_err-frame.result c.in_err-frame.field-0.0 _ c.from_residual-in_err-frame.ensures.1
    (subst (λ (s : Position). BreaksMember (declarations_of t) m c.args.depth (Some (ty.named c.args.entry)) c.args.envelope s c.in_err-frame.field-0.0) kept c.in_err-frame.ensures.fault_is_true)

pub returns-clause-ok : goal.returns-clause-ok
returns-clause-ok c =
    let t = c.args.self.now.decoder.table.now in
    let m = message c.args.self.now.decoder in
    let old = at_of c.args.state.now in
    let kept : at_of c.pass_member.new.state ≡ old = c.pass_member.ensures.kept c.if-pass_member.false in
    let mid = at_of c.pass_member.new.state in
    let new = at_of c.enter_member.new.state in
    let x = c.in_ok-frame.ensures in
    let o = opens_known t m c.args.depth c.args.envelope mid new x.state (c.enter_member.new.state.steps - c.args.state.now.steps) c.args.entry c.in_ok-frame.frame x.grows x.ok x.breaks x.least x.fine x.deeper x.work x.moves in
    subst (λ (s : Position). Opens t m c.args.depth (Some (ty.named c.args.entry)) c.args.envelope s new (c.enter_member.new.state.steps - c.args.state.now.steps) (Some c.in_ok-frame.frame)) kept o

pub returns-clause-pays : goal.returns-clause-pays
returns-clause-pays c =
    let t = c.args.self.now.decoder.table.now in
    let m = message c.args.self.now.decoder in
    let old = at_of c.args.state.now in
    let kept : at_of c.pass_member.new.state ≡ old = c.pass_member.ensures.kept c.if-pass_member.false in
    let next : c.pass_member.new.state.next ≡ c.args.state.now.next = ap (λ (s : Position). s.next) kept in
    let still : c.pass_member.new.state.steps ≡ c.args.state.now.steps = omega (arith, next, c.pass_member.ensures.grows, c.pass_member.ensures.pays) in
    let mid = at_of c.pass_member.new.state in
    let new = at_of c.enter_member.new.state in
    let x = c.in_ok-frame.ensures in
    let steps = x.steps in
    let o = opens_known t m c.args.depth c.args.envelope mid new x.state (c.enter_member.new.state.steps - c.args.state.now.steps) c.args.entry c.in_ok-frame.frame x.grows x.ok x.breaks x.least x.fine x.deeper x.work x.moves in
    let less = o.less in
    omega (arith, less, next, still, steps)

pub returns-then-pass_member-clause-ok : goal.returns-then-pass_member-clause-ok
returns-then-pass_member-clause-ok c =
    c.pass_member.ensures.passed c.if-pass_member.true

pub pass_member-requires-clause-entry : goal.pass_member-requires-clause-entry
pass_member-requires-clause-entry c = c.requires.entry

pub pass_member-requires-clause-room : goal.pass_member-requires-clause-room
pass_member-requires-clause-room c = c.requires.room

pub pass_member-requires-clause-state : goal.pass_member-requires-clause-state
pass_member-requires-clause-state c = c.requires.state

pub pass_member-requires-clause-depth : goal.pass_member-requires-clause-depth
pass_member-requires-clause-depth c = c.requires.depth

pub returns-then-pass_member-clause-fault_is_true : goal.returns-then-pass_member-clause-fault_is_true
returns-then-pass_member-clause-fault_is_true c = tt

pub entry-e-requires : goal.entry-e-requires
entry-e-requires c = c.requires.entry

pub read_enclosed-requires-clause-entry : goal.read_enclosed-requires-clause-entry
read_enclosed-requires-clause-entry c = c.requires.entry

pub read_enclosed-requires-clause-room : goal.read_enclosed-requires-clause-room
read_enclosed-requires-clause-room c = c.requires.room

pub read_enclosed-requires-clause-depth : goal.read_enclosed-requires-clause-depth
read_enclosed-requires-clause-depth c = c.requires.depth

pub returns-in_err-read_enclosed-clause-ok : goal.returns-in_err-read_enclosed-clause-ok
returns-in_err-read_enclosed-clause-ok c = no_ok c.from_residual.result c.in_err-read_enclosed.field-0.0 _ c.from_residual.ensures.1

pub returns-in_err-read_enclosed-clause-pays : goal.returns-in_err-read_enclosed-clause-pays
returns-in_err-read_enclosed-clause-pays c = no_ok c.from_residual.result c.in_err-read_enclosed.field-0.0 _ c.from_residual.ensures.1

pub returns-in_err-read_enclosed-clause-grows : goal.returns-in_err-read_enclosed-clause-grows
returns-in_err-read_enclosed-clause-grows c = no_ok c.from_residual.result c.in_err-read_enclosed.field-0.0 _ c.from_residual.ensures.1

pub returns-then-is_flat-clause-fault_is_true : goal.returns-then-is_flat-clause-fault_is_true
returns-then-is_flat-clause-fault_is_true c = tt

pub enter_member-requires-clause-entry : goal.enter_member-requires-clause-entry
enter_member-requires-clause-entry c = c.requires.entry

pub enter_member-requires-clause-room : goal.enter_member-requires-clause-room
enter_member-requires-clause-room c = c.requires.room

pub enter_member-requires-clause-depth : goal.enter_member-requires-clause-depth
enter_member-requires-clause-depth c = c.requires.depth

pub returns-in_err-frame-clause-ok : goal.returns-in_err-frame-clause-ok
returns-in_err-frame-clause-ok c = no_ok c.from_residual-in_err-frame.result c.in_err-frame.field-0.0 _ c.from_residual-in_err-frame.ensures.1

pub returns-in_err-frame-clause-pays : goal.returns-in_err-frame-clause-pays
returns-in_err-frame-clause-pays c = no_ok c.from_residual-in_err-frame.result c.in_err-frame.field-0.0 _ c.from_residual-in_err-frame.ensures.1

pub returns-in_err-frame-clause-grows : goal.returns-in_err-frame-clause-grows
returns-in_err-frame-clause-grows c = no_ok c.from_residual-in_err-frame.result c.in_err-frame.field-0.0 _ c.from_residual-in_err-frame.ensures.1

pub returns-clause-fault_is_true : goal.returns-clause-fault_is_true
returns-clause-fault_is_true c = tt
