use Rattle.fidl_decode_values.specs.Reading.{message}
use Rattle.fidl_decode_values.proofs.Unchanged.{no_ok}
use Rattle.std.proofs.Common.{◌≡◌, ◌-◌, sym, ap, subst, arith}
use Rattle.std.specs.Prelude.{Option, Some, None}
use Rattle.fidl_table_format.specs.declared.record.Row as raw
use Rattle.fidl_table_format.specs.Terms.{declarations_of}
use Rattle.fidl_wire.specs.Term as ty
use Rattle.fidl_decode_model.specs.State.{Position}
use Rattle.fidl_decode_model.specs.Breaks.{BreaksMember}
use Rattle.fidl_decode_model.specs.Machine.{StateFine, Opens, member_term, at_of}
use Rattle.fidl_decode_model.proofs.Turning.{passed_on}
use Rattle.fidl_decode_values.proofs.Opening.{opens_known, opens_unknown}
use Rattle.fidl_decode_values.proofs.decoder.Decoder.open_envelope.Goals as goal

pub returns-in_default-clause-ok : goal.returns-in_default-clause-ok
returns-in_default-clause-ok c =
    subst (λ (o : Option raw.Row). Opens c.args.self.now.table.now (message c.args.self.now) c.args.depth (member_term o) c.args.envelope (at_of c.args.state.now) (at_of c.skip_member.new.state) (c.skip_member.new.state.steps - c.args.state.now.steps) None) (sym c.in_default.is)
    (opens_unknown c.args.self.now.table.now (message c.args.self.now) c.args.depth c.args.envelope (at_of c.args.state.now) (at_of c.skip_member.new.state) c.in_ok-skip_member.ensures.state _ c.in_ok-skip_member.ensures.grows c.in_ok-skip_member.ensures.ok c.args.self.now.fine)

pub skip_member-requires-clause-room : goal.skip_member-requires-clause-room
skip_member-requires-clause-room c = c.requires.room

pub skip_member-requires-clause-state : goal.skip_member-requires-clause-state
skip_member-requires-clause-state c = c.requires.state

pub skip_member-requires-clause-depth : goal.skip_member-requires-clause-depth
skip_member-requires-clause-depth c = c.requires.depth

pub returns-in_err-skip_member-clause-ok : goal.returns-in_err-skip_member-clause-ok
returns-in_err-skip_member-clause-ok c = no_ok c.from_residual.result c.in_err-skip_member.field-0.0 _ c.from_residual.ensures.1

pub returns-in_default-clause-fault_is_true : goal.returns-in_default-clause-fault_is_true
returns-in_default-clause-fault_is_true c = tt

pub enter_member-requires-clause-room : goal.enter_member-requires-clause-room
enter_member-requires-clause-room c = c.requires.room

pub enter_member-requires-clause-depth : goal.enter_member-requires-clause-depth
enter_member-requires-clause-depth c = c.requires.depth

pub returns-in_err-frame-clause-ok : goal.returns-in_err-frame-clause-ok
returns-in_err-frame-clause-ok c = no_ok c.from_residual-in_err-frame.result c.in_err-frame.field-0.0 _ c.from_residual-in_err-frame.ensures.1

pub returns-clause-fault_is_true : goal.returns-clause-fault_is_true
returns-clause-fault_is_true c = tt

pub returns-in_default-clause-pays : goal.returns-in_default-clause-pays
returns-in_default-clause-pays c =
    let t = c.args.self.now.table.now in
    let m = message c.args.self.now in
    let old = at_of c.args.state.now in
    let new = at_of c.skip_member.new.state in
    let x = c.in_ok-skip_member.ensures in
    let o = opens_unknown t m c.args.depth c.args.envelope old new x.state 0 x.grows x.ok c.args.self.now.fine in
    omega (arith, o.less, x.steps)

pub returns-in_default-clause-spends : goal.returns-in_default-clause-spends
returns-in_default-clause-spends c =
    let still = c.in_ok-skip_member.ensures.steps in
    record { least = omega (arith, still); most = omega (arith, still) }

pub returns-in_err-skip_member-clause-pays : goal.returns-in_err-skip_member-clause-pays
returns-in_err-skip_member-clause-pays c =
    no_ok c.from_residual.result c.in_err-skip_member.field-0.0 _ c.from_residual.ensures.1

pub returns-in_err-skip_member-clause-spends : goal.returns-in_err-skip_member-clause-spends
returns-in_err-skip_member-clause-spends c =
    let still = c.in_err-skip_member.ensures.steps in
    record { least = omega (arith, still); most = omega (arith, still) }

pub pass_member-requires-clause-room : goal.pass_member-requires-clause-room
pass_member-requires-clause-room c =
    c.requires.room

pub pass_member-requires-clause-state : goal.pass_member-requires-clause-state
pass_member-requires-clause-state c =
    c.requires.state

pub pass_member-requires-clause-depth : goal.pass_member-requires-clause-depth
pass_member-requires-clause-depth c =
    c.requires.depth

pub pass_member-requires-clause-budget : goal.pass_member-requires-clause-budget
pass_member-requires-clause-budget c =
    c.requires.budget

pub returns-then-pass_member-clause-ok : goal.returns-then-pass_member-clause-ok
returns-then-pass_member-clause-ok c =
    let t = c.args.self.now.table.now in
    let m = message c.args.self.now in
    let old = at_of c.args.state.now in
    subst (λ (o : Option raw.Row). Opens t m c.args.depth (member_term o) c.args.envelope old (at_of c.pass_member.new.state) (c.pass_member.new.state.steps - c.args.state.now.steps) None) (sym c.in-Some.is) (c.pass_member.ensures.passed c.if-pass_member.true)

pub returns-then-pass_member-clause-pays : goal.returns-then-pass_member-clause-pays
returns-then-pass_member-clause-pays c =
    let o = c.pass_member.ensures.passed c.if-pass_member.true in
    let less = o.less in
    let within = o.state.next in
    let pays = c.pass_member.ensures.pays in
    let grows = c.pass_member.ensures.grows in
    omega (arith, less, within, pays, grows)

pub returns-then-pass_member-clause-spends : goal.returns-then-pass_member-clause-spends
returns-then-pass_member-clause-spends c =
    let o = c.pass_member.ensures.passed c.if-pass_member.true in
    let within = o.state.next in
    let pays = c.pass_member.ensures.pays in
    let grows = c.pass_member.ensures.grows in
    record { least = omega (arith, grows); most = omega (arith, within, pays) }

pub returns-then-pass_member-clause-fault_is_true : goal.returns-then-pass_member-clause-fault_is_true
returns-then-pass_member-clause-fault_is_true c =
    tt

pub enter_member-requires-clause-state : goal.enter_member-requires-clause-state
enter_member-requires-clause-state c =
    let m = message c.args.self.now in
    let old = at_of c.args.state.now in
    let kept : at_of c.pass_member.new.state ≡ old = c.pass_member.ensures.kept c.if-pass_member.false in
    subst (λ (s : Position). StateFine m s) (sym kept) c.requires.state

pub returns-in_err-frame-clause-pays : goal.returns-in_err-frame-clause-pays
returns-in_err-frame-clause-pays c =
    no_ok c.from_residual-in_err-frame.result c.in_err-frame.field-0.0 _ c.from_residual-in_err-frame.ensures.1

pub returns-in_err-frame-clause-spends : goal.returns-in_err-frame-clause-spends
returns-in_err-frame-clause-spends c =
    let old = at_of c.args.state.now in
    let kept : at_of c.pass_member.new.state ≡ old = c.pass_member.ensures.kept c.if-pass_member.false in
    let next : c.pass_member.new.state.next ≡ c.args.state.now.next = ap (λ (s : Position). s.next) kept in
    let still : c.pass_member.new.state.steps ≡ c.args.state.now.steps = omega (arith, next, c.pass_member.ensures.grows, c.pass_member.ensures.pays) in
    let steps = c.in_err-frame.ensures.steps in
    record { least = omega (arith, still, steps); most = omega (arith, still, steps) }

pub returns-in_err-frame-clause-fault_is_true : goal.returns-in_err-frame-clause-fault_is_true
returns-in_err-frame-clause-fault_is_true c =
    let t = c.args.self.now.table.now in
    let m = message c.args.self.now in
    let old = at_of c.args.state.now in
    let kept : at_of c.pass_member.new.state ≡ old = c.pass_member.ensures.kept c.if-pass_member.false in
    passed_on c.from_residual-in_err-frame.result c.in_err-frame.field-0.0 _ c.from_residual-in_err-frame.ensures.1
    (subst (λ (o : Option raw.Row). BreaksMember (declarations_of t) m c.args.depth (member_term o) c.args.envelope old c.in_err-frame.field-0.0) (sym c.in-Some.is)
    (subst (λ (s : Position). BreaksMember (declarations_of t) m c.args.depth (Some (ty.named c.in-Some.row.entry)) c.args.envelope s c.in_err-frame.field-0.0) kept c.in_err-frame.ensures.fault_is_true))

pub returns-clause-ok : goal.returns-clause-ok
returns-clause-ok c =
    let t = c.args.self.now.table.now in
    let m = message c.args.self.now in
    let old = at_of c.args.state.now in
    let kept : at_of c.pass_member.new.state ≡ old = c.pass_member.ensures.kept c.if-pass_member.false in
    let new = at_of c.enter_member.new.state in
    let x = c.in_ok-frame.ensures in
    let o = opens_known t m c.args.depth c.args.envelope (at_of c.pass_member.new.state) new x.state (c.enter_member.new.state.steps - c.args.state.now.steps) c.in-Some.row.entry c.in_ok-frame.frame x.grows x.ok x.breaks x.least x.fine x.deeper x.work x.moves in
    subst (λ (o : Option raw.Row). Opens t m c.args.depth (member_term o) c.args.envelope old new (c.enter_member.new.state.steps - c.args.state.now.steps) (Some c.in_ok-frame.frame)) (sym c.in-Some.is)
    (subst (λ (s : Position). Opens t m c.args.depth (Some (ty.named c.in-Some.row.entry)) c.args.envelope s new (c.enter_member.new.state.steps - c.args.state.now.steps) (Some c.in_ok-frame.frame)) kept o)

pub returns-clause-pays : goal.returns-clause-pays
returns-clause-pays c =
    let t = c.args.self.now.table.now in
    let m = message c.args.self.now in
    let old = at_of c.args.state.now in
    let kept : at_of c.pass_member.new.state ≡ old = c.pass_member.ensures.kept c.if-pass_member.false in
    let next : c.pass_member.new.state.next ≡ c.args.state.now.next = ap (λ (s : Position). s.next) kept in
    let still : c.pass_member.new.state.steps ≡ c.args.state.now.steps = omega (arith, next, c.pass_member.ensures.grows, c.pass_member.ensures.pays) in
    let new = at_of c.enter_member.new.state in
    let x = c.in_ok-frame.ensures in
    let o = opens_known t m c.args.depth c.args.envelope (at_of c.pass_member.new.state) new x.state (c.enter_member.new.state.steps - c.args.state.now.steps) c.in-Some.row.entry c.in_ok-frame.frame x.grows x.ok x.breaks x.least x.fine x.deeper x.work x.moves in
    let less = o.less in
    let steps = x.steps in
    omega (arith, less, next, still, steps)

pub returns-clause-spends : goal.returns-clause-spends
returns-clause-spends c =
    let old = at_of c.args.state.now in
    let kept : at_of c.pass_member.new.state ≡ old = c.pass_member.ensures.kept c.if-pass_member.false in
    let next : c.pass_member.new.state.next ≡ c.args.state.now.next = ap (λ (s : Position). s.next) kept in
    let still : c.pass_member.new.state.steps ≡ c.args.state.now.steps = omega (arith, next, c.pass_member.ensures.grows, c.pass_member.ensures.pays) in
    let steps = c.in_ok-frame.ensures.steps in
    record { least = omega (arith, still, steps); most = omega (arith, still, steps) }
