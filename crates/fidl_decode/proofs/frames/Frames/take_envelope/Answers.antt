use Rattle.fidl_decode_values.specs.Reading.{message}
use Rattle.std.proofs.Common.{◌≡◌, ◌+◌, ◌-◌, sym, ap, subst, ◌∙◌, arith, add-one, false, true}
use Rattle.std.specs.Prelude.{Option, Some, None}
use Rattle.fidl_wire.specs.Term.{Term, find}
use Rattle.fidl_wire.specs.Encoding.{zeros}
use Rattle.fidl_wire.specs.Standing.{Stands}
use Rattle.fidl_table_format.specs.Terms.{declarations_of, members_of}
use Rattle.fidl_decode_model.specs.declared.frame.Frame.{Frame}
use Rattle.fidl_decode_model.specs.declared.frame.Remaining.TheVariants.{Envelopes}
use Rattle.fidl_decode_model.specs.Breaks.{BreaksMember}
use Rattle.fidl_decode_model.specs.Machine.{Turns, Opens, PaysEnvelope, BreaksFrame, FrameFine, member_term, at_of}
use Rattle.std.proofs.lemmas.Result.{IfErr-weaker}
use Rattle.fidl_decode_columns.proofs.Leaves.{going_on, same_frame}
use Rattle.fidl_decode_model.proofs.Turning.{if_ok_on, if_ok_two, on_ok_from}
use Rattle.fidl_decode_values.proofs.EnvelopeTurns.{member_found, envelope_room, envelope_absent, envelope_opened, envelope_breaks}
use Rattle.fidl_decode_values.proofs.ReadyBelow.{slot_ready}
use Rattle.fidl_decode.proofs.frames.Frames.take_envelope.Goals as goal

no_true : false ≡ true → ⊥
no_true e = cc

pub returns-then-is_absent-clause-ok : goal.returns-then-is_absent-clause-ok
returns-then-is_absent-clause-ok c =
    let t = c.args.self.now.decoder.table.now in
    let m = message c.args.self.now.decoder in
    let same = same_frame c.args.frame (Envelopes c.args.entry c.args.read c.args.count) c.requires.left in
    let some = c.requires.some in
    let z : Stands c.args.self.now.decoder.bytes.value.came (c.args.frame.base + c.args.frame.done) (zeros 8) = c.is_absent.ensures.0 c.if-is_absent.true in
    subst (λ (f : Frame). Turns t m f (at_of c.args.state.now) (at_of c.args.state.now) (c.args.state.now.steps + 1 - c.args.state.now.steps)
    (record {
      below = None;
      rest = Some (going_on c.args.frame (Envelopes c.args.entry (c.args.read + 1) (c.args.count - 1))
          (c.args.frame.done + 8));
    })) (sym same)
    (envelope_absent t c.args.self.now.decoder.fine m (c.args.self.now.decoder.short, c.requires.state.few) c.args.frame c.args.entry c.args.read c.args.count
    (at_of c.args.state.now) (subst (λ (f : Frame). FrameFine t m.bytes f) same c.requires.frame) c.requires.state (c.args.read + 1)
    (c.args.count - 1) (add-one c.args.read) (omega (arith, some)) some z (c.args.state.now.steps + 1 - c.args.state.now.steps) (omega arith))

pub read_member-requires-clause-budget : goal.read_member-requires-clause-budget
read_member-requires-clause-budget c =
    let t = c.args.self.now.decoder.table.now in
    let m = message c.args.self.now.decoder in
    let f = c.args.frame in
    let old = at_of c.args.state.now in
    let same = same_frame f (Envelopes c.args.entry c.args.read c.args.count) c.requires.left in
    let gf = subst (λ (f : Frame). FrameFine t m.bytes f) same c.requires.frame in
    let some = c.requires.some in
    let room = envelope_room t c.args.self.now.decoder.fine m (c.args.self.now.decoder.short, c.requires.state.few) f c.args.entry c.args.read c.args.count old gf c.requires.state (c.args.read + 1) (c.args.count - 1) (add-one c.args.read) (omega (arith, some)) some in
    let few = c.row_of-member.ensures.few in
    omega (arith, room, few, c.requires.budget)

pub returns-clause-ok : goal.returns-clause-ok
returns-clause-ok c =
    let t = c.args.self.now.decoder.table.now in
    let m = message c.args.self.now.decoder in
    let f = c.args.frame in
    let old = at_of c.args.state.now in
    let same = same_frame f (Envelopes c.args.entry c.args.read c.args.count) c.requires.left in
    let gf = subst (λ (f : Frame). FrameFine t m.bytes f) same c.requires.frame in
    let some = c.requires.some in
    let few = c.row_of-member.ensures.few in
    let grows = c.row_of-member.ensures.grows in
    let place = f.base + f.done in
    let there : Stands m.bytes place (zeros 8) → ⊥ = λ z. no_true (sym c.if-is_absent.false ∙ c.is_absent.ensures.1 z) in
    let is = ap (λ n. find (members_of t c.args.entry) n) (sym (add-one c.args.read)) ∙ member_found (members_of t c.args.entry) (c.args.read + 1) c.row_of-member.result c.row_of-member.ensures.none c.row_of-member.ensures.some in
    let new = at_of c.read_member.new.state in
    let spent = c.read_member.new.state.steps - c.row_of-member.new.probes in
    let all = c.read_member.new.state.steps - c.args.state.now.steps in
    let P : Option Frame → Type 0 = λ below. Opens t m f.depth (member_term c.row_of-member.result) place old new spent below × PaysEnvelope m.bytes old.next new.next spent below in
    let R : Option Frame → Type 0 = λ below. Turns t m f old new all (record { below = below; rest = Some (going_on f (Envelopes c.args.entry (c.args.read + 1) (c.args.count - 1)) (f.done + 8)) }) in
    if_ok_on c.read_member.result P R
    (λ below o more. subst (λ (g : Frame). Turns t m g old new all (record { below = below; rest = Some (going_on f (Envelopes c.args.entry (c.args.read + 1) (c.args.count - 1)) (f.done + 8)) })) (sym same)
    (envelope_opened t c.args.self.now.decoder.fine m (c.args.self.now.decoder.short, c.requires.state.few) f c.args.entry c.args.read c.args.count old gf
    c.requires.state (c.args.read + 1) (c.args.count - 1) (add-one c.args.read) (omega (arith, some)) some there below new spent all
    (omega (arith, grows, more)) (omega (arith, few, grows)) o.1 (subst (λ (o : Option Term). Opens t m f.depth o place old new spent below)
    (sym is) o.0)))
    (if_ok_two c.read_member.result (Opens t m f.depth (member_term c.row_of-member.result) place old new spent) (PaysEnvelope m.bytes old.next new.next spent) P (λ below o pays. (o, pays)) c.read_member.ensures.ok c.read_member.ensures.pays)
    c.read_member.ensures.grows

pub returns-clause-rises : goal.returns-clause-rises
returns-clause-rises c =
    let grows = c.row_of-member.ensures.grows in
    on_ok_from c.read_member.result (λ more. omega (arith, grows, more)) c.read_member.ensures.grows

pub returns-clause-cost : goal.returns-clause-cost
returns-clause-cost c =
    let t = c.args.self.now.decoder.table.now in
    let m = message c.args.self.now.decoder in
    let f = c.args.frame in
    let old = at_of c.args.state.now in
    let same = same_frame f (Envelopes c.args.entry c.args.read c.args.count) c.requires.left in
    let gf = subst (λ (f : Frame). FrameFine t m.bytes f) same c.requires.frame in
    let some = c.requires.some in
    let room = envelope_room t c.args.self.now.decoder.fine m (c.args.self.now.decoder.short, c.requires.state.few) f c.args.entry c.args.read c.args.count old gf c.requires.state (c.args.read + 1) (c.args.count - 1) (add-one c.args.read) (omega (arith, some)) some in
    let few = c.row_of-member.ensures.few in
    omega (arith, room, few, c.read_member.ensures.cost)

pub returns-clause-fault_is_true : goal.returns-clause-fault_is_true
returns-clause-fault_is_true c =
    let t = c.args.self.now.decoder.table.now in
    let m = message c.args.self.now.decoder in
    let f = c.args.frame in
    let old = at_of c.args.state.now in
    let same = same_frame f (Envelopes c.args.entry c.args.read c.args.count) c.requires.left in
    let gf = subst (λ (f : Frame). FrameFine t m.bytes f) same c.requires.frame in
    let some = c.requires.some in
    let place = f.base + f.done in
    let there : Stands m.bytes place (zeros 8) → ⊥ = λ z. no_true (sym c.if-is_absent.false ∙ c.is_absent.ensures.1 z) in
    let is = ap (λ n. find (members_of t c.args.entry) n) (sym (add-one c.args.read)) ∙ member_found (members_of t c.args.entry) (c.args.read + 1) c.row_of-member.result c.row_of-member.ensures.none c.row_of-member.ensures.some in
    IfErr-weaker c.read_member.result _ _
    (λ fault b. subst (λ (g : Frame). BreaksFrame t m g old fault) (sym same)
    (envelope_breaks t c.args.self.now.decoder.fine m (c.args.self.now.decoder.short, c.requires.state.few) f c.args.entry c.args.read c.args.count old gf
    c.requires.state (c.args.read + 1) (c.args.count - 1) (add-one c.args.read) (omega (arith, some)) some there fault
    (subst (λ (o : Option Term). BreaksMember (declarations_of t) m f.depth o place old fault) (sym is) b)))
    c.read_member.ensures.fault_is_true

pub returns-then-is_absent-clause-fault_is_true : goal.returns-then-is_absent-clause-fault_is_true
returns-then-is_absent-clause-fault_is_true c = tt

pub row_of-member-requires-clause-parts : goal.row_of-member-requires-clause-parts
row_of-member-requires-clause-parts c = c.requires.parts

pub read_member-requires-clause-state : goal.read_member-requires-clause-state
read_member-requires-clause-state c = c.requires.state

pub is_absent-requires-clause-free : goal.is_absent-requires-clause-free
is_absent-requires-clause-free c =
    (slot_ready c.args.self.now.decoder.table.now (message c.args.self.now.decoder) (at_of c.args.state.now) c.args.frame c.args.entry c.args.read c.args.count c.requires.left c.requires.some c.requires.frame c.requires.ready).1.free

pub read_member-requires-clause-ready : goal.read_member-requires-clause-ready
read_member-requires-clause-ready c =
    slot_ready c.args.self.now.decoder.table.now (message c.args.self.now.decoder) (at_of c.args.state.now) c.args.frame c.args.entry c.args.read c.args.count c.requires.left c.requires.some c.requires.frame c.requires.ready
