use Rattle.fidl_decode_values.specs.Reading.{message}
use Rattle.std.proofs.Common.{◌≡◌, ◌+◌, ◌<◌, length, get_or, refl, sym, subst, ◌∙◌, arith}
use Rattle.std.proofs.lemmas.Option.{slice_get-get_or}
use Rattle.fidl_wire.specs.declared.handle.HandleInfo.{HandleInfo}
use Rattle.fidl_wire.specs.Term as ty
use Rattle.fidl_table_format.specs.Terms.{declarations_of, is_optional}
use Rattle.fidl_decode_model.specs.State.{Position, taken}
use Rattle.fidl_decode_model.specs.Machine.{Leads, at_of}
use Rattle.fidl_decode_model.proofs.Carried.{absent_leads, handle_leads}
use Rattle.fidl_decode_values.proofs.Linking.{handle_at}
use Rattle.fidl_decode_values.proofs.decoder.Decoder.read_handle.Goals as goal

abbrev nobody : HandleInfo
nobody = record { id = 0; object_type = 0; rights = 0 }

pub returns-then-not-is_allowed-clause-fault_is_true : goal.returns-then-not-is_allowed-clause-fault_is_true
returns-then-not-is_allowed-clause-fault_is_true c =
    let within : c.args.state.now.handle < length c.args.self.now.handles.now = (let h = c.requires.state.handle in omega (arith, h, c.if-state-self.false)) in
    (refl, c.in-Present.ensures, (get_or c.args.self.now.handles.now c.args.state.now.handle nobody, slice_get-get_or c.args.self.now.handles.now c.args.state.now.handle nobody within, λ ok. let k = c.is_allowed.ensures.allowed.1 ok in cc))

pub returns-else-not-is_optional-clause-ok : goal.returns-else-not-is_optional-clause-ok
returns-else-not-is_optional-clause-ok c =
    absent_leads (declarations_of c.args.self.now.table.now) (message c.args.self.now) c.args.depth (is_optional c.args.entry.now)
    c.args.entry.now.subtype c.args.entry.now.rights c.args.place (at_of c.args.state.now) c.requires.depth
    (sym c.is_optional.ensures ∙ c.if-not-is_optional.false) c.in-Absent.ensures

pub returns-else-not-is_allowed-clause-ok : goal.returns-else-not-is_allowed-clause-ok
returns-else-not-is_allowed-clause-ok c =
    let within : c.args.state.now.handle < length c.args.self.now.handles.now = (let h = c.requires.state.handle in omega (arith, h, c.if-state-self.false)) in
    let same : taken c.args.place (at_of c.args.state.now) ≡ record { next = c.args.state.now.next; handle = c.args.state.now.handle + 1; objects = c.link_handle.new.self.objects; records = c.link_handle.new.self.records }
    = λ i. record { next = c.args.state.now.next; handle = c.args.state.now.handle + 1; objects = sym c.link_handle.ensures.objects i; records = sym c.link_handle.ensures.records i } in
    subst (λ (s : Position). Leads (declarations_of c.args.self.now.table.now) (message c.args.self.now) c.args.depth (ty.handle (is_optional c.args.entry.now) c.args.entry.now.subtype c.args.entry.now.rights) c.args.place (at_of c.args.state.now) s) same
    (handle_leads (declarations_of c.args.self.now.table.now) (message c.args.self.now) c.args.depth (is_optional c.args.entry.now)
    c.args.entry.now.subtype c.args.entry.now.rights c.args.place (at_of c.args.state.now) c.requires.depth c.in-Present.ensures
    (get_or c.args.self.now.handles.now c.args.state.now.handle nobody)
    (slice_get-get_or c.args.self.now.handles.now c.args.state.now.handle nobody within) c.is_allowed.ensures.handle
    (c.is_allowed.ensures.allowed.0 c.if-not-is_allowed.false))

pub presence_at-requires-clause-room : goal.presence_at-requires-clause-room
presence_at-requires-clause-room c = c.requires.room

pub returns-then-not-is_optional-clause-ok : goal.returns-then-not-is_optional-clause-ok
returns-then-not-is_optional-clause-ok c = tt

pub returns-then-not-is_optional-clause-state : goal.returns-then-not-is_optional-clause-state
returns-then-not-is_optional-clause-state c = tt

pub returns-then-not-is_optional-clause-next : goal.returns-then-not-is_optional-clause-next
returns-then-not-is_optional-clause-next c = refl

pub returns-then-not-is_optional-clause-steps : goal.returns-then-not-is_optional-clause-steps
returns-then-not-is_optional-clause-steps c = refl

pub returns-then-state-self-clause-ok : goal.returns-then-state-self-clause-ok
returns-then-state-self-clause-ok c = tt

pub returns-then-state-self-clause-state : goal.returns-then-state-self-clause-state
returns-then-state-self-clause-state c = tt

pub returns-then-state-self-clause-next : goal.returns-then-state-self-clause-next
returns-then-state-self-clause-next c = refl

pub returns-then-state-self-clause-steps : goal.returns-then-state-self-clause-steps
returns-then-state-self-clause-steps c = refl

pub returns-then-not-is_allowed-clause-ok : goal.returns-then-not-is_allowed-clause-ok
returns-then-not-is_allowed-clause-ok c = tt

pub returns-then-not-is_allowed-clause-state : goal.returns-then-not-is_allowed-clause-state
returns-then-not-is_allowed-clause-state c = tt

pub returns-then-not-is_allowed-clause-next : goal.returns-then-not-is_allowed-clause-next
returns-then-not-is_allowed-clause-next c = refl

pub returns-then-not-is_allowed-clause-steps : goal.returns-then-not-is_allowed-clause-steps
returns-then-not-is_allowed-clause-steps c = refl

pub returns-else-not-is_optional-clause-fault_is_true : goal.returns-else-not-is_optional-clause-fault_is_true
returns-else-not-is_optional-clause-fault_is_true c = tt

pub returns-else-not-is_optional-clause-next : goal.returns-else-not-is_optional-clause-next
returns-else-not-is_optional-clause-next c = refl

pub returns-else-not-is_optional-clause-steps : goal.returns-else-not-is_optional-clause-steps
returns-else-not-is_optional-clause-steps c = refl

pub returns-in-Neither-clause-ok : goal.returns-in-Neither-clause-ok
returns-in-Neither-clause-ok c = tt

pub returns-in-Neither-clause-state : goal.returns-in-Neither-clause-state
returns-in-Neither-clause-state c = tt

pub returns-in-Neither-clause-next : goal.returns-in-Neither-clause-next
returns-in-Neither-clause-next c = refl

pub returns-in-Neither-clause-steps : goal.returns-in-Neither-clause-steps
returns-in-Neither-clause-steps c = refl

pub returns-else-not-is_allowed-clause-fault_is_true : goal.returns-else-not-is_allowed-clause-fault_is_true
returns-else-not-is_allowed-clause-fault_is_true c = tt

pub returns-else-not-is_allowed-clause-next : goal.returns-else-not-is_allowed-clause-next
returns-else-not-is_allowed-clause-next c = refl

pub returns-else-not-is_allowed-clause-steps : goal.returns-else-not-is_allowed-clause-steps
returns-else-not-is_allowed-clause-steps c = refl

pub link_handle-requires : goal.link_handle-requires
link_handle-requires c =
    let x = handle_at c.args.state.now.links (message c.args.self.now) c.requires.holds c.args.state.now.next c.args.state.now.handle c.requires.state.next c.args.self.now.short
    c.args.place c.requires.ready.0 c.requires.ready.1 c.requires.ready.2 c.in-Present.ensures (omega (arith, c.requires.state.handle, c.if-state-self.false)) c.requires.state.few in
    record { aligned = x.aligned; within = x.within; present = x.present; few = x.few; free = x.free }
