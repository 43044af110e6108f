use Rattle.fidl_decode_values.specs.Reading.{message}
use Rattle.fidl_decode_values.proofs.Fitting.{more_steps, spends_any, not_fewer}
use Rattle.fidl_decode_values.proofs.Unchanged.{same_le}
use Rattle.std.proofs.Common.{arith, inl, inr, ℕ, get_or, ◌<◌}
use Rattle.fidl_decode_model.specs.Machine.{at_of, Visits, Leads}
use Rattle.std.proofs.Common.{◌-◌, ◌+◌, ◌≤◌, IsTrue, length, sym, subst, ap, ◌∙◌, ◌≡◌}
use Rattle.std.specs.Prelude.{Some, None, IfSome}
use Rattle.std.specs.Int.{byte_len}
use Rattle.fidl_wire.specs.Term as ty
use Rattle.fidl_wire.specs.Term.{width}
use Rattle.fidl_table_format.specs.Uses.{is_unsigned}
use Rattle.fidl_table_format.specs.Entry.{subtype_is}
use Rattle.fidl_wire.specs.Typed.{InMask}
use Rattle.fidl_table_format.specs.Number.{number_standing}
use Rattle.fidl_table_format.specs.Terms.{underlying, mask_of, declarations_of, is_optional}
use Rattle.fidl_table_format.specs.declared.record.Entry.{Entry}
use Rattle.fidl_decode_model.specs.Breaks.{BreaksField, BreaksHandle, BreaksText}
use Rattle.fidl_decode_model.specs.State.{Position, ValueAt}
use Rattle.fidl_decode_model.specs.Work.{Work}
use Rattle.fidl_decode_model.proofs.Scalars.{light_handle}
use Rattle.fidl_decode_model.proofs.Turning.{on_ok_from, on_ok_two, on_ok_four}
use Rattle.std.proofs.lemmas.Result.{IfErr-weaker}
use Rattle.fidl_table_format.specs.declared.kind.EntryKind.{EntryKind}
use Rattle.fidl_table_format.specs.declared.kind.EntryKind.TheVariants.{Bool as Boolean, Bits, Enum, Handle, String, Vector}
use Rattle.fidl_table_format.specs.Kind.{kind_of}
use Rattle.fidl_table_format.specs.Section.{entry_at}
use Rattle.fidl_decode_model.proofs.Visiting.{size_is, size_as, visits_leaf, text_cost, leaf_breaks, fine_as, positive, bool_breaks, visits_bool, visits_free, visits_bits, bits_break, visits_enum, enum_breaks}
use Rattle.fidl_decode_model.specs.Invariants.{is_leaf}
use Rattle.fidl_decode_values.proofs.Sequences.{free_else, visits_numbers}
use Rattle.fidl_decode_values.proofs.ReadyPlaces.{place_of}
use Rattle.fidl_decode_model.specs.Frontier.{AreFree}
use Rattle.fidl_decode_values.proofs.decoder.Decoder.read_leaf.Goals as goal

pub byte_at-requires-clause-room : goal.byte_at-requires-clause-room
byte_at-requires-clause-room c =
    let pos = positive c.args.self.now.table.now c.args.self.now.fine c.args.entry c.requires.entry in
    let size = size_is c.args.self.now.table.now c.args.self.now.fine c.args.entry c.requires.entry in
    omega (arith, c.requires.room, pos, size)

pub returns-then-byte_at-gt1-clause-fault_is_true : goal.returns-then-byte_at-gt1-clause-fault_is_true
returns-then-byte_at-gt1-clause-fault_is_true c =
    let is : kind_of (entry_at c.args.self.now.table.now c.args.entry).kind ≡ Some Boolean = c.requires.kind ∙ ap (λ (k : EntryKind). Some k) c.in-Bool.is in
    bool_breaks c.args.self.now.table.now c.args.self.now.fine (message c.args.self.now) c.args.depth c.args.entry c.args.place (at_of c.args.state.now) c.requires.entry c.requires.state c.requires.depth is (omega (arith, c.if-byte_at-gt1.true, c.byte_at.ensures))

pub returns-else-byte_at-gt1-clause-ok : goal.returns-else-byte_at-gt1-clause-ok
returns-else-byte_at-gt1-clause-ok c =
    let is : kind_of (entry_at c.args.self.now.table.now c.args.entry).kind ≡ Some Boolean = c.requires.kind ∙ ap (λ (k : EntryKind). Some k) c.in-Bool.is in
    let pos = positive c.args.self.now.table.now c.args.self.now.fine c.args.entry c.requires.entry in
    let size = size_is c.args.self.now.table.now c.args.self.now.fine c.args.entry c.requires.entry in
    visits_bool c.args.self.now.table.now c.args.self.now.fine (message c.args.self.now) c.args.depth c.args.entry c.args.place (at_of c.args.state.now) c.requires.entry c.requires.state c.requires.depth _ (omega arith) is (omega (
      arith,
      c.requires.room,
      pos,
      size,
    )) (omega (arith, c.if-byte_at-gt1.false, c.byte_at.ensures))

pub returns-in_default-clause-ok : goal.returns-in_default-clause-ok
returns-in_default-clause-ok c =
    let t = c.args.self.now.table.now in
    let m = message c.args.self.now in
    let small : (i : ℕ) → get_or c.args.self.now.bytes.value.came i 0 < 256 = λ i. omega (arith, c.args.self.now.octets i) in
    elim (free_else t (entry_at t c.args.entry) c.args.kind c.requires.leaf c.in_default.not-Bool c.in_default.not-Bits c.in_default.not-Enum c.in_default.not-Handle c.in_default.not-String c.in_default.not-Vector) [
      | inl free ↦ visits_free t c.args.self.now.fine m c.args.depth c.args.entry c.args.place (at_of c.args.state.now) c.requires.entry c.requires.state c.requires.depth c.args.kind c.requires.kind free _ (omega arith) c.requires.room small
      | inr array ↦ (let none : 0 ≡ c.args.state.now.steps - c.args.state.now.steps = omega arith in
          subst (λ n. Visits t m c.args.depth c.args.entry c.args.place (at_of c.args.state.now) (at_of c.args.state.now) n None) none
          (visits_numbers t c.args.self.now.fine m c.args.depth c.args.entry c.args.place (at_of c.args.state.now) c.requires.entry c.requires.state c.requires.depth (c.requires.kind ∙ ap (λ (k : EntryKind). Some k) array.0) array.1 c.requires.room small))
    ]

pub read_numbers-requires-clause-kind : goal.read_numbers-requires-clause-kind
read_numbers-requires-clause-kind c = c.requires.kind ∙ ap (λ (k : EntryKind). Some k) c.in-Vector.is

pub read_numbers-requires-clause-free : goal.read_numbers-requires-clause-free
read_numbers-requires-clause-free c =
    let t = c.args.self.now.table.now in
    sym (ap (λ (k : EntryKind). is_leaf t (entry_at t c.args.entry) k) c.in-Vector.is) ∙ c.requires.leaf

pub read_numbers-requires-clause-room : goal.read_numbers-requires-clause-room
read_numbers-requires-clause-room c =
    let is : kind_of (entry_at c.args.self.now.table.now c.args.entry).kind ≡ Some Vector = c.requires.kind ∙ ap (λ (k : EntryKind). Some k) c.in-Vector.is in
    let size : 16 ≡ (entry_at c.args.self.now.table.now c.args.entry).size = size_as c.args.self.now.table.now c.args.self.now.fine c.args.entry Vector c.requires.entry is in
    omega (arith, c.requires.room, size)

pub returns-in-Bits-clause-ok : goal.returns-in-Bits-clause-ok
returns-in-Bits-clause-ok c =
    let is : kind_of (entry_at c.args.self.now.table.now c.args.entry).kind ≡ Some Bits = c.requires.kind ∙ ap (λ (k : EntryKind). Some k) c.in-Bits.is in
    let own : c.entry.result ≡ entry_at c.args.self.now.table.now c.args.entry = c.entry.ensures.value in
    on_ok_from c.read_bits.result (λ p. (visits_bits c.args.self.now.table.now c.args.self.now.fine (message c.args.self.now) c.args.depth c.args.entry c.args.place (at_of c.args.state.now) c.requires.entry c.requires.state c.requires.depth is
    (c.args.state.now.steps - c.args.state.now.steps) (omega (arith)) c.requires.room (λ i. omega (arith, c.args.self.now.octets i)) (subst (λ (d : Entry). IfSome (mask_of d) (λ mask. InMask mask (number_standing (underlying d) c.args.self.now.bytes.value.came c.args.place))) own p)))
    c.read_bits.ensures.ok

pub returns-in-Bits-clause-fault_is_true : goal.returns-in-Bits-clause-fault_is_true
returns-in-Bits-clause-fault_is_true c =
    let is : kind_of (entry_at c.args.self.now.table.now c.args.entry).kind ≡ Some Bits = c.requires.kind ∙ ap (λ (k : EntryKind). Some k) c.in-Bits.is in
    let own : c.entry.result ≡ entry_at c.args.self.now.table.now c.args.entry = c.entry.ensures.value in
    IfErr-weaker c.read_bits.result _ _ (λ fault b. bits_break c.args.self.now.table.now c.args.self.now.fine (message c.args.self.now) c.args.depth c.args.entry c.args.place (at_of c.args.state.now) c.requires.entry c.requires.state
    c.requires.depth is fault (subst (λ (d : Entry). BreaksField (message c.args.self.now) (ty.bits (underlying d) (mask_of d)) c.args.place fault) own b)) c.read_bits.ensures.fault_is_true

pub returns-in-Enum-clause-ok : goal.returns-in-Enum-clause-ok
returns-in-Enum-clause-ok c =
    let is : kind_of (entry_at c.args.self.now.table.now c.args.entry).kind ≡ Some Enum = c.requires.kind ∙ ap (λ (k : EntryKind). Some k) c.in-Enum.is in
    on_ok_from c.read_enum.result (λ p. subst (λ (s : Position). Visits c.args.self.now.table.now (message c.args.self.now) c.args.depth c.args.entry c.args.place (at_of c.args.state.now) s (c.read_enum.new.state.steps - c.args.state.now.steps) None) (sym
    c.read_enum.ensures.same)
    (visits_enum c.args.self.now.table.now c.args.self.now.fine (message c.args.self.now) c.args.depth c.args.entry c.args.place (at_of c.args.state.now) c.requires.entry c.requires.state c.requires.depth is
    (c.read_enum.new.state.steps - c.args.state.now.steps) (omega (arith, c.read_enum.ensures.spends.most)) c.requires.room
    (λ i. omega (arith, c.args.self.now.octets i)) p)) c.read_enum.ensures.ok

pub returns-in-Enum-clause-fault_is_true : goal.returns-in-Enum-clause-fault_is_true
returns-in-Enum-clause-fault_is_true c =
    let is : kind_of (entry_at c.args.self.now.table.now c.args.entry).kind ≡ Some Enum = c.requires.kind ∙ ap (λ (k : EntryKind). Some k) c.in-Enum.is in
    IfErr-weaker c.read_enum.result _ _
    (λ fault b. enum_breaks c.args.self.now.table.now c.args.self.now.fine (message c.args.self.now) c.args.depth c.args.entry c.args.place (at_of c.args.state.now) c.requires.entry c.requires.state c.requires.depth is fault b)
    c.read_enum.ensures.fault_is_true

pub read_enum-requires-clause-kind : goal.read_enum-requires-clause-kind
read_enum-requires-clause-kind c = c.requires.kind ∙ ap (λ (k : EntryKind). Some k) c.in-Enum.is

pub read_enum-requires-clause-entry : goal.read_enum-requires-clause-entry
read_enum-requires-clause-entry c = c.requires.entry

pub read_handle-requires-clause-room : goal.read_handle-requires-clause-room
read_handle-requires-clause-room c =
    let is : kind_of (entry_at c.args.self.now.table.now c.args.entry).kind ≡ Some Handle = c.requires.kind ∙ ap (λ (k : EntryKind). Some k) c.in-Handle.is in
    let size : 4 ≡ (entry_at c.args.self.now.table.now c.args.entry).size = size_as c.args.self.now.table.now c.args.self.now.fine c.args.entry Handle c.requires.entry is in
    omega (arith, c.requires.room, size)

pub returns-in-Handle-clause-ok : goal.returns-in-Handle-clause-ok
returns-in-Handle-clause-ok c =
    let is : kind_of (entry_at c.args.self.now.table.now c.args.entry).kind ≡ Some Handle = c.requires.kind ∙ ap (λ (k : EntryKind). Some k) c.in-Handle.is in
    let own : c.entry-in-Handle.result ≡ entry_at c.args.self.now.table.now c.args.entry = c.entry-in-Handle.ensures.value in
    on_ok_two c.read_handle.result
    (λ leads there. visits_leaf c.args.self.now.table.now c.args.self.now.fine (message c.args.self.now) c.args.depth c.args.entry c.args.place (at_of c.args.state.now) c.requires.entry c.requires.state c.requires.depth Handle is (at_of
    c.read_handle.new.state) (c.read_handle.new.state.steps - c.args.state.now.steps) (omega (arith, c.read_handle.ensures.next, c.read_handle.ensures.steps)) there
    (subst (λ (d : Entry). Leads (declarations_of c.args.self.now.table.now) (message c.args.self.now) c.args.depth (ty.handle (is_optional d) d.subtype d.rights) c.args.place (at_of c.args.state.now) (at_of c.read_handle.new.state)) own leads)
    (λ to x. omega (arith, light_handle (declarations_of c.args.self.now.table.now) (is_optional (entry_at c.args.self.now.table.now c.args.entry)) (entry_at c.args.self.now.table.now c.args.entry).subtype (entry_at c.args.self.now.table.now c.args.entry).rights x.value x.typed)))
    c.read_handle.ensures.ok
    c.read_handle.ensures.state

pub returns-in-Handle-clause-fault_is_true : goal.returns-in-Handle-clause-fault_is_true
returns-in-Handle-clause-fault_is_true c =
    let is : kind_of (entry_at c.args.self.now.table.now c.args.entry).kind ≡ Some Handle = c.requires.kind ∙ ap (λ (k : EntryKind). Some k) c.in-Handle.is in
    let own : c.entry-in-Handle.result ≡ entry_at c.args.self.now.table.now c.args.entry = c.entry-in-Handle.ensures.value in
    IfErr-weaker c.read_handle.result _ _ (λ fault b. leaf_breaks c.args.self.now.table.now c.args.self.now.fine (message c.args.self.now) c.args.depth c.args.entry c.args.place (at_of c.args.state.now) c.requires.entry c.requires.state
    c.requires.depth Handle is fault (subst (λ (d : Entry). BreaksHandle (message c.args.self.now) (is_optional d) d.subtype d.rights c.args.place c.args.state.now.handle fault) own b)) c.read_handle.ensures.fault_is_true

pub read_text-requires-clause-room : goal.read_text-requires-clause-room
read_text-requires-clause-room c =
    let is : kind_of (entry_at c.args.self.now.table.now c.args.entry).kind ≡ Some String = c.requires.kind ∙ ap (λ (k : EntryKind). Some k) c.in-String.is in
    let size : 16 ≡ (entry_at c.args.self.now.table.now c.args.entry).size = size_as c.args.self.now.table.now c.args.self.now.fine c.args.entry String c.requires.entry is in
    omega (arith, c.requires.room, size)

pub returns-in-String-clause-ok : goal.returns-in-String-clause-ok
returns-in-String-clause-ok c =
    let is : kind_of (entry_at c.args.self.now.table.now c.args.entry).kind ≡ Some String = c.requires.kind ∙ ap (λ (k : EntryKind). Some k) c.in-String.is in
    let own : c.entry-in-String.result ≡ entry_at c.args.self.now.table.now c.args.entry = c.entry-in-String.ensures.value in
    on_ok_four c.read_text.result
    (λ leads there spent least. visits_leaf c.args.self.now.table.now c.args.self.now.fine (message c.args.self.now) c.args.depth c.args.entry c.args.place (at_of c.args.state.now) c.requires.entry c.requires.state c.requires.depth String is (at_of
    c.read_text.new.state) (c.read_text.new.state.steps - c.args.state.now.steps)
    (text_cost (length c.args.self.now.bytes.value.came) c.args.state.now.next c.read_text.new.state.next c.args.state.now.steps
    c.read_text.new.state.steps spent there.next (not_fewer _ _ _ c.read_text.ensures.spends)) there
    (subst (λ (d : Entry). Leads (declarations_of c.args.self.now.table.now) (message c.args.self.now) c.args.depth (ty.string (is_optional d) d.bound) c.args.place (at_of c.args.state.now) (at_of c.read_text.new.state)) own leads)
    (subst (λ (d : Entry). (to : Position) (x : ValueAt (declarations_of c.args.self.now.table.now) (message c.args.self.now) c.args.depth
    (ty.string (is_optional d) d.bound) c.args.place (at_of c.args.state.now) to) → Work x.value ≤ c.read_text.new.state.steps -
    c.args.state.now.steps + 1) own least))
    c.read_text.ensures.ok
    c.read_text.ensures.state
    c.read_text.ensures.spent
    c.read_text.ensures.least

pub returns-in-String-clause-fault_is_true : goal.returns-in-String-clause-fault_is_true
returns-in-String-clause-fault_is_true c =
    let is : kind_of (entry_at c.args.self.now.table.now c.args.entry).kind ≡ Some String = c.requires.kind ∙ ap (λ (k : EntryKind). Some k) c.in-String.is in
    let own : c.entry-in-String.result ≡ entry_at c.args.self.now.table.now c.args.entry = c.entry-in-String.ensures.value in
    IfErr-weaker c.read_text.result _ _ (λ fault b. leaf_breaks c.args.self.now.table.now c.args.self.now.fine (message c.args.self.now) c.args.depth c.args.entry c.args.place (at_of c.args.state.now) c.requires.entry c.requires.state
    c.requires.depth String is fault (subst (λ (d : Entry). BreaksText (message c.args.self.now) c.args.depth (is_optional d) d.bound c.args.place c.args.state.now.next fault) own b)) c.read_text.ensures.fault_is_true

pub read_bits-requires-clause-kind : goal.read_bits-requires-clause-kind
read_bits-requires-clause-kind c =
    let is : kind_of (entry_at c.args.self.now.table.now c.args.entry).kind ≡ Some Bits = c.requires.kind ∙ ap (λ (k : EntryKind). Some k) c.in-Bits.is in
    subst (λ (d : Entry). IsTrue (subtype_is is_unsigned d)) (sym c.entry.ensures.value) (fine_as c.args.self.now.table.now c.args.self.now.fine c.args.entry Bits c.requires.entry is).content

pub read_bits-requires-clause-room : goal.read_bits-requires-clause-room
read_bits-requires-clause-room c =
    let is : kind_of (entry_at c.args.self.now.table.now c.args.entry).kind ≡ Some Bits = c.requires.kind ∙ ap (λ (k : EntryKind). Some k) c.in-Bits.is in
    let size : byte_len (width (underlying (entry_at c.args.self.now.table.now c.args.entry))) ≡ (entry_at c.args.self.now.table.now c.args.entry).size = size_as c.args.self.now.table.now c.args.self.now.fine c.args.entry Bits c.requires.entry is in
    subst (λ (d : Entry). c.args.place + byte_len (width (underlying d)) ≤ length c.args.self.now.bytes.value.came) (sym c.entry.ensures.value) (omega (arith, c.requires.room, size))

pub read_enum-requires-clause-room : goal.read_enum-requires-clause-room
read_enum-requires-clause-room c =
    let is : kind_of (entry_at c.args.self.now.table.now c.args.entry).kind ≡ Some Enum = c.requires.kind ∙ ap (λ (k : EntryKind). Some k) c.in-Enum.is in
    let size : byte_len (width (underlying (entry_at c.args.self.now.table.now c.args.entry))) ≡ (entry_at c.args.self.now.table.now c.args.entry).size = size_as c.args.self.now.table.now c.args.self.now.fine c.args.entry Enum c.requires.entry is in
    omega (arith, c.requires.room, size)

pub returns-then-byte_at-gt1-clause-ok : goal.returns-then-byte_at-gt1-clause-ok
returns-then-byte_at-gt1-clause-ok c = tt

pub returns-then-byte_at-gt1-clause-spends : goal.returns-then-byte_at-gt1-clause-spends
returns-then-byte_at-gt1-clause-spends c = spends_any _ _ _ (same_le _) (omega arith)

pub entry-requires : goal.entry-requires
entry-requires c = c.requires.entry

pub read_enum-requires-clause-budget : goal.read_enum-requires-clause-budget
read_enum-requires-clause-budget c = c.requires.budget

pub entry-requires-in-Handle : goal.entry-requires-in-Handle
entry-requires-in-Handle c = c.requires.entry

pub read_handle-requires-clause-depth : goal.read_handle-requires-clause-depth
read_handle-requires-clause-depth c = c.requires.depth

pub read_handle-requires-clause-state : goal.read_handle-requires-clause-state
read_handle-requires-clause-state c = c.requires.state

pub entry-requires-in-String : goal.entry-requires-in-String
entry-requires-in-String c = c.requires.entry

pub read_text-requires-clause-depth : goal.read_text-requires-clause-depth
read_text-requires-clause-depth c = c.requires.depth

pub read_text-requires-clause-state : goal.read_text-requires-clause-state
read_text-requires-clause-state c = c.requires.state

pub read_text-requires-clause-budget : goal.read_text-requires-clause-budget
read_text-requires-clause-budget c = c.requires.budget

pub returns-else-byte_at-gt1-clause-fault_is_true : goal.returns-else-byte_at-gt1-clause-fault_is_true
returns-else-byte_at-gt1-clause-fault_is_true c = tt

pub returns-else-byte_at-gt1-clause-spends : goal.returns-else-byte_at-gt1-clause-spends
returns-else-byte_at-gt1-clause-spends c = spends_any _ _ _ (same_le _) (omega arith)

pub returns-in-Bits-clause-spends : goal.returns-in-Bits-clause-spends
returns-in-Bits-clause-spends c = spends_any _ _ _ (same_le _) (omega arith)

pub returns-in-String-clause-spends : goal.returns-in-String-clause-spends
returns-in-String-clause-spends c = more_steps _ _ _ _ c.read_text.ensures.spends (omega arith)

pub returns-in_default-clause-fault_is_true : goal.returns-in_default-clause-fault_is_true
returns-in_default-clause-fault_is_true c = tt

pub returns-in_default-clause-spends : goal.returns-in_default-clause-spends
returns-in_default-clause-spends c = spends_any _ _ _ (same_le _) (omega arith)

pub returns-in-Enum-clause-spends : goal.returns-in-Enum-clause-spends
returns-in-Enum-clause-spends c = more_steps _ _ _ _ c.read_enum.ensures.spends (omega arith)

pub byte_at-requires-clause-free : goal.byte_at-requires-clause-free
byte_at-requires-clause-free c =
    let is : kind_of (entry_at c.args.self.now.table.now c.args.entry).kind ≡ Some Boolean = c.requires.kind ∙ ap (λ (k : EntryKind). Some k) c.in-Bool.is in
    (place_of c.args.self.now.table.now c.args.self.now.fine (message c.args.self.now) (at_of c.args.state.now) c.args.entry c.args.place Boolean c.requires.entry is c.requires.ready).1.free

pub read_bits-requires-clause-free : goal.read_bits-requires-clause-free
read_bits-requires-clause-free c =
    let is : kind_of (entry_at c.args.self.now.table.now c.args.entry).kind ≡ Some Bits = c.requires.kind ∙ ap (λ (k : EntryKind). Some k) c.in-Bits.is in
    subst (λ (d : Entry). AreFree (at_of c.args.state.now) c.args.place (c.args.place + byte_len (width (underlying d)))) (sym c.entry.ensures.value)
    (place_of c.args.self.now.table.now c.args.self.now.fine (message c.args.self.now) (at_of c.args.state.now) c.args.entry c.args.place Bits c.requires.entry is c.requires.ready).1.free

pub read_enum-requires-clause-free : goal.read_enum-requires-clause-free
read_enum-requires-clause-free c =
    let is : kind_of (entry_at c.args.self.now.table.now c.args.entry).kind ≡ Some Enum = c.requires.kind ∙ ap (λ (k : EntryKind). Some k) c.in-Enum.is in
    (place_of c.args.self.now.table.now c.args.self.now.fine (message c.args.self.now) (at_of c.args.state.now) c.args.entry c.args.place Enum c.requires.entry is c.requires.ready).1.free

pub read_handle-requires-clause-ready : goal.read_handle-requires-clause-ready
read_handle-requires-clause-ready c =
    let is : kind_of (entry_at c.args.self.now.table.now c.args.entry).kind ≡ Some Handle = c.requires.kind ∙ ap (λ (k : EntryKind). Some k) c.in-Handle.is in
    place_of c.args.self.now.table.now c.args.self.now.fine (message c.args.self.now) (at_of c.args.state.now) c.args.entry c.args.place Handle c.requires.entry is c.requires.ready

pub read_text-requires-clause-ready : goal.read_text-requires-clause-ready
read_text-requires-clause-ready c =
    let is : kind_of (entry_at c.args.self.now.table.now c.args.entry).kind ≡ Some String = c.requires.kind ∙ ap (λ (k : EntryKind). Some k) c.in-String.is in
    place_of c.args.self.now.table.now c.args.self.now.fine (message c.args.self.now) (at_of c.args.state.now) c.args.entry c.args.place String c.requires.entry is c.requires.ready

pub read_numbers-requires-clause-ready : goal.read_numbers-requires-clause-ready
read_numbers-requires-clause-ready c =
    let is : kind_of (entry_at c.args.self.now.table.now c.args.entry).kind ≡ Some Vector = c.requires.kind ∙ ap (λ (k : EntryKind). Some k) c.in-Vector.is in
    place_of c.args.self.now.table.now c.args.self.now.fine (message c.args.self.now) (at_of c.args.state.now) c.args.entry c.args.place Vector c.requires.entry is c.requires.ready
