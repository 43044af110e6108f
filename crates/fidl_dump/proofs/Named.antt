-- The line and the refusals of a frame whose header has been read.
use Rattle.std.proofs.Common.{◌≡◌, ℕ, List, inl, inr, sym, ap, subst, ◌∙◌}
use Rattle.fidl_wire.specs.Value.{Value}
use Rattle.fidl_table_format.specs.Section as section
use Rattle.fidl_table_format.specs.Method.{method_name, method_number, IsMethodAt, HasNoMethod}
use Rattle.fidl_header.specs.Header.{IsHeader, header_of}
use Rattle.fidl_header.specs.Faults.{IsRefused}
use Rattle.fidl_header.specs.declared.header.Header.{Header}
use Rattle.fidl_header.specs.declared.fault.HeaderFault.{HeaderFault}
use Rattle.fidl_decode_model.specs.declared.fault.DecodeFault.{DecodeFault}
use Rattle.fidl_verify.specs.declared.method.Payload.{Payload}
use Rattle.fidl_verify.specs.declared.method.Payload.TheVariants.{Missing, Empty, Entry}
use Rattle.fidl_verify.specs.Lookups.{TableProtocol, TableMethod, method_record}
use Rattle.fidl_requests.specs.Frame.{message_of}
use Rattle.fidl_requests.specs.Methods.{record_of}
use Rattle.fidl_requests.specs.Verdict.{frame_head}
use Rattle.fidl_dump.specs.declared.direction.Direction.{Direction}
use Rattle.fidl_dump.specs.declared.fault.FrameFault.{FrameFault}
use Rattle.fidl_dump.specs.declared.fault.FrameFault.TheVariants as fault
use Rattle.fidl_dump.specs.Methods.{carried_by, carried_of, NamesMethod, IsUnknown, full_name_of}
use Rattle.fidl_dump.specs.Lines.{IsBare, Holds, value_text, unknown_line, bare_line, value_line, IsLine, unknown, bare, valued}
use Rattle.fidl_dump.specs.Faults.{IsBodyFault, IsFrameFault, no_header, no_value, not_bare}

-- the method of an ordinal, as a look-up finds it
abbrev Found : (p : TableProtocol) (ordinal : ℕ) (m : TableMethod) → Type 0
Found p ordinal m = (place : ℕ) × IsMethodAt p.table (section.header_of p.table) p.number ordinal place × (m.number ≡ method_number p.table (section.header_of p.table) p.number place)

module _ (p : TableProtocol) (direction : Direction) (frame message : List ℕ) (same : message ≡ message_of frame) where
  pub without_header : (f : HeaderFault) → IsRefused message f → IsFrameFault p direction frame (fault.Header f)
  without_header f r = no_header f (subst (λ (m : List ℕ). IsRefused m f) same r)

  -- a header has been read
  module _ (h : Header) (is : IsHeader message) (value : h ≡ header_of message) where
    pub begins : IsHeader (message_of frame)
    begins = subst IsHeader same is

    head : h ≡ frame_head frame
    head = value ∙ ap header_of same

    pub of_unknown : IsUnknown p direction h.ordinal → (line : List ℕ) → line ≡ unknown_line h → IsLine p direction frame line
    of_unknown u line e = subst (IsLine p direction frame) (sym (e ∙ ap unknown_line head)) (unknown begins (subst (λ (g : Header). IsUnknown p direction g.ordinal) head u))

    pub of_none : HasNoMethod p.table (section.header_of p.table) p.number h.ordinal → (line : List ℕ) → line ≡ unknown_line h → IsLine p direction frame line
    of_none none = of_unknown (inl none)

    -- a method of the table has the ordinal, and its message carries this
    module _ (m : TableMethod) (of_table : m.table ≡ p.table) (found : Found p h.ordinal m) (carries : Payload) (carried : carries ≡ carried_by direction (method_record m)) where
      its_payload : carries ≡ carried_of p.table direction m.number
      its_payload = carried ∙ ap (λ (t : List ℕ). carried_by direction (record_of t m.number)) of_table

      named : NamesMethod p (frame_head frame).ordinal m.number
      named = subst (λ (g : Header). NamesMethod p g.ordinal m.number) head (record { place = found.0; at = found.1; is = found.2 })

      pub of_missing : carries ≡ Missing → (line : List ℕ) → line ≡ unknown_line h → IsLine p direction frame line
      of_missing e = of_unknown (inr (m.number, record { place = found.0; at = found.1; is = found.2 }, sym its_payload ∙ e))

      its_name : (name : List ℕ) → name ≡ method_name m.table (section.header_of m.table) m.number → name ≡ full_name_of p.table m.number
      its_name name e = e ∙ ap (λ (t : List ℕ). full_name_of t m.number) of_table

      pub of_bare : carries ≡ Empty → (name : List ℕ) → name ≡ method_name m.table (section.header_of m.table) m.number → (line : List ℕ) → IsBare frame × (line ≡ bare_line h name) → IsLine p direction frame line
      of_bare e name n line b =
          subst (IsLine p direction frame) (sym (b.1 ∙ ap (λ (l : List ℕ). bare_line h l) (its_name name n) ∙ ap (λ (g : Header). bare_line g (full_name_of p.table m.number)) head))
          (bare m.number begins named (sym its_payload ∙ e) b.0)

      pub of_not_bare : carries ≡ Empty → (f : FrameFault) → (f ≡ fault.BadMessage) × (IsBare frame → ⊥) → IsFrameFault p direction frame f
      of_not_bare e f b = subst (IsFrameFault p direction frame) (sym b.0) (not_bare m.number begins named (sym its_payload ∙ e) b.1)

      -- it carries a value of the type of an entry
      module _ (entry : ℕ) (e : carries ≡ Entry entry) (table : List ℕ) (t : p.table ≡ table) where
        pub of_value : (name : List ℕ) → name ≡ method_name m.table (section.header_of m.table) m.number → (line : List ℕ) → ((v : Value) × Holds table entry frame v × (line ≡ value_line h name (value_text table entry v)))
            → IsLine p direction frame line
        of_value name n line b =
            subst (IsLine p direction frame)
            (sym (b.2 ∙ ap (λ (l : List ℕ). value_line h l (value_text table entry b.0)) (its_name name n) ∙ ap (λ (g : Header). value_line g (full_name_of p.table m.number) (value_text table entry b.0)) head
            ∙ ap (λ (l : List ℕ). value_line (frame_head frame) (full_name_of p.table m.number) (value_text l entry b.0)) (sym t)))
            (valued m.number entry b.0 begins named (sym its_payload ∙ e) (subst (λ (l : List ℕ). Holds l entry frame b.0) (sym t) b.1))

        pub of_no_value : (f : FrameFault) → ((refused : DecodeFault) × (f ≡ fault.Body refused) × IsBodyFault table entry frame refused) → IsFrameFault p direction frame f
        of_no_value f b = subst (IsFrameFault p direction frame) (sym b.1) (no_value m.number entry b.0 begins named (sym its_payload ∙ e) (subst (λ (l : List ℕ). IsBodyFault l entry frame b.0) (sym t) b.2))
