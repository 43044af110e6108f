-- Each way out of the judgement of a frame gives its verdict.
use Rattle.std.proofs.Common.{◌≡◌, ℕ, List, Bool, true, false, if◌then◌else◌, arith, sym, ap, subst, ◌∙◌}
use Rattle.fidl_header.specs.Header.{IsHeader, header_of}
use Rattle.fidl_header.specs.Faults.{IsRefused}
use Rattle.fidl_header.specs.declared.header.Header.{Header}
use Rattle.fidl_header.specs.declared.fault.HeaderFault.{HeaderFault}
use Rattle.fidl_header.specs.declared.fault.HeaderFault.TheVariants.{Short, BadMagic, NotVersion2, Overflow}
use Rattle.fidl_verify.specs.Lookups.{TableProtocol, TableMethod, protocol_record}
use Rattle.fidl_requests.specs.declared.ended.Ended.TheVariants.{BadMessage}
use Rattle.fidl_requests.specs.declared.verdict.Verdict.{Verdict}
use Rattle.fidl_requests.specs.declared.verdict.Verdict.TheVariants.{Silence, Call, End}
use Rattle.fidl_requests.specs.Frame.{message_of}
use Rattle.fidl_requests.specs.Methods.{IsRequested, IsUnrequested, is_two_way}
use Rattle.fidl_requests.specs.Verdict.{frame_head, IsCalledRight, IsBody, IsVerdict, call_verdict, unknown_verdict}
use Rattle.fidl_requests.specs.Verdict.{no_header, unknown, wrong_call, bad_body, called}

-- bytes of which a refusal is true have no header
has_none : (bytes : List ℕ) (fault : HeaderFault) → IsRefused bytes fault → IsHeader bytes → ⊥
has_none bytes Short r h = let long = h.long in omega arith
has_none bytes BadMagic r h = r h.magic
has_none bytes NotVersion2 r h = h.version r
has_none bytes Overflow r h = r h.whole

module _ (p : TableProtocol) (frame message : List ℕ) (same : message ≡ message_of frame) where
  pub without_header : (fault : HeaderFault) → IsRefused message fault → IsVerdict p frame (End BadMessage)
  without_header fault r = no_header (λ h. has_none message fault r (subst IsHeader (sym same) h))

  -- a header has been read
  module _ (h : Header) (is : IsHeader message) (value : h ≡ header_of message) where
    begins : IsHeader (message_of frame)
    begins = subst IsHeader same is

    head : h ≡ frame_head frame
    head = value ∙ ap header_of same

    pub of_unknown : (openness : ℕ) (v : Verdict) → openness ≡ (protocol_record p).openness → IsUnrequested p h.ordinal → v ≡ unknown_verdict openness h → IsVerdict p frame v
    of_unknown openness v e none is_v =
        subst (λ (w : Verdict). IsVerdict p frame w) (sym (is_v ∙ ap (λ (n : ℕ). unknown_verdict n h) e ∙ ap (λ (g : Header). unknown_verdict (protocol_record p).openness g) head))
        (unknown begins (subst (λ (g : Header). IsUnrequested p g.ordinal) head none))

    -- a method of the table has the ordinal
    module _ (m : TableMethod) (of_table : m.table ≡ p.table) (some : IsRequested p h.ordinal m.number) (two_way : Bool) (way : two_way ≡ is_two_way m.table m.number) where
      asked : IsRequested p (frame_head frame).ordinal m.number
      asked = subst (λ (g : Header). IsRequested p g.ordinal m.number) head some

      its_way : two_way ≡ is_two_way p.table m.number
      its_way = way ∙ ap (λ (t : List ℕ). is_two_way t m.number) of_table

      right : IsCalledRight two_way h.txid → IsCalledRight (is_two_way p.table m.number) (frame_head frame).txid
      right c = subst (λ (b : Bool). IsCalledRight b (frame_head frame).txid) its_way (subst (λ (g : Header). IsCalledRight two_way g.txid) head c)

      wrong : (IsCalledRight two_way h.txid → ⊥) → IsCalledRight (is_two_way p.table m.number) (frame_head frame).txid → ⊥
      wrong n c = n (subst (λ (g : Header). IsCalledRight two_way g.txid) (sym head) (subst (λ (b : Bool). IsCalledRight b (frame_head frame).txid) (sym its_way) c))

      pub of_wrong_call : (IsCalledRight two_way h.txid → ⊥) → IsVerdict p frame (End BadMessage)
      of_wrong_call n = wrong_call m.number begins asked (wrong n)

      pub of_bad_body : (table : List ℕ) → p.table ≡ table → IsCalledRight two_way h.txid → (IsBody table m.number frame → ⊥) → IsVerdict p frame (End BadMessage)
      of_bad_body table e c n = bad_body m.number begins asked (right c) (subst (λ (t : List ℕ). IsBody t m.number frame → ⊥) (sym e) n)

      of_call : (table : List ℕ) → p.table ≡ table → IsCalledRight two_way h.txid → IsBody table m.number frame → IsVerdict p frame (call_verdict p.table m.number (frame_head frame))
      of_call table e c body = called m.number begins asked (right c) (subst (λ (t : List ℕ). IsBody t m.number frame) (sym e) body)

      by_way : (b : Bool) → is_two_way p.table m.number ≡ b → call_verdict p.table m.number (frame_head frame) ≡ (if b then Call h.txid h.ordinal else Silence)
      by_way b e = ap (λ (c : Bool). if c then Call (frame_head frame).txid (frame_head frame).ordinal else Silence) e ∙ ap (λ (g : Header). if b then Call g.txid g.ordinal else Silence) (sym head)

      pub of_two_way_call : (table : List ℕ) → p.table ≡ table → two_way ≡ true → IsCalledRight two_way h.txid → IsBody table m.number frame → IsVerdict p frame (Call h.txid h.ordinal)
      of_two_way_call table e t c body = subst (λ (w : Verdict). IsVerdict p frame w) (by_way true (sym its_way ∙ t)) (of_call table e c body)

      pub of_one_way_call : (table : List ℕ) → p.table ≡ table → two_way ≡ false → IsCalledRight two_way h.txid → IsBody table m.number frame → IsVerdict p frame Silence
      of_one_way_call table e t c body = subst (λ (w : Verdict). IsVerdict p frame w) (by_way false (sym its_way ∙ t)) (of_call table e c body)
