-- A frame has at most one line, and none where a refusal is true of it.
use Rattle.std.proofs.Common.{◌≡◌, ℕ, ◌<◌, List, ◌++◌, inl, inr, arith, refl, sym, ap, ap₂, subst, ◌∙◌}
use Rattle.fidl_wire.specs.declared.handle.HandleInfo.{HandleInfo}
use Rattle.fidl_wire.specs.Term as ty
use Rattle.fidl_wire.specs.Value.{Value}
use Rattle.fidl_wire.specs.Message.{IsEncoding}
use Rattle.fidl_wire.proofs.Unique.{one_value}
use Rattle.fidl_table_format.specs.Section as section
use Rattle.fidl_table_format.specs.Terms.{declarations_of}
use Rattle.fidl_table_format.specs.Method.{method_number, MessagesHold, has_request, has_response}
use Rattle.fidl_header.specs.Header.{IsHeader}
use Rattle.fidl_header.specs.Faults.{IsRefused}
use Rattle.fidl_header.specs.declared.fault.HeaderFault.{HeaderFault}
use Rattle.fidl_header.specs.declared.fault.HeaderFault.TheVariants.{Short, BadMagic, NotVersion2, Overflow}
use Rattle.fidl_decode_model.specs.Faults.{IsTold}
use Rattle.fidl_decode_model.specs.declared.fault.DecodeFault.{DecodeFault}
use Rattle.fidl_verify.specs.declared.method.Payload.{Payload}
use Rattle.fidl_verify.specs.declared.method.Payload.TheVariants.{Missing, Empty, Entry}
use Rattle.fidl_verify.specs.Lookups.{TableProtocol, IsProtocolOfTable, EntryHolds}
use Rattle.fidl_verify.proofs.Declared.{sound}
use Rattle.fidl_verify.proofs.Ordinals.{entry_holds}
use Rattle.fidl_requests.specs.Methods.{record_of}
use Rattle.fidl_requests.specs.Verdict.{frame_head}
use Rattle.fidl_requests.specs.Frame.{handles_of}
use Rattle.fidl_requests.proofs.Numbered.{one_place}
use Rattle.fidl_dump.specs.declared.direction.Direction.{Direction}
use Rattle.fidl_dump.specs.declared.direction.Direction.TheVariants.{Requests, Responses}
use Rattle.fidl_dump.specs.declared.fault.FrameFault.{FrameFault}
use Rattle.fidl_dump.specs.Methods.{carried_of, NamesMethod, IsUnknown, full_name_of}
use Rattle.fidl_dump.specs.Lines.{body_of, Holds, value_text, bare_line, value_line, IsLine, unknown, bare, valued, AreLines, none, more}
use Rattle.fidl_dump.specs.Faults.{IsFrameFault, no_header, no_value, not_bare}

-- bytes of which a refusal is true have no header
has_none : (bytes : List ℕ) (fault : HeaderFault) → IsRefused bytes fault → IsHeader bytes → ⊥
has_none bytes Short r h = let long = h.long in omega arith
has_none bytes BadMagic r h = r h.magic
has_none bytes NotVersion2 r h = h.version r
has_none bytes Overflow r h = r h.whole

empty_is : (c : Payload) → c ≡ Empty → c ≡ Missing → ⊥
empty_is c e f = let never : Empty ≡ Missing = sym e ∙ f in cc

entry_is : (c : Payload) (entry : ℕ) → c ≡ Entry entry → c ≡ Missing → ⊥
entry_is c entry e f = let never : Entry entry ≡ Missing = sym e ∙ f in cc

not_both : (c : Payload) (entry : ℕ) → c ≡ Empty → c ≡ Entry entry → ⊥
not_both c entry e f = let never : Empty ≡ Entry entry = sym e ∙ f in cc

same_entry : (c : Payload) (m n : ℕ) → c ≡ Entry m → c ≡ Entry n → m ≡ n
same_entry c m n e f = let same : Entry m ≡ Entry n = sym e ∙ f in cc

-- an entry that a method's message carries is one of the table
entry_in : (table : List ℕ) (direction : Direction) (number entry : ℕ) → MessagesHold table (section.header_of table) (record_of table number) → carried_of table direction number ≡ Entry entry → entry < (section.header_of table).entries
entry_in table Requests number entry m e =
    let holds = subst (EntryHolds table) e (entry_holds table (has_request (record_of table number)) (record_of table number).request m.request) in holds.within
entry_in table Responses number entry m e =
    let holds = subst (EntryHolds table) e (entry_holds table (has_response (record_of table number)) (record_of table number).response m.response) in holds.within

-- a body of which a refusal is true encodes no value of an entry of the table
abbrev pub Excludes : (table : List ℕ) → Type 0
Excludes table = (entry : ℕ) → entry < (section.header_of table).entries → (bytes : List ℕ) (handles : List HandleInfo) (fault : DecodeFault)
    → IsTold (declarations_of table) (ty.named entry) bytes handles fault → IsEncoding (declarations_of table) (ty.named entry) bytes handles → ⊥

module _ (p : TableProtocol) (is : IsProtocolOfTable p) (direction : Direction) where
  same_number : (ordinal m n : ℕ) → NamesMethod p ordinal m → NamesMethod p ordinal n → m ≡ n
  same_number ordinal m n a b = a.is ∙ ap (λ (k : ℕ). method_number p.table (section.header_of p.table) p.number k) (one_place p is ordinal a.place b.place a.at b.at) ∙ sym b.is

  -- what a method of the ordinal carries, by another number of it
  same_carried : (ordinal m n : ℕ) (c : Payload) → NamesMethod p ordinal m → NamesMethod p ordinal n → carried_of p.table direction n ≡ c → carried_of p.table direction m ≡ c
  same_carried ordinal m n c a b e = ap (λ (k : ℕ). carried_of p.table direction k) (same_number ordinal m n a b) ∙ e

  pub no_message : (ordinal n : ℕ) → IsUnknown p direction ordinal → NamesMethod p ordinal n → carried_of p.table direction n ≡ Missing
  no_message ordinal n u b =
      elim u [
        | inl never ↦ absurd (never b.place b.at.within b.at.is)
        | inr silent ↦ same_carried ordinal n silent.0 Missing b silent.1 silent.2
      ]

  known : (ordinal n : ℕ) → IsUnknown p direction ordinal → NamesMethod p ordinal n → (carried_of p.table direction n ≡ Missing → ⊥) → ⊥
  known ordinal n u b some = some (no_message ordinal n u b)

  -- a method of the protocol is one of the table
  messages : (ordinal n : ℕ) → NamesMethod p ordinal n → MessagesHold p.table (section.header_of p.table) (record_of p.table n)
  messages ordinal n b =
      let all = (is.well_formed.protocols p.number is.within).methods in
      let less = b.at.within in
      let number = b.is in (is.well_formed.methods n (omega (arith, all, less, number))).shape.messages

  module _ (frame : List ℕ) where
    valued_twice : (m n e f : ℕ) (v w : Value) → m ≡ n → e ≡ f → Holds p.table e frame v → Holds p.table f frame w
        → value_line (frame_head frame) (full_name_of p.table m) (value_text p.table e v) ≡ value_line (frame_head frame) (full_name_of p.table n) (value_text p.table f w)
    valued_twice m n e f v w s t h k =
        let one : v ≡ w = one_value (declarations_of p.table) (sound p.table is.well_formed) (ty.named e) tt v w (body_of frame) (handles_of frame) h (subst (λ (x : ℕ). Holds p.table x frame w) (sym t) k) in
        ap (λ (x : ℕ). value_line (frame_head frame) (full_name_of p.table x) (value_text p.table e v)) s
        ∙ ap (λ (x : ℕ). value_line (frame_head frame) (full_name_of p.table n) (value_text p.table x v)) t
        ∙ ap (λ (x : Value). value_line (frame_head frame) (full_name_of p.table n) (value_text p.table f x)) one

    pub one_line : (line other : List ℕ) → IsLine p direction frame line → IsLine p direction frame other → line ≡ other
    one_line _ _ (unknown h u) (unknown k w) = refl
    one_line _ _ (unknown h u) (bare n k b e g) = absurd (known _ n u b (empty_is _ e))
    one_line _ _ (unknown h u) (valued n f w k b e g) = absurd (known _ n u b (entry_is _ f e))
    one_line _ _ (bare m h a d g) (unknown k w) = absurd (known _ m w a (empty_is _ d))
    one_line _ _ (bare m h a d g) (bare n k b e q) = ap (λ (x : ℕ). bare_line (frame_head frame) (full_name_of p.table x)) (same_number _ m n a b)
    one_line _ _ (bare m h a d g) (valued n f w k b e q) = absurd (not_both _ f d (same_carried _ m n (Entry f) a b e))
    one_line _ _ (valued m c v h a d g) (unknown k w) = absurd (known _ m w a (entry_is _ c d))
    one_line _ _ (valued m c v h a d g) (bare n k b e q) = absurd (not_both _ c e (same_carried _ n m (Entry c) b a d))
    one_line _ _ (valued m c v h a d g) (valued n f w k b e q) = valued_twice m n c f v w (same_number _ m n a b) (same_entry _ c f d (same_carried _ m n (Entry f) a b e)) g q

    module _ (excluded : Excludes p.table) where
      pub no_line : (line : List ℕ) (fault : FrameFault) → IsFrameFault p direction frame fault → IsLine p direction frame line → ⊥
      no_line _ _ (no_header f r) (unknown h u) = has_none _ f r h
      no_line _ _ (no_header f r) (bare n h b e g) = has_none _ f r h
      no_line _ _ (no_header f r) (valued n c v h b e g) = has_none _ f r h
      no_line _ _ (no_value m c f h a d t) (unknown k u) = known _ m u a (entry_is _ c d)
      no_line _ _ (no_value m c f h a d t) (bare n k b e g) = not_both _ c e (same_carried _ n m (Entry c) b a d)
      no_line _ _ (no_value m c f h a d t) (valued n x v k b e g) =
          let same = same_entry _ c x d (same_carried _ m n (Entry x) a b e) in
          excluded c (entry_in p.table direction m c (messages _ m a) d) (body_of frame) (handles_of frame) f t (v, subst (λ (y : ℕ). Holds p.table y frame v) (sym same) g)
      no_line _ _ (not_bare m h a d t) (unknown k u) = known _ m u a (empty_is _ d)
      no_line _ _ (not_bare m h a d t) (bare n k b e g) = t g
      no_line _ _ (not_bare m h a d t) (valued n x v k b e g) = not_both _ x d (same_carried _ m n (Entry x) a b e)

  pub one_text : (frames : List (List ℕ)) (text other : List ℕ) → AreLines p direction frames text → AreLines p direction frames other → text ≡ other
  one_text _ _ _ none none = refl
  one_text _ _ _ (more f l fs t i k) (more _ later _ rest j m) = ap₂ (λ (x y : List ℕ). x ++ y) (one_line f l later i j) (one_text fs t rest k m)
