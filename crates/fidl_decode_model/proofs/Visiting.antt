-- What a visit of an entry finds, by kind.
use Rattle.std.proofs.Common.{◌≡◌, ℕ, zero, suc, ◌+◌, ◌-◌, ◌*◌, ◌<◌, ◌≤◌, max, ℤ, List, length, get_or, refl, sym, ap, subst, ◌∙◌, arith, ◌%◌}
use Rattle.fidl_limits.specs.declared.limits.TheConstants.{MAX_DEPTH}
use Rattle.std.specs.Prelude.{◌↔◌, Bool, Option, Some, None, true, false, not, IfSome, Contains, if◌then◌else◌}
use Rattle.std.specs.Option.{option_map_or}
use Rattle.std.proofs.Math.Nat.{mul-le-mul_left}
use Rattle.std.specs.Int.{byte_len}
use Rattle.fidl_wire.specs.Term.{Term, Kind, resolve, nothing, width, int8, int16, int32, int64, uint8, uint16, uint32, uint64}
use Rattle.fidl_wire.specs.Term as ty
use Rattle.fidl_wire.specs.Figure.{Declarations, Figure, figure_of, size_of, align_of, end_of}
use Rattle.fidl_wire.proofs.Sizes.{le-next_multiple_of}
use Rattle.fidl_table_format.specs.declared.record.Header.{Header}
use Rattle.fidl_table_format.specs.declared.kind.EntryKind.{EntryKind}
use Rattle.fidl_table_format.specs.declared.kind.EntryKind.TheVariants.{Bool as Boolean, Int8, Int16, Int32, Int64, Uint8, Uint16, Uint32, Uint64, Bits, Enum, String, Vector, Array, Box, Struct, Table, Union, Handle}
use Rattle.fidl_table_format.specs.Kind.{kind_of, number_type}
use Rattle.fidl_table_format.specs.Number.{number_standing}
use Rattle.fidl_table_format.specs.Section.{header_of, entry_at}
use Rattle.fidl_table_format.specs.Terms.{term_as, stated_figure, declarations_of, fields_from, underlying, mask_of, strict_values, values_from, is_strict, is_optional, rows_from}
use Rattle.fidl_wire.specs.Typed.{IsTyped, InMask}
use Rattle.fidl_wire.specs.Value.{Value}
use Rattle.fidl_decode_model.specs.Work.{Work}
use Rattle.fidl_decode_model.specs.Invariants.{is_leaf, is_free, EntryFine, IsFine}
use Rattle.fidl_decode_model.specs.State.{Message, Position, ValueAt}
use Rattle.fidl_decode_model.specs.Breaks.{Part, member_parts, element_parts, BreaksField, BreaksRule, Breaks, BreaksParts}
use Rattle.fidl_decode_model.specs.declared.fault.DecodeFault.{DecodeFault}
use Rattle.fidl_decode_model.specs.Breaks as broken
use Rattle.fidl_decode_model.specs.declared.fault.DecodeFault.TheVariants.{BadBool}
use Rattle.fidl_decode_model.specs.Frontier.{Stays}
use Rattle.fidl_decode_model.proofs.Aligned.{no_names}
use Rattle.fidl_decode_model.proofs.Staying.{stays, ahead_still}
use Rattle.fidl_decode_model.proofs.Moving.{moves_none}
use Rattle.fidl_decode_model.specs.Machine.{StateFine, Leads, Visits, byte_work, inline_work, probes}
use Rattle.fidl_decode_model.specs.Worth.{ValueWorth}
use Rattle.fidl_decode_model.proofs.Scalars.{light_number, light_bool, Numeric, numeric_number, numeric_bits, numeric_enum, numeric_item, item_numeric, bool_item, item_bool}
use Rattle.fidl_decode_model.proofs.Stated.{stated_term, stated}

unknown : false ≡ true → ⊥
unknown e = cc

some_width : (kind : Kind) → 0 < byte_len (width kind)
some_width int8 = omega arith
some_width int16 = omega arith
some_width int32 = omega arith
some_width int64 = omega arith
some_width uint8 = omega arith
some_width uint16 = omega arith
some_width uint32 = omega arith
some_width uint64 = omega arith

no_type : (kind : Kind) → None ≡ Some kind → ⊥
no_type kind e = cc

not_strict : (b : Bool) → not b ≡ true → b ≡ false
not_strict true e = absurd (unknown e)
not_strict false e = refl

pub same_some : {A : Type 0} (a b : A) → Some a ≡ Some b → a ≡ b
same_some a b e = cc

-- a search is within the work of a byte
search_fits : (n s p : ℕ) → p ≤ probes → 0 < s → p ≤ inline_work n * s + 1
search_fits n s p le pos = let many : probes ≤ inline_work n = omega arith in omega (arith, mul-le-mul_left (inline_work n) pos, many)

-- what a text spends is its bytes
pub text_cost : (n from to before after : ℕ) → after + from ≡ before + to → to ≤ n → before ≤ after → byte_work * (n - to) + (after - before) ≤ byte_work * (n - from) + probes
text_cost n from to before after spent le grows = omega (arith, spent, le, grows)

module _ (t : List ℕ) (fine : IsFine t) where
  abbrev ds : Declarations
  ds = declarations_of t

  abbrev h : Header
  h = header_of t

  abbrev fig : ℕ → Figure
  fig e = figure_of ds.figures (ty.named e)

  abbrev term : ℕ → Term
  term e = resolve ds.terms (ty.named e)

  pub size_is : (e : ℕ) → e < h.entries → (fig e).size ≡ (entry_at t e).size
  size_is e lt = ap (λ (f : Figure). f.size) (stated t e lt)

  pub nest_is : (e : ℕ) → e < h.entries → (fig e).nest ≡ (entry_at t e).nest
  nest_is e lt = ap (λ (f : Figure). f.nest) (stated t e lt)

  pub fine_as : (e : ℕ) (k : EntryKind) → e < h.entries → kind_of (entry_at t e).kind ≡ Some k → EntryFine t (entry_at t e) k
  fine_as e k lt is = let f = fine.each e lt in subst (λ (j : EntryKind). EntryFine t (entry_at t e) j) (same_some f.0 k (sym f.1.is ∙ is)) f.1

  pub term_is : (e : ℕ) (k : EntryKind) → e < h.entries → kind_of (entry_at t e).kind ≡ Some k → term e ≡ term_as k t h (entry_at t e)
  term_is e k lt is = stated_term t e lt ∙ ap (λ (o : Option EntryKind). option_map_or (λ (j : EntryKind). term_as j t h (entry_at t e)) o nothing) is

  -- the entry states the figure of its type
  pub figure_is : (e : ℕ) (k : EntryKind) → e < h.entries → kind_of (entry_at t e).kind ≡ Some k → figure_of ds.figures (term_as k t h (entry_at t e)) ≡ stated_figure (entry_at t e)
  figure_is e k lt is = let f = fine_as e k lt is in sym (ap (λ (o : Option EntryKind). figure_of ds.figures (option_map_or (λ (j : EntryKind). term_as j t h (entry_at t e)) o nothing)) is) ∙ f.figure

  pub size_as : (e : ℕ) (k : EntryKind) → e < h.entries → kind_of (entry_at t e).kind ≡ Some k → size_of ds (term_as k t h (entry_at t e)) ≡ (entry_at t e).size
  size_as e k lt is = ap (λ (f : Figure). f.size) (figure_is e k lt is)

  -- ---- each entry has a byte at least

  times_positive : (a b : ℕ) → 0 < a → 0 < b → 0 < a * b
  times_positive a b p q = omega (arith, mul-le-mul_left a q)

  -- of an entry of the kind, where what it holds has a byte at least
  positive_if : (e : ℕ) (lt : e < h.entries) → ((c : ℕ) → c < h.entries → (fig c).nest < (fig e).nest → 0 < size_of ds (ty.named c)) → (k : EntryKind) → EntryFine t (entry_at t e) k → 0 < size_of ds (ty.named e)
  positive_if e lt ih k f = go k f
    where
      from_figure : (u : Term) → figure_of ds.figures u ≡ stated_figure (entry_at t e) → 0 < size_of ds u → 0 < size_of ds (ty.named e)
      from_figure u is pos = let s : size_of ds u ≡ size_of ds (ty.named e) = ap (λ (f : Figure). f.size) (is ∙ sym (stated t e lt)) in omega (arith, pos)

      go : (k : EntryKind) → EntryFine t (entry_at t e) k → 0 < size_of ds (ty.named e)
      go Boolean f = from_figure ty.bool (figure_is e Boolean lt f.is) (omega arith)
      go Int8 f = from_figure (ty.number int8) (figure_is e Int8 lt f.is) (omega arith)
      go Int16 f = from_figure (ty.number int16) (figure_is e Int16 lt f.is) (omega arith)
      go Int32 f = from_figure (ty.number int32) (figure_is e Int32 lt f.is) (omega arith)
      go Int64 f = from_figure (ty.number int64) (figure_is e Int64 lt f.is) (omega arith)
      go Uint8 f = from_figure (ty.number uint8) (figure_is e Uint8 lt f.is) (omega arith)
      go Uint16 f = from_figure (ty.number uint16) (figure_is e Uint16 lt f.is) (omega arith)
      go Uint32 f = from_figure (ty.number uint32) (figure_is e Uint32 lt f.is) (omega arith)
      go Uint64 f = from_figure (ty.number uint64) (figure_is e Uint64 lt f.is) (omega arith)
      go Struct f =
          let fs = fields_from t h (entry_at t e).first (entry_at t e).count in
          from_figure (ty.struct fs) (figure_is e Struct lt f.is) (omega (arith, le-next_multiple_of (max (end_of ds.figures 0 fs) 1) (align_of ds.figures fs)))
      go Array f =
          let g = figure_is e Array lt f.is in
          let c = (entry_at t e).first in
          let nest : suc (fig c).nest ≡ (fig e).nest = ap (λ (f : Figure). f.nest) (g ∙ sym (stated t e lt)) in
          from_figure (ty.array (ty.named c) (entry_at t e).count) g (times_positive (fig c).size (entry_at t e).count (ih c f.content.0 (omega (arith, nest))) f.content.1)
      go Bits f = from_figure (ty.bits (underlying (entry_at t e)) (mask_of (entry_at t e))) (figure_is e Bits lt f.is) (some_width (underlying (entry_at t e)))
      go Enum f = from_figure (ty.enum (underlying (entry_at t e)) (strict_values t h (entry_at t e))) (figure_is e Enum lt f.is) (some_width (underlying (entry_at t e)))
      go String f = from_figure (ty.string (is_optional (entry_at t e)) (entry_at t e).bound) (figure_is e String lt f.is) (omega arith)
      go Vector f = from_figure (ty.vector (is_optional (entry_at t e)) (entry_at t e).bound (ty.named (entry_at t e).first)) (figure_is e Vector lt f.is) (omega arith)
      go Box f = from_figure (ty.box (ty.named (entry_at t e).first)) (figure_is e Box lt f.is) (omega arith)
      go Table f = from_figure (ty.table (rows_from t h (entry_at t e).first (entry_at t e).count)) (figure_is e Table lt f.is) (omega arith)
      go Union f = from_figure (ty.union (is_optional (entry_at t e)) (is_strict (entry_at t e)) (rows_from t h (entry_at t e).first (entry_at t e).count)) (figure_is e Union lt f.is) (omega arith)
      go Handle f = from_figure (ty.handle (is_optional (entry_at t e)) (entry_at t e).subtype (entry_at t e).rights) (figure_is e Handle lt f.is) (omega arith)

  positive_within : (n e : ℕ) → e < h.entries → (fig e).nest ≤ n → 0 < size_of ds (ty.named e)
  positive_within zero e lt le = positive_if e lt (λ c lc less. absurd (omega arith)) (fine.each e lt).0 (fine.each e lt).1
  positive_within (suc n) e lt le = positive_if e lt (λ c lc less. positive_within n c lc (omega arith)) (fine.each e lt).0 (fine.each e lt).1

  pub positive : (e : ℕ) → e < h.entries → 0 < size_of ds (ty.named e)
  positive e lt = positive_within (fig e).nest e lt (omega arith)

  -- what any bytes are a value of is worth nothing
  light_as : (e : ℕ) (k : EntryKind) (kind : Kind) (P : ℤ → Type 0) → e < h.entries → kind_of (entry_at t e).kind ≡ Some k → Numeric ds (term_as k t h (entry_at t e)) kind P → (v : Value) → IsTyped ds (term e) v → Work v ≡ 0
  light_as e k kind P lt is numeric v typed = light_number ds (term_as k t h (entry_at t e)) kind P numeric v (subst (λ (u : Term). IsTyped ds u v) (term_is e k lt is) typed)

  pub light_free : (e : ℕ) → e < h.entries → (k : EntryKind) → kind_of (entry_at t e).kind ≡ Some k → is_free k (entry_at t e) ≡ true → (v : Value) → IsTyped ds (term e) v → Work v ≡ 0
  light_free e lt Bits is free = let d = entry_at t e in light_as e Bits (underlying d) (λ z. IfSome (mask_of d) (λ mask. InMask mask z)) lt is (numeric_bits ds (underlying d) (mask_of d))
  light_free e lt Enum is free = let d = entry_at t e in light_as e Enum (underlying d) (λ z. IfSome (strict_values t h d) (λ values. Contains values z)) lt is (numeric_enum ds (underlying d) (strict_values t h d))
  light_free e lt Int8 is free = light_as e Int8 int8 (λ z. Unit {0}) lt is (numeric_number ds int8)
  light_free e lt Int16 is free = light_as e Int16 int16 (λ z. Unit {0}) lt is (numeric_number ds int16)
  light_free e lt Int32 is free = light_as e Int32 int32 (λ z. Unit {0}) lt is (numeric_number ds int32)
  light_free e lt Int64 is free = light_as e Int64 int64 (λ z. Unit {0}) lt is (numeric_number ds int64)
  light_free e lt Uint8 is free = light_as e Uint8 uint8 (λ z. Unit {0}) lt is (numeric_number ds uint8)
  light_free e lt Uint16 is free = light_as e Uint16 uint16 (λ z. Unit {0}) lt is (numeric_number ds uint16)
  light_free e lt Uint32 is free = light_as e Uint32 uint32 (λ z. Unit {0}) lt is (numeric_number ds uint32)
  light_free e lt Uint64 is free = light_as e Uint64 uint64 (λ z. Unit {0}) lt is (numeric_number ds uint64)
  light_free e lt Boolean is free = absurd (unknown free)
  light_free e lt String is free = absurd (unknown free)
  light_free e lt Vector is free = absurd (unknown free)
  light_free e lt Array is free = absurd (unknown free)
  light_free e lt Box is free = absurd (unknown free)
  light_free e lt Struct is free = absurd (unknown free)
  light_free e lt Table is free = absurd (unknown free)
  light_free e lt Union is free = absurd (unknown free)
  light_free e lt Handle is free = absurd (unknown free)

  -- ---- what is visited

  module _ (m : Message) (held e place : ℕ) (old : Position) (lt : e < h.entries) (state : StateFine m old) (deep : held ≤ MAX_DEPTH) where
    visits_none : (spent : ℕ) → spent ≤ probes → ((to : Position) → ValueAt ds m held (term e) place old to ↔ (old ≡ to)) → ((v : Value) → IsTyped ds (term e) v → Work v ≤ 1) → Visits t m held e place old old spent None
    visits_none spent le same light = record {
      same = same;
      breaks = λ fault b. absurd b;
      least = λ to w y. let x = (same to).1 y in (x, omega (arith, light x.value x.typed));
      state = state;
      moves = λ ahead read even. moves_none t m place (place + (fig e).size) old ahead;
      less = omega (arith, search_fits (fig e).nest (fig e).size spent le (positive e lt));
    }

    -- what is read as a leaf
    pub visits_leaf : (k : EntryKind) → kind_of (entry_at t e).kind ≡ Some k → (new : Position) (spent : ℕ) → byte_work * (length m.bytes - new.next) + spent ≤ byte_work * (length m.bytes - old.next) + probes → StateFine m new
        → Leads ds m held (term_as k t h (entry_at t e)) place old new → ((to : Position) (x : ValueAt ds m held (term_as k t h (entry_at t e)) place old to) → Work x.value ≤ spent + 1) → Visits t m held e place old new spent None
    visits_leaf k is new spent cost there leads light =
        let own = term_is e k lt is in
        record {
          same = λ to. (
            (λ x. (leads to).0 (subst (λ (u : Term). ValueAt ds m held u place old to) own x)),
            (λ y. subst (λ (u : Term). ValueAt ds m held u place old to) (sym own) ((leads to).1 y)),
          );
          breaks = λ fault b. absurd b;
          least = λ to w y. subst (λ (u : Term). ValueWorth ds m held u place old to (w + spent + 1)) (sym own) (let x = (leads to).1 y in (x, omega (arith, light to x)));
          state = there;
          moves = λ ahead read even.
              let u = term_as k t h (entry_at t e) in
              let figure : figure_of ds.figures u ≡ fig e = figure_is e k lt is ∙ sym (stated t e lt) in
              let x = (leads new).1 refl in
              let stays = stays ds fine.laid_out (no_names t) u x.value place old x.typed ahead.even (subst (λ (f : Figure). place % f.align ≡ 0) (sym figure) even) in
              let next = subst (λ (s : Position). s.next % 8 ≡ 0) (sym x.end) stays.1 in
              let own = subst (λ (f : Figure). Stays place (place + f.size) old.next new.next old new) figure (subst (λ (s : Position). Stays place (place + size_of ds u) old.next s.next old s) (sym x.end) stays.0) in
              record { stays = own; ahead = ahead_still m place (place + (fig e).size) old new own read.before next ahead; below_clear = tt; rest_clear = tt; below_in = tt; rest_in = tt; apart = tt };
          less = omega (arith, cost, search_fits (fig e).nest (fig e).size probes (omega arith) (positive e lt));
        }

    -- what values of the kind are worth, those of the entry are
    as_kind : (k : EntryKind) → kind_of (entry_at t e).kind ≡ Some k → (n : ℕ) → ((v : Value) → IsTyped ds (term_as k t h (entry_at t e)) v → Work v ≤ n) → (v : Value) → IsTyped ds (term e) v → Work v ≤ n
    as_kind k is n light v typed = light v (subst (λ (u : Term). IsTyped ds u v) (term_is e k lt is) typed)

    pub leaf_breaks : (k : EntryKind) → kind_of (entry_at t e).kind ≡ Some k → (fault : DecodeFault) → BreaksRule ds m held (term_as k t h (entry_at t e)) place old.next old.handle fault → Breaks ds m held (term e) place old fault
    leaf_breaks k is fault b = subst (λ (u : Term). Breaks ds m held u place old fault) (sym (term_is e k lt is)) (broken.in_field (term_as k t h (entry_at t e)) place old fault b)

    pub bool_breaks : kind_of (entry_at t e).kind ≡ Some Boolean → 1 < get_or m.bytes place 0 → Breaks ds m held (term e) place old (BadBool place)
    bool_breaks is over = subst (λ (u : Term). Breaks ds m held u place old (BadBool place)) (sym (term_is e Boolean lt is)) (broken.in_field ty.bool place old (BadBool place) (refl, over))

    pub visits_bool : (spent : ℕ) → spent ≤ probes → kind_of (entry_at t e).kind ≡ Some Boolean → place < length m.bytes → get_or m.bytes place 0 ≤ 1 → Visits t m held e place old old spent None
    visits_bool spent few is room le =
        let u = term_is e Boolean lt is in
        visits_none spent few (λ to. (
          (λ x. (bool_item ds m held place old to (subst (λ (u : Term). ValueAt ds m held u place old to) u x)).0),
          (λ same. subst (λ (s : Position). ValueAt ds m held (term e) place old s) same (subst (λ (u : Term). ValueAt ds m held u place old old) (sym u) (item_bool ds m held place old room le deep))),
        )) (as_kind Boolean is 1 (light_bool ds))

    -- what is a number of a kind: a number, bits or an enum
    module _ (k : EntryKind) (is : kind_of (entry_at t e).kind ≡ Some k) (kind : Kind) (P : ℤ → Type 0) (numeric : Numeric ds (term_as k t h (entry_at t e)) kind P) where
      own : term e ≡ term_as k t h (entry_at t e)
      own = term_is e k lt is

      own_size : byte_len (width kind) ≡ (entry_at t e).size
      own_size = sym numeric.size ∙ ap (λ (f : Figure). f.size) (figure_is e k lt is)

      pub visits_numeric : (spent : ℕ) → spent ≤ probes → place + (entry_at t e).size ≤ length m.bytes → ((i : ℕ) → get_or m.bytes i 0 < 256) → P (number_standing kind m.bytes place) → Visits t m held e place old old spent None
      visits_numeric spent few room small p =
          visits_none spent few (λ to. (
            (λ x. (numeric_item ds m held place old (term_as k t h (entry_at t e)) kind P numeric to (subst (λ (u : Term). ValueAt ds m held u place old to) own x)).0),
            (λ same. subst (λ (s : Position). ValueAt ds m held (term e) place old s) same (subst (λ (u : Term). ValueAt ds m held u place old old) (sym own) (item_numeric ds m held place old (term_as k t h (entry_at t e)) kind P numeric (omega (arith, room, own_size)) small deep p))),
          )) (as_kind k is 1 (λ v typed. omega (arith, light_number ds (term_as k t h (entry_at t e)) kind P numeric v typed)))

    -- a number
    number_with : (k : EntryKind) (kind : Kind) → kind_of (entry_at t e).kind ≡ Some k → term_as k t h (entry_at t e) ≡ ty.number kind → (spent : ℕ) → spent ≤ probes → place + (entry_at t e).size ≤ length m.bytes → ((i : ℕ) → get_or m.bytes i 0 < 256) → Visits t m held e place old old spent None
    number_with k kind is as_number spent few room small = visits_numeric k is kind (λ z. Unit {0}) (subst (λ (u : Term). Numeric ds u kind (λ z. Unit {0})) (sym as_number) (numeric_number ds kind)) spent few room small tt

    -- any bytes are a number
    pub visits_number : (k : EntryKind) (kind : Kind) → kind_of (entry_at t e).kind ≡ Some k → number_type k ≡ Some kind → (spent : ℕ) → spent ≤ probes → place + (entry_at t e).size ≤ length m.bytes → ((i : ℕ) → get_or m.bytes i 0 < 256) → Visits t m held e place old old spent None
    visits_number Int8 kind is n = number_with Int8 int8 is refl
    visits_number Int16 kind is n = number_with Int16 int16 is refl
    visits_number Int32 kind is n = number_with Int32 int32 is refl
    visits_number Int64 kind is n = number_with Int64 int64 is refl
    visits_number Uint8 kind is n = number_with Uint8 uint8 is refl
    visits_number Uint16 kind is n = number_with Uint16 uint16 is refl
    visits_number Uint32 kind is n = number_with Uint32 uint32 is refl
    visits_number Uint64 kind is n = number_with Uint64 uint64 is refl
    visits_number Boolean kind is n = absurd (no_type kind n)
    visits_number Bits kind is n = absurd (no_type kind n)
    visits_number Enum kind is n = absurd (no_type kind n)
    visits_number String kind is n = absurd (no_type kind n)
    visits_number Vector kind is n = absurd (no_type kind n)
    visits_number Array kind is n = absurd (no_type kind n)
    visits_number Box kind is n = absurd (no_type kind n)
    visits_number Struct kind is n = absurd (no_type kind n)
    visits_number Table kind is n = absurd (no_type kind n)
    visits_number Union kind is n = absurd (no_type kind n)
    visits_number Handle kind is n = absurd (no_type kind n)

    -- bits
    pub visits_bits : kind_of (entry_at t e).kind ≡ Some Bits → (spent : ℕ) → spent ≤ probes → place + (entry_at t e).size ≤ length m.bytes → ((i : ℕ) → get_or m.bytes i 0 < 256)
        → IfSome (mask_of (entry_at t e)) (λ mask. InMask mask (number_standing (underlying (entry_at t e)) m.bytes place)) → Visits t m held e place old old spent None
    visits_bits is = let d = entry_at t e in visits_numeric Bits is (underlying d) (λ z. IfSome (mask_of d) (λ mask. InMask mask z)) (numeric_bits ds (underlying d) (mask_of d))

    pub bits_break : kind_of (entry_at t e).kind ≡ Some Bits → (fault : DecodeFault) → BreaksField m (ty.bits (underlying (entry_at t e)) (mask_of (entry_at t e))) place fault → Breaks ds m held (term e) place old fault
    bits_break is fault b = subst (λ (u : Term). Breaks ds m held u place old fault) (sym (term_is e Bits lt is)) (broken.in_field (ty.bits (underlying (entry_at t e)) (mask_of (entry_at t e))) place old fault b)

    -- an enum
    pub visits_enum : kind_of (entry_at t e).kind ≡ Some Enum → (spent : ℕ) → spent ≤ probes → place + (entry_at t e).size ≤ length m.bytes → ((i : ℕ) → get_or m.bytes i 0 < 256)
        → IfSome (strict_values t h (entry_at t e)) (λ values. Contains values (number_standing (underlying (entry_at t e)) m.bytes place)) → Visits t m held e place old old spent None
    visits_enum is = let d = entry_at t e in visits_numeric Enum is (underlying d) (λ z. IfSome (strict_values t h d) (λ values. Contains values z)) (numeric_enum ds (underlying d) (strict_values t h d))

    pub enum_breaks : kind_of (entry_at t e).kind ≡ Some Enum → (fault : DecodeFault) → BreaksField m (ty.enum (underlying (entry_at t e)) (strict_values t h (entry_at t e))) place fault → Breaks ds m held (term e) place old fault
    enum_breaks is fault b = subst (λ (u : Term). Breaks ds m held u place old fault) (sym (term_is e Enum lt is)) (broken.in_field (ty.enum (underlying (entry_at t e)) (strict_values t h (entry_at t e))) place old fault b)

    -- leaves of which any bytes are one
    pub visits_free : (k : EntryKind) → kind_of (entry_at t e).kind ≡ Some k → is_free k (entry_at t e) ≡ true → (spent : ℕ) → spent ≤ probes → place + (entry_at t e).size ≤ length m.bytes → ((i : ℕ) → get_or m.bytes i 0 < 256) → Visits t m held e place old old spent None
    visits_free Bits is free spent few room small =
        let d = entry_at t e in
        let none : mask_of d ≡ None = ap (λ (b : Bool). if b then Some d.bound else None) (not_strict (is_strict d) free) in
        visits_bits is spent few room small (subst (λ (o : Option ℕ). IfSome o (λ mask. InMask mask (number_standing (underlying d) m.bytes place))) (sym none) tt)
    visits_free Enum is free spent few room small =
        let d = entry_at t e in
        let none : strict_values t h d ≡ None = ap (λ (b : Bool). if b then Some (values_from t h (underlying d) d.first d.count) else None) (not_strict (is_strict d) free) in
        visits_enum is spent few room small (subst (λ (o : Option (List ℤ)). IfSome o (λ values. Contains values (number_standing (underlying d) m.bytes place))) (sym none) tt)
    visits_free Int8 is free spent few room small = visits_number Int8 int8 is refl spent few room small
    visits_free Int16 is free spent few room small = visits_number Int16 int16 is refl spent few room small
    visits_free Int32 is free spent few room small = visits_number Int32 int32 is refl spent few room small
    visits_free Int64 is free spent few room small = visits_number Int64 int64 is refl spent few room small
    visits_free Uint8 is free spent few room small = visits_number Uint8 uint8 is refl spent few room small
    visits_free Uint16 is free spent few room small = visits_number Uint16 uint16 is refl spent few room small
    visits_free Uint32 is free spent few room small = visits_number Uint32 uint32 is refl spent few room small
    visits_free Uint64 is free spent few room small = visits_number Uint64 uint64 is refl spent few room small
    visits_free Boolean is free spent few room small = absurd (unknown free)
    visits_free String is free spent few room small = absurd (unknown free)
    visits_free Vector is free spent few room small = absurd (unknown free)
    visits_free Array is free spent few room small = absurd (unknown free)
    visits_free Box is free spent few room small = absurd (unknown free)
    visits_free Struct is free spent few room small = absurd (unknown free)
    visits_free Table is free spent few room small = absurd (unknown free)
    visits_free Union is free spent few room small = absurd (unknown free)
    visits_free Handle is free spent few room small = absurd (unknown free)

    -- what is no struct, array, box, vector, table or union is a leaf
    pub leaf_else : (k : EntryKind) → kind_of (entry_at t e).kind ≡ Some k → (k ≡ Struct → ⊥) → (k ≡ Array → ⊥) → (k ≡ Box → ⊥) → (k ≡ Vector → ⊥) → (k ≡ Table → ⊥) → (k ≡ Union → ⊥) → is_leaf t (entry_at t e) k ≡ true
    leaf_else Struct is s a b v n u = absurd (s refl)
    leaf_else Array is s a b v n u = absurd (a refl)
    leaf_else Box is s a b v n u = absurd (b refl)
    leaf_else Vector is s a b v n u = absurd (v refl)
    leaf_else Table is s a b v n u = absurd (n refl)
    leaf_else Union is s a b v n u = absurd (u refl)
    leaf_else k is s a b v n u = refl
