-- What a status says of the line that goes with it, and of the roots of a table.
use Rattle.std.proofs.Common.{◌≡◌, ◌≢◌, ◌↔◌, ℕ, List, ◌++◌, refl, sym, ap, subst, ◌∙◌, inl, inr}
use Rattle.std.specs.Prelude.{Result, Ok, Err, OnOk, OnErr, is_ok, true, false, if◌then◌else◌, Option, None, IsSome, ◌⊎◌, codes}
use Rattle.fidl_wire.specs.declared.handle.HandleInfo.{HandleInfo}
use Rattle.fidl_wire.specs.Value.{Value}
use Rattle.fidl_wire.specs.Term as ty
use Rattle.fidl_wire.specs.Text.{Text}
use Rattle.fidl_wire.specs.Message.{Encodes}
use Rattle.fidl_table_format.specs.Section.{header_of}
use Rattle.fidl_table_format.specs.Terms.{declarations_of}
use Rattle.fidl_table_format.specs.Root.{IsRootEntry, HasNoRoot}
use Rattle.fidl_table_format.specs.WellFormed.{WellFormed}
use Rattle.fidl_decode_model.specs.Model.{Shown}
use Rattle.fidl_commands.specs.declared.outcome.Outcome.{Outcome}
use Rattle.fidl_commands.specs.declared.outcome.Outcome.TheVariants.{Done, Unwritten}
use Rattle.fidl_commands.specs.declared.outcome.Outcome.TheVariants as outcome
use Rattle.fidl_command_line.specs.declared.unread.Unread.{Unread}
use Rattle.fidl_command_line.specs.declared.unread.Unread.TheVariants as unread
use Rattle.fidl_command_line.specs.Complaints.{complaint_of}
use Rattle.fidl_commands.specs.Reasons.{line_of, outcome_of}
use Rattle.fidl_commands.specs.Decoding.{IsRootOf, LacksRoot, IsRefusal, of_table, CanEndDecode, CanEndDecodeAs}
use Rattle.fidl_commands.specs.Encoding.{IsEncodeRefusal, by_table}
use Rattle.fidl_commands.specs.Listing.{IsTableRefusal, of_fault, CanEndVerified}
use Rattle.fidl_commands.specs.Outputs.{ReportsFailures}

-- what a line says holds where its outcome is answered
pub told_written : {T E P : Type 0} (w : Result T E) (own r : Outcome) → r ≡ (if is_ok w then own else Unwritten) → r ≡ own → own ≢ Unwritten → OnOk w P → P
told_written (Ok x) own r e q n h = h
told_written (Err x) own r e q n h = absurd (n (sym q ∙ e))

-- no outcome is answered but the own one and a failed write
pub told_never : {T E P : Type 0} (w : Result T E) (own other r : Outcome) → r ≡ (if is_ok w then own else Unwritten) → r ≡ other → own ≢ other → Unwritten ≢ other → P
told_never (Ok x) own other r e q a b = absurd (a (sym e ∙ q))
told_never (Err x) own other r e q a b = absurd (b (sym e ∙ q))

-- a failed output is answered, whether its line was written or not
pub only_unwritten : {T E : Type 0} (w : Result T E) (r : Outcome) → r ≡ (if is_ok w then Unwritten else Unwritten) → r ≡ Unwritten
only_unwritten (Ok x) r e = e
only_unwritten (Err x) r e = e

-- where a line is the only write, its failure is reported, and no other
pub told_failed : {T E F G : Type 0} (w : Result T E) (own r : Outcome) (out : Option F) (before after : Option G) → r ≡ (if is_ok w then own else Unwritten) → own ≢ Unwritten
    → OnOk w (after ≡ before) → OnErr w (IsSome after) → ReportsFailures r out out before after
told_failed (Ok x) own r out before after e n k f o b =
    let none : after ≡ None = k ∙ b in
    (λ u. absurd (n (sym e ∙ u)), λ some. elim some [ inl s ↦ let never : false ≡ true = subst IsSome o s in cc | inr s ↦ let never : false ≡ true = subst IsSome none s in cc ])
told_failed (Err x) own r out before after e n k f o b = (λ u. inr f, λ some. e)

-- the same of the errors alone
pub told_alone : {T E F : Type 0} (w : Result T E) (own r : Outcome) (before after : Option F) → r ≡ (if is_ok w then own else Unwritten) → own ≢ Unwritten
    → OnOk w (after ≡ before) → OnErr w (IsSome after) → before ≡ None → (r ≡ Unwritten) ↔ IsSome after
told_alone (Ok x) own r before after e n k f b =
    let none : after ≡ None = k ∙ b in
    (λ u. absurd (n (sym e ∙ u)), λ some. let never : false ≡ true = subst IsSome none some in cc)
told_alone (Err x) own r before after e n k f b = (λ u. f, λ some. e)

-- what holds of an outcome and of a failed write holds of what is answered
pub told_either : {T E : Type 0} (w : Result T E) (own r : Outcome) (Holds : Outcome → Type 0) → r ≡ (if is_ok w then own else Unwritten) → Holds own → Holds Unwritten → Holds r
told_either (Ok x) own r Holds e h k = subst Holds (sym e) h
told_either (Err x) own r Holds e h k = subst Holds (sym e) k

-- where the output did not fail before and was not written, the errors' failure alone is reported
pub errors_alone : {F G : Type 0} (r : Outcome) (out : Option F) (after : Option G) → out ≡ None → (r ≡ Unwritten ↔ IsSome after) → (r ≡ Unwritten) ↔ (IsSome out ⊎ IsSome after)
errors_alone r out after o t = (λ u. inr (t.0 u), λ some. elim some [ inl s ↦ let never : false ≡ true = subst IsSome o s in cc | inr s ↦ t.1 s ])

-- a table that is refused refuses each message
pub table_refused : (table root bytes : List ℕ) (handles : List HandleInfo) (line : List ℕ) → IsTableRefusal table line → IsRefusal table root bytes handles line
table_refused table root bytes handles line (of_fault fault none breaks) = of_table fault none breaks

-- and each text
pub table_unencoded : (table root text line : List ℕ) → IsTableRefusal table line → IsEncodeRefusal table root text line
table_unencoded table root text line (of_fault fault none breaks) = by_table fault none breaks

pub root_of : (file table root name : List ℕ) (entry : ℕ) → table ≡ file → name ≡ root → WellFormed file → IsRootEntry table (header_of table) name entry → IsRootOf file root entry
root_of file table root name entry t n w h = record {
  well_formed = w;
  root_entry = subst (λ (b : List ℕ). IsRootEntry b (header_of b) root entry) t (subst (λ (l : List ℕ). IsRootEntry table (header_of table) l entry) n h);
}

pub no_root_of : (file table root name : List ℕ) → table ≡ file → name ≡ root → WellFormed file → HasNoRoot table (header_of table) name → LacksRoot file root
no_root_of file table root name t n w h = record {
  well_formed = w;
  none = subst (λ (b : List ℕ). HasNoRoot b (header_of b) root) t (subst (λ (l : List ℕ). HasNoRoot table (header_of table) l) n h);
}

-- what ends the reading of a table can end `decode` and `encode`
pub verified_ends : (r : Outcome) → CanEndVerified r → CanEndDecode r
verified_ends outcome.Done e = absurd e
verified_ends outcome.Asked e = absurd e
verified_ends outcome.Refused e = tt
verified_ends outcome.WrongLine e = absurd e
verified_ends outcome.NoRoot e = absurd e
verified_ends outcome.NoProtocol e = absurd e
verified_ends outcome.NoFault e = absurd e
verified_ends outcome.WrongText e = absurd e
verified_ends outcome.NoFile e = absurd e
verified_ends outcome.Unread e = absurd e
verified_ends outcome.Unwritten e = tt
verified_ends outcome.NoMemory e = absurd e

-- and so can what ends the encoding
pub decoded_ends : (r : Outcome) → CanEndDecodeAs r → CanEndDecode r
decoded_ends outcome.Done e = tt
decoded_ends outcome.Asked e = absurd e
decoded_ends outcome.Refused e = tt
decoded_ends outcome.WrongLine e = absurd e
decoded_ends outcome.NoRoot e = absurd e
decoded_ends outcome.NoProtocol e = absurd e
decoded_ends outcome.NoFault e = absurd e
decoded_ends outcome.WrongText e = absurd e
decoded_ends outcome.NoFile e = absurd e
decoded_ends outcome.Unread e = absurd e
decoded_ends outcome.Unwritten e = tt
decoded_ends outcome.NoMemory e = tt

-- what a decoded message stands for
pub encodes_as : (d : Shown) (table bytes : List ℕ) (entry : ℕ) (handles : List HandleInfo) (v : Value) → d.table ≡ table → d.entry ≡ entry → d.bytes ≡ bytes → d.handles ≡ handles
    → Encodes (declarations_of table) (ty.named entry) v bytes handles → Encodes (declarations_of d.table) (ty.named d.entry) v d.bytes d.handles
encodes_as d table bytes entry handles v t e b h x =
    subst (λ (l : List ℕ). Encodes (declarations_of l) (ty.named d.entry) v d.bytes d.handles) (sym t)
    (subst (λ k. Encodes (declarations_of table) (ty.named k) v d.bytes d.handles) (sym e)
    (subst (λ (l : List ℕ). Encodes (declarations_of table) (ty.named entry) v l d.handles) (sym b)
    (subst (λ (l : List HandleInfo). Encodes (declarations_of table) (ty.named entry) v bytes l) (sym h) x)))

pub text_as : (d : Shown) (table : List ℕ) (entry : ℕ) (v : Value) → d.table ≡ table → d.entry ≡ entry → Text (declarations_of d.table) (ty.named d.entry) v ≡ Text (declarations_of table) (ty.named entry) v
text_as d table entry v t e = ap (λ (l : List ℕ). Text (declarations_of l) (ty.named d.entry) v) t ∙ ap (λ k. Text (declarations_of table) (ty.named k) v) e

-- what holds in any case holds at `Ok`
pub at_ok : {T E P : Type 0} (r : Result T E) → P → OnOk r P
at_ok (Ok x) h = h
at_ok (Err x) h = tt

-- no reason for which there are no arguments is a failed write
pub never_unwritten : (u : Unread) → outcome_of u ≡ Unwritten → ⊥
never_unwritten (unread.Asked text) e = cc
never_unwritten (unread.Wrong line) e = cc
never_unwritten unread.NotText e = cc
never_unwritten unread.Missing e = cc
never_unwritten unread.BadHex e = cc
never_unwritten (unread.BadHandle line) e = cc
never_unwritten unread.OutIsSource e = cc
never_unwritten unread.OutIsTable e = cc
never_unwritten unread.BadRaw e = cc
never_unwritten unread.TwoLists e = cc
never_unwritten unread.BadFault e = cc
never_unwritten unread.Memory e = cc

-- all but a request for help has a line
pub line_otherwise : (u : Unread) → ((text : _) → u ≡ unread.Asked text → ⊥) → line_of u ≡ complaint_of u ++ codes "\n"
line_otherwise (unread.Asked text) other = absurd (other text refl)
line_otherwise (unread.Wrong line) other = refl
line_otherwise unread.NotText other = refl
line_otherwise unread.Missing other = refl
line_otherwise unread.BadHex other = refl
line_otherwise (unread.BadHandle line) other = refl
line_otherwise unread.OutIsSource other = refl
line_otherwise unread.OutIsTable other = refl
line_otherwise unread.BadRaw other = refl
line_otherwise unread.TwoLists other = refl
line_otherwise unread.BadFault other = refl
line_otherwise unread.Memory other = refl
