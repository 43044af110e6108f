-- What a view answers of a table's or a union's value.
use Rattle.std.proofs.Common.{◌≡◌, ℕ, suc, ◌<◌, ◌≤◌, List, Bool, true, false, IsTrue, refl, sym, ap, subst, ◌∙◌, arith}
use Rattle.std.specs.Prelude.{Option, Some, None, IfSome, IfNone, IsSome, MatchOption, if◌then◌else◌, nat_le}
use Rattle.std.specs.Option.{option_map_or}
use Rattle.fidl_wire.specs.Value.{Value, absent, table, union, Member, known, unknown, Members}
use Rattle.fidl_wire.specs.Term.{Term, Rows, rows_of, find, resolve, nothing}
use Rattle.fidl_wire.specs.Term as ty
use Rattle.fidl_wire.specs.Figure.{Figure, Declarations, size_of}
use Rattle.fidl_wire.proofs.Sizes.{size_of-resolve, le_of_test}
use Rattle.fidl_wire.specs.Typed.{IsTyped, IsTypedMember, RiseTyped}
use Rattle.fidl_wire.specs.Depth.{depth_of, member_depth, members_depth}
use Rattle.fidl_table_format.specs.declared.record.Row.{Row}
use Rattle.fidl_table_format.specs.declared.kind.EntryKind.{EntryKind}
use Rattle.fidl_table_format.specs.declared.kind.EntryKind.TheVariants.{Table, Union}
use Rattle.fidl_table_format.specs.Section.{header_of, entry_at}
use Rattle.fidl_table_format.specs.Terms.{declarations_of, members_of, term_as, is_optional, is_strict}
use Rattle.fidl_table_format.specs.Uses.{uses_ordinals}
use Rattle.fidl_table_format.specs.Entry.{IsOf, kind_is}
use Rattle.fidl_table_format.specs.WellFormed.{WellFormed}
use Rattle.fidl_decode_model.proofs.Bridge.{fine_of}
use Rattle.fidl_decode_model.proofs.Visiting.{figure_is, size_is}
use Rattle.fidl_decode_model.proofs.Shallow.{no_depth}
use Rattle.fidl_view.specs.Parts.{at_ordinal, known_of, unknown_in, variant_of, member_of, held_of, unknown_of}
use Rattle.fidl_view.specs.declared.envelope.Unknown.{Unknown}
use Rattle.fidl_view.proofs.Keyed.{held_variant}
use Rattle.fidl_view.specs.declared.view.View.{View}
use Rattle.fidl_view.proofs.Entered as entries
use Rattle.fidl_view.proofs.Held as slots
use Rattle.fidl_view.specs.Within.{IsValueOf}

-- what a view says of a union's member, known or unknown
pub known_is : (x : Member) (y : Value) → known_of x ≡ Some y → x ≡ known y
known_is (known z) y e = let same : z ≡ y = cc in ap (λ (v : Value). known v) same
known_is (unknown inline bytes handles) y e = cc

own_unknown : (x : Member) → known_of x ≡ None → unknown_in (Some x) ≡ Some x
own_unknown (known z) e = cc
own_unknown (unknown inline bytes handles) e = refl

abbrev SaysUnknown : Option Unknown → Value → (ordinal : ℕ) → Type 0
SaysUnknown r v ordinal = MatchOption r (unknown_of v ordinal ≡ None) (λ u. unknown_of v ordinal ≡ Some (unknown u.inline u.bytes.now u.handles.now))

held_unknown : (v : Value) (ordinal : ℕ) (x : Member) → variant_of v ≡ Some (ordinal, x) → known_of x ≡ None → unknown_of v ordinal ≡ Some x
held_unknown v ordinal x e none = ap (λ (o : Option Member). unknown_in o) (held_variant v ordinal x e) ∙ own_unknown x none

pub unknown_there : (r : Option Unknown) (v : Value) (ordinal : ℕ) (x : Member) → variant_of v ≡ Some (ordinal, x) → known_of x ≡ None → SaysUnknown r v ordinal → IsSome r
unknown_there None v ordinal x e none says = let bad : Some x ≡ None = sym (held_unknown v ordinal x e none) ∙ says in cc
unknown_there (Some u) v ordinal x e none says = refl

pub unknown_same : (r : Option Unknown) (u : Unknown) (v : Value) (ordinal : ℕ) (x : Member) → variant_of v ≡ Some (ordinal, x) → known_of x ≡ None → r ≡ Some u → SaysUnknown r v ordinal
    → x ≡ unknown u.inline u.bytes.now u.handles.now
unknown_same r u v ordinal x e none is says =
    let is_u : unknown_of v ordinal ≡ Some (unknown u.inline u.bytes.now u.handles.now) = subst (λ (o : Option Unknown). SaysUnknown o v ordinal) is says in
    one_member x (unknown u.inline u.bytes.now u.handles.now) (sym (held_unknown v ordinal x e none) ∙ is_u)
  where
    one_member : (x y : Member) → Some x ≡ Some y → x ≡ y
    one_member x y e = cc

pub of_some : (P : Row → Type 0) (r : Option Row) (row : Row) → r ≡ Some row → IfSome r P → P row
of_some P r row e h = subst (λ (o : Option Row). IfSome o P) e h

module _ (b : List ℕ) (w : WellFormed b) (i : ℕ) (lt : i < (header_of b).entries) where
  abbrev rows : Rows
  rows = members_of b i

  abbrev ds : Declarations
  ds = declarations_of b

  abbrev own : Term
  own = resolve (declarations_of b).terms (ty.named i)

  rows_here : (k : EntryKind) → IsOf k (entry_at b i) → members_of b i ≡ rows_of (term_as k b (header_of b) (entry_at b i))
  rows_here k is = ap (λ (o : Option EntryKind). rows_of (option_map_or (λ (j : EntryKind). term_as j b (header_of b) (entry_at b i)) o nothing)) is

  pub has_ordinals : (k : EntryKind) → uses_ordinals k ≡ true → IsOf k (entry_at b i) → IsTrue (kind_is uses_ordinals (entry_at b i))
  has_ordinals k uses is = ap (λ (o : Option EntryKind). option_map_or uses_ordinals o false) is ∙ uses

  pub record IsTable (n : ℕ) (ms : Members) : Type 0 where
    pub rises : RiseTyped ds rows 0 n ms
    pub deep : depth_of ds own (table n ms) ≡ suc (members_depth ds rows ms)

  pub table_term : IsOf Table (entry_at b i) → own ≡ ty.table rows
  table_term is = entries.term_at b w i lt Table is ∙ ap ty.table (sym (rows_here Table is))

  pub is_table : IsOf Table (entry_at b i) → (view : View) (n : ℕ) (ms : Members) → IsValueOf b i view (table n ms) → IsTable n ms
  is_table is view n ms p = record {
    rises = (subst (λ (t : Term). IsTyped ds t (table n ms)) (table_term is) p.typed).1;
    deep = ap (λ (t : Term). depth_of ds t (table n ms)) (table_term is);
  }

  pub as_table : IsOf Table (entry_at b i) → (view : View) (v : Value) → IsValueOf b i view v → (n : ℕ) × (ms : Members) × (v ≡ table n ms)
  as_table is view v p = go v (subst (λ (t : Term). IsTyped ds t v) (table_term is) p.typed)
    where
      go : (v : Value) → IsTyped ds (ty.table rows) v → (n : ℕ) × (ms : Members) × (v ≡ table n ms)
      go (table n ms) h = (n, ms, refl)
      go _ h = absurd h

  pub some_depth : IsOf Table (entry_at b i) → (view : View) (v : Value) → IsValueOf b i view v → (depth : ℕ) → depth_of ds own v ≤ depth → 0 < depth
  some_depth is view v p depth deep =
      let f = as_table is view v p in
      let own_depth = ap (λ (u : Value). depth_of ds own u) f.2 ∙ (is_table is view f.0 f.1 (subst (λ (u : Value). IsValueOf b i view u) f.2 p)).deep in
      omega (arith, own_depth, deep)

  -- what a view answers of a table at an ordinal is what it holds there
  module _ (is : IsOf Table (entry_at b i)) (view : View) (v : Value) (p : IsValueOf b i view v) (ordinal : ℕ) where
    abbrev found : (n : ℕ) × (ms : Members) × (v ≡ table n ms)
    found = as_table is view v p

    abbrev is_found : IsTable found.0 found.1
    is_found = is_table is view found.0 found.1 (subst (λ (u : Value). IsValueOf b i view u) found.2 p)

    pub held_known : (y : Value) → member_of v ordinal ≡ Some y → held_of v ordinal ≡ Some (known y)
    held_known y e = ap (λ (u : Value). held_of u ordinal) found.2 ∙ slots.known_held (at_ordinal found.1 ordinal) y (sym (ap (λ (u : Value). member_of u ordinal) found.2) ∙ e)

    pub held_none : member_of v ordinal ≡ None → unknown_of v ordinal ≡ None → held_of v ordinal ≡ None
    held_none e f =
        ap (λ (u : Value). held_of u ordinal) found.2
        ∙ slots.none_held (at_ordinal found.1 ordinal) (sym (ap (λ (u : Value). member_of u ordinal) found.2) ∙ e) (sym (ap (λ (u : Value). unknown_of u ordinal) found.2) ∙ f)

    at_held : (x : Member) → held_of v ordinal ≡ Some x → at_ordinal found.1 ordinal ≡ Some x
    at_held x e = sym (ap (λ (u : Value). held_of u ordinal) found.2) ∙ e

    pub held_typed : (x : Member) → held_of v ordinal ≡ Some x → IsTypedMember ds false (find rows ordinal) x
    held_typed x e = slots.held_typed ds rows found.1 0 found.0 ordinal x is_found.rises (at_held x e)

    pub held_depth : (x : Member) (depth : ℕ) → held_of v ordinal ≡ Some x → depth_of ds own v ≤ suc depth → member_depth ds (find rows ordinal) x ≤ depth
    held_depth x depth e deep =
        let all : depth_of ds own v ≡ suc (members_depth ds rows found.1) = ap (λ (u : Value). depth_of ds own u) found.2 ∙ is_found.deep in
        let less = slots.held_depth ds rows found.1 ordinal x (at_held x e) in
        omega (arith, all, less, deep)

  pub record UnionIs (v : Value) (ordinal : ℕ) (x : Member) : Type 0 where
    pub typed : (y : Value) → x ≡ known y → IsTypedMember ds false (find rows ordinal) (known y)
    pub deep : depth_of ds own v ≡ member_depth ds (find rows ordinal) x

  pub union_term : IsOf Union (entry_at b i) → own ≡ ty.union (is_optional (entry_at b i)) (is_strict (entry_at b i)) rows
  union_term is = entries.term_at b w i lt Union is ∙ ap (λ (r : Rows). ty.union (is_optional (entry_at b i)) (is_strict (entry_at b i)) r) (sym (rows_here Union is))

  pub union_is : IsOf Union (entry_at b i) → (view : View) (v : Value) → IsValueOf b i view v → (ordinal : ℕ) (x : Member) → variant_of v ≡ Some (ordinal, x) → UnionIs v ordinal x
  union_is is view v p ordinal x e = go v (subst (λ (t : Term). IsTyped ds t v) (union_term is) p.typed) e
    where
      one_pair : (p q : ℕ × Member) → Some p ≡ Some q → p ≡ q
      one_pair p q e = cc

      own_union : (key : ℕ) (y : Member) → IsTyped ds (ty.union (is_optional (entry_at b i)) (is_strict (entry_at b i)) rows) (union key y) → UnionIs (union key y) key y
      own_union key y h = record {
        typed = λ z same. slots.known_typed ds rows (is_strict (entry_at b i)) (find rows key) z (subst (λ (m : Member). IsTypedMember ds (is_strict (entry_at b i)) (find rows key) m) same h.2);
        deep = ap (λ (t : Term). depth_of ds t (union key y)) (union_term is);
      }

      go : (v : Value) → IsTyped ds (ty.union (is_optional (entry_at b i)) (is_strict (entry_at b i)) rows) v → variant_of v ≡ Some (ordinal, x) → UnionIs v ordinal x
      go (union key y) h e = subst (λ (q : ℕ × Member). UnionIs (union key y) q.0 q.1) (one_pair (key, y) (ordinal, x) e) (own_union key y h)
      go _ h e = cc

  pub union_none : IsOf Union (entry_at b i) → (view : View) (v : Value) → IsValueOf b i view v → variant_of v ≡ None → v ≡ absent
  union_none is view v p e = go v (subst (λ (t : Term). IsTyped ds t v) (union_term is) p.typed) e
    where
      go : (v : Value) → IsTyped ds (ty.union (is_optional (entry_at b i)) (is_strict (entry_at b i)) rows) v → variant_of v ≡ None → v ≡ absent
      go (union key y) h e = cc
      go absent h e = refl
      go _ h e = absurd h

  pub union_size : IsOf Union (entry_at b i) → 16 ≡ (entry_at b i).size
  union_size is = ap (λ (f : Figure). f.size) (figure_is b (fine_of b w) i Union lt is)

  -- a known member has a row
  pub row_there : (ordinal : ℕ) (v : Value) (r : Option Row) → IfNone r (find rows ordinal ≡ None) → IsTypedMember ds false (find rows ordinal) (known v) → IsSome r
  row_there ordinal v None lacks h = absurd (subst (λ (o : Option Term). IsTypedMember ds false o (known v)) lacks h)
  row_there ordinal v (Some row) lacks h = refl

  -- the type and the name that the row of an ordinal gives to a known member
  pub member_typed : (ordinal e : ℕ) (v : Value) → find rows ordinal ≡ Some (ty.named e) → IsTypedMember ds false (find rows ordinal) (known v) → IsTyped ds (resolve ds.terms (ty.named e)) v
  member_typed ordinal e v is h = subst (λ (o : Option Term). IsTypedMember ds false o (known v)) is h

  -- the depth of its value: none in an envelope, and one less out of line
  pub inline_depth : (e : ℕ) → e < (header_of b).entries → (v : Value) → IsTyped ds (resolve ds.terms (ty.named e)) v → (entry_at b e).size ≤ 4 → depth_of ds (resolve ds.terms (ty.named e)) v ≡ 0
  inline_depth e p v h small =
      let laid = (fine_of b w).laid_out in
      let size = size_is b (fine_of b w) e p in
      no_depth ds laid (resolve ds.terms (ty.named e)) v h (rw (size_of-resolve ds laid (ty.named e)) (omega (arith, size, small)))

  pub out_depth : (ordinal e : ℕ) → e < (header_of b).entries → (v : Value) (depth : ℕ) → find rows ordinal ≡ Some (ty.named e) → member_depth ds (find rows ordinal) (known v) ≤ depth → 4 < (entry_at b e).size
      → suc (depth_of ds (resolve ds.terms (ty.named e)) v) ≤ depth
  out_depth ordinal e p v depth is deep large =
      let size = size_is b (fine_of b w) e p in
      go (nat_le (size_of ds (ty.named e)) 4) refl (subst (λ (o : Option Term). member_depth ds o (known v) ≤ depth) is deep)
    where
      go : (t : Bool) → nat_le (size_of ds (ty.named e)) 4 ≡ t → (if t then 0 else suc (depth_of ds (resolve ds.terms (ty.named e)) v)) ≤ depth → suc (depth_of ds (resolve ds.terms (ty.named e)) v) ≤ depth
      go false test h = h
      go true test h = let size = size_is b (fine_of b w) e p in absurd (omega (arith, le_of_test (size_of ds (ty.named e)) test, size, large))
