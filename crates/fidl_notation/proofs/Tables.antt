-- What is written of a table's or a union's value, and what is left to be written of a table.
use Rattle.std.proofs.Common.{◌≡◌, ◌≢◌, ℕ, zero, suc, ◌+◌, ◌<◌, ◌≤◌, List, ◌++◌, Bool, true, false, IsTrue, refl, sym, ap, subst, ◌∙◌, arith}
use Rattle.std.specs.Prelude.{Option, Some, None, if◌then◌else◌, ◌==◌, codes, decimal}
use Rattle.std.proofs.lemmas.Bool.{eq-eqb, eqb-true}
use mathlib.Core.List.{append_assoc}
use Rattle.fidl_wire.specs.Value.{Value, absent, table, union, Member, known, Members}
use Rattle.fidl_wire.specs.Term.{Term, Rows, rows_of, find, resolve, nothing}
use Rattle.fidl_wire.specs.Term as ty
use Rattle.fidl_wire.specs.Figure.{Declarations}
use Rattle.fidl_wire.specs.Encoding.{term_or}
use Rattle.fidl_wire.specs.Typed.{IsTyped}
use Rattle.fidl_wire.specs.Text as text
use Rattle.fidl_wire.specs.Text.{text_of, member_text, members_text}
use Rattle.fidl_table_format.specs.declared.record.Row.{Row}
use Rattle.fidl_table_format.specs.declared.record.Header.{Header}
use Rattle.fidl_table_format.specs.declared.kind.EntryKind.TheVariants.{Table, Union}
use Rattle.fidl_table_format.specs.Section.{header_of, entry_at, row_at, name_at}
use Rattle.fidl_table_format.specs.Terms.{declarations_of, members_of, rows_from, is_optional, is_strict}
use Rattle.fidl_table_format.specs.Uses.{uses_ordinals}
use Rattle.fidl_table_format.specs.Entry.{IsOf, kind_is}
use Rattle.fidl_table_format.specs.WellFormed.{WellFormed}
use Rattle.fidl_verify.proofs.Ordered.{rows_declared, rising_keys}
use Rattle.fidl_view.specs.Parts.{at_ordinal, variant_of, held_of, length_of}
use Rattle.fidl_view.specs.declared.view.View.{View}
use Rattle.fidl_streams.specs.Written.{Taken, Takes, TakesPart}
use Rattle.fidl_notation.specs.Slots.{named_text, slot_text, later_behind}
use Rattle.fidl_streams.proofs.Taking.{IsSoFar, so_far_begin, so_far_more, so_far_failed, so_far_as, begin_failed}
use Rattle.fidl_view.proofs.Listed.{some_same}
use Rattle.fidl_notation.proofs.Slots as slots
use Rattle.fidl_view.specs.Within.{IsValueOf}
use Rattle.fidl_view.proofs.Held as held
use Rattle.fidl_view.proofs.Tabled.{table_term, union_term, is_table, as_table}

-- the name of a member is that of the row of its ordinal
module _ (b : List ℕ) (h : Header) (ordinal : ℕ) where
  differ : (x y : ℕ) → x ≢ y → (x == y) ≡ false
  differ x y n = by (x == y) refl
    where
      by : (r : Bool) → (x == y) ≡ r → (x == y) ≡ false
      by false e = e
      by true e = absurd (n (eqb-true x y e))

  abbrev row_name : ℕ → List ℕ
  row_name i = name_at b h (row_at b h i).name_place (row_at b h i).name_length

  named_from : (first n k : ℕ) → k < n → (row_at b h (first + k)).key ≡ ordinal → ((i : ℕ) → i < k → (row_at b h (first + i)).key ≢ ordinal)
      → text.name_at (rows_from b h first n) ordinal ≡ row_name (first + k)
  named_from first zero k p is none = absurd (omega (arith, p))
  named_from first (suc n) zero p is none =
      let same : first ≡ first + 0 = omega arith in
      let here : (row_at b h first).key ≡ ordinal = subst (λ i. (row_at b h i).key ≡ ordinal) (sym same) is in
      ap (λ (t : Bool). if t then row_name first else text.name_at (rows_from b h (suc first) n) ordinal) (eq-eqb (row_at b h first).key ordinal here)
      ∙ ap (λ i. row_name i) same
  named_from first (suc n) (suc k) p is none =
      let begin : first + 0 ≡ first = omega arith in
      let step : (i : ℕ) → first + suc i ≡ suc first + i = λ i. omega arith in
      let other : (row_at b h first).key ≢ ordinal = subst (λ i. (row_at b h i).key ≢ ordinal) begin (none 0 (omega arith)) in
      ap (λ (t : Bool). if t then row_name first else text.name_at (rows_from b h (suc first) n) ordinal) (differ (row_at b h first).key ordinal other)
      ∙ named_from (suc first) n k (omega (arith, p)) (subst (λ i. (row_at b h i).key ≡ ordinal) (step k) is) (λ i q. subst (λ j. (row_at b h j).key ≢ ordinal) (step i) (none (suc i) (omega (arith, q))))
      ∙ ap (λ i. row_name i) (sym (step k))

module _ (b : List ℕ) (w : WellFormed b) (i : ℕ) (lt : i < (header_of b).entries) where
  abbrev rows : Rows
  rows = members_of b i

  abbrev ds : Declarations
  ds = declarations_of b

  abbrev own : Term
  own = resolve (declarations_of b).terms (ty.named i)

  member_name : IsTrue (kind_is uses_ordinals (entry_at b i)) → (ordinal k : ℕ) → k < (entry_at b i).count → (row_at b (header_of b) ((entry_at b i).first + k)).key ≡ ordinal
      → text.name_at (members_of b i) ordinal ≡ row_name b (header_of b) ordinal ((entry_at b i).first + k)
  member_name uses ordinal k p is =
      let e = entry_at b i in
      let key : ℕ → ℕ = λ j. (row_at b (header_of b) (e.first + j)).key in
      let sorted = (w.entries i lt).sorted.ordinals uses in
      ap (λ (r : Rows). text.name_at r ordinal) (rows_declared b (header_of b) e uses)
      ∙ named_from b (header_of b) ordinal e.first e.count k p is
      (λ j q same. let less = rising_keys key e.count (λ m r. (sorted m (omega (arith, r))).rises r) j k q p in omega (arith, less, same, is))

  pub union_text : IsOf Union (entry_at b i) → (view : View) (v : Value) → IsValueOf b i view v → (ordinal : ℕ) (x : Member) → variant_of v ≡ Some (ordinal, x)
      → text_of ds own v ≡ codes "union(" ++ member_text ds rows ordinal x ++ codes ")"
  union_text is view v p ordinal x e = go v (subst (λ (t : Term). IsTyped ds t v) (union_term b w i lt is) p.typed) e
    where
      one_pair : (p q : ℕ × Member) → Some p ≡ Some q → p ≡ q
      one_pair p q e = cc

      go : (v : Value) → IsTyped ds (ty.union (is_optional (entry_at b i)) (is_strict (entry_at b i)) rows) v → variant_of v ≡ Some (ordinal, x) → text_of ds own v ≡ codes "union(" ++ member_text ds rows ordinal x ++ codes ")"
      go (union key y) h e =
          ap (λ (t : Term). text_of ds t (union key y)) (union_term b w i lt is)
          ∙ ap (λ (q : ℕ × Member). codes "union(" ++ member_text ds rows q.0 q.1 ++ codes ")") (one_pair (key, y) (ordinal, x) e)
      go _ h e = cc

  pub union_absent : IsOf Union (entry_at b i) → (view : View) (v : Value) → IsValueOf b i view v → variant_of v ≡ None → text_of ds own v ≡ codes "absent"
  union_absent is view v p e = go v (subst (λ (t : Term). IsTyped ds t v) (union_term b w i lt is) p.typed) e
    where
      go : (v : Value) → IsTyped ds (ty.union (is_optional (entry_at b i)) (is_strict (entry_at b i)) rows) v → variant_of v ≡ None → text_of ds own v ≡ codes "absent"
      go (union key y) h e = cc
      go absent h e = refl
      go _ h e = absurd h

  pub known_text : (ordinal e : ℕ) (v : Value) (name : List ℕ) → find rows ordinal ≡ Some (ty.named e) → text.name_at rows ordinal ≡ name
      → member_text ds rows ordinal (known v) ≡ name ++ codes ": " ++ text_of ds (resolve ds.terms (ty.named e)) v
  known_text ordinal e v name is named =
      ap (λ (l : List ℕ). l ++ codes ": " ++ text_of ds (resolve ds.terms (term_or (find rows ordinal))) v) named
      ∙ ap (λ (o : Option Term). name ++ codes ": " ++ text_of ds (resolve ds.terms (term_or o)) v) is

  -- what a row says that a search by the ordinal has found
  abbrev pub IsRowAt : (ordinal : ℕ) → Row → Type 0
  IsRowAt ordinal row = (k : ℕ) × (k < (entry_at b i).count) × (row ≡ row_at b (header_of b) ((entry_at b i).first + k)) × (row.key ≡ ordinal)

  pub member_whole : IsTrue (kind_is uses_ordinals (entry_at b i)) → (ordinal : ℕ) (v : Value) (row : Row) → IsRowAt ordinal row → find rows ordinal ≡ Some (ty.named row.entry)
      → member_text ds rows ordinal (known v) ≡ named_text b row v
  member_whole uses ordinal v row x found =
      known_text ordinal row.entry v (name_at b (header_of b) row.name_place row.name_length) found
      (member_name uses ordinal x.0 x.1 (ap (λ (r : Row). r.key) (sym x.2) ∙ x.3) ∙ ap (λ (r : Row). name_at b (header_of b) r.name_place r.name_length) (sym x.2))

-- what is left to write of a table from an ordinal on
pub record IsTableLeft (b : List ℕ) (index at : ℕ) (later : Bool) (view : View) (old now : Taken) : Type 0 where
  pub left : (n : ℕ) (ms : Members) → IsValueOf b index view (table n ms)
      → (rest : Members) × held.IsRest (declarations_of b) (members_of b index) at n ms rest
      × IsSoFar old now (text_of (declarations_of b) (resolve (declarations_of b).terms (ty.named index)) (table n ms)) (members_text (declarations_of b) (members_of b index) later rest ++ codes "}")

module _ (b : List ℕ) (w : WellFormed b) (i : ℕ) (lt : i < (header_of b).entries) (is : IsOf Table (entry_at b i)) (view : View) (old : Taken) where
  abbrev whole : Value → List ℕ
  whole v = text_of (declarations_of b) (resolve (declarations_of b).terms (ty.named i)) v

  abbrev slot : (later : Bool) (ordinal : ℕ) → Value → List ℕ
  slot later ordinal v = slot_text (declarations_of b) (members_of b i) later ordinal (held_of v ordinal)

  -- before the members
  pub head_text : (n : ℕ) (ms : Members) → IsValueOf b i view (table n ms) → (count : ℕ) → count ≡ n
      → whole (table n ms) ≡ (codes "table(" ++ decimal count ++ codes ") {") ++ (members_text (declarations_of b) (members_of b i) false ms ++ codes "}")
  head_text n ms p count e =
      let members = members_text (declarations_of b) (members_of b i) false ms in
      ap (λ (t : Term). text_of (declarations_of b) t (table n ms)) (table_term b w i lt is) ∙ ap (λ k. codes "table(" ++ decimal k ++ codes ") {" ++ members ++ codes "}") (sym e)
      ∙ append_assoc (codes "table(" ++ decimal count ++ codes ") {") members (codes "}")

  pub table_begin : (now : Taken) (count : ℕ) → ((v : Value) → IsValueOf b i view v → Some count ≡ length_of v) → Takes old now (codes "table(" ++ decimal count ++ codes ") {")
      → IsTableLeft b i 0 false view old now
  table_begin now count counted wrote = record {
    left = λ n ms p.
        let same : count ≡ n = some_same count n (counted (table n ms) p) in
        (ms, held.all_left (declarations_of b) (members_of b i) n ms (is_table b w i lt is view n ms p).rises, so_far_begin _ _ _ _ _ wrote (head_text n ms p count same));
  }

  -- what is left is what the next ordinal holds, and what is left behind it
  slot_first : (at n : ℕ) (later : Bool) (ms rest : Members) (x : held.IsNext (declarations_of b) (members_of b i) at n ms rest)
      → members_text (declarations_of b) (members_of b i) later rest ++ codes "}"
      ≡ slot later (suc at) (table n ms) ++ (members_text (declarations_of b) (members_of b i) (later_behind later (at_ordinal ms (suc at))) x.behind ++ codes "}")
  slot_first at n later ms rest x = ap (λ (l : List ℕ). l ++ codes "}") (slots.next_text (declarations_of b) (members_of b i) later at n ms rest x) ∙ append_assoc (slot later (suc at) (table n ms)) _ (codes "}")

  next_suc : (mid now : Taken) (at : ℕ) (later more : Bool) → IsTableLeft b i at later view old mid → ((v : Value) → IsValueOf b i view v → Takes mid now (slot later (suc at) v))
      → ((v : Value) → IsValueOf b i view v → more ≡ later_behind later (held_of v (suc at))) → IsTableLeft b i (suc at) more view old now
  next_suc mid now at later more so wrote behind = record {
    left = λ n ms p.
        let r = so.left n ms p in
        let x = held.next (declarations_of b) (members_of b i) at n ms r.0 r.1 in
        let behind_is = ap (λ (l : Bool). members_text (declarations_of b) (members_of b i) l x.behind ++ codes "}") (behind (table n ms) p) in
        (x.behind, x.is_rest, so_far_as _ _ _ _ _ (so_far_more _ _ _ _ _ _ _ r.2 (wrote (table n ms) p) (slot_first at n later ms r.0 x)) (sym behind_is));
  }

  pub table_next : (mid now : Taken) (at ordinal : ℕ) (later more : Bool) → suc at ≡ ordinal → IsTableLeft b i at later view old mid
      → ((v : Value) → IsValueOf b i view v → Takes mid now (slot later ordinal v)) → ((v : Value) → IsValueOf b i view v → more ≡ later_behind later (held_of v ordinal)) → IsTableLeft b i ordinal more view old now
  table_next mid now at ordinal later more e so =
      subst (λ k. ((v : Value) → IsValueOf b i view v → Takes mid now (slot later k v)) → ((v : Value) → IsValueOf b i view v → more ≡ later_behind later (held_of v k)) → IsTableLeft b i k more view old now) e
      (next_suc mid now at later more so)

  pub table_failed : (mid now : Taken) (at ordinal : ℕ) (later : Bool) → suc at ≡ ordinal → IsTableLeft b i at later view old mid → (v : Value) → IsValueOf b i view v → TakesPart mid now (slot later ordinal v)
      → TakesPart old now (whole v)
  table_failed mid now at ordinal later e so v p front =
      let failed = subst (λ k. TakesPart mid now (slot later k v)) (sym e) front in
      let f = as_table b w i lt is view v p in
      let q = subst (λ (u : Value). IsValueOf b i view u) f.2 p in
      let r = so.left f.0 f.1 q in
      let x = held.next (declarations_of b) (members_of b i) at f.0 f.1 r.0 r.1 in
      subst (λ (u : Value). TakesPart old now (whole u)) (sym f.2)
      (so_far_failed _ _ _ _ _ _ _ r.2 (subst (λ (u : Value). TakesPart mid now (slot later (suc at) u)) f.2 failed) (slot_first at f.0 later f.1 r.0 x))

  pub table_end : (now : Taken) (at : ℕ) (later : Bool) → IsTableLeft b i at later view old now → (v : Value) → IsValueOf b i view v → ((n : ℕ) (ms : Members) → v ≡ table n ms → n ≤ at)
      → IsSoFar old now (whole v) (codes "}")
  table_end now at later so v p past =
      let f = as_table b w i lt is view v p in
      let q = subst (λ (u : Value). IsValueOf b i view u) f.2 p in
      let r = so.left f.0 f.1 q in
      subst (λ (u : Value). IsSoFar old now (whole u) (codes "}")) (sym f.2)
      (so_far_as _ _ _ _ _ r.2 (ap (λ (l : List ℕ). l ++ codes "}") (slots.none_text (declarations_of b) (members_of b i) later at f.0 f.1 r.0 r.1 (past f.0 f.1 f.2))))

  -- before the members, for a write that failed
  pub head_failed : (now : Taken) (count : ℕ) → ((v : Value) → IsValueOf b i view v → Some count ≡ length_of v) → TakesPart old now (codes "table(" ++ decimal count ++ codes ") {")
      → (v : Value) → IsValueOf b i view v → TakesPart old now (whole v)
  head_failed now count counted failed v p =
      let f = as_table b w i lt is view v p in
      let q = subst (λ (u : Value). IsValueOf b i view u) f.2 p in
      let same : count ≡ f.0 = some_same count f.0 (counted (table f.0 f.1) q) in
      subst (λ (u : Value). TakesPart old now (whole u)) (sym f.2) (begin_failed _ _ _ _ _ failed (head_text f.0 f.1 q count same))
