-- The text of a value is read as the value.
use Rattle.std.proofs.Common.{◌≡◌, ℕ, suc, ◌^◌, ◌<◌, ◌≤◌, List, [], ◌++◌, length, refl, sym, ap, subst, Bool, false, true, arith, inr, ℤ, pos, negsuc, neg_ℤ, Option, Some, None}
use Rattle.std.proofs.lemmas.List.{append_assoc}
use Rattle.std.proofs.lemmas.Fmt.{decimal_is_IsNumeral}
use Rattle.std.specs.Prelude.{codes, decimal, flat_map, if◌then◌else◌}
use Rattle.std.specs.Fmt.{signed_decimal}
use Rattle.fidl_wire.specs.declared.handle.HandleInfo.{HandleInfo}
use Rattle.fidl_wire.specs.Encoding.{term_or}
use Rattle.fidl_wire.specs.Value.{Value, absent, bool, number, text, list, fields, handle, table, union, Values, none, value, Member, known, unknown, Members, empty, member}
use Rattle.fidl_wire.specs.Term.{Term, Kind, int8, int16, int32, int64, uint8, uint16, uint32, uint64, Fields, no_fields, field, Rows, resolve, fields_of, find}
use Rattle.fidl_wire.specs.Term as ty
use Rattle.fidl_wire.specs.Figure.{Declarations}
use Rattle.fidl_wire.specs.Typed.{InRange, IsTyped, AllTyped, EachTyped, IsTypedMember, RiseTyped, IsUnknownLength}
use Rattle.fidl_wire.specs.Text.{text_of, elements_text, fields_text, member_text, members_text, comma_if, name_at, hex_byte, handles_text, handle_text, quoted_byte}
use Rattle.fidl_spelling.specs.Words.{IsQuoted}
use Rattle.fidl_spelling.specs.Spells.{Nothing, AHandle, The, One, ◌⨾◌, CommaIf, IsNumberOf, IsNumberBelow, AreHex, Handles, Means, Spelled, Elements, Named, AMember, Rising}
use Rattle.fidl_spelling.specs.Readable.{IsReadable, FieldsHaveNames, RowsHaveNames, AreNamesDistinct, AreReadable}
use Rattle.fidl_spelling.proofs.Reading.{Closed, Reads, Follows, reads_as, closed_reads, then_closed, closed_both, then_open, symbol_closed, symbol_blank, blank_symbol, one_run, one_negative, the_run, the_run_blank, nothing_closed, comma_closed}
use Rattle.fidl_spelling.proofs.Leaves.{decimal_number, decimal_run, handle_closed, handles_closed, hex_reads, quoted_closed}
use Rattle.fidl_spelling.proofs.Readable.{readable_resolve, readable_fields, there, means}

range_pos : (kind : Kind) (n : ℕ) → InRange kind (pos n) → n < 2 ^ 64
range_pos int8 n h = let lt = h.sfits in omega (arith, lt)
range_pos int16 n h = let lt = h.sfits in omega (arith, lt)
range_pos int32 n h = let lt = h.sfits in omega (arith, lt)
range_pos int64 n h = let lt = h.sfits in omega (arith, lt)
range_pos uint8 n h = omega (arith, h)
range_pos uint16 n h = omega (arith, h)
range_pos uint32 n h = omega (arith, h)
range_pos uint64 n h = omega (arith, h)

range_neg : (kind : Kind) (n : ℕ) → InRange kind (negsuc n) → suc n < 2 ^ 64
range_neg int8 n h = let lt = h.sfits in omega (arith, lt)
range_neg int16 n h = let lt = h.sfits in omega (arith, lt)
range_neg int32 n h = let lt = h.sfits in omega (arith, lt)
range_neg int64 n h = let lt = h.sfits in omega (arith, lt)
range_neg _ n h = absurd h

number_reads : (kind : Kind) (z : ℤ) → InRange kind z → Reads (One (IsNumberOf kind z)) (signed_decimal z)
number_reads kind (pos n) h = let lt = range_pos kind n h in one_run (IsNumberOf kind (pos n)) (decimal n) (h, decimal_number n lt) (decimal_run n lt)
number_reads kind (negsuc n) h =
    let lt = range_neg kind n h in
    let d = decimal_is_IsNumeral (suc n) lt in
    one_negative (IsNumberOf kind (negsuc n)) (decimal (suc n)) (h, inr (decimal (suc n), refl, d.0, sym (ap (λ k. neg_ℤ (pos k)) d.1))) (decimal_run (suc n) lt)

absent_reads : Reads (The "absent") (codes "absent")
absent_reads = the_run (codes "absent") (omega arith, refl)

apart5 : (a b c d e : List ℕ) → a ++ (b ++ (c ++ (d ++ e))) ≡ a ++ b ++ c ++ d ++ e
apart5 a b c d e = sym (simp append_assoc refl)

long_reads : (n : ℕ) → n < 2 ^ 64 → Reads (One (IsNumberBelow (2 ^ 64) n)) (decimal n)
long_reads n h = one_run (IsNumberBelow (2 ^ 64) n) (decimal n) (h, decimal_number n h) (decimal_run n h)

apart7 : (a b c d e f g : List ℕ) → a ++ (b ++ (c ++ (d ++ (e ++ (f ++ g))))) ≡ a ++ b ++ c ++ d ++ e ++ f ++ g
apart7 a b c d e f g = sym (simp append_assoc refl)

abbrev inline_text : Bool → List ℕ
inline_text inline = if inline then codes "in " else codes "out "

inline_closed : (inline : Bool) → Closed (The (if inline then "in" else "out")) (inline_text inline)
inline_closed true = the_run_blank (codes "in") (omega arith, refl)
inline_closed false = the_run_blank (codes "out") (omega arith, refl)

some_bytes : (inline : Bool) (n : ℕ) → IsUnknownLength inline n → 0 < n
some_bytes true n h = omega (arith, h)
some_bytes false n h = h.0

module _ (ds : Declarations) (ready : AreReadable ds) where
  elements_follow : (t : Term) (vs : Values) → Follows (elements_text ds t true vs)
  elements_follow t none rest f = f
  elements_follow t (value v vs) rest f = refl

  fields_follow : (fs : Fields) (vs : Values) → Follows (fields_text ds fs true vs)
  fields_follow (field name t fs) (value v vs) rest f = refl
  fields_follow _ _ rest f = f

  members_follow : (rows : Rows) (ms : Members) → Follows (members_text ds rows true ms)
  members_follow rows empty rest f = f
  members_follow rows (member ordinal m ms) rest f = refl

  known_reads : (strict : Bool) (rows : Rows) (ordinal : ℕ) (v : Value) (o : Option Term) → find rows ordinal ≡ o → AreNamesDistinct rows → RowsHaveNames AreNamesDistinct rows → IsTypedMember ds strict o (known v)
      → ((t : Term) → IsReadable t → IsTyped ds (resolve ds.terms t) v → Reads (Spelled ds (resolve ds.terms t) v) (text_of ds (resolve ds.terms t) v))
      → Reads (AMember ds rows ordinal (known v)) (member_text ds rows ordinal (known v))
  known_reads strict rows ordinal v None is d g h k = absurd h
  known_reads strict rows ordinal v (Some t) is d g h k =
      let b = there AreNamesDistinct rows ordinal t g is in
      let u = term_or (find rows ordinal) in
      let name = name_at rows ordinal in
      let x = text_of ds (resolve ds.terms u) v in
      let same : t ≡ u = ap term_or (sym is) in
      let reads = subst (λ s. Reads (Spelled ds (resolve ds.terms s) v) (text_of ds (resolve ds.terms s) v)) same (k t b.readable h) in
      reads_as (AMember ds rows ordinal (known v)) (name ++ (codes ": " ++ x)) (member_text ds rows ordinal (known v)) (sym (append_assoc name (codes ": ") x))
      (then_open (One (Means rows ordinal)) _ name (codes ": " ++ x) (one_run (Means rows ordinal) name (means rows ordinal t d b) b.run) (λ rest f. refl)
      (then_closed (The ":") (Spelled ds (resolve ds.terms u) v) (codes ": ") x (symbol_blank 58 refl) reads))

  unknown_reads : (strict : Bool) (rows : Rows) (ordinal : ℕ) (inline : Bool) (bytes : List ℕ) (hs : List HandleInfo) (o : Option Term) → ordinal < 2 ^ 64 → IsTypedMember ds strict o (unknown inline bytes hs)
      → Reads (AMember ds rows ordinal (unknown inline bytes hs)) (member_text ds rows ordinal (unknown inline bytes hs))
  unknown_reads strict rows ordinal inline bytes hs (Some t) small h = absurd h
  unknown_reads strict rows ordinal inline bytes hs None small h =
      let n = decimal ordinal in
      let i = inline_text inline in
      let x = flat_map hex_byte bytes in
      let y = handles_text false hs in
      reads_as (AMember ds rows ordinal (unknown inline bytes hs)) (n ++ (codes ": unknown " ++ (i ++ (x ++ (codes " [" ++ (y ++ codes "]")))))) (member_text ds rows ordinal (unknown inline bytes hs)) (apart7 n (codes ": unknown ") i x (codes " [") y (codes "]"))
      (then_open (One (IsNumberBelow (2 ^ 64) ordinal)) _ n (codes ": unknown " ++ (i ++ (x ++ (codes " [" ++ (y ++ codes "]"))))) (long_reads ordinal small) (λ rest f. refl)
      (then_closed (The ":") _ (codes ": ") (codes "unknown " ++ (i ++ (x ++ (codes " [" ++ (y ++ codes "]"))))) (symbol_blank 58 refl)
      (then_closed (The "unknown") _ (codes "unknown ") (i ++ (x ++ (codes " [" ++ (y ++ codes "]")))) (the_run_blank (codes "unknown") (omega arith, refl))
      (then_closed (The (if inline then "in" else "out")) _ i (x ++ (codes " [" ++ (y ++ codes "]"))) (inline_closed inline)
      (then_open (One (AreHex bytes)) _ x (codes " [" ++ (y ++ codes "]")) (hex_reads bytes h.1 (some_bytes inline (length bytes) h.2)) (λ rest f. refl)
      (then_closed (The "[") _ (codes " [") (y ++ codes "]") (blank_symbol 91 refl)
      (closed_reads (Handles false hs ⨾ The "]") (y ++ codes "]") (closed_both (Handles false hs) (The "]") y (codes "]") (handles_closed false hs h.3) (symbol_closed 93 refl)))))))))

  mutual
    pub spells : (t : Term) (v : Value) → IsReadable t → IsTyped ds t v → Reads (Spelled ds t v) (text_of ds t v)
    spells ty.bool (bool true) g h = the_run (codes "true") (omega arith, refl)
    spells ty.bool (bool false) g h = the_run (codes "false") (omega arith, refl)
    spells (ty.number kind) (number z) g h = number_reads kind z h
    spells (ty.bits kind mask) (number z) g h = number_reads kind z h.0
    spells (ty.enum kind values) (number z) g h = number_reads kind z h.0
    spells (ty.handle optional subtype rights) (handle i) g h = closed_reads (AHandle i) (handle_text i) (handle_closed i h.0)
    spells (ty.string optional bound) (text bytes) g h = closed_reads (One (λ w. IsQuoted w bytes)) (codes "\"" ++ flat_map quoted_byte bytes ++ codes "\"") (quoted_closed bytes h.0)
    spells (ty.vector optional bound t) (list vs) g h =
        let u = resolve ds.terms t in
        then_closed (The "[") _ (codes "[") (elements_text ds u false vs ++ codes "]") (symbol_closed 91 refl)
        (then_open (Elements ds u false vs) (The "]") (elements_text ds u false vs) (codes "]") (spell_elements u false vs (readable_resolve AreNamesDistinct ds.terms t ready g) h.1) (λ rest f. refl) (closed_reads (The "]") (codes "]") (symbol_closed 93 refl)))
    spells (ty.array t n) (list vs) g h =
        let u = resolve ds.terms t in
        then_closed (The "[") _ (codes "[") (elements_text ds u false vs ++ codes "]") (symbol_closed 91 refl)
        (then_open (Elements ds u false vs) (The "]") (elements_text ds u false vs) (codes "]") (spell_elements u false vs (readable_resolve AreNamesDistinct ds.terms t ready g) h.1) (λ rest f. refl) (closed_reads (The "]") (codes "]") (symbol_closed 93 refl)))
    spells (ty.struct fs) (fields vs) g h =
        then_closed (The "{") _ (codes "{") (fields_text ds fs false vs ++ codes "}") (symbol_closed 123 refl)
        (then_open (Named ds fs false vs) (The "}") (fields_text ds fs false vs) (codes "}") (spell_fields fs false vs g h) (λ rest f. refl) (closed_reads (The "}") (codes "}") (symbol_closed 125 refl)))
    spells (ty.box t) (fields vs) g h =
        let fs = fields_of (resolve ds.terms t) in
        then_closed (The "{") _ (codes "{") (fields_text ds fs false vs ++ codes "}") (symbol_closed 123 refl)
        (then_open (Named ds fs false vs) (The "}") (fields_text ds fs false vs) (codes "}") (spell_fields fs false vs (readable_fields AreNamesDistinct (resolve ds.terms t) (readable_resolve AreNamesDistinct ds.terms t ready g)) h.1) (λ rest f. refl) (closed_reads (The "}") (codes "}") (symbol_closed 125 refl)))
    spells (ty.table rows) (table n ms) g h =
        let body = members_text ds rows false ms in
        reads_as (Spelled ds (ty.table rows) (table n ms)) (codes "table(" ++ (decimal n ++ (codes ") {" ++ (body ++ codes "}")))) (text_of ds (ty.table rows) (table n ms)) (apart5 (codes "table(") (decimal n) (codes ") {") body (codes "}"))
        (then_open (The "table") _ (codes "table") (codes "(" ++ (decimal n ++ (codes ") {" ++ (body ++ codes "}")))) (the_run (codes "table") (omega arith, refl)) (λ rest f. refl)
        (then_closed (The "(") _ (codes "(") (decimal n ++ (codes ") {" ++ (body ++ codes "}"))) (symbol_closed 40 refl)
        (then_open (One (IsNumberBelow (2 ^ 64) n)) _ (decimal n) (codes ") {" ++ (body ++ codes "}")) (long_reads n h.0) (λ rest f. refl)
        (then_closed (The ")") _ (codes ") ") (codes "{" ++ (body ++ codes "}")) (symbol_blank 41 refl)
        (then_closed (The "{") _ (codes "{") (body ++ codes "}") (symbol_closed 123 refl)
        (then_open (Rising ds rows false 0 ms) (The "}") body (codes "}") (spell_members rows false 0 0 n ms g.0 g.1 h.0 (omega arith) h.1) (λ rest f. refl) (closed_reads (The "}") (codes "}") (symbol_closed 125 refl))))))))
    spells (ty.union optional strict rows) (union ordinal m) g h =
        let body = member_text ds rows ordinal m in
        then_open (The "union") _ (codes "union") (codes "(" ++ (body ++ codes ")")) (the_run (codes "union") (omega arith, refl)) (λ rest f. refl)
        (then_closed (The "(") _ (codes "(") (body ++ codes ")") (symbol_closed 40 refl)
        (then_open (AMember ds rows ordinal m) (The ")") body (codes ")") (spell_member strict rows ordinal m g.0 g.1 h.1 h.2) (λ rest f. refl) (closed_reads (The ")") (codes ")") (symbol_closed 41 refl))))
    spells (ty.handle optional subtype rights) absent g h = absent_reads
    spells (ty.string optional bound) absent g h = absent_reads
    spells (ty.vector optional bound t) absent g h = absent_reads
    spells (ty.box t) absent g h = absent_reads
    spells (ty.union optional strict rows) absent g h = absent_reads
    spells (ty.named i) absent g h = absurd h
    spells _ _ g h = absurd h

    spell_elements : (t : Term) (later : Bool) (vs : Values) → IsReadable t → AllTyped ds t vs → Reads (Elements ds t later vs) (elements_text ds t later vs)
    spell_elements t later none g h = closed_reads Nothing [] nothing_closed
    spell_elements t later (value v vs) g h =
        let a = text_of ds t v in
        let b = elements_text ds t true vs in
        reads_as (Elements ds t later (value v vs)) (comma_if later ++ (a ++ b)) (elements_text ds t later (value v vs)) (sym (append_assoc (comma_if later) a b))
        (then_closed (CommaIf later) (Spelled ds t v ⨾ Elements ds t true vs) (comma_if later) (a ++ b) (comma_closed later)
        (then_open (Spelled ds t v) (Elements ds t true vs) a b (spells t v g h.0) (elements_follow t vs) (spell_elements t true vs g h.1)))

    spell_fields : (fs : Fields) (later : Bool) (vs : Values) → FieldsHaveNames AreNamesDistinct fs → EachTyped ds fs vs → Reads (Named ds fs later vs) (fields_text ds fs later vs)
    spell_fields no_fields later none g h = closed_reads Nothing [] nothing_closed
    spell_fields (field name t fs) later (value v vs) g h =
        let u = resolve ds.terms t in
        let a = text_of ds u v in
        let b = fields_text ds fs true vs in
        reads_as (Named ds (field name t fs) later (value v vs)) (comma_if later ++ (name ++ (codes ": " ++ (a ++ b)))) (fields_text ds (field name t fs) later (value v vs)) (apart5 (comma_if later) name (codes ": ") a b)
        (then_closed (CommaIf later) _ (comma_if later) (name ++ (codes ": " ++ (a ++ b))) (comma_closed later)
        (then_open (One (λ w. w ≡ name)) _ name (codes ": " ++ (a ++ b)) (one_run (λ w. w ≡ name) name refl g.0) (λ rest f. refl)
        (then_closed (The ":") _ (codes ": ") (a ++ b) (symbol_blank 58 refl)
        (then_open (Spelled ds u v) (Named ds fs true vs) a b (spells u v (readable_resolve AreNamesDistinct ds.terms t ready g.1) h.0) (fields_follow fs vs) (spell_fields fs true vs g.2 h.1)))))
    spell_fields _ later _ g h = absurd h

    spell_member : (strict : Bool) (rows : Rows) (ordinal : ℕ) (m : Member) → AreNamesDistinct rows → RowsHaveNames AreNamesDistinct rows → ordinal < 2 ^ 64 → IsTypedMember ds strict (find rows ordinal) m → Reads (AMember ds rows ordinal m) (member_text ds rows ordinal m)
    spell_member strict rows ordinal (known v) d g small h = known_reads strict rows ordinal v (find rows ordinal) refl d g h (λ t k i. spells (resolve ds.terms t) v (readable_resolve AreNamesDistinct ds.terms t ready k) i)
    spell_member strict rows ordinal (unknown inline bytes hs) d g small h = unknown_reads strict rows ordinal inline bytes hs (find rows ordinal) small h

    spell_members : (rows : Rows) (later : Bool) (least last n : ℕ) (ms : Members) → AreNamesDistinct rows → RowsHaveNames AreNamesDistinct rows → n < 2 ^ 64 → least ≤ suc last → RiseTyped ds rows last n ms → Reads (Rising ds rows later least ms) (members_text ds rows later ms)
    spell_members rows later least last n empty d g small le h = closed_reads Nothing [] nothing_closed
    spell_members rows later least last n (member ordinal m ms) d g small le h =
        let a = member_text ds rows ordinal m in
        let b = members_text ds rows true ms in
        let lower = h.0 in
        let upper = h.1 in
        let up : least ≤ ordinal = omega (arith, lower, le) in
        let all = reads_as (CommaIf later ⨾ AMember ds rows ordinal m ⨾ Rising ds rows true (suc ordinal) ms) (comma_if later ++ (a ++ b)) (members_text ds rows later (member ordinal m ms)) (sym (append_assoc (comma_if later) a b))
        (then_closed (CommaIf later) _ (comma_if later) (a ++ b) (comma_closed later)
        (then_open (AMember ds rows ordinal m) (Rising ds rows true (suc ordinal) ms) a b (spell_member false rows ordinal m d g (omega (arith, upper, small)) h.2) (members_follow rows ms) (spell_members rows true (suc ordinal) ordinal n ms d g small (omega arith) h.3))) in
        λ rest ws f u w. let x = all rest ws f u w in (x.0, x.1, (up, x.2), x.3)
