-- Types that are alike level by level have the same values, encodings, depths and texts.
use Rattle.std.proofs.Common.{◌≡◌, ℕ, zero, suc, ◌+◌, ◌-◌, ◌*◌, ◌<◌, ◌≤◌, ◌⊎◌, ◌↔◌, ◌++◌, max, Bool, true, false, IsTrue, IsFalse, ℤ, List, [], length, get_or, Option, IfSome, Contains, refl, ap, sym, ◌∙◌, subst, arith, nat_le}
use Rattle.std.proofs.Math.ListN.{get_or-map}
use Rattle.std.specs.Prelude.{bit_and, if◌then◌else◌, codes, decimal}
use Rattle.std.specs.Int.{next_multiple_of, to_le_bytes, w64}
use Rattle.std.specs.List.{AllByRecursion}
use Rattle.fidl_limits.specs.declared.limits.TheConstants.{SAME_RIGHTS}
use Rattle.fidl_wire.specs.Value.{Value, absent, bool, number, text, list, fields, handle, table, union, Values, none, value, Member, known, unknown, Members, empty, member, count}
use Rattle.fidl_wire.specs.Term.{Term, Kind, Fields, Rows, resolve, fields_of, rows_of, find, nothing, uint8}
use Rattle.fidl_wire.specs.Term as ty
use Rattle.fidl_wire.specs.Figure.{Declarations, figure, struct_figure, figure_of, end_of, align_of, nest_of, IsLaidOut, size_of}
use Rattle.fidl_wire.specs.Typed.{IsTyped, AllTyped, EachTyped, RiseTyped, IsTypedMember, InRange, InMask, IsHandle, AreBytes, IsUnknownLength, IsStruct}
use Rattle.fidl_wire.specs.Encoding.{Encoding, zeros, inline_only, joined, counted, envelope, number_bytes, kind_of, term_or, behind, element_of, content_of, encoding_of, elements, members, enveloped, envelopes}
use Rattle.fidl_wire.specs.Depth.{below, depth_of, elements_depth, fields_depth, member_depth, members_depth}
use Rattle.fidl_wire.specs.Text.{comma_if, text_of, elements_text, fields_text, member_text, members_text}
use Rattle.fidl_equivalence.specs.Alike.{Alike, AlikeValues, AlikeMember, AlikeFields, AlikeRows, AlikeTo, AreAlike, IsOne, flexible, strict, missing, there}
use Rattle.fidl_equivalence.specs.Alike as like

-- what holds of one of two equal things holds of the other
both : {A : Type 0} {x y : A} (P : A → Type 0) → x ≡ y → P x ↔ P y
both P e = (subst P e, subst P (sym e))

same : {A : Type 0} → A ↔ A
same = ((λ h. h), (λ h. h))

two : {A B C D : Type 0} → A ↔ B → C ↔ D → (A × C) ↔ (B × D)
two f g = ((λ h. (f.0 h.0, g.0 h.1)), (λ h. (f.1 h.0, g.1 h.1)))

-- a declaration has the figure that is kept for it
pub figure_of-resolve : (ds : Declarations) → IsLaidOut ds → (t : Term) → figure_of ds.figures (resolve ds.terms t) ≡ figure_of ds.figures t
figure_of-resolve ds h (ty.named i) = sym (get_or-map (figure_of ds.figures) ds.terms i nothing) ∙ ap (λ fs. get_or fs i (figure 1 1 0)) h
figure_of-resolve ds h ty.bool = refl
figure_of-resolve ds h _ = refl

-- two enums' values, by what is among them
values : {zs ws : Option (List ℤ)} → AlikeValues zs ws → (z : ℤ) → IfSome zs (λ l. Contains l z) ↔ IfSome ws (λ l. Contains l z)
values flexible z = same
values (strict h) z = h z

-- what the definitions read of a type, at types that are alike
module _ {R : Term → Term → Type 0} where
  pub structs : {a b : Term} → Alike R a b → IsStruct a ↔ IsStruct b
  structs (like.struct fs) = same
  structs _ = same

  contents : {a b : Term} → Alike R a b → AlikeFields R (fields_of a) (fields_of b)
  contents (like.struct fs) = fs
  contents _ = like.no_fields

  kinds : {a b : Term} → Alike R a b → kind_of a ≡ kind_of b
  kinds (like.number k) = k
  kinds (like.bits k m) = k
  kinds (like.enum k zs) = k
  kinds _ = refl

  no_rows : AlikeRows R ty.no_rows ty.no_rows
  no_rows = record { names = λ ordinal. refl; members = λ ordinal. missing }

  rows : {a b : Term} → Alike R a b → AlikeRows R (rows_of a) (rows_of b)
  rows (like.table h) = h
  rows (like.union o s h) = h
  rows _ = no_rows

  behinds : {a b : Term} → Alike R a b → (n : ℕ) (e : Encoding) → behind a n e ≡ behind b n e
  behinds (like.vector o m r) n e = refl
  behinds (like.box r) n e = refl
  behinds _ n e = refl

  belows : {a b : Term} → Alike R a b → (n : ℕ) → below a n ≡ below b n
  belows (like.vector o m r) n = refl
  belows (like.box r) n = refl
  belows _ n = refl

  no_type : Alike R nothing nothing
  no_type = like.enum refl (strict (λ z. same))

-- a type's figure from those of what it holds inline, which nests less
module _ (R : Term → Term → Type 0) (ds es : Declarations) (n : ℕ) (parts : (t u : Term) → R t u → (figure_of ds.figures t).nest < n → figure_of ds.figures t ≡ figure_of es.figures u) where
  record SameFields (fs gs : Fields) : Type 0 where
    ends : (from : ℕ) → end_of ds.figures from fs ≡ end_of es.figures from gs
    aligns : align_of ds.figures fs ≡ align_of es.figures gs
    nests : nest_of ds.figures fs ≡ nest_of es.figures gs

  figures_of_fields : {fs gs : Fields} → AlikeFields R fs gs → nest_of ds.figures fs < n → SameFields fs gs
  figures_of_fields like.no_fields h = record { ends = λ from. refl; aligns = refl; nests = refl }
  figures_of_fields (like.field {t = t} {u = u} {fs = fs} {gs = gs} name r more) h =
      let e = parts t u r (omega (arith, h)) in
      let s = figures_of_fields more (omega (arith, h)) in
      record {
        ends = λ from. ap (λ f. end_of ds.figures (next_multiple_of from f.align + f.size) fs) e ∙ s.ends (next_multiple_of from (figure_of es.figures u).align + (figure_of es.figures u).size);
        aligns = λ i. max (e i).align (s.aligns i);
        nests = λ i. max (e i).nest (s.nests i);
      }

  pub figure_level : {a b : Term} → Alike R a b → (figure_of ds.figures a).nest ≤ n → figure_of ds.figures a ≡ figure_of es.figures b
  figure_level (like.number k) h = ap (λ k. figure_of ds.figures (ty.number k)) k
  figure_level (like.bits k m) h = ap (λ k. figure_of ds.figures (ty.number k)) k
  figure_level (like.enum k zs) h = ap (λ k. figure_of ds.figures (ty.number k)) k
  figure_level (like.array r e) h = λ i. let f = parts _ _ r (omega (arith, h)) i in figure (f.size * e i) f.align (suc f.nest)
  figure_level (like.struct fs) h = let s = figures_of_fields fs (omega (arith, h)) in λ i. struct_figure (s.ends 0 i) (s.aligns i) (s.nests i)
  figure_level _ h = refl

module _ (R : Term → Term → Type 0) (ds es : Declarations) (next : (t u : Term) → R t u → Alike R (resolve ds.terms t) (resolve es.terms u)) where
  part_of : {a b : Term} → Alike R a b → Alike R (element_of ds a) (element_of es b)
  part_of (like.vector o m r) = next _ _ r
  part_of (like.array r n) = next _ _ r
  part_of _ = no_type

  content : {a b : Term} → Alike R a b → AlikeFields R (content_of ds a) (content_of es b)
  content (like.box r) = contents (next _ _ r)
  content (like.struct fs) = fs
  content _ = like.no_fields

  mutual
    pub same_typed : {a b : Term} → Alike R a b → (v : Value) → IsTyped ds a v ↔ IsTyped es b v
    same_typed like.bool (bool b) = same
    same_typed (like.number k) (number z) = both (λ k. InRange k z) k
    same_typed (like.bits k m) (number z) = two (both (λ k. InRange k z) k) (both (λ m. IfSome m (λ m. InMask m z)) m)
    same_typed (like.enum k zs) (number z) = two (both (λ k. InRange k z) k) (values zs z)
    same_typed (like.handle o s r) (handle h) = two same (two (both (λ s. (h.object_type ≡ s) ⊎ (s ≡ 0)) s) (both (λ r. (bit_and h.rights r ≡ r) ⊎ (r ≡ SAME_RIGHTS)) r))
    same_typed (like.handle o s r) absent = both (λ o. IsTrue o) o
    same_typed (like.string o n) (text bytes) = two same (both (λ n. length bytes ≤ n) n)
    same_typed (like.string o n) absent = both (λ o. IsTrue o) o
    same_typed (like.vector o n r) (list vs) = two (both (λ n. count vs ≤ n) n) (all_typed (next _ _ r) vs)
    same_typed (like.vector o n r) absent = both (λ o. IsTrue o) o
    same_typed (like.array r n) (list vs) = two (both (λ n. count vs ≡ n) n) (all_typed (next _ _ r) vs)
    same_typed (like.box r) (fields vs) = two (structs (next _ _ r)) (each_typed (contents (next _ _ r)) vs)
    same_typed (like.struct fs) (fields vs) = each_typed fs vs
    same_typed (like.table h) (table n ms) = two same (rise_typed h 0 n ms)
    same_typed (like.union o s h) (union ordinal m) =
        let f = same_member s (h.members ordinal) m in
        ((λ k. (k.0, k.1, f.0 k.2)), (λ k. (k.0, k.1, f.1 k.2)))
    same_typed (like.union o s h) absent = both (λ o. IsTrue o) o
    same_typed _ _ = same

    all_typed : {a b : Term} → Alike R a b → (vs : Values) → AllTyped ds a vs ↔ AllTyped es b vs
    all_typed p none = same
    all_typed p (value v vs) = two (same_typed p v) (all_typed p vs)

    each_typed : {fs gs : Fields} → AlikeFields R fs gs → (vs : Values) → EachTyped ds fs vs ↔ EachTyped es gs vs
    each_typed like.no_fields none = same
    each_typed (like.field name r fs) (value v vs) = two (same_typed (next _ _ r) v) (each_typed fs vs)
    each_typed _ _ = same

    same_member : {s q : Bool} → s ≡ q → {o p : Option Term} → AlikeMember R o p → (m : Member) → IsTypedMember ds s o m ↔ IsTypedMember es q p m
    same_member s (there r) (known v) = same_typed (next _ _ r) v
    same_member s missing (unknown inline bytes handles) = both (λ s. IsFalse s × AreBytes bytes × IsUnknownLength inline (length bytes) × AllByRecursion IsHandle handles) s
    same_member s _ _ = same

    rise_typed : {rows others : Rows} → AlikeRows R rows others → (last n : ℕ) (ms : Members) → RiseTyped ds rows last n ms ↔ RiseTyped es others last n ms
    rise_typed h last n empty = same
    rise_typed h last n (member ordinal m ms) =
        let f = same_member {s = false} refl (h.members ordinal) m in
        let g = rise_typed h ordinal n ms in
        ((λ k. (k.0, k.1, f.0 k.2, g.0 k.3)), (λ k. (k.0, k.1, f.1 k.2, g.1 k.3)))

  -- the text of a known member without its name
  abbrev known_text : Declarations → Option Term → Member → List ℕ
  known_text ds o (known v) = text_of ds (resolve ds.terms (term_or o)) v
  known_text ds o (unknown inline bytes handles) = []

  behind_names : {rows others : Rows} → AlikeRows R rows others → (ordinal : ℕ) (m : Member) → known_text ds (find rows ordinal) m ≡ known_text es (find others ordinal) m → member_text ds rows ordinal m ≡ member_text es others ordinal m
  behind_names h ordinal (known v) e = λ i. h.names ordinal i ++ codes ": " ++ e i
  behind_names h ordinal (unknown inline bytes handles) e = refl

  mutual
    pub same_text : {a b : Term} → Alike R a b → (v : Value) → text_of ds a v ≡ text_of es b v
    same_text p absent = refl
    same_text p (bool true) = refl
    same_text p (bool false) = refl
    same_text p (number z) = refl
    same_text p (text bytes) = refl
    same_text p (list vs) = ap (λ l. codes "[" ++ l ++ codes "]") (texts_of_elements (part_of p) false vs)
    same_text p (fields vs) = ap (λ l. codes "{" ++ l ++ codes "}") (texts_of_fields (content p) false vs)
    same_text p (handle h) = refl
    same_text p (table n ms) = ap (λ l. codes "table(" ++ decimal n ++ codes ") {" ++ l ++ codes "}") (texts_of_members (rows p) false ms)
    same_text p (union ordinal m) = ap (λ l. codes "union(" ++ l ++ codes ")") (behind_names (rows p) ordinal m (known_texts ((rows p).members ordinal) m))

    texts_of_elements : {a b : Term} → Alike R a b → (later : Bool) (vs : Values) → elements_text ds a later vs ≡ elements_text es b later vs
    texts_of_elements p later none = refl
    texts_of_elements p later (value v vs) = λ i. comma_if later ++ same_text p v i ++ texts_of_elements p true vs i

    texts_of_fields : {fs gs : Fields} → AlikeFields R fs gs → (later : Bool) (vs : Values) → fields_text ds fs later vs ≡ fields_text es gs later vs
    texts_of_fields (like.field name r fs) later (value v vs) = λ i. comma_if later ++ name i ++ codes ": " ++ same_text (next _ _ r) v i ++ texts_of_fields fs true vs i
    texts_of_fields _ later _ = refl

    known_texts : {o p : Option Term} → AlikeMember R o p → (m : Member) → known_text ds o m ≡ known_text es p m
    known_texts (there r) (known v) = same_text (next _ _ r) v
    known_texts missing (known v) = same_text no_type v
    known_texts _ (unknown inline bytes handles) = refl

    texts_of_members : {rows others : Rows} → AlikeRows R rows others → (later : Bool) (ms : Members) → members_text ds rows later ms ≡ members_text es others later ms
    texts_of_members h later empty = refl
    texts_of_members h later (member ordinal m ms) = λ i. comma_if later ++ behind_names h ordinal m (known_texts (h.members ordinal) m) i ++ texts_of_members h true ms i

  module _ (laid_ds : IsLaidOut ds) (laid_es : IsLaidOut es) where
    figures_of_parts : (n : ℕ) → ((a b : Term) → Alike R a b → (figure_of ds.figures a).nest ≤ n → figure_of ds.figures a ≡ figure_of es.figures b) → (t u : Term) → R t u → (figure_of ds.figures t).nest ≤ n → figure_of ds.figures t ≡ figure_of es.figures u
    figures_of_parts n ih t u r h =
        let e = figure_of-resolve ds laid_ds t in
        sym e ∙ ih _ _ (next t u r) (subst (λ f. f.nest ≤ n) (sym e) h) ∙ figure_of-resolve es laid_es u

    -- types that are alike are laid out alike: by recursion on how deep they nest inline
    same_to : (n : ℕ) {a b : Term} → Alike R a b → (figure_of ds.figures a).nest ≤ n → figure_of ds.figures a ≡ figure_of es.figures b
    same_to zero p h = figure_level R ds es 0 (λ t u r k. absurd (omega (arith, k))) p h
    same_to (suc n) p h = figure_level R ds es (suc n) (λ t u r k. figures_of_parts n (λ a b. same_to n) t u r (omega (arith, k))) p h

    same_figure : {a b : Term} → Alike R a b → figure_of ds.figures a ≡ figure_of es.figures b
    same_figure {a} p = same_to (figure_of ds.figures a).nest p (omega arith)

    figure_of_part : {t u : Term} → R t u → figure_of ds.figures t ≡ figure_of es.figures u
    figure_of_part {t} {u} r = figures_of_parts (figure_of ds.figures t).nest (λ a b. same_to (figure_of ds.figures t).nest) t u r (omega arith)

    size_at : {o p : Option Term} → AlikeMember R o p → size_of ds (term_or o) ≡ size_of es (term_or p)
    size_at (there r) = ap (λ f. f.size) (figure_of_part r)
    size_at missing = refl

    mutual
      pub same_encoding : {a b : Term} → Alike R a b → (v : Value) → encoding_of ds a v ≡ encoding_of es b v
      same_encoding p absent = ap (λ f. inline_only (zeros f.size)) (same_figure p)
      same_encoding p (bool b) = refl
      same_encoding p (number z) = ap (λ k. inline_only (number_bytes k z)) (kinds p)
      same_encoding p (handle h) = refl
      same_encoding p (text bytes) = refl
      same_encoding {a} {b} p (list vs) = behinds p (count vs) (elements ds (element_of ds a) vs) ∙ ap (behind b (count vs)) (encodings_of_elements (part_of p) vs)
      same_encoding {a} {b} p (fields vs) =
          let size = size_of ds (ty.struct (content_of ds a)) in
          behinds p (count vs) (members ds size 0 (content_of ds a) vs)
          ∙ ap (behind b (count vs)) (encodings_of_fields (content p) size 0 vs ∙ ap (λ f. members es f.size 0 (content_of es b) vs) (same_figure (like.struct (content p))))
      same_encoding p (table n ms) = ap (counted n) (encodings_of_members (rows p) 1 n ms)
      same_encoding p (union ordinal m) = ap (joined (inline_only (to_le_bytes w64 ordinal))) (encoding_of_member ((rows p).members ordinal) m)

      encodings_of_elements : {a b : Term} → Alike R a b → (vs : Values) → elements ds a vs ≡ elements es b vs
      encodings_of_elements p none = refl
      encodings_of_elements p (value v vs) = λ i. joined (same_encoding p v i) (encodings_of_elements p vs i)

      encodings_of_fields : {fs gs : Fields} → AlikeFields R fs gs → (size from : ℕ) (vs : Values) → members ds size from fs vs ≡ members es size from gs vs
      encodings_of_fields (like.field {t = t} {u = u} {fs = fs} {gs = gs} name r more) size from (value v vs) =
          let f = figure_of ds.figures t in
          let at = next_multiple_of from f.align in
          (λ i. joined (inline_only (zeros (at - from))) (joined (same_encoding (next t u r) v i) (encodings_of_fields more size (at + f.size) vs i)))
          ∙ ap (λ f. joined (inline_only (zeros (next_multiple_of from f.align - from))) (joined (encoding_of es (resolve es.terms u) v) (members es size (next_multiple_of from f.align + f.size) gs vs))) (figure_of_part r)
      encodings_of_fields like.no_fields size from (value v vs) = refl
      encodings_of_fields _ size from none = refl

      encoding_of_member : {o p : Option Term} → AlikeMember R o p → (m : Member) → enveloped ds o m ≡ enveloped es p m
      encoding_of_member (there r) (known v) = λ i. envelope (size_at (there r) i) (same_encoding (next _ _ r) v i)
      encoding_of_member missing (known v) = ap (envelope (size_of ds nothing)) (same_encoding no_type v)
      encoding_of_member h (unknown true bytes handles) = refl
      encoding_of_member h (unknown false bytes handles) = refl

      encodings_of_members : {rows others : Rows} → AlikeRows R rows others → (from n : ℕ) (ms : Members) → envelopes ds rows from n ms ≡ envelopes es others from n ms
      encodings_of_members h from n empty = refl
      encodings_of_members h from n (member ordinal m ms) = λ i. joined (inline_only (zeros (8 * (ordinal - from)))) (joined (encoding_of_member (h.members ordinal) m i) (encodings_of_members h (suc ordinal) n ms i))

    mutual
      pub same_depth : {a b : Term} → Alike R a b → (v : Value) → depth_of ds a v ≡ depth_of es b v
      same_depth p absent = refl
      same_depth p (bool b) = refl
      same_depth p (number z) = refl
      same_depth p (handle h) = refl
      same_depth p (text bytes) = refl
      same_depth {a} {b} p (list vs) = belows p (elements_depth ds (element_of ds a) vs) ∙ ap (below b) (depth_of_elements (part_of p) vs)
      same_depth {a} {b} p (fields vs) = belows p (fields_depth ds (content_of ds a) vs) ∙ ap (below b) (depth_of_fields (content p) vs)
      same_depth p (table n ms) = ap suc (depth_of_members (rows p) ms)
      same_depth p (union ordinal m) = depth_of_member ((rows p).members ordinal) m

      depth_of_elements : {a b : Term} → Alike R a b → (vs : Values) → elements_depth ds a vs ≡ elements_depth es b vs
      depth_of_elements p none = refl
      depth_of_elements p (value v vs) = λ i. max (same_depth p v i) (depth_of_elements p vs i)

      depth_of_fields : {fs gs : Fields} → AlikeFields R fs gs → (vs : Values) → fields_depth ds fs vs ≡ fields_depth es gs vs
      depth_of_fields (like.field name r more) (value v vs) = λ i. max (same_depth (next _ _ r) v i) (depth_of_fields more vs i)
      depth_of_fields like.no_fields (value v vs) = refl
      depth_of_fields _ none = refl

      depth_of_member : {o p : Option Term} → AlikeMember R o p → (m : Member) → member_depth ds o m ≡ member_depth es p m
      depth_of_member (there r) (known v) = λ i. if nat_le (size_at (there r) i) 4 then 0 else suc (same_depth (next _ _ r) v i)
      depth_of_member missing (known v) = λ i. if nat_le (size_of ds nothing) 4 then 0 else suc (same_depth no_type v i)
      depth_of_member h (unknown true bytes handles) = refl
      depth_of_member h (unknown false bytes handles) = refl

      depth_of_members : {rows others : Rows} → AlikeRows R rows others → (ms : Members) → members_depth ds rows ms ≡ members_depth es others ms
      depth_of_members h empty = refl
      depth_of_members h (member ordinal m ms) = λ i. max (depth_of_member (h.members ordinal) m i) (depth_of_members h ms i)

    -- types so related are one
    pub one_type : (t u : Term) → R t u → (v : Value) → IsOne ds es t u v
    one_type t u r v = record {
      typed = same_typed (next t u r) v;
      encoding = same_encoding (next t u r) v;
      depth = same_depth (next t u r) v;
      text = same_text (next t u r) v;
    }
