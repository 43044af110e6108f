-- What is left of a table's envelopes, and the parts of a union.
use Rattle.std.proofs.Common.{◌≡◌, ℕ, suc, ◌+◌, ◌-◌, ◌*◌, ◌^◌, ◌<◌, ◌≤◌, Bool, true, false, IsTrue, List, ◌∷◌, ◌++◌, length, map, drop, get_or, refl, sym, ap, subst, ◌∙◌, arith, length-append, ◌⊎◌, inl, inr}
use Rattle.std.proofs.lemmas.List.{drop_all}
use Rattle.std.proofs.Math.ListN.{length-replicate}
use Rattle.std.specs.Prelude.{Option, Some, None, IfNone, IfSome, is_some}
use Rattle.fidl_table_format.specs.declared.record.Row.{Row}
use Rattle.std.specs.Int.{to_le_bytes, w64}
use Rattle.fidl_wire.specs.declared.handle.HandleInfo.{HandleInfo}
use Rattle.fidl_wire.specs.declared.value.Member.{Member as Tree}
use Rattle.fidl_wire.specs.Value.{Value, absent, table, union, Member, known, unknown, Members, empty, member, members_of}
use Rattle.fidl_wire.specs.Views.{member_view, entry_view}
use Rattle.fidl_wire.specs.Term.{Term, Rows, find}
use Rattle.fidl_wire.specs.Term as ty
use Rattle.fidl_wire.specs.Figure.{Declarations, IsLaidOut}
use Rattle.fidl_wire.specs.Typed.{IsTyped, IsTypedMember, RiseTyped}
use Rattle.fidl_wire.specs.Encoding.{zeros, enveloped, envelopes, present}
use Rattle.fidl_wire.proofs.Sizes.{length-enveloped}
use Rattle.fidl_encode.specs.declared.fault.EncodeFault.{EncodeFault}
use Rattle.fidl_encode.specs.declared.fault.EncodeFault.TheVariants.{WrongShape}
use Rattle.fidl_encode.specs.Writing.{Written, IsWithin}
use Rattle.fidl_encode.specs.Parts.{Part, value_part, member_part, envelopes_part, row_type, IsWritten, IsRefused}
use Rattle.fidl_encode.proofs.Ending.{Alike, Points, both, led, plain, written_zeros}
use Rattle.fidl_encode.proofs.Leaving.{Leaves, leaves_all, leaves_led, leaves_rest, leaves_none, leaves_alike}
use Rattle.fidl_encode.proofs.Elements.{drop_next}

-- the members that trees stand for
abbrev pub entry_views : List (ℕ × Tree) → Members
entry_views ms = members_of (map entry_view ms)

module _ (ds : Declarations) (rows : Rows) (n : ℕ) (ms : List (ℕ × Tree)) (depth at : ℕ) (old : Written) where
  abbrev whole : Part
  whole = envelopes_part ds rows 0 n (entry_views ms)

  -- the envelopes behind that of the ordinal `last` are left
  pub record IsLeft (k last : ℕ) (now : Written) : Type 0 where
    pub left : Leaves whole (envelopes_part ds rows last n (entry_views (drop k ms))) depth at (at + 8 * last) old now
    pub last_le : last ≤ n
    pub within : IsWithin now
    pub longer : length old.bytes ≤ length now.bytes

  pub left_all : IsWithin old → IsLeft 0 0 old
  left_all h =
      let e : at ≡ at + 8 * 0 = omega arith in
      record { left = subst (λ p. Leaves whole whole depth at p old old) e (leaves_all whole depth at old); last_le = omega arith; within = h; longer = omega arith }

  module _ (laid : IsLaidOut ds) (k last : ℕ) (m : ℕ × Tree) (now : Written) (lt : k < length ms) (is : get_or ms k m ≡ m) (h : IsLeft k last now) where
    abbrev behind : Part
    behind = envelopes_part ds rows m.0 n (entry_views (drop (k + 1) ms))

    abbrev own : Part
    own = member_part ds false (find rows m.0) (member_view m.1)

    abbrev here : Part
    here = envelopes_part ds rows last n (member m.0 (member_view m.1) (entry_views (drop (k + 1) ms)))

    left_here : Leaves whole here depth at (at + 8 * last) old now
    left_here = subst (λ us. Leaves whole (envelopes_part ds rows last n (entry_views us)) depth at (at + 8 * last) old now) (drop_next ms k m lt ∙ ap (λ x. x ∷ drop (k + 1) ms) is) h.left

    -- an ordinal that does not rise, or is over the count
    pub left_wrong : (f : EncodeFault) → f ≡ WrongShape → (last < m.0 → m.0 ≤ n → ⊥) → IsRefused whole depth old f
    left_wrong f e not =
        let r : IsRefused here depth now WrongShape = λ typed. not typed.0 typed.1 in
        h.left.refused f (subst (λ us. IsRefused (envelopes_part ds rows last n (entry_views us)) depth now f) (sym (drop_next ms k m lt ∙ ap (λ x. x ∷ drop (k + 1) ms) is)) (subst (λ f. IsRefused here depth now f) (sym e) r))

    module _ (rises : last < m.0) (le : m.0 ≤ n) where
      alike : Alike (led (8 * (m.0 - suc last)) (both own behind)) here
      alike = record { to = λ h. (rises, le, h.0, h.1); from = λ h. (h.2, h.3); breaks = λ f b. b; depth = refl; encoding = refl }

      left_both : Leaves whole (both own behind) depth at (at + 8 * (m.0 - 1)) old now
      left_both =
          let e : at + 8 * last + 8 * (m.0 - suc last) ≡ at + 8 * (m.0 - 1) = omega (arith, rises) in
          subst (λ p. Leaves whole (both own behind) depth at p old now) e
          (leaves_led whole depth at (at + 8 * last) old now (8 * (m.0 - suc last)) (both own behind) (leaves_alike whole depth at (at + 8 * last) old now here (led (8 * (m.0 - suc last)) (both own behind)) alike left_here))

      pub left_next : (next : Written) → IsWritten own depth (at + 8 * (m.0 - 1)) now next → IsLeft (k + 1) m.0 next
      left_next next wrote =
          let long = length-enveloped ds laid false (find rows m.0) (member_view m.1) wrote.typed in
          let e : at + 8 * (m.0 - 1) + length own.encoding.inline ≡ at + 8 * m.0 = omega (arith, long, rises) in
          let more = wrote.adds.longer in
          let before = h.longer in
          record {
            left = subst (λ p. Leaves whole behind depth at p old next) e (leaves_rest whole depth at (at + 8 * (m.0 - 1)) old now own behind next left_both wrote);
            last_le = le;
            within = wrote.within;
            longer = omega (arith, more, before);
          }

      pub left_refused : (f : EncodeFault) → IsRefused own depth now f → IsRefused whole depth old f
      left_refused f r = leaves_none whole depth at (at + 8 * (m.0 - 1)) old now own behind left_both f r

  pub left_none : (k last : ℕ) (now : Written) → length ms ≤ k → IsLeft k last now → IsWritten whole depth at old now
  left_none k last now le h =
      h.left.done now
      (subst (λ us. IsWritten (envelopes_part ds rows last n (entry_views us)) depth (at + 8 * last) now now) (sym (drop_all k ms le)) (written_zeros (8 * (suc n - suc last)) depth (at + 8 * last) now h.within))

-- envelopes take eight bytes each
length_rise : (ds : Declarations) → IsLaidOut ds → (rows : Rows) (last n : ℕ) (ms : Members) → last ≤ n → RiseTyped ds rows last n ms → length (envelopes ds rows (suc last) n ms).inline + 8 * last ≡ 8 * n
length_rise ds laid rows last n empty le h = omega (arith, length-replicate {A = ℕ} (8 * (suc n - suc last)) 0, le)
length_rise ds laid rows last n (member ordinal m ms) le h =
    let one = length-enveloped ds laid false (find rows ordinal) m h.2 in
    let rest = length_rise ds laid rows ordinal n ms h.1 h.3 in
    let a = length-append (zeros (8 * (ordinal - suc last))) ((enveloped ds (find rows ordinal) m).inline ++ (envelopes ds rows (suc ordinal) n ms).inline) in
    let b = length-append (enveloped ds (find rows ordinal) m).inline (envelopes ds rows (suc ordinal) n ms).inline in
    let z = length-replicate {A = ℕ} (8 * (ordinal - suc last)) 0 in
    omega (arith, one, rest, a, b, z, h.0)

-- a table is what points to its envelopes
pub points_envelopes : (ds : Declarations) → IsLaidOut ds → (rows : Rows) (n : ℕ) (ms : Members) → Points (to_le_bytes w64 n ++ present) (8 * n) (envelopes_part ds rows 0 n ms) (value_part ds (ty.table rows) (table n ms))
points_envelopes ds laid rows n ms =
    record {
      from = λ h. h.1;
      breaks = λ f b. b;
      depth = refl;
      encoding = refl;
      sized = λ h. let e = length_rise ds laid rows 0 n ms (omega arith) h in omega (arith, e);
    }

pub no_table : (ds : Declarations) (rows : Rows) (v : Value) → ((n : ℕ) (ms : Members) → v ≡ table n ms → ⊥) → IsTyped ds (ty.table rows) v → ⊥
no_table ds rows absent none h = h
no_table ds rows (table n ms) none h = none n ms refl
no_table ds rows _ none h = h

-- ---- unions

pub no_union : (ds : Declarations) (optional strict : Bool) (rows : Rows) (v : Value) → ((n : ℕ) (m : Member) → v ≡ union n m → ⊥) → (IsTrue optional → v ≡ absent → ⊥) → IsTyped ds (ty.union optional strict rows) v → ⊥
no_union ds optional strict rows absent none there h = there h refl
no_union ds optional strict rows (union n m) none there h = none n m refl
no_union ds optional strict rows _ none there h = h

-- a member of a union that may have unknown ones, or has this one
loosely : (ds : Declarations) (strict : Bool) (t : Option Term) (m : Member) → IsTypedMember ds strict t m → IsTypedMember ds false t m
loosely ds strict (Some t) (known v) h = h
loosely ds strict None (unknown inline bytes handles) h = (refl, h.1, h.2, h.3)
loosely ds strict None (known v) h = h
loosely ds strict (Some t) (unknown inline bytes handles) h = h

strictly : (ds : Declarations) (strict : Bool) (t : Option Term) (m : Member) → (IsTrue strict → t ≡ None → ⊥) → IsTypedMember ds false t m → IsTypedMember ds strict t m
strictly ds strict (Some t) (known v) has h = h
strictly ds true None (unknown inline bytes handles) has h = absurd (has refl refl)
strictly ds false None (unknown inline bytes handles) has h = h
strictly ds strict None (known v) has h = h
strictly ds strict (Some t) (unknown inline bytes handles) has h = h

-- a union is its ordinal and the envelope behind it
pub union_alike : (ds : Declarations) (optional strict : Bool) (rows : Rows) (ordinal : ℕ) (m : Member) → 0 < ordinal → ordinal < 2 ^ 64 → (IsTrue strict → find rows ordinal ≡ None → ⊥)
    → Alike (both (plain (to_le_bytes w64 ordinal)) (member_part ds false (find rows ordinal) m)) (value_part ds (ty.union optional strict rows) (union ordinal m))
union_alike ds optional strict rows ordinal m some small has =
    record { to = λ h. (some, small, strictly ds strict (find rows ordinal) m has h.1); from = λ h. (tt, loosely ds strict (find rows ordinal) m h.2); breaks = λ f b. elim b [ inl x ↦ absurd x | inr x ↦ x ]; depth = omega arith; encoding = refl }

-- ordinal 0, or no member of a strict union
pub no_member : (ds : Declarations) (optional strict : Bool) (rows : Rows) (ordinal : ℕ) (m : Member) → (ordinal ≡ 0) ⊎ (IsTrue strict × (find rows ordinal ≡ None)) → IsTyped ds (ty.union optional strict rows) (union ordinal m) → ⊥
no_member ds optional strict rows ordinal m (inl none) h = omega (arith, none, h.0)
no_member ds optional strict rows ordinal m (inr is) h = refused (find rows ordinal) m is.1 (subst (λ (s : Bool). IsTypedMember ds s (find rows ordinal) m) is.0 h.2)
  where
    refused : (t : Option Term) (m : Member) → t ≡ None → IsTypedMember ds true t m → ⊥
    refused None (unknown inline bytes handles) e h = let never : true ≡ false = h.0 in cc
    refused None (known v) e h = h
    refused (Some t) m e h = cc

-- the type of a row that was looked up is that of the layout
pub row_found : (rows : Rows) (ordinal : ℕ) (o : Option Row) → IfNone o (find rows ordinal ≡ None) → IfSome o (λ row. find rows ordinal ≡ Some (ty.named row.entry)) → row_type o ≡ find rows ordinal
row_found rows ordinal None h k = sym h
row_found rows ordinal (Some row) h k = sym k

pub not_found : (rows : Rows) (ordinal : ℕ) (o : Option Row) → IfSome o (λ row. find rows ordinal ≡ Some (ty.named row.entry)) → find rows ordinal ≡ None → o ≡ None
not_found rows ordinal None k e = refl
not_found rows ordinal (Some row) k e = let never : None ≡ Some (ty.named row.entry) = sym e ∙ k in absurd (apart (ty.named row.entry) never)
  where
    apart : (t : Term) → None ≡ Some t → ⊥
    apart t e = cc

pub none_found : (rows : Rows) (ordinal : ℕ) (o : Option Row) → IfNone o (find rows ordinal ≡ None) → o ≡ None → find rows ordinal ≡ None
none_found rows ordinal None h e = h
none_found rows ordinal (Some row) h e = absurd (apart row e)
  where
    apart : (r : Row) → Some r ≡ None → ⊥
    apart r e = cc

pub not_some : (o : Option Row) → is_some o ≡ false → o ≡ None
not_some None e = refl
not_some (Some row) e = let never : true ≡ false = e in absurd (apart never)
  where
    apart : true ≡ false → ⊥
    apart e = cc

-- an unknown member is none of a layout that has its ordinal
pub unknown_clash : (ds : Declarations) (o : Option Row) (m : Member) (inline : Bool) (bytes : List ℕ) (handles : List HandleInfo) → is_some o ≡ true
    → m ≡ unknown inline bytes handles → IsTypedMember ds false (row_type o) m → ⊥
unknown_clash ds None m inline bytes handles some is h = let never : false ≡ true = some in absurd (apart never)
  where
    apart : false ≡ true → ⊥
    apart e = cc
unknown_clash ds (Some row) m inline bytes handles some is h = subst (λ x. IsTypedMember ds false (row_type (Some row)) x) is h

pub clash : (b : Bool) → b ≡ true → b ≡ false → ⊥
clash b is other = let never : true ≡ false = sym is ∙ other in cc
