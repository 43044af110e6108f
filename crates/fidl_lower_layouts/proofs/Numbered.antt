-- The members of tables and unions, one after another.
use Rattle.std.proofs.Common.{rules, ◌≡◌, ◌<◌, ◌+◌, ◌^◌, ℕ, zero, suc, List, [], ◌∷◌, ◌++◌, Some, take, length, map, get_or, refl, ap, sym, subst, ◌∙◌, arith}
use Rattle.std.specs.Prelude.{slice_get, flat_map}
use Rattle.std.proofs.Math.ListN.{get_or-map, length-map}
use Rattle.std.proofs.lemmas.List.{append-nil}
use Rattle.std.proofs.lemmas.Option.{same_Some, none-some, slice_get-get_or}
use Rattle.fidl_span.specs.declared.words.Span.{Span}
use Rattle.fidl_cycles.proofs.Lists.{flat_take}
use Rattle.fidl_tree.specs.Leaf.{text_at}
use Rattle.fidl_tree.specs.Syntax.{Attribute, TypeUse, Member, named_member, ordinal_member, reserved_member}
use Rattle.fidl_tree.specs.Views.{ordinal_member_view, type_view, attributes_view}
use Rattle.fidl_tree.specs.declared.file.File.{File}
use Rattle.fidl_tree.specs.declared.type_constructor.TypeConstructor.{TypeConstructor}
use Rattle.fidl_tree.specs.declared.type_constructor.OrdinalMember as members
use Rattle.fidl_tree.specs.declared.type_constructor.OrdinalMember.{OrdinalMember, out-OrdinalMember}
use Rattle.fidl_tree.specs.declared.type_constructor.OrdinalBody as bodies
use Rattle.fidl_tree.specs.declared.type_constructor.OrdinalBody.{OrdinalBody, out-OrdinalBody}
use Rattle.fidl_consts.specs.Literals.{number_of}
use Rattle.fidl_wire.specs.Term.{Term, Rows, no_rows, row}
use Rattle.fidl_ir.specs.declared.term.Row.{Row}
use Rattle.fidl_ir.specs.Terms.{term_view, rows_view}
use Rattle.fidl_lower_types.specs.Terms.{TermIs}
use Rattle.fidl_lower_layouts.specs.Members.{RowIs, own_row, EachRow, WrittenRowsAre}

module _ (files : List File) (number : ℕ) (f : File) where
  pub low_ordinal : (attributes : List Attribute) (ordinal name : Span) (t : TypeUse) (n : ℕ) (text : List ℕ) (e : Term) → RowIs files number f (ordinal_member attributes ordinal name t) n text e → number_of (text_at f.src.now ordinal) < 2 ^ 32
  low_ordinal attributes ordinal name t _ _ e (RowIs.at _ _ _ _ _ low h) = low

  pub its_ordinal : (attributes : List Attribute) (ordinal name : Span) (t : TypeUse) (n : ℕ) (text : List ℕ) (e : Term) → RowIs files number f (ordinal_member attributes ordinal name t) n text e → n ≡ number_of (text_at f.src.now ordinal)
  its_ordinal attributes ordinal name t _ _ e (RowIs.at _ _ _ _ _ low h) = refl

  pub row_is : (attributes : List Attribute) (ordinal name : Span) (t : TypeUse) (n : ℕ) (text : List ℕ) (e : Term) → n ≡ number_of (text_at f.src.now ordinal) → n < 2 ^ 32 → text ≡ text_at f.src.now name → TermIs files number t e → RowIs files number f (ordinal_member attributes ordinal name t) n text e
  row_is attributes ordinal name t n text e is low named h =
      subst (λ (k : ℕ). RowIs files number f (ordinal_member attributes ordinal name t) k text e) (sym is) (subst (λ (l : List ℕ). RowIs files number f (ordinal_member attributes ordinal name t) (number_of (text_at f.src.now ordinal)) l e) (sym named) (RowIs.at attributes ordinal name t e (subst (λ (k : ℕ). k < 2 ^ 32) is low) h))

  pub row_push : (ms : List Member) (xs : List Row) (m : Member) (x : Row) → EachRow files number f ms (rows_view xs) → RowIs files number f m x.ordinal x.name.items (term_view x.of) → EachRow files number f (ms ++ m ∷ []) (rows_view (xs ++ x ∷ []))
  row_push [] [] m x h r = (r, h)
  row_push [] (y ∷ ys) m x h r = absurd h
  row_push (w ∷ ws) [] m x h r = absurd h
  row_push (w ∷ ws) (y ∷ ys) m x h r = (h.0, row_push ws ys m x h.1 r)

  -- the row of the member at a place
  row_of_first : (ms : List Member) (rows : Rows) (m : Member) → EachRow files number f (m ∷ ms) rows → (n : ℕ) × ((text : List ℕ) × ((e : Term) × RowIs files number f m n text e))
  row_of_first ms no_rows m h = absurd h
  row_of_first ms (row n text e rows) m h = (n, (text, (e, h.0)))

  row_at : (ms : List Member) (rows : Rows) (k : ℕ) (w m : Member) → WrittenRowsAre files number f ms rows → slice_get ms k ≡ Some w → own_row w ≡ m ∷ [] → (n : ℕ) × ((text : List ℕ) × ((e : Term) × RowIs files number f m n text e))
  row_at [] rows k w m h at is = absurd (none-some w at)
  row_at (v ∷ vs) rows zero w m h at is =
      let own : own_row v ≡ m ∷ [] = ap own_row (same_Some v w at) ∙ is in
      row_of_first (flat_map own_row vs) rows m (subst (λ (l : List Member). EachRow files number f (l ++ flat_map own_row vs) rows) own h)
  row_at (named_member attributes name t ∷ vs) rows (suc k) w m h at is = row_at vs rows k w m h at is
  row_at (reserved_member attributes ordinal ∷ vs) rows (suc k) w m h at is = row_at vs rows k w m h at is
  row_at (ordinal_member attributes ordinal name t ∷ vs) no_rows (suc k) w m h at is = absurd h
  row_at (ordinal_member attributes ordinal name t ∷ vs) (row n text e rows) (suc k) w m h at is = row_at vs rows k w m h.1 at is

  module _ (members : List OrdinalMember) (i : ℕ) (member : OrdinalMember) (lt : i < length members) (is : member ≡ get_or members i member) where
    abbrev all : List Member
    all = map ordinal_member_view members

    seen_is : ordinal_member_view member ≡ get_or all i (ordinal_member_view member)
    seen_is = ap ordinal_member_view is ∙ sym (get_or-map ordinal_member_view members i member)

    seen_within : i < length all
    seen_within = omega (arith, lt, length-map members ordinal_member_view)

    further : flat_map own_row (take (i + 1) all) ≡ flat_map own_row (take i all) ++ own_row (ordinal_member_view member)
    further = flat_take all i (ordinal_member_view member) seen_within seen_is own_row

    pub one_row : (rows : Rows) (m : Member) → WrittenRowsAre files number f all rows → own_row (ordinal_member_view member) ≡ m ∷ [] → (n : ℕ) × ((text : List ℕ) × ((e : Term) × RowIs files number f m n text e))
    one_row rows m h own = row_at all rows i (ordinal_member_view member) m h (slice_get-get_or all i (ordinal_member_view member) seen_within ∙ ap Some (sym seen_is)) own

    pub same_rows : (rows : Rows) → WrittenRowsAre files number f (take i all) rows → own_row (ordinal_member_view member) ≡ [] → WrittenRowsAre files number f (take (i + 1) all) rows
    same_rows rows h own =
        subst (λ (l : List Member). EachRow files number f l rows) (sym (further ∙ ap (λ (l : List Member). flat_map own_row (take i all) ++ l) own ∙ append-nil (flat_map own_row (take i all)))) h

    pub more_rows : (xs : List Row) (x : Row) (m : Member) → WrittenRowsAre files number f (take i all) (rows_view xs) → own_row (ordinal_member_view member) ≡ m ∷ [] → RowIs files number f m x.ordinal x.name.items (term_view x.of)
        → WrittenRowsAre files number f (take (i + 1) all) (rows_view (xs ++ x ∷ []))
    more_rows xs x m h own r =
        subst (λ (l : List Member). EachRow files number f l (rows_view (xs ++ x ∷ []))) (sym (further ∙ ap (λ (l : List Member). flat_map own_row (take i all) ++ l) own)) (row_push (flat_map own_row (take i all)) xs m x h r)

-- What a member is that has a row, and one that is reserved.
pub typed_is : (m : OrdinalMember) (name : Span) (t : TypeConstructor) → (out-OrdinalMember m).body ≡ bodies.TheVariants.Typed name t → ordinal_member_view m ≡ ordinal_member (attributes_view (out-OrdinalMember m).attributes.items) (out-OrdinalMember m).ordinal name (type_view t)
typed_is m name t is = search (rules, members.the_lemmas, bodies.the_lemmas, is)

pub reserved_is : (m : OrdinalMember) (s : Span) → (out-OrdinalMember m).body ≡ bodies.TheVariants.Reserved s → ordinal_member_view m ≡ reserved_member (attributes_view (out-OrdinalMember m).attributes.items) (out-OrdinalMember m).ordinal
reserved_is m s is = search (rules, members.the_lemmas, bodies.the_lemmas, is)
