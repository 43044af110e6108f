-- The members of structs, one after another.
use Rattle.std.proofs.Common.{◌≡◌, ◌<◌, ◌+◌, ℕ, Bool, zero, suc, List, [], ◌∷◌, ◌++◌, Some, take, length, map, get_or, refl, ap, sym, subst, ◌∙◌, arith}
use Rattle.std.specs.Prelude.{slice_get}
use Rattle.std.proofs.Math.ListN.{get_or-map, length-map}
use Rattle.std.proofs.lemmas.Option.{same_Some, none-some, slice_get-get_or}
use Rattle.fidl_cycles.proofs.Lists.{take_item}
use Rattle.fidl_tree.specs.Syntax.{Member, named_member, members_of}
use Rattle.fidl_tree.specs.declared.type_constructor.LayoutBody.TheFolds.{fold_out-Member}
use Rattle.fidl_tree.specs.Leaf.{text_at}
use Rattle.fidl_tree.specs.Views.{member_view, type_view, attributes_view}
use Rattle.fidl_tree.specs.declared.file.File.{File}
use Rattle.fidl_tree.specs.declared.type_constructor.Member.{Member as CodeMember, out-Member}
use Rattle.fidl_wire.specs.Term as ty
use Rattle.fidl_wire.specs.Term.{Term, Fields, no_fields, field, Rows}
use Rattle.fidl_ir.specs.declared.term.Field.{Field}
use Rattle.fidl_ir.specs.Terms.{term_view, fields_view}
use Rattle.fidl_lower_types.specs.Terms.{TermIs}
use Rattle.fidl_lower_layouts.specs.Members.{members_in, FieldIs, FieldsAre, RowsAre}
use Rattle.fidl_lower_layouts.specs.Definitions.{IsStructOf, IsTableOf, IsUnionOf}

view_is : (m : CodeMember) → member_view m ≡ named_member (attributes_view (out-Member m).attributes.items) (out-Member m).name (type_view (out-Member m).constructor)
view_is m = rw fold_out-Member refl

module _ (files : List File) (number : ℕ) (f : File) where
  pub field_is : (m : CodeMember) (text : List ℕ) (e : Term) → text ≡ text_at f.src.now (out-Member m).name → TermIs files number (type_view (out-Member m).constructor) e → FieldIs files number f (member_view m) text e
  field_is m text e is h = subst (λ (w : Member). FieldIs files number f w text e) (sym (view_is m)) (subst (λ (l : List ℕ). FieldIs files number f (named_member (attributes_view (out-Member m).attributes.items) (out-Member m).name (type_view (out-Member m).constructor)) l e) (sym is) (FieldIs.named (attributes_view (out-Member m).attributes.items) (out-Member m).name (type_view (out-Member m).constructor) e h))

  field_push : (ms : List Member) (xs : List Field) (m : Member) (x : Field) → FieldsAre files number f ms (fields_view xs) → FieldIs files number f m x.name.items (term_view x.of) → FieldsAre files number f (ms ++ m ∷ []) (fields_view (xs ++ x ∷ []))
  field_push [] [] m x h r = (r, h)
  field_push [] (y ∷ ys) m x h r = absurd h
  field_push (w ∷ ws) [] m x h r = absurd h
  field_push (w ∷ ws) (y ∷ ys) m x h r = (h.0, field_push ws ys m x h.1 r)

  field_at : (ms : List Member) (fs : Fields) (k : ℕ) (m : Member) → FieldsAre files number f ms fs → slice_get ms k ≡ Some m → (name : List ℕ) × ((e : Term) × FieldIs files number f m name e)
  field_at [] fs k m h at = absurd (none-some m at)
  field_at (w ∷ ws) no_fields k m h at = absurd h
  field_at (w ∷ ws) (field name e fs) zero m h at = (name, (e, subst (λ v. FieldIs files number f v name e) (same_Some w m at) h.0))
  field_at (w ∷ ws) (field name e fs) (suc k) m h at = field_at ws fs k m h.1 at

  module _ (members : List CodeMember) (i : ℕ) (member : CodeMember) (lt : i < length members) (is : member ≡ get_or members i member) where
    seen_is : member_view member ≡ get_or (map member_view members) i (member_view member)
    seen_is = ap member_view is ∙ sym (get_or-map member_view members i member)

    seen_within : i < length (map member_view members)
    seen_within = omega (arith, lt, length-map members member_view)

    member_there : slice_get (map member_view members) i ≡ Some (member_view member)
    member_there = slice_get-get_or (map member_view members) i (member_view member) seen_within ∙ ap Some (sym seen_is)

    pub one_field : (fs : Fields) → FieldsAre files number f (map member_view members) fs → (name : List ℕ) × ((e : Term) × FieldIs files number f (member_view member) name e)
    one_field fs h = field_at (map member_view members) fs i (member_view member) h member_there

    pub more_fields : (xs : List Field) (x : Field) → FieldsAre files number f (take i (map member_view members)) (fields_view xs) → FieldIs files number f (member_view member) x.name.items (term_view x.of) → FieldsAre files number f (take (i + 1) (map member_view members)) (fields_view (xs ++ x ∷ []))
    more_fields xs x h g =
        subst (λ ms. FieldsAre files number f ms (fields_view (xs ++ x ∷ []))) (sym (take_item (map member_view members) i (member_view member) seen_within seen_is)) (field_push (take i (map member_view members)) xs (member_view member) x h g)

-- Layouts of members.

listed : (ms : List Member) → members_in (members_of ms) ≡ ms
listed [] = refl
listed (m ∷ ms) = ap (λ l. m ∷ l) (listed ms)

module _ (files : List File) (number : ℕ) (f : File) (ms : List Member) where
  pub struct_with : (fs : Fields) → FieldsAre files number f ms fs → IsStructOf files number f (members_of ms) (ty.struct fs)
  struct_with fs h = record { fields = fs; are = subst (λ l. FieldsAre files number f l fs) (sym (listed ms)) h; is = refl }

  pub no_struct : ((fs : Fields) → FieldsAre files number f ms fs → ⊥) → (t : Term) → IsStructOf files number f (members_of ms) t → ⊥
  no_struct none t h = none h.fields (subst (λ l. FieldsAre files number f l h.fields) (listed ms) h.are)

  pub table_with : (rows : Rows) → RowsAre files number f ms rows → IsTableOf files number f (members_of ms) (ty.table rows)
  table_with rows h = record { rows = rows; are = subst (λ l. RowsAre files number f l rows) (sym (listed ms)) h; is = refl }

  pub no_table : ((rows : Rows) → RowsAre files number f ms rows → ⊥) → (t : Term) → IsTableOf files number f (members_of ms) t → ⊥
  no_table none t h = none h.rows (subst (λ l. RowsAre files number f l h.rows) (listed ms) h.are)

  module _ (optional strict : Bool) where
    pub union_with : (rows : Rows) → RowsAre files number f ms rows → IsUnionOf files number f optional strict (members_of ms) (ty.union optional strict rows)
    union_with rows h = record { rows = rows; are = subst (λ l. RowsAre files number f l rows) (sym (listed ms)) h; is = refl }

    pub no_union : ((rows : Rows) → RowsAre files number f ms rows → ⊥) → (t : Term) → IsUnionOf files number f optional strict (members_of ms) t → ⊥
    no_union none t h = none h.rows (subst (λ l. RowsAre files number f l h.rows) (listed ms) h.are)
