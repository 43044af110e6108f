-- What trees of each variant stand for.
use Rattle.std.proofs.Common.{◌≡◌, ℕ, ℤ, Bool, List, sym, ap, ◌∙◌}
use Rattle.fidl_wire.specs.declared.handle.HandleInfo.{HandleInfo}
use Rattle.fidl_wire.specs.declared.value.Value.{Value, Value-F, fold-roll-Value}
use Rattle.fidl_wire.specs.declared.value.Member.{Member-F, fold-roll-Member}
use Rattle.fidl_wire.specs.declared.value.Member.TheVariants as holder
use Rattle.fidl_wire.specs.declared.value.Member.TheVariants.{rolls-Known, rolls-Unknown}
use Rattle.fidl_wire.specs.declared.value.Values.{Values, fold_out-Values}
use Rattle.fidl_wire.specs.declared.value.Members.{Members, fold_out-Members}
use Rattle.fidl_wire.specs.declared.value.Content.{Content, fold_out-Content}
use Rattle.fidl_wire.specs.declared.value.Value.TheVariants as tree
use Rattle.fidl_wire.specs.Value.{absent, bool, number, text, list, fields, handle, table, union, values_of, members_of, known, unknown}
use Rattle.fidl_wire.specs.Views.{value_view, values_view, members_view, member_view, content_view}
use Rattle.fidl_wire.specs.declared.value.Value.TheVariants.{rolls-Absent, rolls-Bool, rolls-Number, rolls-Text, rolls-List, rolls-Fields, rolls-Handle, rolls-Table, rolls-Union}

pub absent_is : value_view tree.Absent ≡ absent
absent_is = ap value_view (sym rolls-Absent) ∙ fold-roll-Value _ _ _ _ _ _ _ _ _ _ Value-F.Absent

pub bool_is : (b : Bool) → value_view (tree.Bool b) ≡ bool b
bool_is b = ap value_view (sym (rolls-Bool b)) ∙ fold-roll-Value _ _ _ _ _ _ _ _ _ _ (Value-F.Bool b)

pub number_is : (z : ℤ) → value_view (tree.Number z) ≡ number z
number_is z = ap value_view (sym (rolls-Number z)) ∙ fold-roll-Value _ _ _ _ _ _ _ _ _ _ (Value-F.Number z)

pub text_is : (bytes : List ℕ) → value_view (tree.Text bytes) ≡ text bytes
text_is bytes = ap value_view (sym (rolls-Text bytes)) ∙ fold-roll-Value _ _ _ _ _ _ _ _ _ _ (Value-F.Text bytes)

pub list_is : (vs : Values) → value_view (tree.List vs) ≡ list (values_of (values_view vs))
list_is vs = ap value_view (sym (rolls-List vs)) ∙ fold-roll-Value _ _ _ _ _ _ _ _ _ _ (Value-F.List vs) ∙ ap list (fold_out-Values _ _ _ _ _ _ _ _ _ _ vs)

pub fields_is : (vs : Values) → value_view (tree.Fields vs) ≡ fields (values_of (values_view vs))
fields_is vs = ap value_view (sym (rolls-Fields vs)) ∙ fold-roll-Value _ _ _ _ _ _ _ _ _ _ (Value-F.Fields vs) ∙ ap fields (fold_out-Values _ _ _ _ _ _ _ _ _ _ vs)

pub handle_is : (h : HandleInfo) → value_view (tree.Handle h) ≡ handle h
handle_is h = ap value_view (sym (rolls-Handle h)) ∙ fold-roll-Value _ _ _ _ _ _ _ _ _ _ (Value-F.Handle h)

pub table_is : (n : ℕ) (ms : Members) → value_view (tree.Table n ms) ≡ table n (members_of (members_view ms))
table_is n ms = ap value_view (sym (rolls-Table n ms)) ∙ fold-roll-Value _ _ _ _ _ _ _ _ _ _ (Value-F.Table n ms) ∙ ap (table n) (fold_out-Members _ _ _ _ _ _ _ _ _ _ ms)

pub union_is : (ordinal : ℕ) (c : Content) → value_view (tree.Union ordinal c) ≡ union ordinal (content_view c)
union_is ordinal c = ap value_view (sym (rolls-Union ordinal c)) ∙ fold-roll-Value _ _ _ _ _ _ _ _ _ _ (Value-F.Union ordinal c) ∙ ap (union ordinal) (fold_out-Content _ _ _ _ _ _ _ _ _ _ c)

pub known_is : (v : Value) → member_view (holder.Known v) ≡ known (value_view v)
known_is v = ap member_view (sym (rolls-Known v)) ∙ fold-roll-Member _ _ _ _ _ _ _ _ _ _ (Member-F.Known v)

pub unknown_is : (inline : Bool) (bytes : List ℕ) (handles : List HandleInfo) → member_view (holder.Unknown inline bytes handles) ≡ unknown inline bytes handles
unknown_is inline bytes handles = ap member_view (sym (rolls-Unknown inline bytes handles)) ∙ fold-roll-Member _ _ _ _ _ _ _ _ _ _ (Member-F.Unknown inline bytes handles)
