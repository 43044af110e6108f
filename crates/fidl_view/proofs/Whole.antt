-- What a view shows is a value of its entry, which is no deeper than its message is long.
use Rattle.std.proofs.Common.{◌≡◌, ℕ, ◌+◌, ◌≤◌, List, arith, sym, subst}
use Rattle.fidl_limits.specs.declared.limits.TheConstants.{MAX_MESSAGE_BYTES}
use Rattle.std.specs.Prelude.{length}
use Rattle.fidl_wire.specs.Value.{Value}
use Rattle.fidl_wire.specs.Term.{resolve}
use Rattle.fidl_wire.specs.Term as ty
use Rattle.fidl_wire.specs.Typed.{IsTyped}
use Rattle.fidl_wire.specs.Depth.{depth_of}
use Rattle.fidl_table_format.specs.Terms.{declarations_of}
use Rattle.fidl_decode_model.specs.Model.{Shown}
use Rattle.fidl_view.specs.Shows.{Shows, type_of}
use Rattle.fidl_view.specs.declared.view.View.{View}
use Rattle.fidl_view.specs.Within.{IsValueOf}
use Rattle.fidl_view.proofs.Shallow.{value_holds}

pub value_shown : (view : View) (v : Value) (table : List ℕ) (entry : ℕ) → table ≡ view.decoded.now.table → entry ≡ view.index → Shows view.decoded.now view.index view.place v → IsValueOf table entry view v
value_shown view v table entry of at shows = record {
  shown = shows;
  typed = subst (λ (b : List ℕ). IsTyped (declarations_of b) (resolve (declarations_of b).terms (ty.named entry)) v) (sym of)
      (subst (λ k. IsTyped (declarations_of view.decoded.now.table) (resolve (declarations_of view.decoded.now.table).terms (ty.named k)) v) (sym at) shows.typed);
}

pub not_deep : (d : Shown) (index place : ℕ) (v : Value) (table : List ℕ) (entry : ℕ) → table ≡ d.table → entry ≡ index → length d.bytes ≤ MAX_MESSAGE_BYTES → Shows d index place v
    → depth_of (declarations_of table) (resolve (declarations_of table).terms (ty.named entry)) v ≤ MAX_MESSAGE_BYTES + 1
not_deep d index place v table entry of at short shows =
    subst (λ (b : List ℕ). depth_of (declarations_of b) (resolve (declarations_of b).terms (ty.named entry)) v ≤ MAX_MESSAGE_BYTES + 1) (sym of)
    (subst (λ k. depth_of (declarations_of d.table) (resolve (declarations_of d.table).terms (ty.named k)) v ≤ MAX_MESSAGE_BYTES + 1) (sym at)
    (let few = (value_holds (declarations_of d.table) (type_of d index) v).out in omega (arith, few, shows.within, short)))
