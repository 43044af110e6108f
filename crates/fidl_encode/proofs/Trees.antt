-- What the trees of members stand for.
use Rattle.std.proofs.Common.{◌≡◌, ℕ, Bool, List, sym, ap, ◌∙◌}
use Rattle.fidl_wire.specs.declared.handle.HandleInfo.{HandleInfo}
use Rattle.fidl_wire.specs.declared.value.Value.{Value}
use Rattle.fidl_wire.specs.declared.value.Member.{Member-F, fold-roll-Member}
use Rattle.fidl_wire.specs.declared.value.Member.TheVariants as part
use Rattle.fidl_wire.specs.declared.value.Member.TheVariants.{rolls-Known, rolls-Unknown}
use Rattle.fidl_wire.specs.Value.{known, unknown}
use Rattle.fidl_wire.specs.Views.{value_view, member_view}

pub known_is : (v : Value) → member_view (part.Known v) ≡ known (value_view v)
known_is v = ap member_view (sym (rolls-Known v)) ∙ fold-roll-Member _ _ _ _ _ _ _ _ _ _ (Member-F.Known v)

pub unknown_is : (inline : Bool) (bytes : List ℕ) (handles : List HandleInfo) → member_view (part.Unknown inline bytes handles) ≡ unknown inline bytes handles
unknown_is inline bytes handles = ap member_view (sym (rolls-Unknown inline bytes handles)) ∙ fold-roll-Member _ _ _ _ _ _ _ _ _ _ (Member-F.Unknown inline bytes handles)
