-- The text of a table's members, one by one.
use Rattle.std.proofs.Common.{◌≡◌, ℕ, suc, ◌≤◌, [], ◌++◌, Bool, refl, ap, ◌∙◌}
use Rattle.std.specs.Prelude.{Option, Some, None}
use Rattle.fidl_wire.specs.Value.{Member, Members}
use Rattle.fidl_wire.specs.Term.{Rows}
use Rattle.fidl_wire.specs.Figure.{Declarations}
use Rattle.fidl_wire.specs.Text.{members_text}
use Rattle.fidl_view.specs.Parts.{at_ordinal}
use Rattle.fidl_view.proofs.Held.{IsRest, IsNext, with_held, none_left}
use Rattle.fidl_notation.specs.Slots.{slot_text, later_behind}

module _ (ds : Declarations) (rows : Rows) where
  held_text : (later : Bool) (ordinal : ℕ) (o : Option Member) (behind : Members)
      → members_text ds rows later (with_held ordinal o behind) ≡ slot_text ds rows later ordinal o ++ members_text ds rows (later_behind later o) behind
  held_text later ordinal None behind = refl
  held_text later ordinal (Some x) behind = refl

  -- what is written of the next one, and of those behind it
  pub next_text : (later : Bool) (last n : ℕ) (ms rest : Members) (x : IsNext ds rows last n ms rest)
      → members_text ds rows later rest ≡ slot_text ds rows later (suc last) (at_ordinal ms (suc last)) ++ members_text ds rows (later_behind later (at_ordinal ms (suc last))) x.behind
  next_text later last n ms rest x = ap (λ (r : Members). members_text ds rows later r) x.whole ∙ held_text later (suc last) (at_ordinal ms (suc last)) x.behind

  pub none_text : (later : Bool) (last n : ℕ) (ms rest : Members) → IsRest ds rows last n ms rest → n ≤ last → members_text ds rows later rest ≡ []
  none_text later last n ms rest r le = ap (λ (r : Members). members_text ds rows later r) (none_left ds rows last n ms rest r le)
