-- Small constraints and what they give, for the worked facts.
use Rattle.std.specs.Prelude.{ℕ, Bool}
use Rattle.fidl_tree.specs.Syntax.{Value}
use Rattle.fidl_constraints.specs.declared.parts.PartKind.{PartKind}
use Rattle.fidl_constraints.specs.declared.parts.Part.{Part}
use Rattle.fidl_constraints.specs.Items.{Item}

abbrev pub item_of : (number : ℕ) → Value → (word : Bool) → (rank : ℕ) → (last : Bool) → Item
item_of number v word rank last =
    record { file = number; value = v; word = word; rank = rank; last = last }

abbrev pub part : PartKind → ℕ → Part
part kind n = record { kind = kind; amount = n }
