-- A value that is encoded again has the message that it came from.
use Rattle.std.proofs.Common.{◌≡◌, ℕ, List, sym, ap, subst, ◌∙◌}
use Rattle.fidl_wire.specs.declared.handle.HandleInfo.{HandleInfo}
use Rattle.fidl_wire.specs.Value.{Value}
use Rattle.fidl_wire.specs.Term as ty
use Rattle.fidl_wire.specs.Message.{Encodes}
use Rattle.fidl_table_format.specs.Terms.{declarations_of}

-- the same of the very table, entry and value
pub encoded_as : (table own : List ℕ) (entry index : ℕ) (v w : Value) (bytes : List ℕ) (handles : List HandleInfo) → table ≡ own → entry ≡ index → v ≡ w
    → Encodes (declarations_of table) (ty.named entry) v bytes handles → Encodes (declarations_of own) (ty.named index) w bytes handles
encoded_as table own entry index v w bytes handles of at is h =
    subst (λ (b : List ℕ). Encodes (declarations_of b) (ty.named index) w bytes handles) of
    (subst (λ k. Encodes (declarations_of table) (ty.named k) w bytes handles) at
    (subst (λ (x : Value). Encodes (declarations_of table) (ty.named entry) x bytes handles) is h))

module _ (table : List ℕ) (index : ℕ) (v : Value) (bytes again : List ℕ) (handles beside : List HandleInfo) where
  pub same_bytes : Encodes (declarations_of table) (ty.named index) v bytes handles → Encodes (declarations_of table) (ty.named index) v again beside → again ≡ bytes
  same_bytes h k = ap (λ m. m.0) (sym k.message ∙ h.message)

  pub same_handles : Encodes (declarations_of table) (ty.named index) v bytes handles → Encodes (declarations_of table) (ty.named index) v again beside → beside ≡ handles
  same_handles h k = ap (λ m. m.1) (sym k.message ∙ h.message)
