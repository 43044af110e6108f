-- What a decoded message is seen as.
use Rattle.std.specs.Prelude.{ℕ, List}
use Rattle.fidl_wire.specs.declared.handle.HandleInfo.{HandleInfo}
use Rattle.fidl_decode_model.specs.Links.{Linked}

-- the table's bytes, the entry, the message as it came, how many steps it took, and its links
pub record Shown : Type 0 where
  pub table : List ℕ
  pub entry : ℕ
  pub bytes : List ℕ
  pub handles : List HandleInfo
  pub steps : ℕ
  pub links : Linked
