-- Handles as they are written on a command line (docs/program.md, "Handles").
use Rattle.std.specs.Prelude.{◌≡◌, ℕ, ◌^◌, ◌<◌, List, ◌∷◌, ◌++◌}
use Rattle.std.specs.Str.Parse.{IsNumeral, digits_value}
use Rattle.fidl_wire.specs.declared.handle.HandleInfo.{HandleInfo}

-- decimal digits alone, at least one, of a number of 32 bits
pub record IsDecimal (text : List ℕ) (n : ℕ) : Type 0 where
  pub numeral : IsNumeral 10 text
  pub value : n ≡ digits_value 10 text
  pub small : digits_value 10 text < 2 ^ 32

-- three such numbers with `:` between: id, object type, rights
pub record IsHandleText (text : List ℕ) (h : HandleInfo) : Type 0 where
  pub id_text : List ℕ
  pub type_text : List ℕ
  pub rights_text : List ℕ
  pub whole : text ≡ id_text ++ (58 ∷ (type_text ++ (58 ∷ rights_text)))
  pub id : IsDecimal id_text h.id
  pub object_type : IsDecimal type_text h.object_type
  pub rights : IsDecimal rights_text h.rights
