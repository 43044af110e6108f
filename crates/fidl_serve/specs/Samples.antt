-- The script of the worked facts.
use Rattle.std.specs.Prelude.{ℕ, false, true, [], ◌∷◌, codes}
use Rattle.fidl_script.specs.Script.{Body, Script}

-- a body of one byte
abbrev pub one_byte : ℕ → Body
one_byte b = record { bytes = b ∷ []; handles = [] }

-- a script of two methods: a strict one with one reply, and a flexible one with two
abbrev pub two_methods : Script
two_methods = record {
  protocol = codes "p";
  methods = record { ordinal = 1; flexible = false; next = one_byte 10; later = [] }
      ∷ record { ordinal = 2; flexible = true; next = one_byte 20; later = one_byte 21 ∷ [] }
      ∷ [];
}

-- what is left of it after a call of the second method
abbrev pub second_called : Script
second_called = record {
  protocol = codes "p";
  methods = record { ordinal = 1; flexible = false; next = one_byte 10; later = [] }
      ∷ record { ordinal = 2; flexible = true; next = one_byte 21; later = [] }
      ∷ [];
}
