-- The numbers of the members of bits and enums (docs/language.md, "Numbers of members").
use Rattle.std.specs.Prelude.{ℕ, ◌≡◌, ◌^◌, ℤ, pos, List}
use Rattle.std.specs.List.{AllZip}
use Rattle.fidl_tree.specs.Syntax.{ValueMember}
use Rattle.fidl_tree.specs.declared.file.File.{File}
use Rattle.fidl_consts.specs.declared.const_type.NumberKind.{NumberKind}
use Rattle.fidl_consts.specs.declared.const_type.ConstType.TheVariants as const
use Rattle.fidl_consts.specs.PlainValues.{a_number}
use Rattle.fidl_consts.specs.Values.{ValueIs}

-- a member has this number, of this kind: that of its expression
abbrev pub HasNumber : List File → File → NumberKind → ValueMember → ℤ → Type 0
HasNumber files f kind m z = ValueIs files f (const.Number kind) m.value (a_number z)

-- members have these numbers, in written order
abbrev pub NumbersAre : List File → File → NumberKind → List ValueMember → List ℤ → Type 0
NumbersAre files f kind ms zs = AllZip (HasNumber files f kind) ms zs

-- a number is a power of two: 1, 2, 4 and so on
abbrev pub IsPowerOfTwo : ℤ → Type 0
IsPowerOfTwo z = (exponent : ℕ) × (z ≡ pos (2 ^ exponent))
