-- Terms for worked facts.
use Rattle.std.specs.Prelude.{codes}
use Rattle.fidl_wire.specs.Term.{Term, no_fields, field}
use Rattle.fidl_wire.specs.Term as ty

-- a struct with this one member
abbrev pub holding : Term → Term
holding t = ty.struct (field (codes "a") t no_fields)

-- one with two
abbrev pub holding_two : Term → Term → Term
holding_two t u = ty.struct (field (codes "a") t (field (codes "b") u no_fields))
